use Rattle.std.proofs.Common.{[], map, below_more, arith, rules}
use Rattle.std.proofs.lemmas.List.{get_or-map, length-map, take-map}
use Rattle.rt_print.specs.FeedNames.{HasOwnName}
use Rattle.rt_print.proofs.names.check_names.Goals as goal

pub returns-in-Some : goal.returns-in-Some
returns-in-Some c =
    let path = get_or-map (λ path. path.now) c.args.paths.now c.loop-index.index (record { ref_ptr = (0, 0); now = [] }) [] c.loop-index-test.true in (
      record { within = omega (arith, length-map c.args.paths.now (λ path. path.now)); before = c.loop-index.invariant },
      rw path (search rules),
      rw (path, take-map) (search rules),
    )

pub loop-index-preserved : goal.loop-index-preserved
loop-index-preserved c =
    let path = get_or-map (λ path. path.now) c.args.paths.now c.loop-index.index (record { ref_ptr = (0, 0); now = [] }) [] c.loop-index-test.true in
    below_more (HasOwnName (map (λ path. path.now) c.args.paths.now)) c.loop-index.index c.loop-index.invariant
    (record { valid = rw path (search rules); new = rw (path, take-map) (search rules) })
