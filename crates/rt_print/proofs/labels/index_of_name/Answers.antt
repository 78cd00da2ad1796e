use Rattle.std.proofs.Common.{List, ℕ, Bor, bytes_eq, rules, tests}
use Rattle.std.proofs.lemmas.Iterator.{YieldsList-from_slice}
use Rattle.std.proofs.lemmas.Iterator.Search.{position_from_yields_List}
use Rattle.rt_print.specs.Labels.{feed_name}
use Rattle.rt_print.proofs.FeedLabels.{position-map}
use Rattle.rt_print.proofs.labels.index_of_name.Goals as goal

pub returns : goal.returns
returns c =
    let read : Bor (List ℕ) → List ℕ = λ path. path.now in
    rw (position-map read (λ path. bytes_eq (feed_name path) c.args.name.now) c.args.paths.now)
    (position_from_yields_List (λ path. bytes_eq (feed_name path.now) c.args.name.now) _ _ c.position.result c.position.ensures.ran (YieldsList-from_slice c.args.paths.now cc) (λ x b q k. search (rules, tests)))
