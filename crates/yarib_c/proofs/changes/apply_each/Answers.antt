use Rattle.std.proofs.Common.{length-set, ◌∙◌, arith}
use Rattle.yarib_c.proofs.Outcomes.{outcomes_more}
use Rattle.yarib_c.proofs.changes.apply_each.Goals as goal

pub loop-k-preserved : goal.loop-k-preserved
loop-k-preserved c =
    let turn = c.loop-k in
    record {
      done = outcomes_more c.args.held.now turn.held c.outcome.new.held c.args.commands.now turn.replies turn.k _ c.outcome.result
          c.loop-k-test.true (omega (arith, turn.invariant.long, c.loop-k-test.true)) turn.invariant.done c.outcome.ensures;
      long = length-set turn.replies turn.k c.outcome.result ∙ turn.invariant.long;
    }
