use Rattle.std.proofs.Common.{refl}
use Rattle.rt_shared.specs.declared.outcome.Outcome.TheVariants.{Did, Refused}
use Rattle.rt_feed.specs.Lines.{faulty, asked}
use Rattle.rt_run.proofs.InTurn.{continues-none, continues-did}
use Rattle.rt_run.proofs.turns.execute_line.Goals as goal

pub returns-in-Err : goal.returns-in-Err
returns-in-Err c = record {
  outcome = faulty c.in-Err.fault;
  reads = c.in-Err.ensures;
  answered = refl;
  continued = continues-none c.args.feed _;
}

pub returns-in-Ok-apply : goal.returns-in-Ok-apply
returns-in-Ok-apply c = record {
  outcome = asked c.in-Some.cmd (Did c.in-Ok-apply.reply);
  reads = rw c.in-Some.is at c.in-Ok.ensures;
  answered = refl;
  continued = continues-did c.args.feed c.in-Some.cmd c.in-Ok-apply.reply _ _ c.in-Ok-apply.ensures.ok;
}

pub returns-in-Err-apply : goal.returns-in-Err-apply
returns-in-Err-apply c = record {
  outcome = asked c.in-Some.cmd Refused;
  reads = rw c.in-Some.is at c.in-Ok.ensures;
  answered = refl;
  continued = rw c.in-Err-apply.ensures.err (continues-none c.args.feed _);
}
