use Rattle.std.proofs.Common.{arith, refl, ◌-◌}
use Rattle.rt_fib.proofs.Placing.{fills_keep}
use Rattle.rt_fib.proofs.Leading.{from_run, goes_twice}
use Rattle.rt_fib.proofs.filling.Filling.entries.Goals as goal

pub entries-preserved : goal.entries-preserved
entries-preserved g c =
    let v = c.entries.invariant in
    let on = c.run.ensures.goes in
    let made = c.in_ok-run.ensures in
    let first = c.args.span.first in
    let filled = c.in_ok-resize.ensures.by_index in
    let entry = rw (v.goes.table, v.goes.epoch) at made.entry in
    record {
      onward = omega (arith, v.onward, made.onward);
      within = made.within;
      goes = goes_twice _ _ _ _ _ _ v.goes on;
      made = from_run first _ _ _ _ _ c.args.self.now.epoch.number _ (c.entries.i - first) (c.in_ok-run.run'.end - first) c.in_ok-run.run'.entry
          (fills_keep _ _ _ (rw v.goes.epoch at on.fills)) (omega arith) v.made (omega (arith, c.in_ok-resize.ensures.len))
          (λ k d upto here. filled.0 k d upto (omega (arith, here))) (λ k d from upto. filled.1 k d refl (omega (arith, from)) upto)
          (λ j from upto. entry j (omega (arith, v.onward, from)) (omega (arith, v.onward, made.onward, upto)));
      piece = made.piece;
    }

pub returns-in_err-run-clause-goes : goal.returns-in_err-run-clause-goes
returns-in_err-run-clause-goes g c = goes_twice _ _ _ _ _ _ c.entries.invariant.goes c.run.ensures.goes

pub returns-in_err-resize-clause-goes : goal.returns-in_err-resize-clause-goes
returns-in_err-resize-clause-goes g c = goes_twice _ _ _ _ _ _ c.entries.invariant.goes c.run.ensures.goes
