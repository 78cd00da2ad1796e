use Rattle.std.proofs.Common.{arith, length-drop}
use Rattle.std.proofs.KnownBytes.{Appends-trans}
use Rattle.std.proofs.Math.Seq.{take-add}
use Rattle.std.proofs.lemmas.List.{take_rest}
use Rattle.std.proofs.Common.{rules}
use Rattle.rt_cidr.proofs.output.put_counted.Goals as goal

pub loop-done-preserved : goal.loop-done-preserved
loop-done-preserved g c =
    let so_far = c.loop-done.invariant in
    let rest = take_rest c.args.bytes.now c.loop-done.done in
    record {
      within = omega (arith, simp (rest, length-drop) at c.in-Ok.ensures.bound);
      appended = rw take-add (Appends-trans _ _ _ _ _ so_far.appended (rw rest at c.in-Ok.ensures.bytes));
    }

pub returns-then-taken-eq0-clause-all : goal.returns-then-taken-eq0-clause-all
returns-then-taken-eq0-clause-all g c = search rules
