use Rattle.std.proofs.Common.{arith, ◌+◌}
use Rattle.std.proofs.lemmas.List.{length-set}
use Rattle.rt_fib.proofs.Placing.{fills_keep}
use Rattle.rt_fib.proofs.Leading.{goes_twice, piece_later, numbers_set}
use Rattle.rt_fib.proofs.filling.Filling.numbers_from.Goals as goal

pub numbers-preserved : goal.numbers-preserved
numbers-preserved g c =
    let v = c.numbers.invariant in
    let on = c.go_on_to.ensures.goes in
    let goes = goes_twice _ _ _ _ _ _ v.goes on in
    let there = rw (goes.table, goes.epoch) at c.in_ok-go_on_to.ensures.piece in
    let k = c.numbers.k in
    let number = c.go_on_to.new.self.piece.number in
    record {
      goes = goes;
      full = omega (arith, v.full, length-set c.numbers.numbers k number);
      made = numbers_set _ _ _ _ c.args.self.now.epoch.number _ c.args.first k number (fills_keep _ _ _ (rw v.goes.epoch at on.fills)) (omega arith)
          (omega (arith, v.full)) v.made (there.each (c.args.first + k) (omega arith) c.in_ok-go_on_to.ensures.reaches);
      piece = piece_later _ _ _ (c.args.first + k) (c.args.first + (k + 1)) _ (omega arith) c.in_ok-go_on_to.ensures.piece;
    }

pub returns-in_err-go_on_to-clause-goes : goal.returns-in_err-go_on_to-clause-goes
returns-in_err-go_on_to-clause-goes g c = goes_twice _ _ _ _ _ _ c.numbers.invariant.goes c.go_on_to.ensures.goes
