use Rattle.std.proofs.Common.{◌≡◌, ◌+◌, ◌*◌, refl, arith}
use Rattle.rt_fib.proofs.Leading.{goes_fills, goes_twice, group_entry, piece_later}
use Rattle.rt_fib.proofs.filling.Filling.run.Goals as goal

pub returns-then-from-self-clause-entry : goal.returns-then-from-self-clause-entry
returns-then-from-self-clause-entry g c = λ j from below k within.
    let on = c.go_on_to.ensures.goes in
    let there = rw (on.table, on.epoch) at c.in_ok-go_on_to.ensures.piece in
    record {
      short = λ _. there.each (j * 256 + k) (omega (arith, from)) (omega (arith, below, within));
      long = λ long. absurd (omega (arith, there.short, long));
    }

pub returns-clause-entry : goal.returns-clause-entry
returns-clause-entry g c = λ j from below.
    let same : j ≡ c.args.i = omega (arith, from, below) in
    let on = c.go_on_to.ensures.goes in
    let goes = goes_twice _ _ _ _ _ _ on c.numbers_from.ensures.goes in
    let there = rw goes.epoch at c.in_ok-place.ensures.group.has in
    let numbers = rw (on.table, on.epoch) at c.in_ok-numbers.ensures.numbers in
    group_entry _ _ _ c.args.i j _ _ same refl there (λ k low. rw c.place_of_group.ensures.routes (numbers k low))

pub returns-clause-piece : goal.returns-clause-piece
returns-clause-piece g c =
    let is = c.in_ok-numbers.ensures.piece in
    record {
      short = is.short;
      each = λ n here there. rw c.place_of_group.ensures.routes (is.each n (omega (arith, here)) there);
    }

pub returns-in_err-numbers-clause-goes : goal.returns-in_err-numbers-clause-goes
returns-in_err-numbers-clause-goes g c = goes_twice _ _ _ _ _ _ c.go_on_to.ensures.goes c.numbers_from.ensures.goes

pub returns-in_err-place-clause-goes : goal.returns-in_err-place-clause-goes
returns-in_err-place-clause-goes g c =
    goes_fills _ _ _ _ _ (goes_twice _ _ _ _ _ _ c.go_on_to.ensures.goes c.numbers_from.ensures.goes) c.place_of_group.ensures.fills

pub returns-clause-goes : goal.returns-clause-goes
returns-clause-goes g c =
    goes_fills _ _ _ _ _ (goes_twice _ _ _ _ _ _ c.go_on_to.ensures.goes c.numbers_from.ensures.goes) c.place_of_group.ensures.fills

pub returns-then-from-self-clause-piece : goal.returns-then-from-self-clause-piece
returns-then-from-self-clause-piece g c = piece_later _ _ _ (c.args.i * 256) (c.min.result * 256) _ (omega arith) c.in_ok-go_on_to.ensures.piece
