use Rattle.rt_fib.specs.inside.Shown.{AreShownBlocks}
use Rattle.rt_fib.proofs.views.show_blocks.Given as goal

-- the numbers so far
abbrev pub invariant-numbers : goal.invariant-numbers
invariant-numbers l = AreShownBlocks l.numbers l.blocks l.fn.shown l.shown l.i
