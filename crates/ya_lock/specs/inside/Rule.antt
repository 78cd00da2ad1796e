-- The value of a word after an access.
use Rattle.std.specs.Prelude.{ℕ}
use Rattle.ya_core.specs.declared.word.Access.{Access}
use Rattle.ya_core.specs.declared.word.Access.TheVariants.{Load, Store}

-- the number in the word after an access that found `found` there
abbrev pub value_after : Access → ℕ → ℕ
value_after (Load word) found = found
value_after (Store word value) found = value
