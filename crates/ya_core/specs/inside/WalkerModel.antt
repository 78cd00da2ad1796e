-- Bounds of a walk's accesses and levels.
use Rattle.std.specs.Prelude.{ℕ, ◌≤◌}
use Rattle.std.specs.Prelude.{Option, Some, None}
use Rattle.ya_core.specs.declared.limits.TheConstants.{MAX_LEVELS}
use Rattle.ya_core.specs.declared.word.Word.{Word}
use Rattle.ya_core.specs.declared.word.Word.TheVariants.{C, T, P}
use Rattle.ya_core.specs.declared.word.Access.{Access}
use Rattle.ya_core.specs.WalkerModel.{AccessIsWithin}

-- the word of the due access, if any, is one of the tree's words
abbrev pub DueIsWithin : ℕ → Option Access → Type 0
DueIsWithin levels None = Unit {0}
DueIsWithin levels (Some access) = AccessIsWithin levels access

-- the level of the word is between 1 and MAX_LEVELS, as far as its tests need that
abbrev pub LevelIsSmall : Word → Type 0
LevelIsSmall (C level node side) = (1 ≤ level) × (level ≤ MAX_LEVELS)
LevelIsSmall (T level node) = level ≤ MAX_LEVELS
LevelIsSmall (P level place) = Unit {0}
