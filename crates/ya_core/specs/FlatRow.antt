-- One flat row that holds the words of the tree, each at its number.
use Rattle.std.specs.Prelude.{ℕ, ◌-◌, ◌^◌, Bool, nat_lt, nat_le, ◌&&◌, if◌then◌else◌, List, slice_index}
use Rattle.ya_core.specs.declared.word.Word.{Word}
use Rattle.ya_core.specs.declared.word.Word.TheVariants.{C, T, P}
use Rattle.ya_core.specs.declared.process.Process.{Process}
use Rattle.ya_core.specs.ArbitrationTree.{number_of}
use Rattle.ya_core.specs.Steps.{State}

-- true if the tree of this many levels has the word
abbrev pub is_word : ℕ → Word → Bool
is_word levels (C level node side) =
    nat_le 1 level && nat_le level levels && nat_lt node (2 ^ (levels - level)) && nat_lt side 2
is_word levels (T level node) = nat_le 1 level && nat_le level levels && nat_lt node (2 ^ (levels - level))
is_word levels (P level place) = nat_le 1 level && nat_le level levels && nat_lt place (2 ^ levels)

-- the words that a flat row holds, each at its number
unfoldable pub words_of : ℕ → List ℕ → Word → ℕ
words_of levels row word = if is_word levels word then slice_index row (number_of levels word) else 0

-- the state of a flat row and processes
abbrev pub row_state : ℕ → List ℕ → (ℕ → Process) → State
row_state levels row processes = record { words = words_of levels row; processes = processes }
