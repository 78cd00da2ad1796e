-- Elements at an index.
use Rattle.std.specs.Prelude.{ℕ, List, slice_index_or}

-- the number at an index
abbrev pub number_at : List ℕ → ℕ → ℕ
number_at numbers k = slice_index_or numbers k 0
