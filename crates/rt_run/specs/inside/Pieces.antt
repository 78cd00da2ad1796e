-- The texts of the pieces of a list.
use Rattle.std.specs.Prelude.{◌≡◌, ℕ, ◌*◌, ◌<◌, ◌≤◌, List, IsTrue, length, get_or}
use Rattle.std.specs.List.{flat_map}
use Rattle.std.specs.Fork.{slice_chunk}
use Rattle.rt_run.specs.declared.rendering.PieceText.{PieceText}
use Rattle.rt_run.specs.declared.rendering.TheConstants.{PIECE_ITEMS}

-- the rows of the piece with this index, if the text is whole
abbrev pub IsPieceText : {X : Type 0} → (X → List ℕ) → List X → ℕ → PieceText → Type 0
IsPieceText row items index text = IsTrue text.is_whole → text.bytes.items ≡ flat_map row (slice_chunk items PIECE_ITEMS index)

-- the texts of all pieces of the list, in order
pub record ArePieceTexts {X : Type 0} (row : X → List ℕ) (items : List X) (texts : List PieceText) : Type 0 where
  pub all : length items ≤ length texts * PIECE_ITEMS
  pub each : (index : ℕ) (none : PieceText) → index < length texts → IsPieceText row items index (get_or texts index none)
