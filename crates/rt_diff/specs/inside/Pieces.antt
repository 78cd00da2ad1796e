-- What the search knows about the two tables from an address on.
use Rattle.std.specs.Prelude.{◌≡◌, ◌≢◌, ℕ, ◌+◌, ◌<◌, ◌≤◌, min, Option, None, Some}
use Rattle.rt_cidr.specs.declared.address.Addr.{Addr}
use Rattle.rt_diff.specs.declared.table_answers.CompareBy.{CompareBy}
use Rattle.rt_diff.specs.declared.pieces.Piece.{Piece}
use Rattle.rt_diff.specs.declared.pieces.Pieces.{Pieces}
use Rattle.rt_diff.specs.Answers.{RenumberedTable, answer_of}
use Rattle.rt_diff.specs.Differences.{IsAlike, HasAnswers}

-- each address from this one to the piece's last has the piece's answer
abbrev pub IsPieceFrom : CompareBy → RenumberedTable → Addr → Piece → Type 0
IsPieceFrom by table from piece = (addr : Addr) → from.0 ≤ addr.0 → addr.0 ≤ piece.last.0 → answer_of by addr table ≡ piece.answer

-- and the piece reaches this address
pub record IsPieceAt (by : CompareBy) (table : RenumberedTable) (from : Addr) (piece : Piece) : Type 0 where
  pub some : from.0 ≤ piece.last.0
  pub each : IsPieceFrom by table from piece

-- both tables' pieces
pub record ArePieces (by : CompareBy) (old new : RenumberedTable) (pieces : Pieces) : Type 0 where
  pub of_old : IsPieceAt by old pieces.from pieces.old
  pub of_new : IsPieceAt by new pieces.from pieces.new

-- the last address that both pieces reach
abbrev pub reach : Pieces → ℕ
reach pieces = min pieces.old.last.0 pieces.new.last.0

-- every address from this one on, up to but not including the end, has the same answer in both tables
abbrev pub AreAlike : CompareBy → RenumberedTable → RenumberedTable → Addr → ℕ → Type 0
AreAlike by old new from end = (addr : Addr) → from.0 ≤ addr.0 → addr.0 < end → IsAlike by old new addr

-- the first pieces from an address on whose answers differ
pub record AreFirstUnlike (by : CompareBy) (old new : RenumberedTable) (from : Addr) (pieces : Pieces) : Type 0 where
  pub onward : from.0 ≤ pieces.from.0
  pub before : AreAlike by old new from pieces.from.0
  pub there : ArePieces by old new pieces
  pub differ : pieces.old.answer ≢ pieces.new.answer

-- these pieces, which don't begin after the last address; or no address up to it has different answers
abbrev pub FindsUnlike : CompareBy → RenumberedTable → RenumberedTable → Addr → Addr → Option Pieces → Type 0
FindsUnlike by old new from last None = AreAlike by old new from (last.0 + 1)
FindsUnlike by old new from last (Some pieces) = (pieces.from.0 ≤ last.0) × AreFirstUnlike by old new from pieces

-- each address from the pieces' first up to, but not including, this end has their answers
abbrev pub HoldsUpTo : CompareBy → RenumberedTable → RenumberedTable → Pieces → ℕ → Type 0
HoldsUpTo by old new pieces end =
    (addr : Addr) → pieces.from.0 ≤ addr.0 → addr.0 < end → HasAnswers by old new addr pieces.old.answer pieces.new.answer

-- the last address up to which both tables give these answers, or the given last address if they give them beyond it
pub record IsEnd (by : CompareBy) (old new : RenumberedTable) (pieces : Pieces) (last end : Addr) : Type 0 where
  pub some : pieces.from.0 ≤ end.0
  pub within : end.0 ≤ last.0
  pub so_far : HoldsUpTo by old new pieces (end.0 + 1)
  pub ends : (addr : Addr) → addr.0 ≡ end.0 + 1 → addr.0 ≤ last.0 → ¬ HasAnswers by old new addr pieces.old.answer pieces.new.answer
