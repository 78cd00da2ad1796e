-- A table that keeps no journal, as contracts see it.
use Rattle.std.specs.Prelude.{Bool}
use Rattle.rt_rib.specs.Book.{TableContents}

-- the table, and whether it has a forwarding table, which look-ups then use
pub record PlainContents : Type 0 where
  pub table : TableContents
  pub is_followed : Bool
