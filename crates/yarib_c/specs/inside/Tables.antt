-- The table that a handle holds.
use Rattle.std.specs.Prelude.{◌≡◌}
use Rattle.rt_rib.specs.Book.{TableContents}
use Rattle.yarib_c.specs.declared.held.Held.{Held}
use Rattle.yarib_c.specs.Kinds.{limit_of, routes_in, IsForwarding}

-- it is this table, with or without a journal
pub record IsTableOf (held : Held) (table : TableContents) : Type 0 where
  pub changes : ¬ IsForwarding held
  pub limited : limit_of held ≡ table.limit
  pub routes : routes_in held ≡ table.routes
