-- The cursor of one table, or those of several tables.
use Rattle.std.specs.Prelude.{List}
use Rattle.rt_rib.specs.declared.routes.Route.{Route}
use Rattle.rt_tables.specs.Unions.{union_of}
use Rattle.rt_tables.specs.inside.Tables.{AreTables}
use Rattle.rt_tables.specs.declared.cursor.Cursors.{Cursors}
use Rattle.rt_tables.specs.declared.cursor.Cursors.TheVariants.{One, Several}

-- the routes in which they look up addresses
abbrev pub routes_in : {A : Type 0} → Cursors A → List Route
routes_in (One table) = table
routes_in (Several tables) = union_of tables.items

-- several tables are of different feeds
abbrev pub AreCursors : {A : Type 0} → Cursors A → Type 0
AreCursors (One table) = Unit {0}
AreCursors (Several tables) = AreTables tables.items
