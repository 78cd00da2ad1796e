-- The tables that were published, with a writer and readers of a forwarding table.
use Rattle.std.specs.Prelude.{◌≡◌, List, [], ◌∷◌, ◌++◌}
use Rattle.rt_rib.specs.declared.routes.Route.{Route}

-- the tables begin with those that were seen
abbrev pub BeginWith : List (List Route) → List (List Route) → Type 0
BeginWith tables seen = (rest : List (List Route)) × (tables ≡ seen ++ rest)

-- this table is the last of them
abbrev pub EndIn : List (List Route) → List Route → Type 0
EndIn tables table = (before : List (List Route)) × (tables ≡ before ++ table ∷ [])

-- the knowledge of a writer or a reader: the table that is found, and those that were published until then
pub record Found : Type 0 where
  pub table : List Route
  pub published : List (List Route)
