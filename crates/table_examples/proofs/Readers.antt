-- Examples that test the definitions of fib_readers, each under a line with the definition's name.
use Rattle.std.proofs.Common.{◌≡◌, List, [], ◌∷◌, refl}
use Rattle.std.specs.Prelude.{◌++◌}
use Rattle.rt_rib.specs.declared.routes.Route.{Route}
use Rattle.table_examples.proofs.Cidr.{ten_8}
use Rattle.table_examples.proofs.Rib.{via_192_0_2, route_via}
use Rattle.fib_readers.specs.Readers.{BeginWith, EndIn, Found}

-- the table that only has 10.0.0.0/8, by 192.0.2.1
abbrev one_route : List Route
one_route = route_via ten_8 1 5 (via_192_0_2 1) ∷ []

-- BeginWith
one_table_more_begins_with_those_before : (tables : List (List Route)) (table : List Route) → BeginWith (tables ++ table ∷ []) tables
one_table_more_begins_with_those_before tables table = (table ∷ [], refl)

no_tables_do_not_begin_with_one : (table : List Route) → ¬ BeginWith [] (table ∷ [])
no_tables_do_not_begin_with_one table begins = let e : [] ≡ (table ∷ []) ++ begins.0 = begins.1 in cc

-- EndIn
two_tables_end_in_the_second : EndIn ([] ∷ one_route ∷ []) one_route
two_tables_end_in_the_second = ([] ∷ [], refl)

-- the knowledge after that table was published, with an empty one before it
abbrev found_one_route : Found
found_one_route = record { table = one_route; published = [] ∷ one_route ∷ [] }

-- Found
the_last_that_was_published_is_found : EndIn found_one_route.published found_one_route.table
the_last_that_was_published_is_found = ([] ∷ [], refl)
