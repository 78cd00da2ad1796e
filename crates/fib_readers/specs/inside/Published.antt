-- The invariant on what a writer shows its readers.
use Rattle.std.specs.Prelude.{◌≡◌, ℕ, List}
use mathlib.Core.Option.{some}
use lib.ListN.{get_elem?}
use Rattle.rt_rib.specs.declared.routes.Route.{Route}
use Rattle.fib_readers.specs.Readers.{BeginWith, EndIn}

-- readers find the last of the tables that were published, and these begin with those that each party has seen
abbrev pub IsPublished : List Route → List (List (List Route)) → Type 0
IsPublished table views =
    (published : List (List Route)) × EndIn published table
    × ((seat : ℕ) (seen : List (List Route)) → get_elem? views seat ≡ some seen → BeginWith published seen)
