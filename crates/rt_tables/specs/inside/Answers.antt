-- The better of two answers to a look-up.
use Rattle.std.specs.Prelude.{◌≡◌, ℕ, ◌≤◌, if◌then◌else◌, List, Option, Some, None, slice_index_or}
use Rattle.rt_cidr.specs.declared.address.Addr.{Addr}
use Rattle.rt_rib.specs.declared.routes.Route.{Route}
use Rattle.rt_rib.specs.LookUp.{look_up, beats}

-- the one that beats the other, or the only one
abbrev pub better_of : Option Route → Option Route → Option Route
better_of None second = second
better_of (Some r) None = Some r
better_of (Some r) (Some s) = if beats s r then Some s else Some r

-- the answer with this index
abbrev pub route_at : List (Option Route) → ℕ → Option Route
route_at answers k = slice_index_or answers k None

-- every address from the first to the last has this answer in the table
abbrev pub HoldsFromTo : List Route → Addr → Addr → Option Route → Type 0
HoldsFromTo table first last answer = (b : Addr) → first.0 ≤ b.0 → b.0 ≤ last.0 → look_up b table ≡ answer
