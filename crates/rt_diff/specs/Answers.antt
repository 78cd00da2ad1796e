-- A table's answers for an address.
use Rattle.std.specs.Prelude.{ℕ, ◌-◌, List, [], Option, None, Some}
use Rattle.std.specs.List.{slice_get}
use Rattle.std.specs.Option.{option_map, unwrap_or}
use Rattle.rt_cidr.specs.declared.address.Addr.{Addr}
use Rattle.rt_rib.specs.declared.routes.Route.{Route}
use Rattle.rt_rib.specs.LookUp.{look_up}
use Rattle.rt_diff.specs.declared.table_answers.CompareBy.{CompareBy}
use Rattle.rt_diff.specs.declared.table_answers.CompareBy.TheVariants as by
use Rattle.rt_diff.specs.declared.table_answers.TableAnswer.{TableAnswer}
use Rattle.rt_diff.specs.declared.table_answers.TableAnswer.TheVariants as answer

-- the answer for the result of a look-up: the route's next hop, or the whole route
abbrev pub answer_by : CompareBy → Option Route → TableAnswer
answer_by by None = answer.NoRoute
answer_by by.Hop (Some route) = answer.Hop route.hop
answer_by by.Route (Some route) = answer.Route route

-- a table of these routes, with its feeds renumbered: feed k gets the k-th number, or keeps its own if the list is
-- shorter
pub record RenumberedTable : Type 0 where
  pub routes : List Route
  pub numbers : List ℕ

-- the table with each feed's own number
abbrev pub own_numbers : List Route → RenumberedTable
own_numbers routes = record { routes = routes; numbers = [] }

-- the new number of this feed
abbrev pub renumbered : List ℕ → ℕ → ℕ
renumbered numbers feed = unwrap_or (slice_get numbers (feed - 1)) feed

-- the route with its feed renumbered
abbrev pub renumbered_route : List ℕ → Route → Route
renumbered_route numbers r = record r { feed = renumbered numbers r.feed }

-- the result of a look-up of the address in the table, with the route's feed renumbered
abbrev pub renumbered_look_up : Addr → RenumberedTable → Option Route
renumbered_look_up addr table = option_map (renumbered_route table.numbers) (look_up addr table.routes)

-- the table's answer for the address
abbrev pub answer_of : CompareBy → Addr → RenumberedTable → TableAnswer
answer_of by addr table = answer_by by (renumbered_look_up addr table)
