-- The look-up as three filters of a set (RFC 1812, section 5.2.4.3): Basic Match, Longest Match, and the vendor's
-- policy. And all matches, in the order of these filters, the best first.
use Rattle.std.specs.Prelude.{Bool, ◌&&◌, not, nat_le, List, [], ◌∷◌, ◌++◌, Option, filter, find}
use Rattle.std.specs.List.{list_all}
use Rattle.rt_cidr.specs.declared.address.Addr.{Addr}
use Rattle.rt_cidr.specs.Prefix.{covers, same_prefix}
use Rattle.rt_rib.specs.declared.routes.Route.{Route}
use Rattle.rt_rib.specs.declared.routes.Reason.{Reason}
use Rattle.rt_rib.specs.Order.{comparison, wins, loses_by}
use Rattle.rt_rib.specs.Table.{is_better}

-- the routes whose prefix covers the address
abbrev pub matching : Addr → List Route → List Route
matching addr routes = filter (λ r. covers r.prefix addr) routes

-- the routes of the longest prefixes
abbrev pub longest_of : List Route → List Route
longest_of routes = filter (λ r. list_all (λ s. nat_le s.prefix.len r.prefix.len) routes) routes

-- the route of lowest preference number and, among those, of lowest feed number, if there is any
abbrev pub best : List Route → Option Route
best routes = find (λ r. list_all (λ s. not (is_better s r)) routes) routes

-- the best of the longest matches
unfoldable pub look_up : Addr → List Route → Option Route
look_up addr routes = best (longest_of (matching addr routes))

-- true if r comes before s among matches: its prefix is longer, or equally long and r is better
abbrev pub beats : Route → Route → Bool
beats r s = wins (comparison r s)

-- the reason why r loses to the first of the matches: its prefix is shorter, else its preference is higher, else its feed is
abbrev pub reason : Route → Route → Reason
reason first r = loses_by (comparison first r)

-- the routes, the best first: each after those of the others that beat it, and before the rest of them
abbrev pub ranking : List Route → List Route
ranking [] = []
ranking (r ∷ others) = filter (λ s. beats s r) (ranking others) ++ r ∷ filter (λ s. not (beats s r)) (ranking others)

-- all matches, the best first
unfoldable pub look_up_all : Addr → List Route → List Route
look_up_all addr routes = ranking (matching addr routes)

-- the routes of the list to whose prefix no other route is better
abbrev pub best_routes : List Route → List Route
best_routes routes = filter (λ r. list_all (λ s. not (same_prefix s.prefix r.prefix && is_better s r)) routes) routes
