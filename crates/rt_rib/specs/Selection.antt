-- Selecting routes of a table.
use Rattle.std.specs.Prelude.{ℕ, Bool, true, false, ◌==◌, ◌&&◌, if◌then◌else◌, List, [], ◌∷◌, Option, Some, None, filter}
use Rattle.std.specs.List.{list_any}
use Rattle.rt_cidr.specs.declared.prefixes.Prefix.{Prefix}
use Rattle.rt_cidr.specs.Prefix.{contains, same_prefix}
use Rattle.rt_rib.specs.declared.routes.Hop.{Hop}
use Rattle.rt_rib.specs.declared.routes.Hop.TheVariants.{Via, Discard}
use Rattle.rt_rib.specs.declared.routes.Route.{Route}
use Rattle.rt_rib.specs.declared.selection.PrefixFilter.{PrefixFilter}
use Rattle.rt_rib.specs.declared.selection.PrefixFilter.TheVariants.{All, Within, Covering, Exact}
use Rattle.rt_rib.specs.declared.selection.Selection.{Selection}
use Rattle.rt_rib.specs.LookUp.{best_routes}

-- true if a prefix is selected: any prefix; one that p contains; one that contains p; p itself
abbrev pub is_in : PrefixFilter → Prefix → Bool
is_in All q = true
is_in (Within p) q = contains p q
is_in (Covering p) q = contains q p
is_in (Exact p) q = same_prefix q p

-- true if the feed is one of these
abbrev pub is_one_of : List ℕ → ℕ → Bool
is_one_of feeds feed = list_any (λ n. n == feed) feeds

-- true if the feed is selected: it is one of these; if there are none, every feed is selected
abbrev pub is_selected : List ℕ → ℕ → Bool
is_selected [] feed = true
is_selected (n ∷ feeds) feed = is_one_of (n ∷ feeds) feed

-- true if a route's feed is selected
abbrev pub is_by : List ℕ → Route → Bool
is_by feeds r = is_selected feeds r.feed

-- true if two next hops are the same: the same router, or both discard
abbrev pub same_hop : Hop → Hop → Bool
same_hop (Via a) (Via b) = a.0 == b.0
same_hop (Via a) Discard = false
same_hop Discard (Via b) = false
same_hop Discard Discard = true

-- true if a route's next hop is selected: any next hop; this one
abbrev pub is_via : Option Hop → Route → Bool
is_via None r = true
is_via (Some hop) r = same_hop r.hop hop

-- the selected routes, in the table's order: of all, or of the best one of each prefix, those that meet all conditions
abbrev pub selected : Selection → List Route → List Route
selected asked table =
    filter (λ r. is_in asked.part r.prefix && is_by asked.feeds.now r && is_via asked.hop r) (if asked.only_best then best_routes table else table)
