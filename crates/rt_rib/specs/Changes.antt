-- The prefixes whose best routes differ between two tables.
use Rattle.std.specs.Prelude.{◌≡◌, ◌≢◌, true, ◌↔◌, List, Option, filter}
use Rattle.std.specs.List.{AllPairs, Contains}
use Rattle.rt_cidr.specs.declared.prefixes.Prefix.{Prefix}
use Rattle.rt_cidr.specs.Prefix.{same_prefix}
use Rattle.rt_trie.specs.Map.{before as comes_before}
use Rattle.rt_rib.specs.declared.routes.Route.{Route}
use Rattle.rt_rib.specs.declared.changes.BestChange.{BestChange}
use Rattle.rt_rib.specs.LookUp.{best}

-- the best route to a prefix: of all routes to it, the one of lowest preference number and, among those, of lowest feed
-- number
unfoldable pub best_to : Prefix → List Route → Option Route
best_to prefix routes = best (filter (λ r. same_prefix r.prefix prefix) routes)

-- the best route to the prefix is `before` in the old table and `after` in the new one, and these differ
pub record IsBestChange (old new : List Route) (c : BestChange) : Type 0 where
  pub before : c.before ≡ best_to c.prefix old
  pub after : c.after ≡ best_to c.prefix new
  pub differ : c.before ≢ c.after

-- the list contains exactly these changes, in dump order, so each prefix whose best route differs is there once
pub record AreBestChanges (old new : List Route) (changes : List BestChange) : Type 0 where
  pub exactly : (c : BestChange) → Contains changes c ↔ IsBestChange old new c
  pub ordered : AllPairs (λ c d. comes_before c.prefix d.prefix ≡ true) changes
