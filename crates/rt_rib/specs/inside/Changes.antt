-- The best routes to a command's prefix before and after it. And the changes that a purge makes, in terms of a map.
use Rattle.std.specs.Prelude.{◌≡◌, ℕ, if◌then◌else◌, List, [], ◌∷◌, ◌++◌, Some, slice_get, Option, None}
use Rattle.std.specs.Option.{option_map}
use Rattle.rt_cidr.specs.declared.prefixes.Prefix.{Prefix}
use Rattle.rt_rib.specs.declared.offers.Offer.{Offer}
use Rattle.rt_rib.specs.declared.changes.BestChange.{BestChange}
use Rattle.rt_rib.specs.declared.map.BestRoutes.{BestRoutes}
use Rattle.rt_rib.specs.declared.routes.Route.{Route}
use Rattle.rt_rib.specs.Changes.{best_to}
use Rattle.rt_rib.specs.Maps.{Map, route_by, is_from}

-- these are the best routes to the prefix in the old table and in the new one
pub record AreBestRoutes (p : Prefix) (old new : List Route) (best : BestRoutes) : Type 0 where
  pub before : best.before ≡ best_to p old
  pub after : best.after ≡ best_to p new

-- nothing is returned, and no route has changed; or the best routes to the prefix before and after are
abbrev pub ReturnsBest : Prefix → List Route → List Route → Option BestRoutes → Type 0
ReturnsBest p old new None = new ≡ old
ReturnsBest p old new (Some best) = AreBestRoutes p old new best

-- the change at a prefix with these offers: if the first is the feed's, it is followed by the second
abbrev pub purge_change : ℕ → Prefix → List Offer → List BestChange
purge_change feed p [] = []
purge_change feed p (o ∷ rest) =
    if is_from feed o then record { prefix = p; before = Some (route_by p o); after = option_map (route_by p) (slice_get rest 0) } ∷ []
    else []

-- the changes at all prefixes of the map
abbrev pub purge_changes : ℕ → Map → List BestChange
purge_changes feed [] = []
purge_changes feed ((p, offers) ∷ rest) = purge_change feed p offers ++ purge_changes feed rest
