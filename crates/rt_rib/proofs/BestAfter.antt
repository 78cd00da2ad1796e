-- The best route to a prefix before and after its offers in a map were changed.
use Rattle.std.proofs.Common.{◌≡◌, List, [], Option, Some, None, refl, ap, sym, ◌∙◌}
use Rattle.std.specs.Prelude.{slice_get}
use Rattle.std.specs.Option.{option_map}
use Rattle.rt_cidr.specs.declared.prefixes.Prefix.{Prefix}
use Rattle.rt_trie.specs.Map.{get, put, erase}
use Rattle.rt_rib.specs.declared.routes.Route.{Route}
use Rattle.rt_rib.specs.declared.offers.Offer.{Offer}
use Rattle.rt_rib.specs.Maps.{IsOffers, Map, route_by, routes_of, IsMap}
use Rattle.rt_rib.specs.Changes.{best_to}
use Rattle.rt_rib.specs.inside.Maps.{offers_in}
use Rattle.rt_rib.proofs.BestTo.{best_at_map}
use Rattle.rt_rib.proofs.MapChanges.{put_with, erase_with, at_it, IsMap-put, IsMap-erase}

-- the route of the first offer, if there is one
abbrev first_of : Prefix → List Offer → Option Route
first_of p offers = option_map (route_by p) (slice_get offers 0)

module _ {m : Map} (h : IsMap m) (p : Prefix) where
  -- the first of the offers that are stored there
  pub best_there : {offers : List Offer} → Some offers ≡ get m p → (r : Route) → Some r ≡ first_of p offers → Some r ≡ best_to p (routes_of m)
  best_there there r first = first ∙ sym (best_at_map m h p ∙ ap (λ o. first_of p (offers_in o)) (sym there))

  -- the first of the offers that were stored there
  pub best_put : {offers : List Offer} → IsOffers offers → (r : Route) → Some r ≡ first_of p offers → Some r ≡ best_to p (routes_of (put m p offers))
  best_put {offers} lawful r first =
      let n = put m p offers in
      first ∙ sym (best_at_map n (IsMap-put m h p offers lawful) p ∙ ap (first_of p) (at_it m n p offers (put_with m h p offers) p refl))

  -- none, if the prefix was removed
  pub best_erased : None ≡ best_to p (routes_of (erase m p))
  best_erased =
      let n = erase m p in
      sym (best_at_map n (IsMap-erase m h p) p ∙ ap (first_of p) (at_it m n p [] (erase_with m h p) p refl))
