-- Examples of positions in the dump order.
use Rattle.std.proofs.Common.{◌≡◌, List, [], ◌∷◌, refl}
use Rattle.table_examples.proofs.Cidr.{everything, ten_8, ten_0_16, last_32}
use Rattle.rt_rib.specs.declared.routes.Route.{Route}
use Rattle.rt_rib.specs.Places.{from_place}
use Rattle.table_examples.proofs.Rib.Values.{ten_1_16, route}

-- from_place
abbrev in_order : List Route
in_order = route everything 2 200 ∷ route ten_8 2 30 ∷ route ten_8 1 50 ∷ route ten_1_16 1 10 ∷ []

the_route_of_the_place_and_those_behind_it : from_place (route ten_8 2 30) in_order ≡ route ten_8 2 30 ∷ route ten_8 1 50 ∷ route ten_1_16 1 10 ∷ []
the_route_of_the_place_and_those_behind_it = refl

behind_a_route_they_are_those_from_the_next_feed_on : from_place (route ten_8 3 30) in_order ≡ route ten_8 1 50 ∷ route ten_1_16 1 10 ∷ []
behind_a_route_they_are_those_from_the_next_feed_on = refl

from_a_prefix_on_and_past_all : (from_place (route ten_0_16 0 0) in_order ≡ route ten_1_16 1 10 ∷ []) × (from_place (route last_32 0 0) in_order ≡ [])
from_a_prefix_on_and_past_all = (refl, refl)
