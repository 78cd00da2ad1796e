-- Examples by which the definitions of this crate are tested, each under a line with the definition's name.
use Rattle.std.proofs.Common.{◌≡◌, ◌+◌, ◌^◌, true, false, [], ◌∷◌, inl, inr, refl, arith}
use Rattle.std.specs.Prelude.{None, Some}
use Rattle.rt_cidr.specs.declared.prefixes.Prefix.{Prefix}
use Rattle.rt_trie.specs.Tree.{Tree}
use Rattle.rt_rib.specs.declared.routes.Hop.{Hop}
use Rattle.rt_rib.specs.declared.routes.Hop.TheVariants.{Via, Discard}
use Rattle.rt_rib.specs.declared.routes.Route.{Route}
use Rattle.rt_rib.specs.declared.offers.Offer.{Offer}
use Rattle.rt_diff.specs.declared.table_answers.CompareBy.TheVariants as by
use Rattle.yarib_c.specs.declared.status.TheConstants as status
use Rattle.yarib_c.specs.Statuses.{IsOneOf}
use Rattle.yarib_c.specs.Forms.{no_route, route_as, router_of, router_as, put_of}
use Rattle.yarib_c.specs.Lists.{PutsRoutes}
use Rattle.yarib_c.specs.Sizes.{bytes_of, trie_bytes}
use Rattle.yarib_c.specs.Selections.{best_number}
use Rattle.yarib_c.specs.Differences.{by_number}
use Rattle.yarib_c.specs.HopCounts.{hop_count_as}

-- 10.0.0.0/8, and a route to it through 192.0.2.1
abbrev ten_8 : Prefix
ten_8 = record { base = 167772160; len = 8; is_prefix = record { short = omega arith; fits = omega arith; clear = refl } }

abbrev router : Hop
router = Via (record { 0 = 3221225985 })

abbrev one_offer : Offer
one_offer = record { feed = 1; pref = 10; hop = router }

abbrev one_route : Route
one_route = record { prefix = ten_8; feed = 1; pref = 10; hop = router }

-- IsOneOf
statuses_that_are_listed : IsOneOf (0 ∷ 1 ∷ 4 ∷ []) 0 × IsOneOf (0 ∷ 1 ∷ 4 ∷ []) 4
statuses_that_are_listed = (inl refl, inr (inr refl))

no_status_is_one_of_none : IsOneOf [] 0 → ⊥
no_status_is_one_of_none h = h

-- the numbers that the header gives the statuses
statuses_of_the_header : (status.DONE ≡ 0) × (status.NOTHING ≡ 1) × (status.BAD_NUMBER ≡ 2) × (status.BAD_COMMAND ≡ 3)
    × (status.NO_MEMORY ≡ 4) × (status.BAD_SIZE ≡ 5) × (status.NONE_LEFT ≡ 6) × (status.BAD_TEXT ≡ 7)
    × (status.BAD_LENGTH ≡ 8) × (status.BAD_BITS ≡ 9) × (status.WRONG_KIND ≡ 10)
statuses_of_the_header = (refl, refl, refl, refl, refl, refl, refl, refl, refl, refl, refl)

-- bytes_of
bytes_of_a_few_and_of_too_many : (bytes_of 48 3 ≡ 144) × (bytes_of 1 (2 ^ 40 + 5) ≡ 2 ^ 40)
bytes_of_a_few_and_of_too_many = (refl, refl)

-- trie_bytes
bytes_of_no_trie_and_of_a_leaf : (t : Tree) → (trie_bytes (record { pairs = []; nodes = 0; tree = t }) ≡ 0)
    × (trie_bytes (record { pairs = (ten_8, one_offer ∷ []) ∷ []; nodes = 1; tree = t }) ≡ 62)
bytes_of_no_trie_and_of_a_leaf t = (refl, refl)

-- best_number
whether_the_best_alone : (best_number false ≡ 0) × (best_number true ≡ 1)
whether_the_best_alone = (refl, refl)

-- no_route
no_route_is_all_zeros : no_route ≡ record { base = 0; pref = 0; via = 0; feed = 0; len = 0; hop = 0 }
no_route_is_all_zeros = refl

-- route_as
a_route_in_numbers : route_as one_route ≡ record { base = 167772160; pref = 10; via = 3221225985; feed = 1; len = 8; hop = 1 }
a_route_in_numbers = refl

-- router_of
routers_of_next_hops : (router_of 1 router ≡ 3221225985) × (router_of 1 Discard ≡ 1)
routers_of_next_hops = (refl, refl)

-- router_as
routers_of_answers : (router_as 0 1 None ≡ 0) × (router_as 0 1 (Some one_route) ≡ 3221225985)
routers_of_answers = (refl, refl)

-- put_of
an_add_in_numbers : put_of 1 7 ten_8 10 router ≡ record { operation = 1; feed = 7; base = 167772160; pref = 10; via = 3221225985; len = 8; hop = 1 }
an_add_in_numbers = refl

-- PutsRoutes
one_route_where_there_is_room_for_two : PutsRoutes (one_route ∷ []) (no_route ∷ no_route ∷ []) (route_as one_route ∷ no_route ∷ []) 1
one_route_where_there_is_room_for_two = record { counted = refl; put = refl }

-- by_number
ways_to_tell_apart : (by_number by.Hop ≡ 0) × (by_number by.Route ≡ 1)
ways_to_tell_apart = (refl, refl)

-- hop_count_as
counts_in_numbers : (hop_count_as (record { hop = router; routes = 3 }) ≡ record { hop = 1; via = 3221225985; routes = 3 })
    × (hop_count_as (record { hop = Discard; routes = 1 }) ≡ record { hop = 2; via = 0; routes = 1 })
counts_in_numbers = (refl, refl)
