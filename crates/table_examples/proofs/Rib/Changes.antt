-- Examples of changes of best routes.
use Rattle.std.proofs.Common.{◌≡◌, ◌≢◌, ℕ, Some, None, List, [], ◌∷◌, inl, inr, refl, sym, ◌∙◌, arith}
use Rattle.std.specs.Prelude.{Option, map}
use Rattle.std.proofs.lemmas.Bool.{both_ways}
use Rattle.table_examples.proofs.Cidr.{ten_8, everything}
use Rattle.rt_cidr.specs.declared.prefixes.Prefix.{Prefix}
use Rattle.rt_trie.specs.Map.{before as comes_before}
use Rattle.rt_rib.specs.declared.routes.Route.{Route}
use Rattle.rt_rib.specs.declared.changes.BestChange.{BestChange}
use Rattle.rt_rib.specs.Changes.{best_to, IsBestChange, AreBestChanges}
use Rattle.rt_rib.proofs.Sets.{Contains-head, Contains-none}
use Rattle.table_examples.proofs.Rib.Values.{ten_1_16, route}

-- a table before and after its feed 2 withdraws its route to 10.0.0.0/8 and adds one to 10.1.0.0/16, where it is the better one
abbrev old_table : List Route
old_table = route everything 1 200 ∷ route ten_8 2 30 ∷ route ten_8 1 50 ∷ route ten_1_16 1 10 ∷ []

abbrev new_table : List Route
new_table = route everything 1 200 ∷ route ten_8 1 50 ∷ route ten_1_16 2 5 ∷ route ten_1_16 1 10 ∷ []

-- best_to
best_to_a_prefix_and_not_to_one_that_contains_it :
    (best_to ten_8 old_table ≡ Some (route ten_8 2 30)) × (best_to ten_1_16 old_table ≡ Some (route ten_1_16 1 10))
    × (best_to ten_1_16 (route ten_8 2 30 ∷ []) ≡ None)
unfolding best_to
best_to_a_prefix_and_not_to_one_that_contains_it = (refl, refl, refl)

-- the changes of the two prefixes
abbrev of_ten_8 : BestChange
of_ten_8 = record { prefix = ten_8; before = Some (route ten_8 2 30); after = Some (route ten_8 1 50) }

abbrev of_ten_1_16 : BestChange
of_ten_1_16 = record { prefix = ten_1_16; before = Some (route ten_1_16 1 10); after = Some (route ten_1_16 2 5) }

-- what stays the best route is no change
abbrev of_everything : BestChange
of_everything = record { prefix = everything; before = Some (route everything 1 200); after = Some (route everything 1 200) }

one_feed : (r s : Route) → Some r ≡ Some s → r.feed ≡ s.feed
one_feed r s same = cc

-- IsBestChange
another_best_route_is_a_change : IsBestChange old_table new_table of_ten_8
unfolding best_to
another_best_route_is_a_change = record {
  before = refl;
  after = refl;
  differ = λ e. let same : 2 ≡ 1 = one_feed (route ten_8 2 30) (route ten_8 1 50) e in absurd (omega arith);
}

the_same_best_route_is_none : IsBestChange old_table new_table of_everything → ⊥
the_same_best_route_is_none h = h.differ refl

-- AreBestChanges
no_change_is_left_out : AreBestChanges old_table new_table [] → ⊥
no_change_is_left_out h = Contains-none of_ten_8 ((h.exactly of_ten_8).1 another_best_route_is_a_change)

nothing_else_is_listed : AreBestChanges old_table new_table (of_everything ∷ of_ten_8 ∷ of_ten_1_16 ∷ []) → ⊥
nothing_else_is_listed h =
    the_same_best_route_is_none ((h.exactly of_everything).0 (Contains-head of_everything (of_ten_8 ∷ of_ten_1_16 ∷ [])))

in_the_order_of_the_prefixes : AreBestChanges old_table new_table (of_ten_1_16 ∷ of_ten_8 ∷ []) → ⊥
in_the_order_of_the_prefixes h = both_ways (comes_before ten_1_16 ten_8) refl (h.ordered 0 1 of_ten_8 (omega arith) (omega arith))
