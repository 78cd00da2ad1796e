-- Examples of the order of routes and of its reasons.
use Rattle.std.proofs.Common.{◌≡◌, true, false, [], ◌∷◌, refl}
use Rattle.std.specs.Prelude.{Some, None}
use Rattle.table_examples.proofs.Cidr.{everything, ten_8}
use Rattle.rt_rib.specs.declared.routes.Reason.TheVariants.{Shorter, Preference, Feed}
use Rattle.rt_rib.specs.Order.{policy, comparison, below_then, wins, loses_by, won_by}
use Rattle.table_examples.proofs.Rib.Values.{offer, route}

-- below_then
below_whatever_the_rest : below_then 1 2 false ≡ true
below_whatever_the_rest = refl

where_equal_the_rest_decides : below_then 2 2 true ≡ true
where_equal_the_rest_decides = refl

equal_is_not_below : below_then 2 2 false ≡ false
equal_is_not_below = refl

above_whatever_the_rest : below_then 3 2 true ≡ false
above_whatever_the_rest = refl

-- policy
the_preference_before_the_feed : policy (offer 2 30) (offer 1 50) ≡ (Preference, 30, 50) ∷ (Feed, 2, 1) ∷ []
the_preference_before_the_feed = refl

-- comparison
the_longer_prefix_has_the_lower_number :
    comparison (route ten_8 2 30) (route everything 1 50) ≡ (Shorter, 0, 8) ∷ (Preference, 30, 50) ∷ (Feed, 2, 1) ∷ []
the_longer_prefix_has_the_lower_number = refl

-- wins
the_first_difference_decides : (wins ((Preference, 1, 2) ∷ (Feed, 9, 1) ∷ []) ≡ true) × (wins ((Preference, 2, 1) ∷ (Feed, 1, 9) ∷ []) ≡ false)
the_first_difference_decides = (refl, refl)

after_equal_numbers_the_next_step : wins ((Preference, 2, 2) ∷ (Feed, 1, 9) ∷ []) ≡ true
after_equal_numbers_the_next_step = refl

nothing_wins_without_a_difference : wins ((Preference, 2, 2) ∷ (Feed, 1, 1) ∷ []) ≡ false
nothing_wins_without_a_difference = refl

-- loses_by
the_first_step_that_is_lost :
    (loses_by (comparison (route ten_8 2 30) (route everything 1 10)) ≡ Shorter)
    × (loses_by (comparison (route ten_8 2 30) (route ten_8 1 50)) ≡ Preference)
    × (loses_by (comparison (route ten_8 1 30) (route ten_8 2 30)) ≡ Feed)
the_first_step_that_is_lost = (refl, refl, refl)

-- won_by
the_reason_of_the_winner : won_by (policy (offer 2 30) (offer 1 50)) ≡ Some Preference
the_reason_of_the_winner = refl

no_reason_of_the_loser : (won_by (policy (offer 1 50) (offer 2 30)) ≡ None) × (won_by (policy (offer 1 50) (offer 1 50)) ≡ None)
no_reason_of_the_loser = (refl, refl)
