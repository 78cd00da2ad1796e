-- Examples of progress and of overtaking.
use Rattle.std.proofs.Common.{◌≡◌, ◌≢◌, ℕ, zero, suc, true, false, [], ◌∷◌}
use Rattle.std.proofs.Common.{map, refl, ap, arith}
use Rattle.ya_core.specs.declared.process.EntryPoint.TheVariants.{E1, E2, E3, E4, E8, E10}
use Rattle.ya_core.specs.declared.process.ExitPoint.TheVariants.{X1}
use Rattle.ya_core.specs.declared.process.Process.{Process}
use Rattle.ya_core.specs.declared.process.Process.TheVariants.{Idle, Entering, Inside, Leaving}
use Rattle.ya_core.specs.ArbitrationTree.{node_of, side_of}
use Rattle.ya_core.specs.Steps.{State, StepsTo, opening}
use Rattle.ya_core.specs.Progress.{SomeoneGoesOn, CanLeadTo, Announces, Wins, Neither, is_entering, is_to_announce, event_kind, announces}
use Rattle.ya_core.specs.Progress.{LevelStep, LevelSees, HasNotWon, is_rival, is_win, times_overtaken}
use Rattle.ya_core.specs.Worlds.{IsInside, is_inside}
use Rattle.lock_examples.proofs.Core.Steps.{after, all_after, four_steps_of_place_0, stays_idle, steps_to}

-- event_kind
e2_announces : event_kind 1 (Entering 1 E2) (Entering 1 E3) ≡ Announces
e2_announces = refl

who_leaves_the_way_in_has_won : event_kind 1 (Entering 1 E4) (Entering 2 E1) ≡ Wins
who_leaves_the_way_in_has_won = refl

who_waits_does_neither : event_kind 1 (Entering 1 E8) (Entering 1 E8) ≡ Neither
who_waits_does_neither = refl

at_another_level_it_does_neither : event_kind 2 (Entering 1 E4) Inside ≡ Neither
at_another_level_it_does_neither = refl

-- is_rival
on_the_other_side : is_rival 1 2 3 ≡ true
unfolding node_of side_of
on_the_other_side = refl

not_itself : is_rival 1 2 2 ≡ false
unfolding node_of side_of
not_itself = refl

not_at_another_node : is_rival 1 2 1 ≡ false
unfolding node_of side_of
not_at_another_node = refl

at_the_root_each_of_the_other_half : is_rival 2 1 2 ≡ true
unfolding node_of side_of
at_the_root_each_of_the_other_half = refl

at_the_root_not_its_neighbour : is_rival 2 2 3 ≡ false
unfolding node_of side_of
at_the_root_not_its_neighbour = refl

at_the_third_level_one_of_the_upper_four : is_rival 3 1 6 ≡ true
unfolding node_of side_of
at_the_third_level_one_of_the_upper_four = refl

-- times_overtaken
once_by_the_rival :
    times_overtaken 1 2 (record { place = 3; deed = Wins } ∷ record { place = 3; deed = Announces } ∷ record { place = 1; deed = Wins } ∷ []) ≡ 1
unfolding node_of side_of
once_by_the_rival = refl

twice_at_its_leaf_and_once_above :
    (times_overtaken 1 2 (record { place = 3; deed = Wins } ∷ record { place = 2; deed = Wins } ∷ record { place = 3; deed = Wins } ∷ []) ≡ 2)
    × (times_overtaken 2 1 (record { place = 3; deed = Wins } ∷ record { place = 0; deed = Wins } ∷ []) ≡ 1)
unfolding node_of side_of
twice_at_its_leaf_and_once_above = (refl, refl)

-- is_to_announce
at_e2_it_is : is_to_announce 1 (Entering 1 E2) ≡ true
at_e2_it_is = refl

at_another_level_it_is_not : is_to_announce 2 (Entering 1 E2) ≡ false
at_another_level_it_is_not = refl

at_e2_of_the_level_alone :
    map (is_to_announce 2) (Idle ∷ Entering 1 E2 ∷ Entering 2 E1 ∷ Entering 2 E2 ∷ Entering 2 E3 ∷ Inside ∷ Leaving 2 X1 ∷ [])
    ≡ false ∷ false ∷ false ∷ true ∷ false ∷ false ∷ false ∷ []
at_e2_of_the_level_alone = refl

-- is_entering
on_its_way_in_at_the_level : is_entering 2 (Entering 2 E8) ≡ true
on_its_way_in_at_the_level = refl

inside_it_is_not : is_entering 2 Inside ≡ false
inside_it_is_not = refl

at_the_level_alone :
    map (is_entering 2) (Idle ∷ Entering 1 E8 ∷ Entering 2 E8 ∷ Entering 3 E8 ∷ Inside ∷ Leaving 2 X1 ∷ [])
    ≡ false ∷ false ∷ true ∷ false ∷ false ∷ false ∷ []
at_the_level_alone = refl

-- is_win
a_win : is_win Wins ≡ true
a_win = refl

an_announcement_is_none : is_win Announces ≡ false
an_announcement_is_none = refl

of_the_three : map is_win (Announces ∷ Wins ∷ Neither ∷ []) ≡ false ∷ true ∷ false ∷ []
of_the_three = refl

-- announces
place_2_announces_itself : announces 2 ≡ record { place = 2; deed = Announces }
place_2_announces_itself = refl

-- HasNotWon
another_has_won : HasNotWon 2 (record { place = 3; deed = Wins } ∷ announces 2 ∷ [])
another_has_won = (λ same. cc, (λ same. λ win. cc, tt))

it_has_won_itself : ¬ HasNotWon 2 (announces 3 ∷ record { place = 2; deed = Wins } ∷ [])
it_has_won_itself h = h.1.0 refl refl

-- CanLeadTo
place_0_can_come_inside : CanLeadTo 1 opening (λ s. IsInside s 0)
unfolding node_of side_of
place_0_can_come_inside =
    (0 ∷ 0 ∷ 0 ∷ 0 ∷ [], all_after 1 (0 ∷ 0 ∷ 0 ∷ 0 ∷ []) opening, four_steps_of_place_0, refl)

place_2_can_not : ¬ CanLeadTo 1 opening (λ s. IsInside s 2)
place_2_can_not (places, s, leads, inside) =
    let idle = stays_idle places opening s refl leads in
    let none : is_inside (s.processes 2) ≡ false = ap is_inside idle in cc

-- SomeoneGoesOn
one_that_has_begun_goes_on : SomeoneGoesOn 1 (after 1 0 opening)
unfolding node_of side_of
one_that_has_begun_goes_on = record {
  place = 0;
  busy = λ e. cc;
  after = after 1 0 (after 1 0 opening);
  step = steps_to 1 0 (after 1 0 opening) (omega arith);
  goes_on = λ e. cc;
}

nobody_where_all_are_idle : ¬ SomeoneGoesOn 1 opening
nobody_where_all_are_idle h = h.busy refl

-- a state that no run reaches: place 0 waits, and all others are idle
abbrev one_waits : ℕ → Process
one_waits zero = Entering 1 E10
one_waits (suc place) = Idle

abbrev pub stuck : State
stuck = record { words = λ word. 0; processes = one_waits }

pub stays_stuck : (place : ℕ) (s : State) → stuck.processes place ≢ Idle → StepsTo 1 place stuck s → s.processes place ≡ stuck.processes place
stays_stuck zero s busy step = step.process
stays_stuck (suc place) s busy step = absurd (busy refl)

nobody_where_the_only_one_waits : ¬ SomeoneGoesOn 1 stuck
nobody_where_the_only_one_waits h = h.goes_on (stays_stuck h.place h.after h.busy h.step)

-- LevelSees
a_claim_and_then_an_announcement : LevelSees 1 1 opening (record { place = 0; deed = Neither } ∷ announces 0 ∷ [])
unfolding node_of side_of
a_claim_and_then_an_announcement = (
  after 1 0 opening,
  steps_to 1 0 opening (omega arith),
  refl,
  (after 1 0 (after 1 0 opening), steps_to 1 0 (after 1 0 opening) (omega arith), refl, tt),
)

no_win_by_the_first_step : ¬ LevelSees 1 1 opening (record { place = 0; deed = Wins } ∷ [])
no_win_by_the_first_step h = let deed = h.2 in cc

-- a step in which a place wins
abbrev a_win_of_place_3 : LevelStep
a_win_of_place_3 = record { place = 3; deed = Wins }

-- LevelStep
who_does_what : (a_win_of_place_3.place ≡ 3) × (a_win_of_place_3.deed ≡ Wins)
who_does_what = (refl, refl)
