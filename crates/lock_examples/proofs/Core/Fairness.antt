-- Examples of fair schedules and of the accesses of a passage.
use Rattle.std.proofs.Common.{◌≡◌, ◌≢◌, ℕ, zero, suc, ◌+◌, ◌<◌, ◌≤◌, Bool, true, false, if◌then◌else◌, List, [], ◌∷◌, ◌==◌, Some, None}
use Rattle.std.proofs.Common.{map, refl, ap, subst, ◌∙◌, arith}
use Rattle.std.specs.Prelude.{Option}
use Rattle.ya_core.specs.declared.process.EntryPoint.TheVariants.{E1, E2, E8}
use Rattle.ya_core.specs.declared.process.ExitPoint.TheVariants.{X1}
use Rattle.ya_core.specs.declared.process.Process.TheVariants.{Idle, Entering, Inside, Leaving}
use Rattle.ya_core.specs.ArbitrationTree.{node_of, side_of}
use Rattle.ya_core.specs.Steps.{State, StepsTo, opening, access_of}
use Rattle.ya_core.specs.Steps.{next_of, value_of}
use Rattle.ya_core.specs.Progress.{Neither, event_kind, announces}
use Rattle.ya_core.specs.Progress.{LevelStep, LevelSees}
use Rattle.ya_core.specs.Fairness.{PickLeadsTo, IsRunOfSchedule, IsFair, PicksEachAgain, Eventually, is_on_way_in, is_on_way_out}
use Rattle.ya_core.specs.PassageCounts.{cost_of_pick, remote_accesses}
use Rattle.std.specs.Prelude.{◌-◌}
use Rattle.lock_examples.proofs.Core.Steps.{AllIn, after, set-other, steps_to}

-- is_on_way_in
on_its_way_in : is_on_way_in (Entering 1 E1) ≡ true
on_its_way_in = refl

inside_no_more : is_on_way_in Inside ≡ false
inside_no_more = refl

of_the_four : map is_on_way_in (Idle ∷ Entering 1 E1 ∷ Inside ∷ Leaving 1 X1 ∷ []) ≡ false ∷ true ∷ false ∷ false ∷ []
of_the_four = refl

-- is_on_way_out
on_its_way_out : is_on_way_out (Leaving 2 X1) ≡ true
on_its_way_out = refl

inside_not_yet : is_on_way_out Inside ≡ false
inside_not_yet = refl

the_last_of_the_four : map is_on_way_out (Idle ∷ Entering 1 E1 ∷ Inside ∷ Leaving 1 X1 ∷ []) ≡ false ∷ false ∷ false ∷ true ∷ []
the_last_of_the_four = refl

-- Eventually
then_or_later : Eventually 3 (λ time. time ≡ 3)
then_or_later = (3, omega arith, refl)

not_earlier : ¬ Eventually 4 (λ time. time ≡ 3)
not_earlier h = omega (arith, h.1, h.2)

-- the level's view of the steps of these places
abbrev seen_of : ℕ → ℕ → List ℕ → State → List LevelStep
seen_of levels level [] s = []
seen_of levels level (place ∷ places) s =
    record { place = place; deed = event_kind level (s.processes place) ((after levels place s).processes place) }
    ∷ seen_of levels level places (after levels place s)

sees : (levels level : ℕ) (places : List ℕ) (s : State) → AllIn levels places → LevelSees levels level s (seen_of levels level places s)
sees levels level [] s within = tt
sees levels level (place ∷ places) s within =
    (after levels place s, steps_to levels place s within.0, refl, sees levels level places (after levels place s) within.1)

-- a step of place 0 that neither announces nor wins
abbrev neither : LevelStep
neither = record { place = 0; deed = Neither }

the_root_sees_nothing_of_the_leaf :
    LevelSees 2 2 opening (neither ∷ neither ∷ neither ∷ neither ∷ neither ∷ announces 0 ∷ [])
unfolding node_of side_of
the_root_sees_nothing_of_the_leaf =
    sees 2 2 (0 ∷ 0 ∷ 0 ∷ 0 ∷ 0 ∷ 0 ∷ []) opening (omega arith, (omega arith, (omega arith, (omega arith, (omega arith, (omega arith, tt))))))

the_third_level_sees_nothing_of_those_below :
    LevelSees 3 3 opening (neither ∷ neither ∷ neither ∷ neither ∷ neither ∷ neither ∷ neither ∷ neither ∷ neither ∷ announces 0 ∷ [])
unfolding node_of side_of
the_third_level_sees_nothing_of_those_below =
    sees 3 3 (0 ∷ 0 ∷ 0 ∷ 0 ∷ 0 ∷ 0 ∷ 0 ∷ 0 ∷ 0 ∷ 0 ∷ []) opening
    (omega arith, (omega arith, (omega arith, (omega arith, (omega arith, (omega arith, (omega arith, (omega arith, (omega arith, (omega arith, tt))))))))))

-- place 0 steps at all times
abbrev alone : ℕ → State
alone zero = opening
alone (suc time) = after 1 0 (alone time)

others_stay_idle : (place time : ℕ) → place ≢ 0 → (alone time).processes place ≡ Idle
others_stay_idle place zero other = refl
others_stay_idle place (suc time) other = set-other 0 _ (alone time).processes place other ∙ others_stay_idle place time other

-- place 0 steps once, and then place 1 at all times
abbrev once : ℕ → Option ℕ
once zero = Some 0
once (suc time) = Some 1

not_again : (time : ℕ) → 1 ≤ time → once time ≢ Some 0
not_again zero later same = omega (arith, later)
not_again (suc time) later same = cc

-- PickLeadsTo
place_0_is_picked : PickLeadsTo 1 (Some 0) opening (after 1 0 opening)
place_0_is_picked = steps_to 1 0 opening (omega arith)

none_is_picked : PickLeadsTo 1 None opening opening
none_is_picked = refl

nobody_steps_who_is_not_picked : ¬ PickLeadsTo 1 None opening (after 1 0 opening)
nobody_steps_who_is_not_picked same = let process : Entering 1 E2 ≡ Idle = ap (λ s. s.processes 0) same in cc

-- IsRunOfSchedule
the_run_of_place_0 : IsRunOfSchedule 1 (λ time. Some 0) opening alone
the_run_of_place_0 = record {
  start = refl;
  picks = λ time. subst (λ next. StepsTo 1 0 (alone time) (alone next)) (let next : suc time ≡ time + 1 = omega arith in next)
      (steps_to 1 0 (alone time) (omega arith));
}

each_step_counts : ¬ IsRunOfSchedule 1 (λ time. Some 0) opening (λ time. opening)
each_step_counts h = let step : StepsTo 1 0 opening opening = h.picks 0 in let process = step.process in cc

it_begins_at_its_first_state : ¬ IsRunOfSchedule 1 (λ time. None) (after 1 0 opening) (λ time. opening)
it_begins_at_its_first_state h = let process : Idle ≡ Entering 1 E2 = ap (λ s. s.processes 0) h.start in cc

-- IsFair
fair_to_place_0 : IsFair (λ time. Some 0) alone
fair_to_place_0 zero time busy = (time, omega arith, refl)
fair_to_place_0 (suc other) time busy = absurd (busy (others_stay_idle (suc other) time (λ same. cc)))

unfair_to_place_0 : (states : ℕ → State) → IsRunOfSchedule 1 once opening states → ¬ IsFair once states
unfair_to_place_0 states run fair =
    let step : StepsTo 1 0 (states 0) (states 1) = run.picks 0 in
    let first = subst (λ s. (states 1).processes 0 ≡ next_of 1 0 (s.processes 0) (value_of s.words (access_of 1 0 (s.processes 0)))) run.start step.process in
    let begun : (states 1).processes 0 ≡ Entering 1 E2 = first in
    let again = fair 0 1 (λ idle. cc) in not_again again.0 again.1 again.2

-- place 1 steps once, and then place 0 at all times
abbrev place_1_once : ℕ → Option ℕ
place_1_once zero = Some 1
place_1_once (suc time) = Some 0

not_place_1_again : (time : ℕ) → 1 ≤ time → place_1_once time ≢ Some 1
not_place_1_again zero later same = omega (arith, later)
not_place_1_again (suc time) later same = cc

unfair_to_place_1 : (states : ℕ → State) → IsRunOfSchedule 1 place_1_once opening states → ¬ IsFair place_1_once states
unfair_to_place_1 states run fair =
    let step : StepsTo 1 1 (states 0) (states 1) = run.picks 0 in
    let first = subst (λ s. (states 1).processes 1 ≡ next_of 1 1 (s.processes 1) (value_of s.words (access_of 1 1 (s.processes 1)))) run.start step.process in
    let begun : (states 1).processes 1 ≡ Entering 1 E2 = first in
    let again = fair 1 1 (λ idle. cc) in not_place_1_again again.0 again.1 again.2

-- a program that ends: place 0 goes inside and out again in six steps; after that no place is picked
abbrev is_passing : ℕ → Bool
is_passing (suc (suc (suc (suc (suc (suc time)))))) = false
is_passing time = true

abbrev one_passage : ℕ → Option ℕ
one_passage time = if is_passing time then Some 0 else None

abbrev goes_if : Bool → State → State
goes_if true s = after 1 0 s
goes_if false s = s

abbrev passing : ℕ → State
passing zero = opening
passing (suc time) = goes_if (is_passing time) (passing time)

goes_by_pick : (b : Bool) (s : State) → PickLeadsTo 1 (if b then Some 0 else None) s (goes_if b s)
goes_by_pick true s = steps_to 1 0 s (omega arith)
goes_by_pick false s = refl

others_still_idle : (place : ℕ) (b : Bool) (s : State) → place ≢ 0 → s.processes place ≡ Idle → (goes_if b s).processes place ≡ Idle
others_still_idle place true s other idle = set-other 0 _ s.processes place other ∙ idle
others_still_idle place false s other idle = idle

others_idle : (place time : ℕ) → place ≢ 0 → (passing time).processes place ≡ Idle
others_idle place zero other = refl
others_idle place (suc time) other = others_still_idle place (is_passing time) (passing time) other (others_idle place time other)

place_0_has_passed : (time : ℕ) → (passing (suc (suc (suc (suc (suc (suc time))))))).processes 0 ≡ Idle
unfolding node_of side_of
place_0_has_passed zero = refl
place_0_has_passed (suc time) = place_0_has_passed time

-- IsRunOfSchedule
the_run_of_a_program_that_ends : IsRunOfSchedule 1 one_passage opening passing
the_run_of_a_program_that_ends = record {
  start = refl;
  picks = λ time. subst (λ next. PickLeadsTo 1 (one_passage time) (passing time) (passing next)) (let next : suc time ≡ time + 1 = omega arith in next)
      (goes_by_pick (is_passing time) (passing time));
}

-- IsFair
a_program_that_ends_is_fair : IsFair one_passage passing
a_program_that_ends_is_fair (suc other) time busy = absurd (busy (others_idle (suc other) time (λ same. cc)))
a_program_that_ends_is_fair zero zero busy = (0, omega arith, refl)
a_program_that_ends_is_fair zero (suc zero) busy = (1, omega arith, refl)
a_program_that_ends_is_fair zero (suc (suc zero)) busy = (2, omega arith, refl)
a_program_that_ends_is_fair zero (suc (suc (suc zero))) busy = (3, omega arith, refl)
a_program_that_ends_is_fair zero (suc (suc (suc (suc zero)))) busy = (4, omega arith, refl)
a_program_that_ends_is_fair zero (suc (suc (suc (suc (suc zero))))) busy = (5, omega arith, refl)
a_program_that_ends_is_fair zero (suc (suc (suc (suc (suc (suc time)))))) busy = absurd (busy (place_0_has_passed time))

unfair_where_nobody_is_picked : ¬ IsFair (λ time. None) alone
unfolding node_of side_of
unfair_where_nobody_is_picked fair =
    let found = fair 0 1 (λ idle. (let both : Entering 1 E2 ≡ Idle = idle in cc)) in let none : ◌≡◌ {A = Option ℕ} None (Some 0) = found.2 in cc

-- place 1 waits at its own spin word
abbrev at_its_spin_word : State
at_its_spin_word = record { words = λ _. 0; processes = λ place. if place == 1 then Entering 1 E8 else Idle }

-- cost_of_pick
its_claim_is_one : cost_of_pick 1 2 opening (Some 1) ≡ 1
its_claim_is_one = refl

a_look_at_its_own_spin_word_is_none : cost_of_pick 1 2 at_its_spin_word (Some 1) ≡ 0
a_look_at_its_own_spin_word_is_none = refl

what_another_does_is_none : cost_of_pick 1 2 opening (Some 0) ≡ 0
what_another_does_is_none = refl

none_where_none_is_picked : cost_of_pick 1 2 opening None ≡ 0
none_where_none_is_picked = refl

-- remote_accesses
three_until_it_is_inside_and_two_until_it_is_idle :
    (remote_accesses 0 1 one_passage passing 4 ≡ 3) × (remote_accesses 0 1 one_passage passing 7 ≡ 5)
unfolding node_of side_of
three_until_it_is_inside_and_two_until_it_is_idle = (refl, refl)

none_before_the_run : (schedule : ℕ → Option ℕ) (states : ℕ → State) → remote_accesses 1 2 schedule states 0 ≡ 0
none_before_the_run schedule states = refl

those_before_and_that_of_the_last_pick :
    (schedule : ℕ → Option ℕ) (states : ℕ → State)
    → remote_accesses 1 2 schedule states 4 ≡ remote_accesses 1 2 schedule states 3 + cost_of_pick 1 2 (states 3) (schedule 3)
those_before_and_that_of_the_last_pick schedule states = refl

-- places 0 and 1 step in turn
abbrev alternately : ℕ → ℕ
alternately zero = 0
alternately (suc zero) = 1
alternately (suc (suc time)) = alternately time

-- PicksEachAgain
two_in_turn : PicksEachAgain 1 alternately
two_in_turn zero zero room = (0, omega arith, refl)
two_in_turn (suc zero) zero room = (1, omega arith, refl)
two_in_turn zero (suc zero) room = (2, omega arith, refl)
two_in_turn (suc zero) (suc zero) room = (1, omega arith, refl)
two_in_turn (suc (suc place)) time room = absurd (let less : suc (suc place) < 2 = room in omega (arith, less))
two_in_turn place (suc (suc time)) room = let found = two_in_turn place time room in (suc (suc found.0), omega (arith, found.1), found.2)

never_the_turn_of_place_1 : ¬ PicksEachAgain 1 (λ time. 0)
never_the_turn_of_place_1 again = let found = again 1 0 (omega arith) in let same : ◌≡◌ {A = ℕ} 0 1 = found.2 in cc
