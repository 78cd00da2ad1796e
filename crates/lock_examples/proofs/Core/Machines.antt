-- Examples of the machine and of its replays.
use Rattle.std.proofs.Common.{◌≡◌, true, false, [], ◌∷◌}
use Rattle.std.proofs.Common.{map, refl, ap, ◌∙◌, arith}
use Rattle.ya_core.specs.declared.word.Word.TheVariants.{C, T, P}
use Rattle.ya_core.specs.declared.word.Access.TheVariants.{Load, Store}
use Rattle.ya_core.specs.declared.process.EntryPoint.TheVariants.{E1, E2, E4}
use Rattle.ya_core.specs.declared.process.ExitPoint.TheVariants.{X1}
use Rattle.ya_core.specs.declared.process.Process.TheVariants.{Idle, Entering, Inside, Leaving}
use Rattle.ya_core.specs.ArbitrationTree.{node_of, side_of, number_of}
use Rattle.ya_core.specs.FlatRow.{words_of}
use Rattle.ya_core.specs.Steps.{State, opening}
use Rattle.ya_core.specs.declared.step.Mark.TheVariants as mark
use Rattle.ya_core.specs.declared.step.Step.{Step}
use Rattle.ya_core.specs.Machines.{Rows, processes_of, state_of, word_of, is_store, mark_of, step_by, step_of, ReplaysTo, Replays}
use Rattle.lock_examples.proofs.Core.Steps.{after, steps_to}

-- a machine whose parts all differ
abbrev some_rows : Rows
some_rows = record { levels = 1; words = 10 ∷ 11 ∷ 12 ∷ 13 ∷ 14 ∷ []; processes = Inside ∷ Entering 1 E2 ∷ [] }

-- Rows
a_row_of_words_and_one_of_processes :
    (some_rows.levels ≡ 1) × (some_rows.words ≡ 10 ∷ 11 ∷ 12 ∷ 13 ∷ 14 ∷ []) × (some_rows.processes ≡ Inside ∷ Entering 1 E2 ∷ [])
a_row_of_words_and_one_of_processes = (refl, refl, refl)

-- processes_of
idle_where_the_list_has_none : (processes_of (Inside ∷ Entering 1 E2 ∷ []) 1 ≡ Entering 1 E2) × (processes_of (Inside ∷ Entering 1 E2 ∷ []) 2 ≡ Idle)
unfolding processes_of
idle_where_the_list_has_none = (refl, refl)

-- state_of
what_a_machine_shows : ((state_of some_rows).words (T 1 0) ≡ 12) × ((state_of some_rows).processes 1 ≡ Entering 1 E2)
unfolding processes_of words_of number_of
what_a_machine_shows = (refl, refl)

-- word_of
of_a_load_and_of_a_store : (word_of (Load (T 1 0)) ≡ T 1 0) × (word_of (Store (P 1 2) 1) ≡ P 1 2)
of_a_load_and_of_a_store = (refl, refl)

-- is_store
a_store_is_one_a_load_is_not : (is_store (Store (P 1 2) 1) ≡ true) × (is_store (Load (P 1 2)) ≡ false)
a_store_is_one_a_load_is_not = (refl, refl)

-- mark_of
won_ended_or_neither : map mark_of (Idle ∷ Inside ∷ Entering 1 E1 ∷ Leaving 1 X1 ∷ []) ≡ mark.Out ∷ mark.Inside ∷ mark.Plain ∷ mark.Plain ∷ []
won_ended_or_neither = refl

-- step_by
a_load_that_leads_inside : step_by 3 (Load (T 1 1)) 7 Inside ≡ record { place = 3; word = T 1 1; store = false; value = 7; mark = mark.Inside }
a_load_that_leads_inside = refl

-- step_of
the_first_step_of_place_3 : step_of 2 3 opening ≡ record { place = 3; word = C 1 1 1; store = true; value = 4; mark = mark.Plain }
unfolding node_of side_of
the_first_step_of_place_3 = refl

it_finds_nobody_at_the_root :
    step_of 2 3 (record { words = λ word. 0; processes = λ place. Entering 2 E4 })
    ≡ record { place = 3; word = C 2 0 0; store = false; value = 0; mark = mark.Inside }
unfolding node_of side_of
it_finds_nobody_at_the_root = refl

inside_it_gives_up_the_root :
    step_of 2 3 (record { words = λ word. 9; processes = λ place. Inside })
    ≡ record { place = 3; word = C 2 0 1; store = true; value = 0; mark = mark.Plain }
unfolding node_of side_of
inside_it_gives_up_the_root = refl

-- ReplaysTo
one_step_of_place_3 : ReplaysTo 2 opening (3 ∷ []) (step_of 2 3 opening ∷ []) (after 2 3 opening)
one_step_of_place_3 = (after 2 3 opening, steps_to 2 3 opening (omega arith), refl, refl)

who_is_picked_takes_its_step :
    (step : Step) (last : State) → ReplaysTo 2 opening (3 ∷ []) (step ∷ []) last → (last.processes 3 ≡ Entering 1 E2) × (step ≡ step_of 2 3 opening)
who_is_picked_takes_its_step step last (next, taken, told, rest) = (ap (λ (s : State). s.processes 3) rest ∙ taken.process, told)

no_step_of_nobody : (step : Step) (last : State) → ¬ ReplaysTo 2 opening [] (step ∷ []) last
no_step_of_nobody step last h = h

no_pick_without_its_step : (last : State) → ¬ ReplaysTo 2 opening (3 ∷ []) [] last
no_pick_without_its_step last h = h

-- Replays
some_state_is_the_last : Replays 2 opening (3 ∷ []) (step_of 2 3 opening ∷ [])
some_state_is_the_last = (after 2 3 opening, one_step_of_place_3)

none_where_a_step_has_no_place : (step : Step) → ¬ Replays 2 opening [] (step ∷ [])
none_where_a_step_has_no_place step h = h.1
