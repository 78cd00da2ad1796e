-- Examples of the invariant.
use Rattle.std.proofs.Common.{◌≡◌, ℕ, zero, true, false, List, [], ◌∷◌}
use Rattle.std.proofs.Common.{map, refl, ap, arith}
use Rattle.ya_core.specs.declared.process.EntryPoint.TheVariants.{E1, E2, E3, E4, E5, E6, E7, E8, E9, E10}
use Rattle.ya_core.specs.declared.process.ExitPoint.TheVariants.{X1, X2, X3}
use Rattle.ya_core.specs.declared.process.Process.{Process}
use Rattle.ya_core.specs.declared.process.Process.TheVariants.{Idle, Entering, Inside, Leaving}
use Rattle.ya_core.specs.ArbitrationTree.{node_of, side_of, Rivals}
use Rattle.ya_core.specs.Steps.{opening}
use Rattle.ya_core.specs.Soundness.{Phase, Away, Named, Announced, Waiting, Holding, Releasing, LettingIn, entry_phase, exit_phase, phase_at, phase_of}
use Rattle.ya_core.specs.Soundness.{claims, has_announced, waits, holds, is_releasing, awaits_wake, saw_itself_last, was_woken, awaits_release, is_to_wake}
use Rattle.ya_core.specs.Soundness.{wakes_next, is_to_let_in, IsSoundLevel, SomeRival, IsOwed, IsSoundAt, EntryIsProper, ExitIsProper}
use Rattle.ya_core.specs.Soundness.{IsOnItsWay, IsProper, IsSoundState}

-- entry_phase
the_phases_of_the_way_in :
    map entry_phase (E1 ∷ E2 ∷ E3 ∷ E4 ∷ E5 1 ∷ E10 ∷ []) ≡ Away ∷ Named ∷ Announced ∷ Waiting E4 ∷ Waiting (E5 1) ∷ Waiting E10 ∷ []
the_phases_of_the_way_in = refl

-- exit_phase
the_phases_of_the_way_out : map exit_phase (X1 ∷ X2 ∷ X3 1 ∷ []) ≡ Holding ∷ Releasing ∷ LettingIn 1 ∷ []
the_phases_of_the_way_out = refl

-- phase_at
below_at_and_above_the_level : map (λ (level : ℕ). phase_at level 2 Named) (1 ∷ 2 ∷ 3 ∷ []) ≡ Holding ∷ Named ∷ Away ∷ []
below_at_and_above_the_level = refl

-- phase_of
at_level_1_to_4_of_three :
    map (λ (process : Process). map (λ (level : ℕ). phase_of 3 level process) (1 ∷ 2 ∷ 3 ∷ 4 ∷ []))
    (Idle ∷ Entering 2 E2 ∷ Inside ∷ Leaving 2 X2 ∷ [])
    ≡ (Away ∷ Away ∷ Away ∷ Away ∷ []) ∷ (Holding ∷ Named ∷ Away ∷ Away ∷ [])
    ∷ (Holding ∷ Holding ∷ Holding ∷ Away ∷ []) ∷ (Holding ∷ Releasing ∷ Away ∷ Away ∷ []) ∷ []
at_level_1_to_4_of_three = refl

-- every phase, with rival 3 if the phase has a rival
abbrev phases : List Phase
phases =
    Away ∷ Named ∷ Announced ∷ Waiting E4 ∷ Waiting (E5 3) ∷ Waiting (E6 3) ∷ Waiting (E7 3) ∷ Waiting E8 ∷ Waiting E9 ∷ Waiting E10
    ∷ Holding ∷ Releasing ∷ LettingIn 3 ∷ []

-- claims
from_named_until_it_gives_up :
    map claims phases
    ≡ false ∷ true ∷ true ∷ true ∷ true ∷ true ∷ true ∷ true ∷ true ∷ true ∷ true ∷ false ∷ false ∷ []
from_named_until_it_gives_up = refl

-- has_announced
from_announced_until_it_gives_up :
    map has_announced phases
    ≡ false ∷ false ∷ true ∷ true ∷ true ∷ true ∷ true ∷ true ∷ true ∷ true ∷ true ∷ false ∷ false ∷ []
from_announced_until_it_gives_up = refl

-- waits
from_e4_to_e10 :
    map waits phases
    ≡ false ∷ false ∷ false ∷ true ∷ true ∷ true ∷ true ∷ true ∷ true ∷ true ∷ false ∷ false ∷ false ∷ []
from_e4_to_e10 = refl

-- holds
one_phase_holds :
    map holds phases
    ≡ false ∷ false ∷ false ∷ false ∷ false ∷ false ∷ false ∷ false ∷ false ∷ false ∷ true ∷ false ∷ false ∷ []
one_phase_holds = refl

-- is_releasing
one_phase_releases :
    map is_releasing phases
    ≡ false ∷ false ∷ false ∷ false ∷ false ∷ false ∷ false ∷ false ∷ false ∷ false ∷ false ∷ true ∷ false ∷ []
one_phase_releases = refl

-- awaits_wake
from_e5_to_e8 :
    map awaits_wake phases
    ≡ false ∷ false ∷ false ∷ false ∷ true ∷ true ∷ true ∷ true ∷ false ∷ false ∷ false ∷ false ∷ false ∷ []
from_e5_to_e8 = refl

-- saw_itself_last
from_e6_to_e8 :
    map saw_itself_last phases
    ≡ false ∷ false ∷ false ∷ false ∷ false ∷ true ∷ true ∷ true ∷ false ∷ false ∷ false ∷ false ∷ false ∷ []
from_e6_to_e8 = refl

-- was_woken
at_e9_and_e10 :
    map was_woken phases
    ≡ false ∷ false ∷ false ∷ false ∷ false ∷ false ∷ false ∷ false ∷ true ∷ true ∷ false ∷ false ∷ false ∷ []
at_e9_and_e10 = refl

-- awaits_release
at_e10 :
    map awaits_release phases
    ≡ false ∷ false ∷ false ∷ false ∷ false ∷ false ∷ false ∷ false ∷ false ∷ true ∷ false ∷ false ∷ false ∷ []
at_e10 = refl

-- is_to_wake
from_e3_to_e7_its_rival :
    map (is_to_wake 3) phases
    ≡ false ∷ false ∷ true ∷ true ∷ true ∷ true ∷ true ∷ false ∷ false ∷ false ∷ false ∷ false ∷ false ∷ []
from_e3_to_e7_its_rival = refl

while_it_looks_anyone :
    map (is_to_wake 4) phases
    ≡ false ∷ false ∷ true ∷ true ∷ false ∷ false ∷ false ∷ false ∷ false ∷ false ∷ false ∷ false ∷ false ∷ []
while_it_looks_anyone = refl

-- wakes_next
at_e7_its_rival :
    map (wakes_next 3) phases
    ≡ false ∷ false ∷ false ∷ false ∷ false ∷ false ∷ true ∷ false ∷ false ∷ false ∷ false ∷ false ∷ false ∷ []
at_e7_its_rival = refl

nobody_else : wakes_next 4 (Waiting (E7 3)) ≡ false
nobody_else = refl

-- is_to_let_in
whom_the_word_T_names_or_it_has_found :
    map (is_to_let_in 4 3) phases
    ≡ false ∷ false ∷ false ∷ false ∷ false ∷ false ∷ false ∷ false ∷ false ∷ false ∷ false ∷ true ∷ true ∷ []
whom_the_word_T_names_or_it_has_found = refl

whom_it_has_found_alone :
    (map (is_to_let_in 0 3) (Releasing ∷ LettingIn 3 ∷ []) ≡ false ∷ true ∷ [])
    × (map (is_to_let_in 5 4) (Releasing ∷ LettingIn 3 ∷ []) ≡ true ∷ false ∷ [])
whom_it_has_found_alone = (refl, refl)

-- IsSoundLevel
no_level_that_two_rivals_hold :
    (node side : ℕ → ℕ) (claim : ℕ → ℕ → ℕ) (turn spin : ℕ → ℕ) → Rivals node side 4 5 → Rivals node side 5 4
    → ¬ IsSoundLevel node side (λ place. Holding) claim turn spin
no_level_that_two_rivals_hold node side claim turn spin rivals back h =
    let last : turn (node 4) ≡ 6 = h.waiter 4 5 rivals refl refl in
    let first : turn (node 5) ≡ 5 = h.waiter 5 4 back refl refl in
    let same : turn (node 4) ≡ turn (node 5) = ap turn rivals.0 in omega (arith, last, first, same)

where_all_are_away_all_words_may_be_0 : (node side : ℕ → ℕ) → IsSoundLevel node side (λ place. Away) (λ n s. 0) (λ n. 0) (λ place. 0)
where_all_are_away_all_words_may_be_0 node side = record {
  claimed = λ p claims. cc;
  claimant = λ n s p named. absurd (omega (arith, named));
  below = λ n p named. omega (arith, named);
  announced = λ p has. cc;
  releasing = λ p is. cc;
  one_of_two = λ p q rivals one other. cc;
  waiter = λ p q rivals one other. cc;
  in_range = λ p. omega arith;
  let_in = λ p q rivals waits two other. cc;
}

-- SomeRival
one_that_holds : SomeRival (node_of 1) (side_of 1) (λ place. Holding) 4 holds
unfolding node_of side_of
one_that_holds = (5, (refl, λ same. cc), refl)

none_where_all_are_away : ¬ SomeRival (node_of 1) (side_of 1) (λ place. Away) 4 holds
none_where_all_are_away h = let holds_it = h.2 in cc

none_on_its_own_side : ¬ SomeRival (λ place. 0) (λ place. 0) (λ place. Holding) 4 holds
none_on_its_own_side h = h.1.1 refl

-- IsOwed
nothing_is_owed_to_one_that_is_away : (node side turn spin : ℕ → ℕ) → IsOwed node side (λ place. Away) turn spin 4
nothing_is_owed_to_one_that_is_away node side turn spin = record {
  unwoken = λ awaits zero. cc;
  unreleased = λ awaits one. cc;
  woken = λ woken. cc;
  owed_one = λ other saw zero. cc;
  has_two = λ other awaits. cc;
  keeps_two = λ other awaits q rivals. refl;
}

-- EntryIsProper
it_knows_its_rival : EntryIsProper 1 4 (E5 5) × EntryIsProper 1 4 (E6 5) × EntryIsProper 1 4 (E7 5) × EntryIsProper 1 4 E4
unfolding node_of side_of
it_knows_its_rival = ((refl, λ same. cc), (refl, λ same. cc), (refl, λ same. cc), tt)

it_does_not_take_itself_for_one : (¬ EntryIsProper 1 4 (E5 4)) × (¬ EntryIsProper 1 4 (E6 4)) × (¬ EntryIsProper 1 4 (E7 4))
it_does_not_take_itself_for_one = (λ h. h.1 refl, λ h. h.1 refl, λ h. h.1 refl)

-- ExitIsProper
on_its_way_out_it_may_find_one_of_its_own_side : ExitIsProper 2 4 (X3 5) × ExitIsProper 1 4 (X3 5) × ExitIsProper 1 4 X1 × ExitIsProper 1 4 X2
unfolding node_of side_of
on_its_way_out_it_may_find_one_of_its_own_side = ((refl, λ same. cc), (refl, λ same. cc), tt, tt)

not_one_of_another : ¬ ExitIsProper 1 4 (X3 6)
unfolding node_of side_of
not_one_of_another h = let node = h.0 in cc

nor_itself : ¬ ExitIsProper 1 4 (X3 4)
nor_itself h = h.1 refl

-- IsOnItsWay
at_the_first_level_and_at_the_last : IsOnItsWay 3 0 1 (Unit {0}) × IsOnItsWay 3 7 3 (Unit {0})
at_the_first_level_and_at_the_last = (
  record { in_tree = omega arith; least = omega arith; most = omega arith; knows = tt },
  record { in_tree = omega arith; least = omega arith; most = omega arith; knows = tt },
)

not_outside_of_the_tree : (¬ IsOnItsWay 3 8 1 (Unit {0})) × (¬ IsOnItsWay 3 7 0 (Unit {0})) × (¬ IsOnItsWay 3 7 4 (Unit {0}))
not_outside_of_the_tree = (λ h. omega (arith, h.in_tree), λ h. omega (arith, h.least), λ h. omega (arith, h.most))

not_where_what_it_knows_is_false : ¬ IsOnItsWay 3 7 3 ⊥
not_where_what_it_knows_is_false h = h.knows

-- IsProper
anyone_may_be_idle_and_a_place_of_the_tree_inside : IsProper 3 9 Idle × IsProper 3 7 Inside
anyone_may_be_idle_and_a_place_of_the_tree_inside = (tt, omega arith)

with_its_rival : IsProper 3 4 (Entering 1 (E5 5)) × IsProper 3 4 (Leaving 2 (X3 5))
unfolding node_of side_of
with_its_rival = (
  record { in_tree = omega arith; least = omega arith; most = omega arith; knows = (refl, λ same. cc) },
  record { in_tree = omega arith; least = omega arith; most = omega arith; knows = (refl, λ same. cc) },
)

no_place_8_of_three_levels : (¬ IsProper 3 8 Inside) × (¬ IsProper 3 8 (Entering 1 E1)) × (¬ IsProper 3 8 (Leaving 1 X1))
no_place_8_of_three_levels = (λ h. omega (arith, h), λ h. omega (arith, h.in_tree), λ h. omega (arith, h.in_tree))

not_with_itself : (¬ IsProper 3 4 (Entering 1 (E5 4))) × (¬ IsProper 3 4 (Leaving 2 (X3 4)))
not_with_itself = (λ h. h.knows.1 refl, λ h. h.knows.1 refl)

-- IsSoundAt
nobody_has_claimed_a_node_at_the_start : IsSoundAt 2 opening 1
nobody_has_claimed_a_node_at_the_start = record {
  claimed = λ p claims. cc;
  claimant = λ n s p named. absurd (omega (arith, named));
  below = λ n p named. omega (arith, named);
  announced = λ p has. cc;
  releasing = λ p is. cc;
  one_of_two = λ p q rivals one other. cc;
  waiter = λ p q rivals one other. cc;
  in_range = λ p. omega arith;
  let_in = λ p q rivals waits two other. cc;
}

-- IsSoundState
the_start_is_sound : IsSoundState 2 opening
the_start_is_sound = record {
  proper = λ p. tt;
  sound = λ level least most. record {
    claimed = λ p claims. cc;
    claimant = λ n s p named. absurd (omega (arith, named));
    below = λ n p named. omega (arith, named);
    announced = λ p has. cc;
    releasing = λ p is. cc;
    one_of_two = λ p q rivals one other. cc;
    waiter = λ p q rivals one other. cc;
    in_range = λ p. omega arith;
    let_in = λ p q rivals waits two other. cc;
  };
  owed = λ level least most p. record {
    unwoken = λ awaits zero. cc;
    unreleased = λ awaits one. cc;
    woken = λ woken. cc;
    owed_one = λ other saw zero. cc;
    has_two = λ other awaits. cc;
    keeps_two = λ other awaits q rivals. refl;
  };
}
