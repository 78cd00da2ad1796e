-- Each step keeps the invariant, and a load finds a value that its word can hold.
use Rattle.std.proofs.Common.{◌≡◌, ◌≢◌, ℕ, ◌+◌, ◌-◌, ◌^◌, ◌<◌, ◌≤◌, ◌==◌, Bool, true, false, refl, arith, ap, sym, ◌∙◌}
use Rattle.std.proofs.Common.{subst, ◌⊎◌, inl, inr, if◌then◌else◌, IsTrue}
use Rattle.std.proofs.lemmas.Bool.Decides.{nat_tests}
use Rattle.ya_core.specs.declared.word.Word.{Word}
use Rattle.ya_core.specs.declared.word.Word.TheVariants.{C, T, P}
use Rattle.ya_core.specs.declared.process.EntryPoint.{EntryPoint}
use Rattle.ya_core.specs.declared.process.EntryPoint.TheVariants.{E1, E2, E3, E4, E5, E6, E7, E8, E9, E10}
use Rattle.ya_core.specs.declared.process.ExitPoint.{ExitPoint}
use Rattle.ya_core.specs.declared.process.ExitPoint.TheVariants.{X1, X2, X3}
use Rattle.ya_core.specs.declared.process.Process.{Process}
use Rattle.ya_core.specs.declared.process.Process.TheVariants.{Idle, Entering, Inside, Leaving}
use Rattle.ya_core.specs.ArbitrationTree.{node_of, side_of}
use Rattle.ya_core.specs.Steps.{State, StepsTo, Accesses, opening, value_of, access_of, entry_access, exit_access}
use Rattle.ya_core.specs.Steps.{next_of, entry_next, exit_next, after_entry, after_exit}
use Rattle.ya_core.specs.Soundness.{Phase, Away, Named, Holding, Releasing, LettingIn, has_announced, holds, is_releasing, phase_of}
use Rattle.ya_core.specs.Soundness.{phase_at, entry_phase, exit_phase, IsProper, IsSoundAt, IsOwedAt, IsSoundState}
use Rattle.ya_core.specs.WalkerModel.{MayFind, CanStand}
use Rattle.ya_core.specs.Worlds.{IsInside, is_inside}
use Rattle.ya_core.proofs.TreeSides.{node_below, node_of_place, node_of_root}
use Rattle.ya_core.proofs.Properness.{proper_next}
use Rattle.ya_core.proofs.PhaseKinds.{competes}
use Rattle.ya_core.proofs.Cases.{everywhere}
use Rattle.ya_core.proofs.LevelClauses.{level_stays, one_holds}
use Rattle.ya_core.proofs.Phases.{acts_at, phase_here, phase_below, phase_won, phase_after_exit, frame_phase}
use Rattle.ya_core.proofs.Phases.{access_level, words_stay, holds_below}
use Rattle.ya_core.proofs.WakeFrame.{owed_stays}
use Rattle.ya_core.proofs.LevelSteps.{act_claim, act_announce, act_clear, act_found, act_last, act_asleep, act_awake}
use Rattle.ya_core.proofs.LevelSteps.{act_wake, act_woken, act_waits, act_stay, act_let_in, act_give_up, act_release}
use Rattle.ya_core.proofs.LevelSteps.{act_see, act_win_unclaimed, act_win_other, act_win_let_in}

-- a number is 0 or not
zero_or : (n : ℕ) → (n ≡ 0) ⊎ (1 ≤ n)
zero_or n = grind arith

-- at most one place competes on a side of a node: it holds the node below, which one place at most holds
pub alone_at : (levels place level : ℕ) (s : State) → IsSoundState levels s → 1 ≤ level → level ≤ levels
    → (1 < level → IsTrue (holds (phase_of levels (level - 1) (s.processes place))))
    → (q : ℕ) → node_of level q ≡ node_of level place → side_of level q ≡ side_of level place
    → IsTrue (competes (phase_of levels level (s.processes q))) → q ≡ place
alone_at levels place level s is least most holding q nodes sides competing = cases (zero_or (level - 1))
  where
    nodes_below : node_of (level - 1) q ≡ node_of (level - 1) place
    nodes_below = node_below level q place least nodes sides

    cases : (level - 1 ≡ 0) ⊎ (1 ≤ level - 1) → q ≡ place
    cases (inl leaves) =
        let places : node_of 0 q ≡ node_of 0 place = subst (λ h. node_of h q ≡ node_of h place) leaves nodes_below in
        sym (node_of_place q) ∙ places ∙ node_of_place place
    cases (inr above) =
        one_holds (node_of (level - 1)) (side_of (level - 1)) (λ p. phase_of levels (level - 1) (s.processes p))
        (λ n d. s.words (C (level - 1) n d)) (λ n. s.words (T (level - 1) n))
        (λ p. s.words (P (level - 1) p)) (is.sound (level - 1) above (omega arith)) q place nodes_below
        (holds_below levels level (s.processes q) least most competing) (holding (omega arith))

-- each word of a sound level holds a value that it can hold
claim_stands : (levels level node side : ℕ) (s : State) → IsSoundAt levels s level
    → CanStand (C level node side) (s.words (C level node side))
claim_stands levels level node side s here = cases (zero_or (s.words (C level node side)))
  where
    cases : (s.words (C level node side) ≡ 0) ⊎ (1 ≤ s.words (C level node side))
        → CanStand (C level node side) (s.words (C level node side))
    cases (inl nil) = inl nil
    cases (inr some) =
        let owner = here.claimant node side (s.words (C level node side) - 1) (omega arith) in
        inr (some, owner.0, owner.1)

turn_stands : (levels level node : ℕ) (s : State) → IsSoundAt levels s level → s.words (T level node) ≢ 0
    → CanStand (T level node) (s.words (T level node))
turn_stands levels level node s here some = (omega arith, here.below node (s.words (T level node) - 1) (omega arith))

-- the phase of a process at the level that it has reached
entry_phase_here : (levels level place : ℕ) (s : State) (point : EntryPoint) → s.processes place ≡ Entering level point
    → phase_of levels level (s.processes place) ≡ entry_phase point
entry_phase_here levels level place s point e =
    ap (λ x. phase_of levels level x) e ∙ phase_here level (entry_phase point)

exit_phase_here : (levels level place : ℕ) (s : State) (point : ExitPoint) → s.processes place ≡ Leaving level point
    → phase_of levels level (s.processes place) ≡ exit_phase point
exit_phase_here levels level place s point e = ap (λ x. phase_of levels level x) e ∙ phase_here level (exit_phase point)

-- a load finds a value that its word can hold
finds_entry : (levels level place : ℕ) (s : State) (point : EntryPoint) → IsSoundAt levels s level
    → s.processes place ≡ Entering level point
    → MayFind (entry_access level place point) (value_of s.words (entry_access level place point))
finds_entry levels level place s E1 here e = tt
finds_entry levels level place s E2 here e = tt
finds_entry levels level place s E3 here e = tt
finds_entry levels level place s E4 here e =
    claim_stands levels level (node_of level place) (1 - side_of level place) s here
finds_entry levels level place s (E5 rival) here e =
    turn_stands levels level (node_of level place) s here
    (here.announced place (ap has_announced (entry_phase_here levels level place s (E5 rival) e)))
finds_entry levels level place s (E6 rival) here e = here.in_range rival
finds_entry levels level place s (E7 rival) here e = tt
finds_entry levels level place s E8 here e = here.in_range place
finds_entry levels level place s E9 here e =
    turn_stands levels level (node_of level place) s here
    (here.announced place (ap has_announced (entry_phase_here levels level place s E9 e)))
finds_entry levels level place s E10 here e = here.in_range place

finds_exit : (levels level place : ℕ) (s : State) (point : ExitPoint) → IsSoundAt levels s level
    → s.processes place ≡ Leaving level point
    → MayFind (exit_access level place point) (value_of s.words (exit_access level place point))
finds_exit levels level place s X1 here e = tt
finds_exit levels level place s X2 here e =
    turn_stands levels level (node_of level place) s here
    (here.releasing place (ap is_releasing (exit_phase_here levels level place s X2 e)))
finds_exit levels level place s (X3 rival) here e = tt

pub finds : (levels place : ℕ) (s : State) (x : Process) → IsSoundState levels s → s.processes place ≡ x
    → MayFind (access_of levels place x) (value_of s.words (access_of levels place x))
finds levels place s Idle is e = tt
finds levels place s (Entering level point) is e =
    let proper : IsProper levels place (Entering level point) = subst (IsProper levels place) e (is.proper place) in
    finds_entry levels level place s point (is.sound level proper.least proper.most) e
finds levels place s Inside is e = tt
finds levels place s (Leaving level point) is e =
    let proper : IsProper levels place (Leaving level point) = subst (IsProper levels place) e (is.proper place) in
    finds_exit levels level place s point (is.sound level proper.least proper.most) e

-- a fact that each branch of a choice gives
by_choice : (R : Type 0) (z x y : Process) (b : Bool) → z ≡ (if b then x else y) → (b ≡ true → z ≡ x → R)
    → (b ≡ false → z ≡ y → R) → R
by_choice R z x y true e p q = p refl e
by_choice R z x y false e p q = q refl e

module _ (levels place level : ℕ) (old new : State) (is : IsSoundState levels old) (least : 1 ≤ level)
    (most : level ≤ levels) (others : (q : ℕ) → q ≢ place → new.processes q ≡ old.processes q) where
  -- the phase of the place once it has stepped
  stands : (x : Process) (a : Phase) → new.processes place ≡ x → phase_of levels level x ≡ a
      → phase_of levels level (new.processes place) ≡ a
  stands x a now phase = ap (λ y. phase_of levels level y) now ∙ phase

  here : IsSoundAt levels old level
  here = is.sound level least most

  owed : IsOwedAt levels old level
  owed = is.owed level least most

  -- the level is sound after the step, and what is owed there is owed still
  abbrev IsKept : Type 0
  IsKept = IsSoundAt levels new level × IsOwedAt levels new level

  wins_it : new.processes place ≡ after_entry levels level → phase_of levels level (new.processes place) ≡ Holding
  wins_it now = stands (after_entry levels level) Holding now (phase_won levels level level most ∙ phase_here level Holding)

  leaves_it : new.processes place ≡ after_exit level → phase_of levels level (new.processes place) ≡ Away
  leaves_it now = stands (after_exit level) Away now (phase_after_exit levels level level least least ∙ phase_here level Away)

  -- no other place competes on the side of a place on its way in, or out
  abbrev IsAlone : Type 0
  IsAlone = (q : ℕ) → node_of level q ≡ node_of level place → side_of level q ≡ side_of level place
      → IsTrue (competes (phase_of levels level (old.processes q))) → q ≡ place

  alone_there : (a : Phase) → phase_of levels (level - 1) (old.processes place) ≡ phase_at (level - 1) level a → IsAlone
  alone_there a there =
      alone_at levels place level old is least most
      (λ more. ap holds (there ∙ phase_below (level - 1) level a (omega arith)))

  alone_in : (point : EntryPoint) → old.processes place ≡ Entering level point → IsAlone
  alone_in point e = alone_there (entry_phase point) (ap (λ x. phase_of levels (level - 1) x) e)

  alone_out : (point : ExitPoint) → old.processes place ≡ Leaving level point → IsAlone
  alone_out point e = alone_there (exit_phase point) (ap (λ x. phase_of levels (level - 1) x) e)

  -- the place comes to another point of the level
  comes : (point : EntryPoint) → new.processes place ≡ Entering level point
      → phase_of levels level (new.processes place) ≡ entry_phase point
  comes point now = stands (Entering level point) (entry_phase point) now (phase_here level (entry_phase point))

  -- a step on the way in keeps the level where it acts
  acts_entry : (point : EntryPoint) → old.processes place ≡ Entering level point
      → Accesses (entry_access level place point) old.words new.words
      → new.processes place ≡ entry_next levels level place point (value_of old.words (entry_access level place point))
      → IsKept
  acts_entry E1 e done now =
      act_claim levels place level old new here owed others (entry_phase_here levels level place old E1 e)
      (comes E2 now) done (alone_in E1 e)
  acts_entry E2 e done now =
      act_announce levels place level old new here owed others (entry_phase_here levels level place old E2 e)
      (comes E3 now) done (alone_in E2 e)
  acts_entry E3 e done now =
      act_clear levels place level old new here owed others (entry_phase_here levels level place old E3 e)
      (comes E4 now) done
  acts_entry E4 e done now =
      by_choice IsKept (new.processes place) (after_entry levels level)
      (Entering level (E5 (old.words (C level (node_of level place) (1 - side_of level place)) - 1))) _ now
      (λ nil won_now. act_win_unclaimed levels place level old new here owed others done
      (entry_phase_here levels level place old E4 e) (wins_it won_now) (grind (arith, nat_tests)))
      (λ some goes. found (old.words (C level (node_of level place) (1 - side_of level place)) - 1) goes
      (grind (arith, nat_tests)))
    where
      found : (rival : ℕ) → new.processes place ≡ Entering level (E5 rival)
          → old.words (C level (node_of level place) (1 - side_of level place)) ≡ rival + 1 → IsKept
      found rival goes word =
          act_found levels place level old new here owed others done rival
          (entry_phase_here levels level place old E4 e) (comes (E5 rival) goes) word
  acts_entry (E5 rival) e done now =
      by_choice IsKept (new.processes place) (Entering level (E6 rival)) (after_entry levels level) _ now
      (λ own goes. act_last levels place level old new here owed others done rival
      (entry_phase_here levels level place old (E5 rival) e) (comes (E6 rival) goes) (grind (arith, nat_tests)))
      (λ other won_now. act_win_other levels place level old new here owed others done (E5 rival)
      (entry_phase_here levels level place old (E5 rival) e) (wins_it won_now) (grind (arith, nat_tests)))
  acts_entry (E6 rival) e done now =
      by_choice IsKept (new.processes place) (Entering level (E7 rival)) (Entering level E8) _ now
      (λ zero goes. act_asleep levels place level old new here owed others done rival
      (entry_phase_here levels level place old (E6 rival) e) (comes (E7 rival) goes) (grind (arith, nat_tests)))
      (λ some goes. act_awake levels place level old new here owed others done rival
      (entry_phase_here levels level place old (E6 rival) e) (comes E8 goes) (grind (arith, nat_tests)))
  acts_entry (E7 rival) e done now =
      let proper : IsProper levels place (Entering level (E7 rival)) =
      subst (IsProper levels place) e (is.proper place) in
      act_wake levels place level old new here owed others rival (entry_phase_here levels level place old (E7 rival) e)
      (comes E8 now) proper.knows done
  acts_entry E8 e done now =
      by_choice IsKept (new.processes place) (Entering level E8) (Entering level E9) _ now
      (λ zero goes. act_stay levels place level old new here owed others done
      (comes E8 goes ∙ sym (entry_phase_here levels level place old E8 e)))
      (λ some goes. act_woken levels place level old new here owed others done
      (entry_phase_here levels level place old E8 e) (comes E9 goes) (grind (arith, nat_tests)))
  acts_entry E9 e done now =
      by_choice IsKept (new.processes place) (Entering level E10) (after_entry levels level) _ now
      (λ own goes. act_waits levels place level old new here owed others done
      (entry_phase_here levels level place old E9 e) (comes E10 goes) (grind (arith, nat_tests)))
      (λ other won_now. act_win_other levels place level old new here owed others done E9
      (entry_phase_here levels level place old E9 e) (wins_it won_now) (grind (arith, nat_tests)))
  acts_entry E10 e done now =
      by_choice IsKept (new.processes place) (after_entry levels level) (Entering level E10) _ now
      (λ two won_now. act_win_let_in levels place level old new here owed others done
      (entry_phase_here levels level place old E10 e) (wins_it won_now) (grind (arith, nat_tests)))
      (λ other goes. act_stay levels place level old new here owed others done
      (comes E10 goes ∙ sym (entry_phase_here levels level place old E10 e)))

  -- a step on the way out keeps the level where it acts
  acts_exit : (point : ExitPoint) → old.processes place ≡ Leaving level point
      → Accesses (exit_access level place point) old.words new.words
      → new.processes place ≡ exit_next level place point (value_of old.words (exit_access level place point)) → IsKept
  acts_exit X1 e done now =
      act_give_up levels place level old new here owed others (exit_phase_here levels level place old X1 e)
      (stands (Leaving level X2) Releasing now (phase_here level Releasing)) done
  acts_exit X2 e done now =
      by_choice IsKept (new.processes place) (after_exit level)
      (Leaving level (X3 (old.words (T level (node_of level place)) - 1))) _ now
      (λ own gone. act_release levels place level old new here owed others done
      (exit_phase_here levels level place old X2 e) (leaves_it gone) (grind (arith, nat_tests)))
      (λ other goes. act_see levels place level old new here owed others done
      (exit_phase_here levels level place old X2 e)
      (stands (Leaving level (X3 (old.words (T level (node_of level place)) - 1)))
      (LettingIn (old.words (T level (node_of level place)) - 1)) goes
      (phase_here level (LettingIn (old.words (T level (node_of level place)) - 1)))))
  acts_exit (X3 rival) e done now =
      let proper : IsProper levels place (Leaving level (X3 rival)) =
      subst (IsProper levels place) e (is.proper place) in
      act_let_in levels place level old new here owed others rival (exit_phase_here levels level place old (X3 rival) e)
      (leaves_it now) proper.knows.0 proper.knows.1 done (alone_out (X3 rival) e)

module _ (levels place : ℕ) (old new : State) (some : 1 ≤ levels) (is : IsSoundState levels old)
    (others : (q : ℕ) → q ≢ place → new.processes q ≡ old.processes q) where
  -- the level is sound, and what is owed there is owed
  abbrev IsWhole : ℕ → Type 0
  IsWhole level = IsSoundAt levels new level × IsOwedAt levels new level

  -- a step keeps the level where it acts
  acts : (x : Process) → old.processes place ≡ x → Accesses (access_of levels place x) old.words new.words
      → new.processes place ≡ next_of levels place x (value_of old.words (access_of levels place x))
      → IsWhole (acts_at levels x)
  acts Idle e done now =
      act_claim levels place 1 old new (is.sound 1 (omega arith) some) (is.owed 1 (omega arith) some) others
      (ap (λ y. phase_of levels 1 y) e) (ap (λ y. phase_of levels 1 y) now ∙ phase_here 1 Named) done
      (alone_at levels place 1 old is (omega arith) some (λ more. absurd (omega arith)))
  acts (Entering level point) e done now =
      let proper : IsProper levels place (Entering level point) = subst (IsProper levels place) e (is.proper place) in
      acts_entry levels place level old new is proper.least proper.most others point e done now
  acts Inside e done now =
      act_give_up levels place levels old new (is.sound levels some (omega arith))
      (is.owed levels some (omega arith)) others (ap (λ y. phase_of levels levels y) e ∙ phase_here levels Holding)
      (ap (λ y. phase_of levels levels y) now ∙ phase_here levels Releasing) done
  acts (Leaving level point) e done now =
      let proper : IsProper levels place (Leaving level point) = subst (IsProper levels place) e (is.proper place) in
      acts_exit levels place level old new is proper.least proper.most others point e done now

  -- and each other level
  rests : (x : Process) → old.processes place ≡ x → Accesses (access_of levels place x) old.words new.words
      → new.processes place ≡ next_of levels place x (value_of old.words (access_of levels place x))
      → (level : ℕ) → 1 ≤ level → level ≤ levels → level ≢ acts_at levels x → IsWhole level
  rests x e done now level least most apart = (
    level_stays (node_of level) (side_of level) before after (λ n d. old.words (C level n d))
        (λ n d. new.words (C level n d))
        (λ n. old.words (T level n)) (λ n. new.words (T level n)) (λ q. old.words (P level q))
        (λ q. new.words (P level q)) phases
        (λ n d. stay (C level n d) refl) (λ n. stay (T level n) refl) (λ q. stay (P level q) refl)
        (is.sound level least most),
    owed_stays (node_of level) (side_of level) before after (λ n. old.words (T level n)) (λ n. new.words (T level n))
        (λ q. old.words (P level q)) (λ q. new.words (P level q)) phases
        (λ n. stay (T level n) refl) (λ q. stay (P level q) refl) (is.owed level least most),
  )
    where
      before : ℕ → Phase
      before q = phase_of levels level (old.processes q)

      after : ℕ → Phase
      after q = phase_of levels level (new.processes q)

      stay : (word : Word) → Rattle.ya_core.proofs.Phases.level_of word ≡ level → new.words word ≡ old.words word
      stay word at =
          words_stay (access_of levels place x) old.words new.words done word
          (λ same. apart (sym at ∙ same ∙ access_level levels place x))

      phase_place : phase_of levels level (new.processes place) ≡ phase_of levels level (old.processes place)
      phase_place =
          ap (λ y. phase_of levels level y) now
          ∙ frame_phase levels level place x (value_of old.words (access_of levels place x)) some least
          (subst (IsProper levels place) e (is.proper place)) apart ∙ ap (λ y. phase_of levels level y) (sym e)

      phases : (q : ℕ) → phase_of levels level (new.processes q) ≡ phase_of levels level (old.processes q)
      phases =
          everywhere (λ q. phase_of levels level (new.processes q) ≡ phase_of levels level (old.processes q)) place
          phase_place (λ q apart. ap (λ y. phase_of levels level y) (others q apart))

  keeps_from : (x : Process) → place < 2 ^ levels → old.processes place ≡ x
      → Accesses (access_of levels place x) old.words new.words
      → new.processes place ≡ next_of levels place x (value_of old.words (access_of levels place x))
      → IsSoundState levels new
  keeps_from x in_tree e done now =
      record {
        proper = proper;
        sound = λ level least most. (whole level least most (level == acts_at levels x) refl).0;
        owed =
            λ level least most. (whole level least most (level == acts_at levels x) refl).1;
      }
    where
      proper : (q : ℕ) → IsProper levels q (new.processes q)
      proper =
          everywhere (λ q. IsProper levels q (new.processes q)) place
          (subst (IsProper levels place) (sym now)
          (proper_next levels place x (value_of old.words (access_of levels place x)) some in_tree
          (subst (IsProper levels place) e (is.proper place)) (finds levels place old x is e)))
          (λ q apart. subst (IsProper levels q) (sym (others q apart)) (is.proper q))

      whole : (level : ℕ) → 1 ≤ level → level ≤ levels → (b : Bool) → (level == acts_at levels x) ≡ b → IsWhole level
      whole level least most true one =
          subst IsWhole (let same : acts_at levels x ≡ level = grind (arith, nat_tests) in same) (acts x e done now)
      whole level least most false other = rests x e done now level least most (grind (arith, nat_tests))

-- each step keeps the invariant
pub keeps : (levels place : ℕ) (old new : State) → 1 ≤ levels → IsSoundState levels old → StepsTo levels place old new
    → IsSoundState levels new
keeps levels place old new some is step =
    keeps_from levels place old new some is step.others (old.processes place) step.in_tree refl step.words step.process

-- at the start the invariant holds
pub opens : (levels : ℕ) → IsSoundState levels opening
opens levels =
    record {
      proper = λ p. tt;
      sound = λ level least most.
          record {
            claimed = λ p h. cc;
            claimant = λ n s p h. absurd (omega arith);
            below = λ n p h. absurd (omega arith);
            announced = λ p h. absurd cc;
            releasing = λ p h. absurd cc;
            one_of_two = λ p q rivals hp hq. absurd cc;
            waiter = λ p q rivals hp hq. absurd cc;
            in_range = λ p. omega arith;
            let_in = λ p q rivals hp two hq. absurd cc;
          };
      owed = λ level least most p.
          record {
            unwoken = λ h zero. absurd cc;
            unreleased = λ h one. absurd cc;
            woken = λ h zero. absurd cc;
            owed_one = λ other h zero. absurd cc;
            has_two = λ other h. absurd cc;
            keeps_two = λ other h q rivals. absurd cc;
          };
    }

-- a process that is inside
pub is_inside_is : (x : Process) → IsTrue (is_inside x) → x ≡ Inside
is_inside_is Inside h = refl
is_inside_is Idle h = absurd cc
is_inside_is (Entering level point) h = absurd cc
is_inside_is (Leaving level point) h = absurd cc

-- two places that are inside are equal
pub excludes : (levels p q : ℕ) (s : State) → 1 ≤ levels → IsSoundState levels s → IsInside s p → IsInside s q → p ≡ q
excludes levels p q s some is hp hq =
    one_holds (node_of levels) (side_of levels) (λ p. phase_of levels levels (s.processes p))
    (λ n d. s.words (C levels n d)) (λ n. s.words (T levels n)) (λ p. s.words (P levels p))
    (is.sound levels some (omega arith)) p q
    (node_of_root levels p (place_in p hp) ∙ sym (node_of_root levels q (place_in q hq))) (holds_root p hp)
    (holds_root q hq)
  where
    place_in : (p : ℕ) → IsInside s p → p < 2 ^ levels
    place_in p h = subst (IsProper levels p) (is_inside_is (s.processes p) h) (is.proper p)

    holds_root : (p : ℕ) → IsInside s p → IsTrue (holds (phase_of levels levels (s.processes p)))
    holds_root p h =
        ap (λ x. holds (phase_of levels levels x)) (is_inside_is (s.processes p) h)
        ∙ ap holds (phase_here levels Holding)
