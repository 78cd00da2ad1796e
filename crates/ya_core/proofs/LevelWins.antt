-- A win of a level: the process before and after the step.
use Rattle.std.proofs.Common.{◌≡◌, ◌≢◌, ℕ, ◌+◌, ◌-◌, ◌==◌, ◌&&◌, not, Bool, true, false, nat_lt, refl, arith, ap, sym}
use Rattle.std.proofs.Common.{◌∙◌, ◌⊎◌, inl, inr, if◌then◌else◌, IsTrue}
use Rattle.std.proofs.lemmas.Bool.Decides.{nat_tests}
use Rattle.ya_core.specs.declared.process.EntryPoint.{EntryPoint}
use Rattle.ya_core.specs.declared.process.EntryPoint.TheVariants.{E1, E2, E3, E4, E5, E6, E7, E8, E9, E10}
use Rattle.ya_core.specs.declared.process.Process.{Process}
use Rattle.ya_core.specs.declared.process.Process.TheVariants.{Idle, Entering, Inside, Leaving}
use Rattle.ya_core.specs.ArbitrationTree.{node_of, side_of, AreRivals}
use Rattle.ya_core.specs.Steps.{next_of, after_entry, entry_next}
use Rattle.ya_core.specs.Soundness.{has_announced, holds, entry_phase}
use Rattle.ya_core.specs.Progress.{Announces, Wins, Neither, is_rival, is_win, is_entering, is_to_announce, event_kind}
use Rattle.ya_core.proofs.Cases.{each_point}
use Rattle.ya_core.proofs.Properness.{either}

-- on the way in a process waits on at the level, or wins it
pub data GoesIn (levels level : ℕ) (next : Process) : Type 0 where
  StaysIn : (point : EntryPoint) → next ≡ Entering level point → IsTrue (has_announced (entry_phase point))
      → GoesIn levels level next
  WinsIt : next ≡ after_entry levels level → GoesIn levels level next

pub goes_in : (levels level place : ℕ) (point : EntryPoint) (value : ℕ) → IsTrue (has_announced (entry_phase point))
    → GoesIn levels level (entry_next levels level place point value)
goes_in levels level place E1 value h = absurd cc
goes_in levels level place E2 value h = absurd cc
goes_in levels level place E3 value h = StaysIn E4 refl refl
goes_in levels level place E4 value h =
    either (GoesIn levels level) (value == 0) _ _ (λ _. WinsIt refl) (λ _. StaysIn (E5 (value - 1)) refl refl)
goes_in levels level place (E5 rival) value h =
    either (GoesIn levels level) (value == place + 1) _ _ (λ _. StaysIn (E6 rival) refl refl) (λ _. WinsIt refl)
goes_in levels level place (E6 rival) value h =
    either (GoesIn levels level) (value == 0) _ _ (λ _. StaysIn (E7 rival) refl refl) (λ _. StaysIn E8 refl refl)
goes_in levels level place (E7 rival) value h = StaysIn E8 refl refl
goes_in levels level place E8 value h =
    either (GoesIn levels level) (value == 0) _ _ (λ _. StaysIn E8 refl refl) (λ _. StaysIn E9 refl refl)
goes_in levels level place E9 value h =
    either (GoesIn levels level) (value == place + 1) _ _ (λ _. StaysIn E10 refl refl) (λ _. WinsIt refl)
goes_in levels level place E10 value h =
    either (GoesIn levels level) (value == 2) _ _ (λ _. WinsIt refl) (λ _. StaysIn E10 refl refl)

-- a process that won a level is not on its way in there
pub won_is_out : (levels level : ℕ) → is_entering level (after_entry levels level) ≡ false
won_is_out levels level =
    either (λ x. is_entering level x ≡ false) (nat_lt level levels) _ _ (λ _. grind (arith, nat_tests)) (λ _. refl)

pub entering_here : (level : ℕ) (point : EntryPoint) → is_entering level (Entering level point) ≡ true
entering_here level point = grind (arith, nat_tests)

-- a win of a level: the process waited there, and has won it
pub record HasWon (levels level : ℕ) (x next : Process) : Type 0 where
  pub point : EntryPoint
  pub was : x ≡ Entering level point
  pub past : IsTrue (has_announced (entry_phase point))
  pub waited : holds (entry_phase point) ≡ false
  pub now : next ≡ after_entry levels level

-- on the way in a process doesn't hold the node
not_held : (point : EntryPoint) → holds (entry_phase point) ≡ false
not_held =
    each_point (λ point. holds (entry_phase point) ≡ false) refl refl refl refl (λ rival. refl) (λ rival. refl)
    (λ rival. refl) refl refl refl

no_win : (b c : Bool) → (b ≡ true) ⊎ (c ≡ false)
    → IsTrue (is_win (if b then Announces else (if c then Wins else Neither))) → ⊥
no_win true c e h = cc
no_win false true (inl e) h = cc
no_win false true (inr e) h = cc
no_win false false e h = cc

pub wins_by : (levels level q : ℕ) (x : Process) (value : ℕ) → IsTrue (is_win (event_kind level x (next_of levels q x value)))
    → HasWon levels level x (next_of levels q x value)
wins_by levels level q Idle value h = absurd cc
wins_by levels level q Inside value h = absurd cc
wins_by levels level q (Leaving stands point) value h = absurd cc
wins_by levels level q (Entering stands point) value h = by_level (level == stands) refl
  where
    out : (point : EntryPoint) → (level == stands) ≡ false
        → (is_to_announce level (Entering stands point) ≡ true)
        ⊎ ((is_entering level (Entering stands point) && not
        (is_entering level (next_of levels q (Entering stands point) value))) ≡ false)
    out point e = inr (ap (λ b. b && not (is_entering level (next_of levels q (Entering stands point) value))) e)

    stays : (next : Process) → (level == stands) ≡ true → GoesIn levels stands next
        → IsTrue (is_win
        (if is_to_announce level (Entering stands point) then Announces
        else (if is_entering level (Entering stands point) && not (is_entering level next) then Wins else Neither)))
        → next ≡ after_entry levels stands
    stays next e (WinsIt now) k = now
    stays next e (StaysIn later now past) k =
        absurd (no_win (is_to_announce level (Entering stands point))
        (is_entering level (Entering stands point) && not (is_entering level next))
        (inr (not_both (is_entering level (Entering stands point)) (is_entering level next)
        (ap (is_entering level) now ∙ e))) k)
      where
        not_both : (b c : Bool) → c ≡ true → (b && not c) ≡ false
        not_both true c same = ap not same
        not_both false c same = refl

    by_point : (point : EntryPoint) → (level == stands) ≡ true
        → IsTrue (is_win (event_kind level (Entering stands point) (next_of levels q (Entering stands point) value)))
        → IsTrue (has_announced (entry_phase point))
    by_point E1 e k =
        absurd (no_win false (is_entering level (Entering stands E1) && not (is_entering level (Entering stands E2)))
        (inr (not_both (level == stands) e)) k)
      where
        not_both : (b : Bool) → b ≡ true → (b && not b) ≡ false
        not_both true same = refl
        not_both false same = refl
    by_point E2 e k =
        absurd (no_win (level == stands)
        (is_entering level (Entering stands E2) && not (is_entering level (Entering stands E3))) (inl e) k)
    by_point E3 e k = refl
    by_point E4 e k = refl
    by_point (E5 rival) e k = refl
    by_point (E6 rival) e k = refl
    by_point (E7 rival) e k = refl
    by_point E8 e k = refl
    by_point E9 e k = refl
    by_point E10 e k = refl

    by_level : (b : Bool) → (level == stands) ≡ b
        → HasWon levels level (Entering stands point) (next_of levels q (Entering stands point) value)
    by_level false e =
        absurd (no_win (is_to_announce level (Entering stands point))
        (is_entering level (Entering stands point) && not
        (is_entering level (next_of levels q (Entering stands point) value))) (out point e) h)
    by_level true e =
        let same : stands ≡ level = grind (arith, nat_tests) in
        let past = by_point point e h in
        record {
          point = point;
          was = ap (λ k. Entering k point) same;
          past = past;
          waited = not_held point;
          now = stays (next_of levels q (Entering stands point) value) e (goes_in levels stands q point value past) h
              ∙ ap (after_entry levels) same;
        }

-- two places are rivals if the test is true
pub rivals_by : (level place q : ℕ) → IsTrue (is_rival level place q) → AreRivals level place q
rivals_by level place q h =
    by_tests (node_of level q == node_of level place) (side_of level q == side_of level place) refl refl h
  where
    by_tests : (b d : Bool) → (node_of level q == node_of level place) ≡ b
        → (side_of level q == side_of level place) ≡ d → IsTrue (b && not d) → AreRivals level place q
    by_tests true false one two k = (
      let nodes : node_of level q ≡ node_of level place = grind (arith, nat_tests) in
          sym nodes,
      λ e. (let sides : side_of level q ≢ side_of level place = grind (arith, nat_tests) in sides) (sym e),
    )
    by_tests true true one two k = absurd cc
    by_tests false d one two k = absurd cc

-- no place is its own rival
pub no_own_rival : (level place : ℕ) → is_rival level place place ≡ false
no_own_rival level place =
    by_test (node_of level place == node_of level place) (side_of level place == side_of level place)
    (grind (arith, nat_tests))
  where
    by_test : (b d : Bool) → d ≡ true → (b && not d) ≡ false
    by_test true d e = ap not e
    by_test false d e = refl

pub both_of : (a b : Bool) → IsTrue (a && b) → IsTrue a × IsTrue b
both_of true true h = (refl, refl)
both_of true false h = absurd cc
both_of false b h = absurd cc
