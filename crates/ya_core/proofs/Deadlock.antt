-- If some place takes part, some place that takes part can go on: a place that is stuck at a node is owed a word by a
-- place that can step, or that is stuck higher up.
use Rattle.std.proofs.Common.{◌≡◌, ◌≢◌, ℕ, zero, suc, ◌+◌, ◌-◌, ◌^◌, ◌<◌, ◌≤◌, ◌==◌, Bool, true, false, nat_lt, refl}
use Rattle.std.proofs.Common.{arith, ap, sym, ◌∙◌, subst, ◌⊎◌, inl, inr, IsTrue, if◌then◌else◌}
use Rattle.std.proofs.lemmas.Bool.Decides.{nat_tests}
use Rattle.ya_core.specs.declared.word.Word.TheVariants.{C, T, P}
use Rattle.ya_core.specs.declared.process.EntryPoint.{EntryPoint}
use Rattle.ya_core.specs.declared.process.EntryPoint.TheVariants.{E1, E2, E3, E4, E5, E6, E7, E8, E9, E10}
use Rattle.ya_core.specs.declared.process.ExitPoint.TheVariants.{X1, X2, X3}
use Rattle.ya_core.specs.declared.process.Process.{Process}
use Rattle.ya_core.specs.declared.process.Process.TheVariants.{Idle, Entering, Inside, Leaving}
use Rattle.ya_core.specs.ArbitrationTree.{node_of, side_of}
use Rattle.ya_core.specs.Steps.{State, value_of, access_of, next_of, after_entry, after_exit}
use Rattle.ya_core.specs.Soundness.{Away, Holding, waits, awaits_wake, saw_itself_last, was_woken, awaits_release}
use Rattle.ya_core.specs.Soundness.{is_to_wake, phase_at, phase_of, entry_phase, IsProper, IsSoundState, IsOwed, SomeRival}
use Rattle.ya_core.specs.Progress.{SomeoneGoesOn}
use Rattle.ya_core.proofs.Properness.{either}
use Rattle.ya_core.proofs.PhaseKinds.{competes}
use Rattle.ya_core.proofs.PhaseKinds.{competes_unwoken, competes_unreleased}
use Rattle.ya_core.proofs.Phases.{phase_here, competes_at}
use Rattle.ya_core.proofs.Outcomes.{may_step}

-- a process that won a level is not on its way in there, and a process that left it is not on its way out at a
-- later point
pub won_elsewhere : (levels level : ℕ) (point : EntryPoint) → after_entry levels level ≢ Entering level point
won_elsewhere levels level point =
    either (λ x. x ≢ Entering level point) (nat_lt level levels) _ _
    (λ _ e. (let same : level + 1 ≡ level = cc in absurd (omega (arith, same)))) (λ _ e. cc)

left_elsewhere : (level : ℕ) (rival : ℕ) → (after_exit level ≢ Leaving level X2) × (after_exit level ≢ Leaving level (X3 rival))
left_elsewhere level rival = (
  either (λ x. x ≢ Leaving level X2) (nat_lt 1 level) _ _ (λ _ e. cc) (λ _ e. cc),
  either (λ x. x ≢ Leaving level (X3 rival)) (nat_lt 1 level) _ _ (λ _ e. cc) (λ _ e. cc),
)

-- a place that is to wake another at a level has reached that level, and doesn't sleep or wait to be let in
awake : (levels level place stands : ℕ) (point : EntryPoint)
    → IsTrue (is_to_wake place (phase_at level stands (entry_phase point)))
    → IsTrue (is_to_wake place (entry_phase point))
awake levels level place stands point h = cases (nat_lt level stands) (level == stands) h
  where
    cases : (b d : Bool) → IsTrue (is_to_wake place (if b then Holding else (if d then entry_phase point else Away)))
        → IsTrue (is_to_wake place (entry_phase point))
    cases true d k = absurd cc
    cases false true k = k
    cases false false k = absurd cc

-- the place is stuck at a level: it waits for a 1 or a 2 that isn't there
pub data IsStuck (s : State) (q level : ℕ) : Type 0 where
  Asleep : s.processes q ≡ Entering level E8 → s.words (P level q) ≡ 0 → IsStuck s q level
  Outside : s.processes q ≡ Entering level E10 → s.words (P level q) ≢ 2 → IsStuck s q level

module _ (levels : ℕ) (s : State) (some : 1 ≤ levels) (is : IsSoundState levels s) where
  -- a place that takes part is a place of the tree
  pub in_tree : (q : ℕ) (x : Process) → s.processes q ≡ x → x ≢ Idle → q < 2 ^ levels
  in_tree q Idle e busy = absurd (busy refl)
  in_tree q (Entering level point) e busy =
      (let proper : IsProper levels q (Entering level point) = subst (IsProper levels q) e (is.proper q) in
      proper).in_tree
  in_tree q Inside e busy = let proper : IsProper levels q Inside = subst (IsProper levels q) e (is.proper q) in proper
  in_tree q (Leaving level point) e busy =
      (let proper : IsProper levels q (Leaving level point) = subst (IsProper levels q) e (is.proper q) in
      proper).in_tree

  -- it goes on where its step leads elsewhere
  goes : (q : ℕ) (x : Process) → s.processes q ≡ x → x ≢ Idle
      → next_of levels q x (value_of s.words (access_of levels q x)) ≢ x → SomeoneGoesOn levels s
  goes q x e busy elsewhere =
      let next = may_step levels q s (in_tree q x e busy) in
      record {
        place = q;
        busy = λ idle. busy (sym e ∙ idle);
        after = next.0;
        step = next.1;
        goes_on = λ same. elsewhere
            (subst (λ y. next_of levels q y (value_of s.words (access_of levels q y)) ≡ y) e
            (sym next.1.process ∙ same));
      }

  -- a place that takes part goes on or is stuck
  goes_in : (q level : ℕ) (point : EntryPoint) → s.processes q ≡ Entering level point
      → SomeoneGoesOn levels s ⊎ ((level : ℕ) × IsStuck s q level)
  goes_in q level E1 e = inl (goes q (Entering level E1) e (λ i. cc) (λ i. cc))
  goes_in q level E2 e = inl (goes q (Entering level E2) e (λ i. cc) (λ i. cc))
  goes_in q level E3 e = inl (goes q (Entering level E3) e (λ i. cc) (λ i. cc))
  goes_in q level E4 e =
      inl (goes q (Entering level E4) e (λ i. cc)
      (either (λ x. x ≢ Entering level E4) (s.words (C level (node_of level q) (1 - side_of level q)) == 0) _ _
      (λ _. won_elsewhere levels level E4) (λ _ i. cc)))
  goes_in q level (E5 rival) e =
      inl (goes q (Entering level (E5 rival)) e (λ i. cc)
      (either (λ x. x ≢ Entering level (E5 rival)) (s.words (T level (node_of level q)) == q + 1) _ _ (λ _ i. cc)
      (λ _. won_elsewhere levels level (E5 rival))))
  goes_in q level (E6 rival) e =
      inl (goes q (Entering level (E6 rival)) e (λ i. cc)
      (either (λ x. x ≢ Entering level (E6 rival)) (s.words (P level rival) == 0) _ _ (λ _ i. cc) (λ _ i. cc)))
  goes_in q level (E7 rival) e = inl (goes q (Entering level (E7 rival)) e (λ i. cc) (λ i. cc))
  goes_in q level E8 e = cases (s.words (P level q) == 0) refl
    where
      cases : (b : Bool) → (s.words (P level q) == 0) ≡ b → SomeoneGoesOn levels s ⊎ ((level : ℕ) × IsStuck s q level)
      cases true asleep = inr (level, Asleep e (grind (arith, nat_tests)))
      cases false woken =
          inl (goes q (Entering level E8) e (λ i. cc)
          (either (λ x. x ≢ Entering level E8) (s.words (P level q) == 0) _ _
          (λ asleep. absurd (let both : true ≡ false = sym asleep ∙ woken in cc)) (λ _ i. cc)))
  goes_in q level E9 e =
      inl (goes q (Entering level E9) e (λ i. cc)
      (either (λ x. x ≢ Entering level E9) (s.words (T level (node_of level q)) == q + 1) _ _ (λ _ i. cc)
      (λ _. won_elsewhere levels level E9)))
  goes_in q level E10 e = cases (s.words (P level q) == 2) refl
    where
      cases : (b : Bool) → (s.words (P level q) == 2) ≡ b → SomeoneGoesOn levels s ⊎ ((level : ℕ) × IsStuck s q level)
      cases true let_in =
          inl (goes q (Entering level E10) e (λ i. cc)
          (either (λ x. x ≢ Entering level E10) (s.words (P level q) == 2) _ _ (λ _. won_elsewhere levels level E10)
          (λ out. absurd (let both : true ≡ false = sym let_in ∙ out in cc))))
      cases false out = inr (level, Outside e (grind (arith, nat_tests)))

  goes_or_stuck : (q : ℕ) (x : Process) → s.processes q ≡ x → x ≢ Idle
      → SomeoneGoesOn levels s ⊎ ((level : ℕ) × IsStuck s q level)
  goes_or_stuck q Idle e busy = absurd (busy refl)
  goes_or_stuck q (Entering level point) e busy = goes_in q level point e
  goes_or_stuck q Inside e busy = inl (goes q Inside e busy (λ i. cc))
  goes_or_stuck q (Leaving level X1) e busy = inl (goes q (Leaving level X1) e busy (λ i. cc))
  goes_or_stuck q (Leaving level X2) e busy =
      inl (goes q (Leaving level X2) e busy
      (either (λ x. x ≢ Leaving level X2) (s.words (T level (node_of level q)) == q + 1) _ _
      (λ _. (left_elsewhere level 0).0) (λ _ i. cc)))
  goes_or_stuck q (Leaving level (X3 rival)) e busy =
      inl (goes q (Leaving level (X3 rival)) e busy (left_elsewhere level rival).1)

  -- a place that takes part at a level isn't idle
  not_idle : (level q : ℕ) → IsTrue (competes (phase_of levels level (s.processes q))) → s.processes q ≢ Idle
  not_idle level q h idle =
      let away : IsTrue (competes (phase_of levels level Idle)) =
      subst (λ x. IsTrue (competes (phase_of levels level x))) idle h in cc

  -- a place that is stuck has reached a level of the tree, and waits there
  pub stuck_at : (q level : ℕ) → IsStuck s q level
      → (point : EntryPoint) × (s.processes q ≡ Entering level point) × (1 ≤ level) × (level ≤ levels)
  stuck_at q level (Asleep e none) =
      let proper : IsProper levels q (Entering level E8) = subst (IsProper levels q) e (is.proper q) in
      (E8, e, proper.least, proper.most)
  stuck_at q level (Outside e apart) =
      let proper : IsProper levels q (Entering level E10) = subst (IsProper levels q) e (is.proper q) in
      (E10, e, proper.least, proper.most)

  -- the words owed to a stuck place
  pub owed_to : (q level : ℕ) → IsStuck s q level
      → IsOwed (node_of level) (side_of level) (λ p. phase_of levels level (s.processes p)) (λ n. s.words (T level n))
      (λ p. s.words (P level p)) q
  owed_to q level stuck = let at = stuck_at q level stuck in is.owed level at.2 at.3 q

  pub phase_is : (q level : ℕ) (point : EntryPoint) → s.processes q ≡ Entering level point
      → phase_of levels level (s.processes q) ≡ entry_phase point
  phase_is q level point e = ap (λ x. phase_of levels level x) e ∙ phase_here level (entry_phase point)

  -- a stuck place is not to wake another
  pub never_wakes : (q level place other : ℕ) → IsStuck s q other
      → IsTrue (is_to_wake place (phase_of levels level (s.processes q))) → ⊥
  never_wakes q level place other (Asleep e none) h =
      let k : IsTrue (is_to_wake place (entry_phase E8)) =
      awake levels level place other E8 (subst (λ x. IsTrue (is_to_wake place (phase_of levels level x))) e h) in cc
  never_wakes q level place other (Outside e apart) h =
      let k : IsTrue (is_to_wake place (entry_phase E10)) =
      awake levels level place other E10 (subst (λ x. IsTrue (is_to_wake place (phase_of levels level x))) e h) in
      cc

  -- if another place announced itself last, a stuck place is owed a 1 by a rival that goes on
  first : (p level : ℕ) → IsStuck s p level → s.words (T level (node_of level p)) ≢ p + 1 → SomeoneGoesOn levels s
  first p level (Asleep e none) other =
      by_waker ((owed_to p level (Asleep e none)).owed_one other (ap saw_itself_last (phase_is p level E8 e)) none)
    where
      by_waker : SomeRival (node_of level) (side_of level) (λ q. phase_of levels level (s.processes q)) p (is_to_wake p)
          → SomeoneGoesOn levels s
      by_waker rival =
          cases (goes_or_stuck rival.0 (s.processes rival.0) refl
          (λ idle. (let k : IsTrue (is_to_wake p (phase_of levels level Idle)) = subst
          (λ x. IsTrue (is_to_wake p (phase_of levels level x))) idle rival.2 in cc)))
        where
          cases : SomeoneGoesOn levels s ⊎ ((other : ℕ) × IsStuck s rival.0 other) → SomeoneGoesOn levels s
          cases (inl goes_on) = goes_on
          cases (inr stuck) = absurd (never_wakes rival.0 level p stuck.0 stuck.1 rival.2)
  first p level (Outside e apart) other =
      absurd (apart ((owed_to p level (Outside e apart)).has_two other (ap awaits_release (phase_is p level E10 e))))

  -- a stuck place that announced itself last has a rival that takes part
  pub last : (p level : ℕ) → IsStuck s p level
      → SomeRival (node_of level) (side_of level) (λ q. phase_of levels level (s.processes q)) p competes
  last p level (Asleep e none) =
      let rival = (owed_to p level (Asleep e none)).unwoken (ap awaits_wake (phase_is p level E8 e)) none in (
        rival.0,
        rival.1,
        competes_unwoken (s.words (T level (node_of level p))) p
            (phase_of levels level (s.processes rival.0)) rival.2,
      )
  last p level (Outside e apart) =
      let owed = owed_to p level (Outside e apart) in
      let at = stuck_at p level (Outside e apart) in
      let woken : s.words (P level p) ≢ 0 = owed.woken (ap was_woken (phase_is p level E10 e)) in
      let range : s.words (P level p) ≤ 2 = (is.sound level at.2 at.3).in_range p in
      let single : s.words (P level p) ≡ 1 = grind (arith, woken, range, apart) in
      let rival = owed.unreleased (ap waits (phase_is p level E10 e)) single in (
        rival.0,
        rival.1,
        competes_unreleased (s.words (T level (node_of level p))) p
            (phase_of levels level (s.processes rival.0)) rival.2,
      )

  -- a rival that takes part and is stuck is stuck at this level or higher up
  stuck_above : (q level other : ℕ) → IsTrue (competes (phase_of levels level (s.processes q))) → IsStuck s q other
      → level ≤ other
  stuck_above q level other h (Asleep e none) =
      competes_at level other (entry_phase E8) (subst (λ x. IsTrue (competes (phase_of levels level x))) e h)
  stuck_above q level other h (Outside e apart) =
      competes_at level other (entry_phase E10) (subst (λ x. IsTrue (competes (phase_of levels level x))) e h)

  -- a stuck place has a rival that goes on, or that is stuck there and not last, or higher up
  one_up : (p level : ℕ) → IsStuck s p level
      → ((q other : ℕ) → level < other → other ≤ levels → IsStuck s q other → SomeoneGoesOn levels s)
      → SomeoneGoesOn levels s
  one_up p level stuck higher = by_turn (s.words (T level (node_of level p)) == p + 1) refl
    where
      by_turn : (b : Bool) → (s.words (T level (node_of level p)) == p + 1) ≡ b → SomeoneGoesOn levels s
      by_turn false other = first p level stuck (grind (arith, nat_tests))
      by_turn true own =
          let turn_is : s.words (T level (node_of level p)) ≡ p + 1 = grind (arith, nat_tests) in
          let rival = last p level stuck in
          by_rival turn_is rival.0 rival.1.0 rival.1.1 rival.2
          (goes_or_stuck rival.0 (s.processes rival.0) refl (not_idle level rival.0 rival.2))
        where
          by_rival : s.words (T level (node_of level p)) ≡ p + 1 → (q : ℕ) → node_of level p ≡ node_of level q
              → side_of level p ≢ side_of level q → IsTrue (competes (phase_of levels level (s.processes q)))
              → SomeoneGoesOn levels s ⊎ ((other : ℕ) × IsStuck s q other) → SomeoneGoesOn levels s
          by_rival turn_is q nodes sides h (inl goes_on) = goes_on
          by_rival turn_is q nodes sides h (inr above) = by_level above.0 above.1 (above.0 == level) refl
            where
              by_level : (other : ℕ) → IsStuck s q other → (b : Bool) → (other == level) ≡ b → SomeoneGoesOn levels s
              by_level other still true one =
                  let same : other ≡ level = grind (arith, nat_tests) in
                  first q level (subst (IsStuck s q) same still)
                  (λ own_turn. sides
                  (ap (side_of level)
                  (let two : q + 1 ≡ p + 1 = sym own_turn ∙ ap (λ n. s.words (T level n)) (sym nodes) ∙ turn_is in
                  let one : p ≡ q = omega (arith, two) in one)))
              by_level other still false one =
                  let apart : other ≢ level = grind (arith, nat_tests) in
                  let up : level ≤ other = stuck_above q level other h still in
                  higher q other (grind (arith, apart, up)) (stuck_at q other still).3 still

  -- by induction on the number of levels above
  frees : (above p level : ℕ) → levels ≤ level + above → IsStuck s p level → SomeoneGoesOn levels s
  frees zero p level enough stuck =
      one_up p level stuck (λ q other more most still. absurd (omega (arith, enough, most, more)))
  frees (suc n) p level enough stuck =
      one_up p level stuck (λ q other more most still. frees n q other (omega (arith, enough, more)) still)

  -- if some place takes part, some place that takes part goes on
  pub someone_goes_on : (place : ℕ) → s.processes place ≢ Idle → SomeoneGoesOn levels s
  someone_goes_on place busy = cases (goes_or_stuck place (s.processes place) refl busy)
    where
      cases : SomeoneGoesOn levels s ⊎ ((level : ℕ) × IsStuck s place level) → SomeoneGoesOn levels s
      cases (inl goes_on) = goes_on
      cases (inr stuck) = frees levels place stuck.0 (omega arith) stuck.1
