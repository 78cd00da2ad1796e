-- Two places at a node, one of them stuck: the other is the only rival that competes there, is not stuck itself, and
-- stays the only one until the owed word arrives.
use Rattle.std.proofs.Common.{◌≡◌, ◌≢◌, ℕ, ◌+◌, ◌-◌, ◌<◌, ◌≤◌, ◌==◌, Bool, true, false, refl, arith, ap, sym, ◌∙◌}
use Rattle.std.proofs.Common.{subst, ◌⊎◌, inl, inr, IsTrue, if◌then◌else◌}
use Rattle.std.proofs.lemmas.Bool.Decides.{nat_tests}
use Rattle.ya_core.specs.declared.word.Word.TheVariants.{C, T, P}
use Rattle.ya_core.specs.declared.word.Access.TheVariants.{Store}
use Rattle.ya_core.specs.declared.process.EntryPoint.{EntryPoint}
use Rattle.ya_core.specs.declared.process.EntryPoint.TheVariants.{E1, E2, E3, E4, E5, E6, E7, E8, E9, E10}
use Rattle.ya_core.specs.declared.process.ExitPoint.TheVariants.{X1, X2, X3}
use Rattle.ya_core.specs.declared.process.Process.{Process}
use Rattle.ya_core.specs.declared.process.Process.TheVariants.{Idle, Entering, Inside, Leaving}
use Rattle.ya_core.specs.ArbitrationTree.{node_of, side_of, AreRivals}
use Rattle.ya_core.specs.Steps.{State, StepsTo, Accesses, value_of, access_of, next_of, after_entry}
use Rattle.ya_core.specs.Soundness.{Phase, claims, has_announced, waits, holds, awaits_release, saw_itself_last, is_to_wake}
use Rattle.ya_core.specs.Soundness.{wakes_next, phase_of, entry_phase, IsProper, IsSoundState, SomeRival}
use Rattle.ya_core.specs.WalkerModel.{is_waiting, MayFind, due_of, MayBeTold}
use Rattle.ya_core.specs.inside.Ahead.{points_of}
use Rattle.ya_core.proofs.TreeSides.{side_below}
use Rattle.ya_core.proofs.PhaseKinds.{by_phases, competes}
use Rattle.ya_core.proofs.LevelClauses.{one_a_side}
use Rattle.ya_core.proofs.Phases.{acts_at, frame_phase, holds_below}
use Rattle.ya_core.proofs.Invariant.{alone_at, finds}
use Rattle.ya_core.proofs.Deadlock.{IsStuck, Asleep, Outside, stuck_at, owed_to, phase_is, never_wakes, last}
use Rattle.ya_core.proofs.Deadlock.{won_elsewhere}
use Rattle.ya_core.proofs.Counting.{nearer}

-- a store in a word P changes no other word P
spin_stored : (old new : State) (h q v level p : ℕ) → Accesses (Store (P h q) v) old.words new.words
    → (new.words (P level p) ≡ old.words (P level p)) ⊎ ((h ≡ level) × (q ≡ p) × (new.words (P level p) ≡ v))
spin_stored old new h q v level p done = cases (h == level) (q == p) refl refl
  where
    cases : (b d : Bool) → (h == level) ≡ b → (q == p) ≡ d
        → (new.words (P level p) ≡ old.words (P level p)) ⊎ ((h ≡ level) × (q ≡ p) × (new.words (P level p) ≡ v))
    cases true true one two =
        let levels_same : h ≡ level = grind (arith, nat_tests) in
        let places_same : q ≡ p = grind (arith, nat_tests) in
        inr (
          levels_same,
          places_same,
          subst (λ k. new.words (P k p) ≡ v) levels_same (subst (λ k. new.words (P h k) ≡ v) places_same done.0),
        )
    cases false d one two =
        inl (done.1 (P level p) (λ e. (let apart : h ≢ level = grind (arith, nat_tests) in apart) cc))
    cases true false one two =
        inl (done.1 (P level p) (λ e. (let apart : q ≢ p = grind (arith, nat_tests) in apart) cc))

-- the step of another place leaves a spin word, stores 2 in it, or wakes its place
abbrev SpinAfter : State → State → (r level p : ℕ) → Type 0
SpinAfter old new r level p =
    (new.words (P level p) ≡ old.words (P level p))
    ⊎ ((new.words (P level p) ≡ 2) ⊎ ((new.words (P level p) ≡ 1) × (old.processes r ≡ Entering level (E7 p))))

spin_after : (levels : ℕ) (old new : State) (r level p : ℕ) → r ≢ p → StepsTo levels r old new
    → SpinAfter old new r level p
spin_after levels old new r level p apart step =
    by_process (old.processes r) refl step.words
  where
    by_process : (x : Process) → old.processes r ≡ x → Accesses (access_of levels r x) old.words new.words
        → SpinAfter old new r level p
    by_process Idle e done = inl (done.1 (P level p) (λ e. cc))
    by_process Inside e done = inl (done.1 (P level p) (λ e. cc))
    by_process (Entering h E1) e done = inl (done.1 (P level p) (λ e. cc))
    by_process (Entering h E2) e done = inl (done.1 (P level p) (λ e. cc))
    by_process (Entering h E3) e done = inl (done.1 (P level p) (λ same. apart (let one : r ≡ p = cc in one)))
    by_process (Entering h E4) e done = inl (done (P level p))
    by_process (Entering h (E5 rival)) e done = inl (done (P level p))
    by_process (Entering h (E6 rival)) e done = inl (done (P level p))
    by_process (Entering h (E7 rival)) e done = by_store (spin_stored old new h rival 1 level p done)
      where
        by_store : (new.words (P level p) ≡ old.words (P level p))
            ⊎ ((h ≡ level) × (rival ≡ p) × (new.words (P level p) ≡ 1)) → SpinAfter old new r level p
        by_store (inl same) = inl same
        by_store (inr stored) = inr (inr (stored.2, (let one = stored.0 in let two = stored.1 in cc)))
    by_process (Entering h E8) e done = inl (done (P level p))
    by_process (Entering h E9) e done = inl (done (P level p))
    by_process (Entering h E10) e done = inl (done (P level p))
    by_process (Leaving h X1) e done = inl (done.1 (P level p) (λ e. cc))
    by_process (Leaving h X2) e done = inl (done (P level p))
    by_process (Leaving h (X3 rival)) e done = by_store (spin_stored old new h rival 2 level p done)
      where
        by_store : (new.words (P level p) ≡ old.words (P level p))
            ⊎ ((h ≡ level) × (rival ≡ p) × (new.words (P level p) ≡ 2)) → SpinAfter old new r level p
        by_store (inl same) = inl same
        by_store (inr stored) = inr (inl stored.2)

-- a value that an access may find may complete that access after the process was begun
told : (levels place : ℕ) (x : Process) (value : ℕ) → MayFind (access_of levels place x) value
    → MayBeTold (due_of levels place x true) value
told levels place Idle value found = found
told levels place (Entering level point) value found = found
told levels place Inside value found = found
told levels place (Leaving level point) value found = found

-- so the due step takes its place nearer to its goal, or leaves it waiting
may_come_nearer : (levels place : ℕ) (s : State) → 1 ≤ levels → IsSoundState levels s
    → (points_of levels (next_of levels place (s.processes place)
    (value_of s.words (access_of levels place (s.processes place)))) false < points_of levels (s.processes place) true)
    ⊎ (IsTrue (is_waiting (s.processes place)) × (next_of levels place (s.processes place)
    (value_of s.words (access_of levels place (s.processes place))) ≡ s.processes place))
may_come_nearer levels place s some is =
    nearer levels place (s.processes place) true (value_of s.words (access_of levels place (s.processes place))) some
    (is.proper place)
    (told levels place (s.processes place) (value_of s.words (access_of levels place (s.processes place)))
    (finds levels place s (s.processes place) is refl))

-- a phase that is to wake another claims
claims_is_to_wake : (p : ℕ) (x : Phase) → IsTrue (is_to_wake p x) → IsTrue (claims x)
claims_is_to_wake p = by_phases (is_to_wake p) claims refl refl refl (λ point. refl) refl refl (λ rival. refl)

-- a place is stuck at the level that it has reached
pub stuck_level : (s : State) (p l level : ℕ) (point : EntryPoint) → s.processes p ≡ Entering level point → IsStuck s p l
    → l ≡ level
stuck_level s p l level point e (Asleep at none) = let both = sym at ∙ e in cc
stuck_level s p l level point e (Outside at apart) = let both = sym at ∙ e in cc

module _ (levels : ℕ) (some : 1 ≤ levels) (s : State) (is : IsSoundState levels s) where
  -- the step of a stuck place changes nothing
  stays : (p level : ℕ) → IsStuck s p level
      → next_of levels p (s.processes p) (value_of s.words (access_of levels p (s.processes p))) ≡ s.processes p
  stays p level (Asleep e none) =
      subst (λ x. next_of levels p x (value_of s.words (access_of levels p x)) ≡ x) (sym e)
      (ap (λ b. if b then Entering level E8 else Entering level E9)
      (let asleep : (s.words (P level p) == 0) ≡ true = grind (arith, nat_tests, none) in asleep))
  stays p level (Outside e apart) =
      subst (λ x. next_of levels p x (value_of s.words (access_of levels p x)) ≡ x) (sym e)
      (ap (λ b. if b then after_entry levels level else Entering level E10)
      (let out : (s.words (P level p) == 2) ≡ false = grind (arith, nat_tests, apart) in out))

  -- a place is stuck, or its step comes nearer to its goal
  pub nearer_or_stuck : (p : ℕ)
      → (points_of levels (next_of levels p (s.processes p)
      (value_of s.words (access_of levels p (s.processes p)))) false < points_of levels (s.processes p) true)
      ⊎ ((level : ℕ) × IsStuck s p level)
  nearer_or_stuck p = by_step (may_come_nearer levels p s some is)
    where
      by_process : (x : Process) → s.processes p ≡ x → IsTrue (is_waiting x)
          → next_of levels p x (value_of s.words (access_of levels p x)) ≡ x → (level : ℕ) × IsStuck s p level
      by_process Idle e waits same = absurd cc
      by_process Inside e waits same = absurd cc
      by_process (Leaving level point) e waits same = absurd cc
      by_process (Entering level E1) e waits same = absurd cc
      by_process (Entering level E2) e waits same = absurd cc
      by_process (Entering level E3) e waits same = absurd cc
      by_process (Entering level E4) e waits same = absurd cc
      by_process (Entering level (E5 rival)) e waits same = absurd cc
      by_process (Entering level (E6 rival)) e waits same = absurd cc
      by_process (Entering level (E7 rival)) e waits same = absurd cc
      by_process (Entering level E9) e waits same = absurd cc
      by_process (Entering level E8) e waits same = (level, Asleep e (asleep (s.words (P level p) == 0) refl same))
        where
          asleep : (b : Bool) → (s.words (P level p) == 0) ≡ b
              → (if b then Entering level E8 else Entering level E9) ≡ Entering level E8 → s.words (P level p) ≡ 0
          asleep true e same = grind (arith, nat_tests)
          asleep false e same = absurd cc
      by_process (Entering level E10) e waits same = (
        level,
        Outside e (λ two. out (s.words (P level p) == 2)
            (let let_in : (s.words (P level p) == 2) ≡ true = grind (arith, nat_tests, two) in let_in) same),
      )
        where
          out : (b : Bool) → b ≡ true → (if b then after_entry levels level else Entering level E10) ≡ Entering level E10 → ⊥
          out true e same = won_elsewhere levels level E10 same
          out false e same = cc

      by_step : (points_of levels (next_of levels p (s.processes p)
          (value_of s.words (access_of levels p (s.processes p)))) false < points_of levels (s.processes p) true)
          ⊎ (IsTrue (is_waiting (s.processes p)) × (next_of levels p (s.processes p)
          (value_of s.words (access_of levels p (s.processes p))) ≡ s.processes p))
          → (points_of levels (next_of levels p (s.processes p)
          (value_of s.words (access_of levels p (s.processes p)))) false < points_of levels (s.processes p) true)
          ⊎ ((level : ℕ) × IsStuck s p level)
      by_step (inl less) = inl less
      by_step (inr waits) = inr (by_process (s.processes p) refl waits.0 waits.1)

  -- never both
  pub not_both : (p level : ℕ) → IsStuck s p level
      → points_of levels (next_of levels p (s.processes p)
      (value_of s.words (access_of levels p (s.processes p)))) false < points_of levels (s.processes p) true → ⊥
  not_both p level stuck less =
      let at = stuck_at levels s some is p level stuck in
      let same : points_of levels (s.processes p) false ≡ points_of levels (s.processes p) true =
      subst (λ x. points_of levels x false ≡ points_of levels x true) (sym at.1) refl in
      let stay : points_of levels (next_of levels p (s.processes p)
      (value_of s.words (access_of levels p (s.processes p)))) false ≡ points_of levels (s.processes p) false =
      ap (λ x. points_of levels x false) (stays p level stuck) in
      omega (arith, less, same, stay)

  -- a stuck place claims
  claims_stuck : (p level : ℕ) → IsStuck s p level → IsTrue (claims (phase_of levels level (s.processes p)))
  claims_stuck p level (Asleep e none) = ap claims (phase_is levels s some is p level E8 e)
  claims_stuck p level (Outside e apart) = ap claims (phase_is levels s some is p level E10 e)

  -- if both rivals at a node are stuck, T can't name either as not last
  unnamed : (a b level : ℕ) → IsStuck s a level → IsStuck s b level → AreRivals level a b
      → s.words (T level (node_of level a)) ≢ a + 1 → ⊥
  unnamed a b level (Outside e apart) two rivals other =
      apart ((owed_to levels s some is a level (Outside e apart)).has_two other
      (ap awaits_release (phase_is levels s some is a level E10 e)))
  unnamed a b level (Asleep e none) two rivals other =
      by_waker ((owed_to levels s some is a level (Asleep e none)).owed_one other
      (ap saw_itself_last (phase_is levels s some is a level E8 e)) none)
    where
      by_waker : SomeRival (node_of level) (side_of level) (λ q. phase_of levels level (s.processes q)) a (is_to_wake a)
          → ⊥
      by_waker waker =
          let at = stuck_at levels s some is b level two in
          let same : waker.0 ≡ b =
          one_a_side (node_of level) (side_of level) (λ q. phase_of levels level (s.processes q))
          (λ n d. s.words (C level n d)) (λ n. s.words (T level n)) (λ q. s.words (P level q))
          (is.sound level at.2 at.3) waker.0 b (sym waker.1.0 ∙ rivals.0)
          (omega (arith, side_below level waker.0, side_below level a, side_below level b, waker.1.1, rivals.1))
          (claims_is_to_wake a (phase_of levels level (s.processes waker.0)) waker.2)
          (claims_stuck b level two) in
          never_wakes levels s some is b level a level two
          (subst (λ q. IsTrue (is_to_wake a (phase_of levels level (s.processes q)))) same waker.2)

  -- so one of two rivals at a node goes on
  pub not_both_stuck : (a b level : ℕ) → IsStuck s a level → IsStuck s b level → AreRivals level a b → ⊥
  not_both_stuck a b level one two rivals = by_turn (s.words (T level (node_of level a)) == a + 1) refl
    where
      by_turn : (c : Bool) → (s.words (T level (node_of level a)) == a + 1) ≡ c → ⊥
      by_turn false other = unnamed a b level one two rivals (grind (arith, nat_tests))
      by_turn true own =
          let named : s.words (T level (node_of level a)) ≡ a + 1 = grind (arith, nat_tests) in
          unnamed b a level two one (sym rivals.0, λ e. rivals.1 (sym e))
          (λ other. rivals.1 (ap (side_of level)
          (let both : b + 1 ≡ a + 1 = sym other ∙ ap (λ n. s.words (T level n)) (sym rivals.0) ∙ named in
          let same : a ≡ b = omega (arith, both) in same)))

  module _ (r : ℕ) (t : State) (step : StepsTo levels r s t) (sound : IsSoundState levels t) where
    -- a place that is stuck keeps its process
    pub stands_still : (p level : ℕ) → IsStuck s p level → t.processes p ≡ s.processes p
    stands_still p level stuck = by_place (p == r) refl
      where
        by_place : (b : Bool) → (p == r) ≡ b → t.processes p ≡ s.processes p
        by_place true one =
            let same : p ≡ r = grind (arith, nat_tests) in
            subst (λ q. t.processes q ≡ s.processes q) (sym same)
            (step.process ∙ stays r level (subst (λ q. IsStuck s q level) same stuck))
        by_place false apart = step.others p (grind (arith, nat_tests))

    -- a place that is stuck after the step of another was stuck before it: no step takes back an owed word
    pub stuck_before : (p level : ℕ) → r ≢ p → IsStuck t p level → IsStuck s p level
    stuck_before p level apart (Asleep e none) = by_word (spin_after levels s t r level p apart step)
      where
        at : s.processes p ≡ Entering level E8
        at = sym (step.others p (λ same. apart (sym same))) ∙ e

        by_word : SpinAfter s t r level p → IsStuck s p level
        by_word (inl same) = Asleep at (sym same ∙ none)
        by_word (inr (inl two)) = absurd (omega (arith, two, none))
        by_word (inr (inr one)) = absurd (omega (arith, one.0, none))
    stuck_before p level apart (Outside e none) = by_word (spin_after levels s t r level p apart step)
      where
        at : s.processes p ≡ Entering level E10
        at = sym (step.others p (λ same. apart (sym same))) ∙ e

        by_word : SpinAfter s t r level p → IsStuck s p level
        by_word (inl same) = Outside at (λ two. none (same ∙ two))
        by_word (inr (inl two)) = absurd (none two)
        by_word (inr (inr one)) = Outside at (λ two. never two)
          where
            proper : IsProper levels r (Entering level (E7 p))
            proper = subst (IsProper levels r) one.1 (is.proper r)

            rivals : AreRivals level p r
            rivals = (sym proper.knows.0, λ same. proper.knows.1 (sym same))

            phase_r : phase_of levels level (s.processes r) ≡ entry_phase (E7 p)
            phase_r = phase_is levels s some is r level (E7 p) one.1

            never : s.words (P level p) ≡ 2 → ⊥
            never two =
                let named : s.words (T level (node_of level p)) ≡ r + 1 =
                (is.sound level proper.least proper.most).let_in p r rivals
                (ap waits (phase_is levels s some is p level E10 at)) two (ap has_announced phase_r) in
                let wakes : wakes_next p (phase_of levels level (s.processes r)) ≡ false =
                (is.owed level proper.least proper.most p).keeps_two (λ own. apart (omega (arith, named, own)))
                (ap awaits_release (phase_is levels s some is p level E10 at)) r rivals in
                let itself : (p == p) ≡ true = grind (arith, nat_tests) in
                let both : true ≡ false = sym itself ∙ sym (ap (wakes_next p) phase_r) ∙ wakes in cc

    -- the competing rival stays the same while the place is stuck
    pub still_competes : (p level q : ℕ) → IsStuck t p level → AreRivals level p q
        → IsTrue (competes (phase_of levels level (s.processes q)))
        → IsTrue (competes (phase_of levels level (t.processes q)))
    still_competes p level q stuck rivals competing =
        subst (λ k. IsTrue (competes (phase_of levels level (t.processes k))))
        (by_place (rival.0 == r) refl) rival.2
      where
        at : (point : EntryPoint) × (t.processes p ≡ Entering level point) × (1 ≤ level) × (level ≤ levels)
        at = stuck_at levels t some sound p level stuck

        rival : SomeRival (node_of level) (side_of level) (λ k. phase_of levels level (t.processes k)) p competes
        rival = last levels t some sound p level stuck

        -- of two on that side one competes, and the other holds the level below
        alone : (k : ℕ) → k ≡ rival.0
            → (1 < level → IsTrue (holds (phase_of levels (level - 1) (s.processes k)))) → k ≡ q
        alone k same holding =
            sym (alone_at levels k level s is at.2 at.3 holding q
            (sym rivals.0 ∙ rival.1.0 ∙ ap (node_of level) (sym same))
            (let side_k : side_of level k ≡ side_of level rival.0 = ap (side_of level) same in
            omega (
              arith,
              side_k,
              side_below level q,
              side_below level p,
              side_below level rival.0,
              rivals.1,
              rival.1.1,
            )) competing)

        by_place : (b : Bool) → (rival.0 == r) ≡ b → rival.0 ≡ q
        by_place false other =
            let apart : rival.0 ≢ r = grind (arith, nat_tests) in
            alone rival.0 refl
            (λ _. holds_below levels level (s.processes rival.0) at.2 at.3
            (subst (λ x. IsTrue (competes (phase_of levels level x))) (step.others rival.0 apart) rival.2))
        by_place true one =
            let same : rival.0 ≡ r = grind (arith, nat_tests) in
            let now : IsTrue (competes (phase_of levels level (t.processes r))) =
            subst (λ k. IsTrue (competes (phase_of levels level (t.processes k)))) same rival.2 in
            same ∙ alone r (sym same) (λ more. by_level now more (level == acts_at levels (s.processes r)) refl)
          where
            by_level : IsTrue (competes (phase_of levels level (t.processes r))) → 1 < level → (b : Bool)
                → (level == acts_at levels (s.processes r)) ≡ b
                → IsTrue (holds (phase_of levels (level - 1) (s.processes r)))
            by_level now more false far =
                let apart : level ≢ acts_at levels (s.processes r) = grind (arith, nat_tests) in
                let frame = frame_phase levels level r (s.processes r)
                (value_of s.words (access_of levels r (s.processes r))) some at.2 (is.proper r) apart in
                holds_below levels level (s.processes r) at.2 at.3
                (subst (λ x. IsTrue (competes x)) (ap (phase_of levels level) step.process ∙ frame) now)
            by_level now more true here =
                let acts : level ≡ acts_at levels (s.processes r) = grind (arith, nat_tests) in
                let frame = frame_phase levels (level - 1) r (s.processes r)
                (value_of s.words (access_of levels r (s.processes r))) some (omega (arith, more)) (is.proper r)
                (λ same. omega (arith, same, acts, more)) in
                subst (λ x. IsTrue (holds x)) (ap (phase_of levels (level - 1)) step.process ∙ frame)
                (holds_below levels level (t.processes r) at.2 at.3 now)
