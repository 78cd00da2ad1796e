-- The effect of one step on a level's words T, and on whether its process is past or holds there.
use Rattle.std.proofs.Common.{◌≡◌, ◌≢◌, ℕ, ◌+◌, ◌-◌, ◌≤◌, ◌==◌, Bool, true, false, refl, arith, ap, sym, ◌∙◌, subst}
use Rattle.std.proofs.Common.{◌⊎◌, inl, inr, IsTrue}
use Rattle.std.proofs.lemmas.Bool.Decides.{nat_tests}
use Rattle.ya_core.specs.declared.word.Word.TheVariants.{C, T, P}
use Rattle.ya_core.specs.declared.word.Access.{Access}
use Rattle.ya_core.specs.declared.word.Access.TheVariants.{Load, Store}
use Rattle.ya_core.specs.declared.process.EntryPoint.{EntryPoint}
use Rattle.ya_core.specs.declared.process.EntryPoint.TheVariants.{E1, E2, E3, E4, E5, E6, E7, E8, E9, E10}
use Rattle.ya_core.specs.declared.process.ExitPoint.{ExitPoint}
use Rattle.ya_core.specs.declared.process.ExitPoint.TheVariants.{X1, X2, X3}
use Rattle.ya_core.specs.declared.process.Process.{Process}
use Rattle.ya_core.specs.declared.process.Process.TheVariants.{Idle, Entering, Inside, Leaving}
use Rattle.ya_core.specs.ArbitrationTree.{node_of}
use Rattle.ya_core.specs.Steps.{State, StepsTo, Accesses, value_of, access_of, next_of, after_exit, entry_next, exit_next}
use Rattle.ya_core.specs.Soundness.{Phase, Away, Named, Announced, Waiting, Holding, Releasing, LettingIn, has_announced, holds}
use Rattle.ya_core.specs.Soundness.{phase_of, entry_phase, exit_phase, IsSoundState}
use Rattle.ya_core.specs.Progress.{is_to_announce}
use Rattle.ya_core.proofs.Properness.{either}
use Rattle.ya_core.proofs.Phases.{acts_at, phase_here, phase_after_exit, frame_phase}

-- the process is to announce itself at the level that it has reached
abbrev pub is_announcing : Process → Bool
is_announcing (Entering level E2) = true
is_announcing _ = false

-- a waiting process isn't
pub past_announces : (level : ℕ) (point : EntryPoint) → IsTrue (has_announced (entry_phase point))
    → (is_announcing (Entering level point) ≡ false) × (is_to_announce level (Entering level point) ≡ false)
past_announces level E1 h = absurd cc
past_announces level E2 h = absurd cc
past_announces level E3 h = (refl, refl)
past_announces level E4 h = (refl, refl)
past_announces level (E5 rival) h = (refl, refl)
past_announces level (E6 rival) h = (refl, refl)
past_announces level (E7 rival) h = (refl, refl)
past_announces level E8 h = (refl, refl)
past_announces level E9 h = (refl, refl)
past_announces level E10 h = (refl, refl)

-- the effect of one step on a level's words T and on the phase of its process there
module _ (levels level q : ℕ) (s t : State) (some : 1 ≤ levels) (least : 1 ≤ level) (most : level ≤ levels)
    (is : IsSoundState levels s) (step : StepsTo levels q s t) where
  abbrev pub value : ℕ
  value = value_of s.words (access_of levels q (s.processes q))

  -- a word T stays, or the process announced itself there
  abbrev pub IsAnnounced : ℕ → Type 0
  IsAnnounced n = (t.words (T level n) ≡ q + 1) × IsTrue (is_announcing (s.processes q))

  pub turn_or : (n : ℕ) → (t.words (T level n) ≡ s.words (T level n)) ⊎ IsAnnounced n
  turn_or n = by_access (access_of levels q (s.processes q)) (stores (s.processes q)) step.words
    where
      stores : (x : Process) → (stands v node : ℕ) → access_of levels q x ≡ Store (T stands node) v
          → (v ≡ q + 1) × IsTrue (is_announcing x)
      stores Idle stands v node e = absurd cc
      stores (Entering h E1) stands v node e = absurd cc
      stores (Entering h E2) stands v node e = (cc, refl)
      stores (Entering h E3) stands v node e = absurd cc
      stores (Entering h E4) stands v node e = absurd cc
      stores (Entering h (E5 rival)) stands v node e = absurd cc
      stores (Entering h (E6 rival)) stands v node e = absurd cc
      stores (Entering h (E7 rival)) stands v node e = absurd cc
      stores (Entering h E8) stands v node e = absurd cc
      stores (Entering h E9) stands v node e = absurd cc
      stores (Entering h E10) stands v node e = absurd cc
      stores Inside stands v node e = absurd cc
      stores (Leaving h X1) stands v node e = absurd cc
      stores (Leaving h X2) stands v node e = absurd cc
      stores (Leaving h (X3 rival)) stands v node e = absurd cc

      by_access : (a : Access)
          → ((stands v node : ℕ) → a ≡ Store (T stands node) v → (v ≡ q + 1) × IsTrue (is_announcing (s.processes q)))
          → Accesses a s.words t.words
          → (t.words (T level n) ≡ s.words (T level n)) ⊎ IsAnnounced n
      by_access (Load word) turns done = inl (done (T level n))
      by_access (Store (C h m d) v) turns done = inl (done.1 (T level n) (λ e. cc))
      by_access (Store (P h p) v) turns done = inl (done.1 (T level n) (λ e. cc))
      by_access (Store (T h m) v) turns done = same (h == level) (m == n) refl refl
        where
          same : (b d : Bool) → (h == level) ≡ b → (m == n) ≡ d
              → (t.words (T level n) ≡ s.words (T level n)) ⊎ IsAnnounced n
          same true true one two =
              let levels_same : h ≡ level = grind (arith, nat_tests) in
              let nodes_same : m ≡ n = grind (arith, nat_tests) in
              let stored = turns h v m refl in
              inr (
                subst (λ k. t.words (T k n) ≡ q + 1) levels_same
                    (subst (λ k. t.words (T h k) ≡ q + 1) nodes_same (done.0 ∙ stored.0)),
                stored.1,
              )
          same false d one two =
              inl (done.1 (T level n) (λ e. (let apart : h ≢ level = grind (arith, nat_tests) in apart) cc))
          same true false one two =
              inl (done.1 (T level n) (λ e. (let apart : m ≢ n = grind (arith, nat_tests) in apart) cc))

  -- the phase of the process before and after
  abbrev pub before : Phase
  before = phase_of levels level (s.processes q)

  abbrev pub after : Phase
  after = phase_of levels level (t.processes q)

  -- it is past only if it was past or announced itself; if it held the level, it holds it still or is past no more
  pub record Turns (x y : Phase) : Type 0 where
    pub past : IsTrue (has_announced y) → IsTrue (has_announced x) ⊎ (t.words (T level (node_of level q)) ≡ q + 1)
    pub held : IsTrue (holds x) → IsTrue (has_announced y) → IsTrue (holds y)

  same_turns : (x y : Phase) → y ≡ x → Turns x y
  same_turns x y e =
      record {
        past = λ h. inl (subst (λ z. IsTrue (has_announced z)) e h);
        held = λ h k. subst (λ z. IsTrue (holds z)) (sym e) h;
      }

  -- for a process that is past and doesn't hold, any next phase is allowed
  past_turns : (x y : Phase) → IsTrue (has_announced x) → holds x ≡ false → Turns x y
  past_turns x y h k = record { past = λ _. inl h; held = λ g _. absurd (let both : true ≡ false = sym g ∙ k in cc) }

  -- a next phase that isn't past is allowed
  not_past : (x y : Phase) → has_announced y ≡ false → Turns x y
  not_past x y h =
      record {
        past = λ g. absurd (let both : true ≡ false = sym g ∙ h in cc);
        held = λ _ g. absurd (let both : true ≡ false = sym g ∙ h in cc);
      }

  here_entry : (point : EntryPoint) → s.processes q ≡ Entering level point
      → Turns (entry_phase point) (phase_of levels level (entry_next levels level q point value))
  here_entry E1 e = not_past Away (phase_of levels level (Entering level E2)) (ap has_announced (phase_here level Named))
  here_entry E2 e =
      record {
        past = λ _. inr
            ((let done : Accesses (Store (T level (node_of level q)) (q + 1)) s.words t.words = subst
            (λ x. Accesses (access_of levels q x) s.words t.words) e step.words in done).0);
        held = λ h _. absurd cc;
      }
  here_entry E3 e = past_turns Announced (phase_of levels level (entry_next levels level q E3 value)) refl refl
  here_entry E4 e = past_turns (Waiting E4) (phase_of levels level (entry_next levels level q E4 value)) refl refl
  here_entry (E5 rival) e =
      past_turns (Waiting (E5 rival)) (phase_of levels level (entry_next levels level q (E5 rival) value)) refl refl
  here_entry (E6 rival) e =
      past_turns (Waiting (E6 rival)) (phase_of levels level (entry_next levels level q (E6 rival) value)) refl refl
  here_entry (E7 rival) e =
      past_turns (Waiting (E7 rival)) (phase_of levels level (entry_next levels level q (E7 rival) value)) refl refl
  here_entry E8 e = past_turns (Waiting E8) (phase_of levels level (entry_next levels level q E8 value)) refl refl
  here_entry E9 e = past_turns (Waiting E9) (phase_of levels level (entry_next levels level q E9 value)) refl refl
  here_entry E10 e = past_turns (Waiting E10) (phase_of levels level (entry_next levels level q E10 value)) refl refl

  here_exit : (point : ExitPoint) → Turns (exit_phase point) (phase_of levels level (exit_next level q point value))
  here_exit X1 = not_past Holding (phase_of levels level (Leaving level X2)) (ap has_announced (phase_here level Releasing))
  here_exit X2 =
      not_past Releasing (phase_of levels level (exit_next level q X2 value))
      (either (λ x. has_announced (phase_of levels level x) ≡ false) (value == q + 1) _ _
      (λ _. ap has_announced (phase_after_exit levels level level least least ∙ phase_here level Away))
      (λ _. ap has_announced (phase_here level (LettingIn (value - 1)))))
  here_exit (X3 rival) =
      not_past (LettingIn rival) (phase_of levels level (after_exit level))
      (ap has_announced (phase_after_exit levels level level least least ∙ phase_here level Away))

  -- so for any level where the process acts
  pub turns_of : Turns before after
  turns_of = subst (λ x. Turns before (phase_of levels level x)) (sym step.process)
      (by_process (s.processes q) refl (level == acts_at levels (s.processes q)) refl)
    where
      by_process : (x : Process) → s.processes q ≡ x → (b : Bool) → (level == acts_at levels x) ≡ b
          → Turns (phase_of levels level (s.processes q))
          (phase_of levels level (next_of levels q (s.processes q) value))
      by_process x e false far =
          same_turns (phase_of levels level (s.processes q))
          (phase_of levels level (next_of levels q (s.processes q) value))
          (frame_phase levels level q (s.processes q) value some least (is.proper q)
          (λ same. (let apart : level ≢ acts_at levels x = grind (arith, nat_tests) in apart)
          (same ∙ ap (acts_at levels) e)))
      by_process Idle e true here =
          let one : 1 ≡ level = grind (arith, nat_tests) in
          subst (λ y. Turns (phase_of levels level y) (phase_of levels level (next_of levels q y value))) (sym e)
          (subst (λ h. Turns (phase_of levels h Idle) (phase_of levels h (Entering 1 E2))) one
          (not_past Away (phase_of levels 1 (Entering 1 E2)) (ap has_announced (phase_here 1 Named))))
      by_process (Entering stands point) e true here =
          let one : stands ≡ level = grind (arith, nat_tests) in
          let now : s.processes q ≡ Entering level point = e ∙ ap (λ h. Entering h point) one in
          subst (λ y. Turns (phase_of levels level y) (phase_of levels level (next_of levels q y value))) (sym now)
          (subst (λ z. Turns z (phase_of levels level (entry_next levels level q point value)))
          (sym (phase_here level (entry_phase point))) (here_entry point now))
      by_process Inside e true here =
          let one : levels ≡ level = grind (arith, nat_tests) in
          subst (λ y. Turns (phase_of levels level y) (phase_of levels level (next_of levels q y value))) (sym e)
          (not_past (phase_of levels level Inside) (phase_of levels level (Leaving levels X2))
          (subst (λ h. has_announced (phase_of levels h (Leaving levels X2)) ≡ false) one
          (ap has_announced (phase_here levels Releasing))))
      by_process (Leaving stands point) e true here =
          let one : stands ≡ level = grind (arith, nat_tests) in
          let now : s.processes q ≡ Leaving level point = e ∙ ap (λ h. Leaving h point) one in
          subst (λ y. Turns (phase_of levels level y) (phase_of levels level (next_of levels q y value))) (sym now)
          (subst (λ z. Turns z (phase_of levels level (exit_next level q point value)))
          (sym (phase_here level (exit_phase point))) (here_exit point))
