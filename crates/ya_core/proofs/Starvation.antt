-- Under a fair schedule nobody starves. A stuck place has one rival that competes at its node; the rival comes nearer
-- with each of its steps, until the owed word arrives. A place that isn't stuck comes nearer itself.
use Rattle.std.proofs.Common.{◌≡◌, ◌≢◌, ℕ, zero, suc, ◌+◌, ◌-◌, ◌<◌, ◌≤◌, ◌==◌, Bool, true, false, refl, arith, ap}
use Rattle.std.proofs.Common.{sym, ◌∙◌, subst, ◌⊎◌, inl, inr, IsTrue}
use Rattle.std.specs.Prelude.{Option, Some}
use Rattle.std.proofs.lemmas.Bool.Decides.{nat_tests}
use Rattle.ya_core.specs.declared.process.EntryPoint.{EntryPoint}
use Rattle.ya_core.specs.declared.process.EntryPoint.TheVariants.{E1}
use Rattle.ya_core.specs.declared.process.Process.{Process}
use Rattle.ya_core.specs.declared.process.Process.TheVariants.{Idle, Entering, Inside, Leaving}
use Rattle.ya_core.specs.ArbitrationTree.{AreRivals}
use Rattle.ya_core.specs.Steps.{State, value_of, access_of, next_of, entry_next}
use Rattle.ya_core.specs.Soundness.{phase_of, entry_phase, IsProper, IsSoundState}
use Rattle.ya_core.specs.inside.Ahead.{points_of}
use Rattle.ya_core.specs.Fairness.{PickLeadsTo, Eventually, is_on_way_in, is_on_way_out}
use Rattle.ya_core.proofs.PhaseKinds.{competes}
use Rattle.ya_core.proofs.Phases.{competes_at}
use Rattle.ya_core.proofs.Deadlock.{IsStuck, stuck_at, last}
use Rattle.ya_core.proofs.Rivalry.{nearer_or_stuck, not_both, not_both_stuck, stuck_level}
use Rattle.ya_core.proofs.Picks.{is_picked, picked_steps, others_stay, stuck_stays, was_stuck, rival_stays}
use Rattle.ya_core.proofs.NextPoints.{few_points, same_points, Onward, onward, is_past_the_root, Outward, outward}
use Rattle.ya_core.proofs.NextPoints.{past_by_out}
use Rattle.ya_core.proofs.FairRuns.{sooner, until, ends}

module _ (levels : ℕ) (some : 1 ≤ levels) (schedule : ℕ → Option ℕ) (states : ℕ → State)
    (sound : (time : ℕ) → IsSoundState levels (states time))
    (step : (time : ℕ) → PickLeadsTo levels (schedule time) (states time) (states (time + 1)))
    (fair : (place time : ℕ) → (states time).processes place ≢ Idle
    → Eventually time (λ later. schedule later ≡ Some place)) where
  -- the process of a place at a time
  abbrev at : ℕ → ℕ → Process
  at place time = (states time).processes place

  -- the process of a place that is picked goes on as its row says, any other stays
  stepped : (p n : ℕ) → schedule n ≡ Some p
      → at p (n + 1) ≡ next_of levels p (at p n) (value_of (states n).words (access_of levels p (at p n)))
  stepped p n picks = (picked_steps levels (schedule n) (states n) (states (n + 1)) p (step n) picks).process

  stayed : (p n : ℕ) → schedule n ≢ Some p → at p (n + 1) ≡ at p n
  stayed p n other = others_stay levels (schedule n) (states n) (states (n + 1)) p (step n) other

  -- a place isn't stuck at a time
  abbrev IsFree : ℕ → ℕ → Type 0
  IsFree p n = (l : ℕ) → IsStuck (states n) p l → ⊥

  -- it is free or stuck
  free_or_stuck : (p n : ℕ) → IsFree p n ⊎ ((l : ℕ) × IsStuck (states n) p l)
  free_or_stuck p n = by_step (nearer_or_stuck levels some (states n) (sound n) p)
    where
      by_step : (points_of levels (next_of levels p (at p n)
          (value_of (states n).words (access_of levels p (at p n)))) false < points_of levels (at p n) true)
          ⊎ ((l : ℕ) × IsStuck (states n) p l) → IsFree p n ⊎ ((l : ℕ) × IsStuck (states n) p l)
      by_step (inl less) = inl (λ l stuck. not_both levels some (states n) (sound n) p l stuck less)
      by_step (inr stuck) = inr stuck

  -- the step of a place that isn't stuck takes it nearer
  comes_nearer : (p n : ℕ) → IsFree p n → schedule n ≡ Some p
      → points_of levels (at p (n + 1)) false < points_of levels (at p n) true
  comes_nearer p n ready picks = subst (λ x. points_of levels x false < points_of levels (at p n) true)
      (sym (stepped p n picks)) (by_step (nearer_or_stuck levels some (states n) (sound n) p))
    where
      by_step : (points_of levels (next_of levels p (at p n)
          (value_of (states n).words (access_of levels p (at p n)))) false < points_of levels (at p n) true)
          ⊎ ((l : ℕ) × IsStuck (states n) p l)
          → points_of levels (next_of levels p (at p n)
          (value_of (states n).words (access_of levels p (at p n)))) false < points_of levels (at p n) true
      by_step (inl less) = less
      by_step (inr stuck) = absurd (ready stuck.0 stuck.1)

  -- the place has this process, and isn't stuck
  abbrev Ready : ℕ → Process → ℕ → Type 0
  Ready p x n = (at p n ≡ x) × IsFree p n

  -- a place came nearer than that point
  abbrev Nearer : (p level : ℕ) → EntryPoint → ℕ → Type 0
  Nearer p level point n =
      (points_of levels (at p n) false < points_of levels (Entering level point) false) × Onward level (at p n)

  -- a place on its way in that isn't stuck comes nearer at some time
  goes_on : (p level : ℕ) (point : EntryPoint) (n : ℕ) → Ready p (Entering level point) n
      → Eventually n (Nearer p level point)
  goes_on p level point n ready =
      ends levels schedule states step fair p (Ready p (Entering level point)) (Nearer p level point) (λ x. points_of levels x false)
      (λ n ready idle. (let both = sym ready.0 ∙ idle in cc)) keeps
      (λ n ready later picks. absurd (moves n ready later picks)) n ready
    where
      nearer_now : (n : ℕ) → Ready p (Entering level point) n → schedule n ≡ Some p
          → points_of levels (at p (n + 1)) false < points_of levels (Entering level point) false
      nearer_now n ready picks =
          subst (λ x. points_of levels (at p (n + 1)) false < points_of levels x true) ready.0
          (comes_nearer p n ready.1 picks)

      moves : (n : ℕ) → Ready p (Entering level point) n → Ready p (Entering level point) (n + 1) → schedule n ≡ Some p → ⊥
      moves n ready later picks =
          let less = nearer_now n ready picks in
          let same : points_of levels (at p (n + 1)) false ≡ points_of levels (Entering level point) false =
          ap (λ x. points_of levels x false) later.0 in omega (arith, less, same)

      keeps : (n : ℕ) → Ready p (Entering level point) n
          → Nearer p level point (n + 1) ⊎ Ready p (Entering level point) (n + 1)
      keeps n ready = by_place (is_picked (schedule n) p)
        where
          by_place : (schedule n ≡ Some p) ⊎ (schedule n ≢ Some p)
              → Nearer p level point (n + 1) ⊎ Ready p (Entering level point) (n + 1)
          by_place (inl picks) =
              let v = value_of (states n).words (access_of levels p (at p n)) in
              let now : at p (n + 1) ≡ entry_next levels level p point v =
              stepped p n picks ∙ ap (λ x. next_of levels p x v) ready.0 in
              inl (nearer_now n ready picks, subst (Onward level) (sym now) (onward levels level p point v))
          by_place (inr other) =
              inr (
                stayed p n other ∙ ready.0,
                λ l stuck. ready.1 l
                    (was_stuck levels some (schedule n) (states n) (states (n + 1)) (step n) (sound n)
                    (sound (n + 1)) p l other stuck),
              )

  -- a place past the root is idle at some time, or the property has ended before
  module _ (p : ℕ) (While So : ℕ → Type 0) (keeps : (n : ℕ) → While n → So (n + 1) ⊎ While (n + 1))
      (busy : (n : ℕ) → While n → at p n ≡ Idle → So n) where
    abbrev Leaves : ℕ → Type 0
    Leaves n = While n × IsTrue (is_past_the_root (at p n))

    leaves_idle : (n : ℕ) → Leaves n → at p n ≢ Idle
    leaves_idle n leaves idle = let none = subst (λ x. IsTrue (is_past_the_root x)) idle leaves.1 in cc

    leaves_ready : (n : ℕ) → Leaves n → IsFree p n
    leaves_ready n leaves l stuck =
        let here = stuck_at levels (states n) some (sound n) p l stuck in
        let none = subst (λ x. IsTrue (is_past_the_root x)) here.1 leaves.1 in cc

    leaves_out : (n : ℕ) → Leaves n → schedule n ≡ Some p → Outward (at p (n + 1))
    leaves_out n leaves picks =
        subst Outward (sym (stepped p n picks))
        (outward levels p (at p n) (value_of (states n).words (access_of levels p (at p n))) leaves.1)

    leaves_keeps : (n : ℕ) → Leaves n → So (n + 1) ⊎ Leaves (n + 1)
    leaves_keeps n leaves = by_step (keeps n leaves.0)
      where
        by_place : While (n + 1) → (schedule n ≡ Some p) ⊎ (schedule n ≢ Some p) → So (n + 1) ⊎ Leaves (n + 1)
        by_place goes (inl picks) = by_out (leaves_out n leaves picks)
          where
            by_out : Outward (at p (n + 1)) → So (n + 1) ⊎ Leaves (n + 1)
            by_out (inl idle) = inl (busy (n + 1) goes idle)
            by_out (inr way) = inr (goes, past_by_out (at p (n + 1)) way)
        by_place goes (inr other) =
            let same : at p (n + 1) ≡ at p n = stayed p n other in
            inr (goes, subst (λ x. IsTrue (is_past_the_root x)) (sym same) leaves.1)

        by_step : So (n + 1) ⊎ While (n + 1) → So (n + 1) ⊎ Leaves (n + 1)
        by_step (inl ends) = inl ends
        by_step (inr goes) = by_place goes (is_picked (schedule n) p)

    leaves_falls : (n : ℕ) → Leaves n → Leaves (n + 1) → schedule n ≡ Some p
        → points_of levels (at p (n + 1)) true < points_of levels (at p n) true
    leaves_falls n leaves later picks = by_out (leaves_out n leaves picks)
      where
        by_out : Outward (at p (n + 1)) → points_of levels (at p (n + 1)) true < points_of levels (at p n) true
        by_out (inl idle) = absurd (leaves_idle (n + 1) later idle)
        by_out (inr way) =
            let less = comes_nearer p n (leaves_ready n leaves) picks in
            let same = same_points levels (at p (n + 1)) way in omega (arith, less, same)

    goes_out : (n : ℕ) → While n → IsTrue (is_past_the_root (at p n)) → Eventually n So
    goes_out n goes past =
        ends levels schedule states step fair p Leaves So (λ x. points_of levels x true) leaves_idle leaves_keeps leaves_falls n (goes, past)

  -- a place that is stuck at a level, and the rival that competes there
  module _ (p q level : ℕ) (point : EntryPoint) (rivals : AreRivals level p q) where
    record HeldUp (n : ℕ) : Type 0 where
      stands : at p n ≡ Entering level point
      stuck : IsStuck (states n) p level
      competing : IsTrue (competes (phase_of levels level (at q n)))

    -- it stays so until the word is there
    held_keeps : (n : ℕ) → HeldUp n → Ready p (Entering level point) (n + 1) ⊎ HeldUp (n + 1)
    held_keeps n held = by_state (free_or_stuck p (n + 1))
      where
        same : at p (n + 1) ≡ Entering level point
        same = stuck_stays levels some (schedule n) (states n) (states (n + 1)) (step n) (sound n) (sound (n + 1)) p
            level held.stuck ∙ held.stands

        by_state : IsFree p (n + 1) ⊎ ((l : ℕ) × IsStuck (states (n + 1)) p l)
            → Ready p (Entering level point) (n + 1) ⊎ HeldUp (n + 1)
        by_state (inl ready) = inl (same, ready)
        by_state (inr stuck) =
            let one : stuck.0 ≡ level = stuck_level (states (n + 1)) p stuck.0 level point same stuck.1 in
            let still : IsStuck (states (n + 1)) p level = subst (IsStuck (states (n + 1)) p) one stuck.1 in
            inr (record {
              stands = same;
              stuck = still;
              competing =
                  rival_stays levels some (schedule n) (states n) (states (n + 1)) (step n) (sound n)
                  (sound (n + 1)) p level q still rivals held.competing;
            })

    not_idle : (n : ℕ) → HeldUp n → at q n ≢ Idle
    not_idle n held idle =
        let away : IsTrue (competes (phase_of levels level Idle)) =
        subst (λ x. IsTrue (competes (phase_of levels level x))) idle held.competing in cc

    -- a rival that is past the root goes out, and lets it in on its way
    by_leaving : (n : ℕ) → HeldUp n → IsTrue (is_past_the_root (at q n)) → Eventually n (Ready p (Entering level point))
    by_leaving =
        goes_out q HeldUp (Ready p (Entering level point)) held_keeps (λ n held idle. absurd (not_idle n held idle))

    -- a rival that holds the level comes inside, as was shown already, and goes out
    by_holding : (n : ℕ) → HeldUp n → Eventually n (λ m. at q m ≡ Inside)
        → Eventually n (Ready p (Entering level point))
    by_holding n held inside =
        by_then
        (until HeldUp (Ready p (Entering level point)) held_keeps (inside.0 - n) n inside.0 (omega (arith, inside.1))
        held)
      where
        by_then : Eventually n (Ready p (Entering level point)) ⊎ HeldUp inside.0
            → Eventually n (Ready p (Entering level point))
        by_then (inl found) = found
        by_then (inr still) =
            sooner (Ready p (Entering level point)) n inside.0 inside.1
            (by_leaving inside.0 still (subst (λ x. IsTrue (is_past_the_root x)) (sym inside.2) refl))

    -- the rival is at the level
    abbrev Here : ℕ → Type 0
    Here n = HeldUp n × ((there : EntryPoint) × (at q n ≡ Entering level there))

    -- it has won the level
    abbrev Gone : ℕ → Type 0
    Gone n = HeldUp n × ((at q n ≡ Entering (level + 1) E1) ⊎ (at q n ≡ Inside))

    -- a rival at the level wins it, since it isn't stuck, or the word is there before
    by_competing : (n : ℕ) → Here n → Eventually n (λ m. Ready p (Entering level point) m ⊎ Gone m)
    by_competing =
        ends levels schedule states step fair q Here (λ m. Ready p (Entering level point) m ⊎ Gone m) (λ x. points_of levels x false)
        (λ n here. not_idle n here.0) keeps falls
      where
        keeps : (n : ℕ) → Here n → (Ready p (Entering level point) (n + 1) ⊎ Gone (n + 1)) ⊎ Here (n + 1)
        keeps n here = by_step (held_keeps n here.0)
          where
            by_place : HeldUp (n + 1) → (schedule n ≡ Some q) ⊎ (schedule n ≢ Some q)
                → (Ready p (Entering level point) (n + 1) ⊎ Gone (n + 1)) ⊎ Here (n + 1)
            by_place held (inl picks) =
                let v = value_of (states n).words (access_of levels q (at q n)) in
                let now : at q (n + 1) ≡ entry_next levels level q here.1.0 v =
                stepped q n picks ∙ ap (λ x. next_of levels q x v) here.1.1 in
                by_next (subst (Onward level) (sym now) (onward levels level q here.1.0 v))
              where
                by_next : Onward level (at q (n + 1))
                    → (Ready p (Entering level point) (n + 1) ⊎ Gone (n + 1)) ⊎ Here (n + 1)
                by_next (inl there) = inr (held, there)
                by_next (inr gone) = inl (inr (held, gone))
            by_place held (inr other) =
                inr (held, (here.1.0, stayed q n other ∙ here.1.1))

            by_step : Ready p (Entering level point) (n + 1) ⊎ HeldUp (n + 1)
                → (Ready p (Entering level point) (n + 1) ⊎ Gone (n + 1)) ⊎ Here (n + 1)
            by_step (inl ready) = inl (inl ready)
            by_step (inr held) = by_place held (is_picked (schedule n) q)

        falls : (n : ℕ) → Here n → Here (n + 1) → schedule n ≡ Some q
            → points_of levels (at q (n + 1)) false < points_of levels (at q n) false
        falls n here later picks =
            let less = comes_nearer q n ready picks in
            let same : points_of levels (at q n) true ≡ points_of levels (at q n) false =
            ap (λ x. points_of levels x true) here.1.1 ∙ sym (ap (λ x. points_of levels x false) here.1.1) in
            omega (arith, less, same)
          where
            ready : IsFree q n
            ready l stuck =
                let one : l ≡ level = stuck_level (states n) q l level here.1.0 here.1.1 stuck in
                not_both_stuck levels some (states n) (sound n) p q level here.0.stuck
                (subst (IsStuck (states n) q) one stuck) rivals

    -- the word arrives at some time, wherever the rival is
    module _ (fuel : ℕ) (enough : points_of levels (Entering level point) false < fuel + 1)
        (again : (n k l : ℕ) (there : EntryPoint) → at k n ≡ Entering l there
        → points_of levels (Entering l there) false < fuel → Eventually n (λ m. at k m ≡ Inside)) where
      -- the rival is higher up
      above : (n l : ℕ) (there : EntryPoint) → HeldUp n → level < l → at q n ≡ Entering l there
          → Eventually n (Ready p (Entering level point))
      above n l there held more e =
          let proper : IsProper levels q (Entering l there) = subst (IsProper levels q) e ((sound n).proper q) in
          by_holding n held
          (again n q l there e
          (omega (arith, enough, more, proper.most, (few_points there).1, (few_points point).0)))

      -- the rival is at the level
      from_here : (n : ℕ) → Here n → Eventually n (Ready p (Entering level point))
      from_here n here = by_end (by_competing n here)
        where
          by_end : Eventually n (λ m. Ready p (Entering level point) m ⊎ Gone m)
              → Eventually n (Ready p (Entering level point))
          by_end found = by_case found.2
            where
              by_case : Ready p (Entering level point) found.0 ⊎ Gone found.0
                  → Eventually n (Ready p (Entering level point))
              by_case (inl ready) = (found.0, found.1, ready)
              by_case (inr gone) = sooner (Ready p (Entering level point)) n found.0 found.1 (by_won gone.1)
                where
                  by_won : (at q found.0 ≡ Entering (level + 1) E1) ⊎ (at q found.0 ≡ Inside)
                      → Eventually found.0 (Ready p (Entering level point))
                  by_won (inl up) = above found.0 (level + 1) E1 gone.0 (omega arith) up
                  by_won (inr inside) =
                      by_leaving found.0 gone.0 (subst (λ x. IsTrue (is_past_the_root x)) (sym inside) refl)

      -- in whatever phase
      is_freed : (n : ℕ) → HeldUp n → Eventually n (Ready p (Entering level point))
      is_freed n held = by_process (at q n) refl
        where
          by_process : (x : Process) → at q n ≡ x → Eventually n (Ready p (Entering level point))
          by_process Idle e = absurd (not_idle n held e)
          by_process Inside e = by_leaving n held (subst (λ x. IsTrue (is_past_the_root x)) (sym e) refl)
          by_process (Leaving l there) e = by_leaving n held (subst (λ x. IsTrue (is_past_the_root x)) (sym e) refl)
          by_process (Entering l there) e = by_level (l == level) refl
            where
              by_level : (b : Bool) → (l == level) ≡ b → Eventually n (Ready p (Entering level point))
              by_level true one =
                  let same : l ≡ level = grind (arith, nat_tests) in
                  from_here n (held, (there, e ∙ ap (λ k. Entering k there) same))
              by_level false other =
                  let apart : l ≢ level = grind (arith, nat_tests) in
                  let up : level ≤ l = competes_at level l (entry_phase there)
                  (subst (λ x. IsTrue (competes (phase_of levels level x))) e held.competing) in
                  above n l there held (omega (arith, apart, up)) e

  -- a place that is on its way in comes inside at some time
  comes_in : (fuel n p level : ℕ) (point : EntryPoint) → at p n ≡ Entering level point
      → points_of levels (Entering level point) false < fuel → Eventually n (λ m. at p m ≡ Inside)
  comes_in zero n p level point e less = absurd (omega (arith, less))
  comes_in (suc fuel) n p level point e less =
      by_state (λ n k l there e less. comes_in fuel n k l there e less) (free_or_stuck p n)
    where
      on : ((n k l : ℕ) (there : EntryPoint) → at k n ≡ Entering l there
          → points_of levels (Entering l there) false < fuel → Eventually n (λ m. at k m ≡ Inside))
          → (m : ℕ) → n ≤ m → Ready p (Entering level point) m → Eventually n (λ m. at p m ≡ Inside)
      on again m later ready =
          sooner (λ m. at p m ≡ Inside) n m later (by_step (goes_on p level point m ready))
        where
          by_step : Eventually m (Nearer p level point) → Eventually m (λ m. at p m ≡ Inside)
          by_step found = sooner (λ m. at p m ≡ Inside) m found.0 found.1 (by_next found.2.1)
            where
              by_entry : (l : ℕ) (there : EntryPoint) → at p found.0 ≡ Entering l there
                  → Eventually found.0 (λ m. at p m ≡ Inside)
              by_entry l there e =
                  let same : points_of levels (at p found.0) false ≡ points_of levels (Entering l there) false =
                  ap (λ x. points_of levels x false) e in
                  again found.0 p l there e (omega (arith, same, found.2.0, less))

              by_next : Onward level (at p found.0) → Eventually found.0 (λ m. at p m ≡ Inside)
              by_next (inl there) = by_entry level there.0 there.1
              by_next (inr (inl up)) = by_entry (level + 1) E1 up
              by_next (inr (inr inside)) = (found.0, omega arith, inside)

      by_state : ((n k l : ℕ) (there : EntryPoint) → at k n ≡ Entering l there
          → points_of levels (Entering l there) false < fuel → Eventually n (λ m. at k m ≡ Inside))
          → IsFree p n ⊎ ((l : ℕ) × IsStuck (states n) p l) → Eventually n (λ m. at p m ≡ Inside)
      by_state again (inl ready) = on again n (omega arith) (e, ready)
      by_state again (inr stuck) =
          let one : stuck.0 ≡ level = stuck_level (states n) p stuck.0 level point e stuck.1 in
          let here : IsStuck (states n) p level = subst (IsStuck (states n) p) one stuck.1 in
          let rival = last levels (states n) some (sound n) p level here in
          let freed = is_freed p rival.0 level point rival.1 fuel (omega (arith, less)) again n
          (record { stands = e; stuck = here; competing = rival.2 }) in
          on again freed.0 freed.1 freed.2

  -- hence from any point of the way in
  pub comes_inside : (p n : ℕ) → IsTrue (is_on_way_in (at p n)) → Eventually n (λ m. at p m ≡ Inside)
  comes_inside p n way = by_process (at p n) refl way
    where
      by_process : (x : Process) → at p n ≡ x → IsTrue (is_on_way_in x) → Eventually n (λ m. at p m ≡ Inside)
      by_process Idle e way = absurd cc
      by_process Inside e way = absurd cc
      by_process (Leaving level point) e way = absurd cc
      by_process (Entering level point) e way =
          comes_in (points_of levels (Entering level point) false + 1) n p level point e (omega arith)

  -- a place that is inside, or on its way out, is idle at some time
  pub goes_idle : (p n : ℕ) → (at p n ≡ Inside) ⊎ IsTrue (is_on_way_out (at p n)) → Eventually n (λ m. at p m ≡ Idle)
  goes_idle p n way =
      goes_out p (λ n. Unit {0}) (λ m. at p m ≡ Idle) (λ n _. inr tt) (λ n _ idle. idle) n tt (by_way way)
    where
      by_way : (at p n ≡ Inside) ⊎ IsTrue (is_on_way_out (at p n)) → IsTrue (is_past_the_root (at p n))
      by_way (inl inside) = subst (λ x. IsTrue (is_past_the_root x)) (sym inside) refl
      by_way (inr out) = past_by_out (at p n) out
