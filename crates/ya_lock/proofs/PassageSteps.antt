-- After the due access, the seat of a walk still agrees with the walk.
use Rattle.std.proofs.Common.{◌≡◌, ◌≢◌, ℕ, ◌==◌, Bool, true, false, [], ◌∷◌, refl, sym, ap, ◌∙◌, subst, ⊎_elim, Some}
use Rattle.std.specs.Prelude.{if◌then◌else◌}
use Rattle.std.proofs.lemmas.Bool.{false≢true}
use Rattle.std.specs.Prelude as std
use Rattle.atomic_table.specs.Table.{Me}
use Rattle.ya_core.specs.declared.process.Process.{Process}
use Rattle.ya_core.specs.declared.process.Process.TheVariants.{Idle, Entering, Inside, Leaving}
use Rattle.ya_core.specs.declared.walker.Op.TheVariants as op
use Rattle.ya_core.specs.declared.process.EntryPoint.TheVariants.{E7, E8, E9, E10}
use Rattle.ya_core.specs.declared.process.ExitPoint.TheVariants.{X1, X2, X3}
use Rattle.ya_core.specs.Steps.{next_of, after_entry}
use Rattle.ya_core.specs.WalkerModel.{Walk, walk, walk_after, op_of, due, MayBeTold}
use Rattle.ya_core.specs.Worlds.{is_inside}
use Rattle.ya_lock.specs.declared.rule.View.{View}
use Rattle.ya_lock.specs.declared.rule.View.TheVariants.{Seated}
use Rattle.ya_lock.specs.DueStep.{IsReady}
use Rattle.ya_lock.specs.Rule.{count_after, Slots, BellKnowledge, Quiet, Vain, Debt, free, view_at, bell_after, OwesRing}
use Rattle.ya_lock.specs.StepEffects.{CarriesValue, TakesDueStep, ProcessSteps, awake, paid}
use Rattle.ya_lock.specs.inside.Lock.{HasMade, SeatOf, StoresFor, is_to_ring, is_vain, has_looked_in_vain, IsFreeSeat}
use Rattle.ya_lock.proofs.Rings.{debt_owes}
use Rattle.ya_lock.proofs.NewSteps.{one_value}

module _ {V : Type 0} (since done : ℕ → V → V → Type 0) where
  -- the view and the slots of a seat
  abbrev M : Type 0
  M = Me (std.Option V) (View V)

  -- an access is due
  abbrev IsDue : Walk → Type 0
  IsDue w = (op_of w ≢ op.Idle) × (op_of w ≢ op.Inside)

  -- the seat of a walk with a due access is ready for it
  pub ready_by : (levels place : ℕ) (process : Process) (begun : Bool) (remote : ℕ) (seen : V) (me : M)
      → IsDue (walk levels place process begun remote) → SeatOf since done seen (walk levels place process begun remote) me
      → (value : V) × HasMade place value process remote me.0 × IsReady done (is_inside process) place value me.1
  ready_by levels place Idle true remote seen me d s =
      (seen, (s.1.0, ap (λ (m : M). m.0) s.1.1, s.0), ap (λ (m : M). m.1) s.1.1)
  ready_by levels place Idle false remote seen me d s = absurd (d.0 refl)
  ready_by levels place Inside true remote seen me d s =
      (s.0, (false, ap (λ (m : M). m.0) s.2), (seen, ap (λ (m : M). m.1) s.2, s.1))
  ready_by levels place Inside false remote seen me d s = absurd (d.1 refl)
  ready_by levels place (Entering level point) begun remote seen me d s =
      (seen, (s.1.0, ap (λ (m : M). m.0) s.1.1), ap (λ (m : M). m.1) s.1.1)
  ready_by levels place (Leaving level point) begun remote seen me d s =
      (seen, (false, ap (λ (m : M). m.0) s.1), ap (λ (m : M). m.1) s.1)

  -- a seat that owes no ring steps as its process does
  steps_of : (vain : Bool) (levels n place : ℕ) (process : Process) (value : V) (count : ℕ) (slots : Slots V) (after : M)
      → ProcessSteps since levels n (view_at (free vain) place process value count) slots after
      → TakesDueStep since levels n place process value count slots after
  steps_of true levels n place process value count slots after h = h
  steps_of false levels n place process value count slots after h = h

  -- the due step of the seat of a walk
  Took : ℕ → ℕ → ℕ → Process → M → Type 0
  Took levels place found process after =
      (value : V) × ((count : ℕ) × ((slots : Slots V) × TakesDueStep since levels found place process value count slots after))

  took : (levels place found : ℕ) (process : Process) (begun : Bool) (remote : ℕ) (seen : V) (me after : M)
      → IsDue (walk levels place process begun remote) → SeatOf since done seen (walk levels place process begun remote) me
      → ProcessSteps since levels found me.0 me.1 after → Took levels place found process after
  unfolding Took
  took levels place found Idle true remote seen me after d s steps =
      (seen, (s.1.0, ([], subst (λ (m : M). ProcessSteps since levels found m.0 m.1 after) s.1.1 steps)))
  took levels place found Idle false remote seen me after d s steps = absurd (d.0 refl)
  took levels place found Inside true remote seen me after d s steps =
      (s.0, (remote, ((0, Some seen) ∷ [], subst (λ (m : M). ProcessSteps since levels found m.0 m.1 after) s.2 steps)))
  took levels place found Inside false remote seen me after d s steps = absurd (d.1 refl)
  took levels place found (Entering level point) begun remote seen me after d s steps = (
    seen,
    (
      remote,
      (
        [],
        steps_of s.1.0 levels found place (Entering level point) seen remote [] after
            (subst (λ (m : M). ProcessSteps since levels found m.0 m.1 after) s.1.1 steps),
      ),
    ),
  )
  took levels place found (Leaving level point) begun remote seen me after d s steps =
      (seen, (remote, ([], subst (λ (m : M). ProcessSteps since levels found m.0 m.1 after) s.1 steps)))

  -- only a process on its way in has looked in vain
  KnowsAt : BellKnowledge → Process → Type 0
  KnowsAt Vain (Entering level point) = Unit {0}
  KnowsAt Vain process = ⊥
  KnowsAt b process = Unit {0}

  knows_e8 : (b : Bool) (level : ℕ) → KnowsAt (free b) (if b then Entering level E8 else Entering level E9)
  unfolding KnowsAt
  knows_e8 true level = tt
  knows_e8 false level = tt

  knows_e10 : (b : Bool) (levels level : ℕ)
      → KnowsAt (if b then Quiet else Vain) (if b then after_entry levels level else Entering level E10)
  unfolding KnowsAt
  knows_e10 true levels level = tt
  knows_e10 false levels level = tt

  knows_after : (levels place n : ℕ) (process : Process) → KnowsAt (bell_after process n) (next_of levels place process n)
  unfolding KnowsAt
  knows_after levels place n (Entering level E8) = knows_e8 (n == 0) level
  knows_after levels place n (Entering level E10) = knows_e10 (n == 2) levels level
  knows_after levels place n (Leaving level X1) = tt
  knows_after levels place n (Leaving level X2) = tt
  knows_after levels place n (Leaving level (X3 rival)) = tt
  knows_after levels place n process = tt

  -- so another process owes no ring and knows nothing once it has paid
  paid_quiet : (b : BellKnowledge) (place : ℕ) (process : Process) (value : V) (count : ℕ) → (KnowsAt Vain process → ⊥)
      → KnowsAt b process → paid (view_at b place process value count) ≡ Seated place process value count
  paid_quiet Quiet place process value count none k = refl
  paid_quiet Vain place process value count none k = absurd (none k)
  paid_quiet (Debt rival) place process value count none k = refl

  paid_free : (b : BellKnowledge) (place : ℕ) (process : Process) (value : V) (count : ℕ)
      → (vain : Bool) × (paid (view_at b place process value count) ≡ view_at (free vain) place process value count)
  paid_free Quiet place process value count = (false, refl)
  paid_free Vain place process value count = (true, refl)
  paid_free (Debt rival) place process value count = (false, refl)

  -- an access of a process without a slot leads to such a seat, with the slots that it carries, once the seat owes no ring
  arrives : (levels place remote : ℕ) (b : BellKnowledge) (process : Process) (seen next : V) (me : M) → KnowsAt b process
      → me.0 ≡ view_at b place process next remote → CarriesValue since false (is_inside process) place seen [] next me.1
      → SeatOf since done seen (walk levels place process false remote) (paid me.0, me.1)
  unfolding KnowsAt
  arrives levels place remote b Idle seen next me k is carries = (
    refl,
    (λ i. (paid (is i), carries.1 i)) ∙ (λ i. (paid_quiet b place Idle next remote (λ h. h) k i, []))
        ∙ (λ i. (Seated place Idle (carries.0 i) remote, [])),
  )
  arrives levels place remote b Inside seen next me k is carries = (
    next,
    carries.0,
    (λ i. (paid (is i), carries.1 i))
        ∙ (λ i. (paid_quiet b place Inside next remote (λ h. h) k i, (0, Some next) ∷ [])),
  )
  arrives levels place remote b (Entering level point) seen next me k is carries =
      let f = paid_free b place (Entering level point) next remote in (
        refl,
        (
          f.0,
          (λ i. (paid (is i), carries.1 i)) ∙ (λ i. (f.1 i, []))
              ∙ (λ i. (view_at (free f.0) place (Entering level point) (carries.0 i) remote, [])),
        ),
      )
  arrives levels place remote b (Leaving level point) seen next me k is carries = (
    refl,
    (λ i. (paid (is i), carries.1 i)) ∙ (λ i. (paid_quiet b place (Leaving level point) next remote (λ h. h) k i, []))
        ∙ (λ i. (Seated place (Leaving level point) (carries.0 i) remote, [])),
  )

  -- so does an access of a process there without a slot
  goes_on : (levels place found remote : ℕ) (process : Process) (seen : V) (after : M) → is_inside process ≡ false
      → TakesDueStep since levels found place process seen remote [] after
      → SeatOf since done seen (walk levels place (next_of levels place process found) false (count_after levels place process remote))
      (paid after.0, after.1)
  goes_on levels place found remote process seen after outside h =
      arrives levels place (count_after levels place process remote) (bell_after process found)
      (next_of levels place process found) seen h.1.0 after (knows_after levels place found process)
      h.1.1 (subst (λ (b : Bool). CarriesValue since b (is_inside (next_of levels place process found)) place seen [] h.1.0 after.1)
      outside h.1.2)

  -- and so does each access that is due
  stays_at : (levels place found : ℕ) (process : Process) (begun : Bool) (remote : ℕ) (seen : V) (me after : M)
      → IsDue (walk levels place process begun remote) → SeatOf since done seen (walk levels place process begun remote) me
      → ProcessSteps since levels found me.0 me.1 after
      → SeatOf since done seen (walk_after (walk levels place process begun remote) found) (paid after.0, after.1)
  stays_at levels place found Idle true remote seen me after d s steps =
      subst (λ (r : ℕ). SeatOf since done seen (walk_after (walk levels place Idle true r) found) (paid after.0, after.1)) (sym s.0)
      (goes_on levels place found s.1.0 Idle seen after refl
      (subst (λ (m : M). ProcessSteps since levels found m.0 m.1 after) s.1.1 steps))
  stays_at levels place found Idle false remote seen me after d s steps = absurd (d.0 refl)
  stays_at levels place found Inside true remote seen me after d s steps =
      let h = subst (λ (m : M). ProcessSteps since levels found m.0 m.1 after) s.2 steps in
      let same : h.1.0 ≡ seen = sym (one_value seen h.1.0 h.1.2.0) in (
        refl,
        (λ i. (paid (h.1.1 i), h.1.2.1 i))
            ∙ (λ i. (Seated place (next_of levels place Inside found) (same i) (count_after levels place Inside remote), [])),
      )
  stays_at levels place found Inside false remote seen me after d s steps = absurd (d.1 refl)
  stays_at levels place found (Entering level point) begun remote seen me after d s steps =
      goes_on levels place found remote (Entering level point) seen after refl
      (steps_of s.1.0 levels found place (Entering level point) seen remote [] after
      (subst (λ (m : M). ProcessSteps since levels found m.0 m.1 after) s.1.1 steps))
  stays_at levels place found (Leaving level point) begun remote seen me after d s steps =
      goes_on levels place found remote (Leaving level point) seen after refl
      (subst (λ (m : M). ProcessSteps since levels found m.0 m.1 after) s.1 steps)

  -- in a tree with this number of levels
  pub stays : (w new : Walk) (levels found : ℕ) (seen : V) (me after : M) → IsDue w → SeatOf since done seen w me
      → w.levels ≡ levels → ProcessSteps since levels found me.0 me.1 after → new ≡ walk_after w found
      → SeatOf since done seen new (paid after.0, after.1)
  stays w new levels found seen me after d s tree steps is =
      subst (λ (v : Walk). SeatOf since done seen v (paid after.0, after.1)) (sym is)
      (stays_at w.levels w.place found w.process w.begun w.remote seen me after d s
      (subst (λ (l : ℕ). ProcessSteps since l found me.0 me.1 after) (sym tree) steps))

  took_due : (w : Walk) (levels found : ℕ) (seen : V) (me after : M) → IsDue w → SeatOf since done seen w me
      → w.levels ≡ levels → ProcessSteps since levels found me.0 me.1 after → Took w.levels w.place found w.process after
  took_due w levels found seen me after d s tree steps =
      took w.levels w.place found w.process w.begun w.remote seen me after d s
      (subst (λ (l : ℕ). ProcessSteps since l found me.0 me.1 after) (sym tree) steps)

  -- an access that is no store in a rival's spin word leaves no debt
  no_debt_free : (b : Bool) (place : ℕ) (process : Process) (value : V) (count : ℕ)
      → paid (view_at (free b) place process value count) ≡ view_at (free b) place process value count
  no_debt_free true place process value count = refl
  no_debt_free false place process value count = refl

  no_debt_e10 : (b : Bool) (place : ℕ) (process : Process) (value : V) (count : ℕ)
      → paid (view_at (if b then Quiet else Vain) place process value count)
      ≡ view_at (if b then Quiet else Vain) place process value count
  no_debt_e10 true place process value count = refl
  no_debt_e10 false place process value count = refl

  no_debt : (process : Process) (n place : ℕ) (next : Process) (value : V) (count : ℕ) → is_to_ring process ≡ false
      → paid (view_at (bell_after process n) place next value count) ≡ view_at (bell_after process n) place next value count
  no_debt (Entering level (E7 rival)) n place next value count h = absurd (false≢true (sym h))
  no_debt (Entering level E8) n place next value count h = no_debt_free (n == 0) place next value count
  no_debt (Entering level E10) n place next value count h = no_debt_e10 (n == 2) place next value count
  no_debt (Leaving level X1) n place next value count h = refl
  no_debt (Leaving level X2) n place next value count h = refl
  no_debt (Leaving level (X3 rival)) n place next value count h = absurd (false≢true (sym h))
  no_debt process n place next value count h = refl

  -- so its seat agrees with the walk at once
  pub stays_free : (w new : Walk) (levels found : ℕ) (seen : V) (me after : M) → IsDue w → is_to_ring w.process ≡ false
      → SeatOf since done seen w me → w.levels ≡ levels → ProcessSteps since levels found me.0 me.1 after
      → new ≡ walk_after w found → SeatOf since done seen new after
  unfolding Took
  stays_free w new levels found seen me after d plain s tree steps is =
      let t = took_due w levels found seen me after d s tree steps in let view = t.1.1.1.1.1 in
      let same : paid after.0 ≡ after.0 =
      ap paid view ∙ (no_debt w.process found w.place (next_of w.levels w.place w.process found) t.1.1.1.1.0
      (count_after w.levels w.place w.process t.1.0) plain ∙ sym view) in
      subst (λ (m : M). SeatOf since done seen new m) (λ i. (same i, after.1))
      (stays w new levels found seen me after d s tree steps is)

  -- and knows whether it has looked in vain
  vain_at : (b : BellKnowledge) (place : ℕ) (process : Process) (value : V) (count : ℕ)
      → has_looked_in_vain (view_at b place process value count) ≡ is_vain b
  vain_at Quiet place process value count = refl
  vain_at Vain place process value count = refl
  vain_at (Debt rival) place process value count = refl

  pub looked : (w : Walk) (levels found : ℕ) (seen : V) (me after : M) → IsDue w → SeatOf since done seen w me
      → w.levels ≡ levels → ProcessSteps since levels found me.0 me.1 after
      → has_looked_in_vain after.0 ≡ is_vain (bell_after w.process found)
  unfolding Took
  looked w levels found seen me after d s tree steps =
      let t = took_due w levels found seen me after d s tree steps in
      ap has_looked_in_vain t.1.1.1.1.1
      ∙ vain_at (bell_after w.process found) w.place (next_of w.levels w.place w.process found) t.1.1.1.1.0
      (count_after w.levels w.place w.process t.1.0)

  -- a store in a rival's spin word leaves a debt
  debt_for : (rival found : ℕ) (process : Process) → StoresFor rival process → bell_after process found ≡ Debt rival
  debt_for rival found process stores =
      ⊎_elim (λ e. ap (λ (p : Process). bell_after p found) e) (λ e. ap (λ (p : Process). bell_after p found) e) stores.1

  pub owes : (w : Walk) (levels found rival : ℕ) (seen : V) (me after : M) → IsDue w → StoresFor rival w.process
      → SeatOf since done seen w me → w.levels ≡ levels → ProcessSteps since levels found me.0 me.1 after
      → OwesRing after.0 rival
  unfolding Took
  owes w levels found rival seen me after d stores s tree steps =
      let t = took_due w levels found seen me after d s tree steps in
      subst (λ (v : View V). OwesRing v rival) (sym t.1.1.1.1.1)
      (debt_owes w.levels (bell_after w.process found) w.place (next_of w.levels w.place w.process found) t.1.1.1.1.0
      (count_after w.levels w.place w.process t.1.0) rival (debt_for rival found w.process stores))

  -- the walk may go on with the value that the access found
  told_at : (levels place found : ℕ) (process : Process) (begun : Bool) (remote : ℕ) (seen : V) (me after : M)
      → IsDue (walk levels place process begun remote) → SeatOf since done seen (walk levels place process begun remote) me
      → ProcessSteps since levels found me.0 me.1 after → MayBeTold (due (walk levels place process begun remote)) found
  told_at levels place found Idle true remote seen me after d s steps =
      (subst (λ (m : M). ProcessSteps since levels found m.0 m.1 after) s.1.1 steps).0
  told_at levels place found Idle false remote seen me after d s steps = absurd (d.0 refl)
  told_at levels place found Inside true remote seen me after d s steps =
      (subst (λ (m : M). ProcessSteps since levels found m.0 m.1 after) s.2 steps).0
  told_at levels place found Inside false remote seen me after d s steps = absurd (d.1 refl)
  told_at levels place found (Entering level point) begun remote seen me after d s steps =
      (steps_of s.1.0 levels found place (Entering level point) seen remote [] after
      (subst (λ (m : M). ProcessSteps since levels found m.0 m.1 after) s.1.1 steps)).0
  told_at levels place found (Leaving level point) begun remote seen me after d s steps =
      (subst (λ (m : M). ProcessSteps since levels found m.0 m.1 after) s.1 steps).0

  pub told_due : (w : Walk) (levels found : ℕ) (seen : V) (me after : M) → IsDue w → SeatOf since done seen w me
      → w.levels ≡ levels → ProcessSteps since levels found me.0 me.1 after → MayBeTold (due w) found
  told_due w levels found seen me after d s tree steps =
      told_at w.levels w.place found w.process w.begun w.remote seen me after d s
      (subst (λ (l : ℕ). ProcessSteps since l found me.0 me.1 after) (sym tree) steps)

  -- the seat of a place on its way owes no ring
  free_at : (levels place : ℕ) (process : Process) (begun : Bool) (remote : ℕ) (seen : V) (me : M)
      → SeatOf since done seen (walk levels place process begun remote) me → IsFreeSeat place me.0
  free_at levels place Idle true remote seen me s = (false, (Idle, (seen, (s.1.0, ap (λ (m : M). m.0) s.1.1))))
  free_at levels place Idle false remote seen me s = (false, (Idle, (seen, (remote, ap (λ (m : M). m.0) s.1))))
  free_at levels place Inside true remote seen me s = (false, (Inside, (s.0, (remote, ap (λ (m : M). m.0) s.2))))
  free_at levels place Inside false remote seen me s = (false, (Inside, (s.0, (remote, ap (λ (m : M). m.0) s.2))))
  free_at levels place (Entering level point) begun remote seen me s =
      (s.1.0, (Entering level point, (seen, (remote, ap (λ (m : M). m.0) s.1.1))))
  free_at levels place (Leaving level point) begun remote seen me s =
      (false, (Leaving level point, (seen, (remote, ap (λ (m : M). m.0) s.1))))

  pub is_free : (w : Walk) (seen : V) (me : M) (place : ℕ) → w.place ≡ place → SeatOf since done seen w me
      → IsFreeSeat place me.0
  is_free w seen me place here s =
      subst (λ (p : ℕ). IsFreeSeat p me.0) here (free_at w.levels w.place w.process w.begun w.remote seen me s)

  -- it still is that of its walk after a store in its own bell
  awake_free : (vain : Bool) (place : ℕ) (process : Process) (value : V) (count : ℕ)
      → awake (view_at (free vain) place process value count) ≡ Seated place process value count
  awake_free true place process value count = refl
  awake_free false place process value count = refl

  awake_at : (levels place : ℕ) (process : Process) (begun : Bool) (remote : ℕ) (seen : V) (me : M)
      → SeatOf since done seen (walk levels place process begun remote) me
      → SeatOf since done seen (walk levels place process begun remote) (awake me.0, me.1)
  awake_at levels place Idle true remote seen me s = (s.0, (s.1.0, ap (λ (m : M). (awake m.0, m.1)) s.1.1))
  awake_at levels place Idle false remote seen me s = (s.0, ap (λ (m : M). (awake m.0, m.1)) s.1)
  awake_at levels place Inside true remote seen me s = (s.0, s.1, ap (λ (m : M). (awake m.0, m.1)) s.2)
  awake_at levels place Inside false remote seen me s = (s.0, s.1, ap (λ (m : M). (awake m.0, m.1)) s.2)
  awake_at levels place (Entering level point) begun remote seen me s = (
    s.0,
    (
      false,
      ap (λ (m : M). (awake m.0, m.1)) s.1.1
          ∙ (λ i. (awake_free s.1.0 place (Entering level point) seen remote i, [])),
    ),
  )
  awake_at levels place (Leaving level point) begun remote seen me s = (s.0, ap (λ (m : M). (awake m.0, m.1)) s.1)

  pub stays_awake : (w : Walk) (seen : V) (me after : M) → after ≡ (awake me.0, me.1) → SeatOf since done seen w me
      → SeatOf since done seen w after
  stays_awake w seen me after is s =
      subst (λ (m : M). SeatOf since done seen w m) (sym is)
      (awake_at w.levels w.place w.process w.begun w.remote seen me s)
