-- A seat that owes a ring keeps its process until it has paid.
use Rattle.std.proofs.Common.{◌≡◌, ℕ, ◌+◌, List, [], ◌∷◌, ◌++◌, set, sym, refl, ap, ◌∙◌, subst, inl, inr, ⊎_elim, ◌⊎◌, slice_index, Some}
use Rattle.std.specs.Prelude as std
use mathlib.Core.Option.{some, some-injective}
use native.Mathlib.Decide.{ℕ_discrete}
use lib.ListN.{get_elem?}
use Rattle.atomic_table.specs.Table.{State, Me, stepped}
use Rattle.atomic_table.proofs.Lists.{at_longer, set_else}
use Rattle.ya_core.specs.Machines.{word_of}
use Rattle.ya_core.specs.Steps.{access_of, value_of}
use Rattle.ya_core.specs.declared.process.Process.{Process}
use Rattle.ya_core.specs.declared.process.Process.TheVariants.{Idle, Inside}
use Rattle.ya_lock.specs.declared.rule.View.{View}
use Rattle.ya_lock.specs.declared.rule.View.TheVariants.{Unused, Making, Filling, HandingOut, Seated, Watching, Owes, Joining, Spent}
use Rattle.ya_lock.specs.Rule.{Slots, index_of, words_in, OwesRing, free, view_at}
use Rattle.ya_lock.specs.StepEffects.{awake, paid}
use Rattle.ya_lock.specs.StepKinds.{SeatSteps, SplitsOff, JoinsPass, AccessesBell, MakerIsTold}
use Rattle.ya_lock.specs.StepKinds.{IsOtherStep, Swap, MakerLoad, Split, Join, Learn, Bell}
use Rattle.ya_lock.specs.WakeUps.{IsStep, Due, Gift, Other, OwesOrHasPaid}
use Rattle.ya_lock.proofs.WordsInRow.{set_at}
use Rattle.ya_lock.proofs.Rings.{free_owes}

-- the words, the slot and the views of all seats
abbrev St : Type 0 → Type 0
St V = State (std.Option V) (View V)

module _ {V : Type 0} where
  -- a seat of this view owes no ring
  abbrev OwesNone : View V → Type 0
  OwesNone view = (rival : ℕ) → ¬ OwesRing view rival

  -- each seat that owes a ring has the same view
  abbrev Keeps : List (View V) → List (View V) → Type 0
  Keeps views views' =
      (seat place : ℕ) (process : Process) (value : V) (count rival : ℕ)
      → get_elem? views seat ≡ some (Owes place process value count rival)
      → get_elem? views' seat ≡ some (Owes place process value count rival)

  -- another seat gets another view
  set_keeps : (views : List (View V)) (id : ℕ) (old new : View V) → get_elem? views id ≡ some old → OwesNone old
      → Keeps views (set views id new)
  set_keeps views id old new at none seat place process value count rival owes =
      set_else views id seat new (λ same. none rival (subst (λ (v : View V). OwesRing v rival)
      (some-injective (Owes place process value count rival) old
      (sym owes ∙ (ap (λ (k : ℕ). get_elem? views k) same ∙ at))) refl)) ∙ owes

  -- a seat is added
  add_keeps : (views : List (View V)) (new : View V) → Keeps views (views ++ new ∷ [])
  add_keeps views new seat place process value count rival owes =
      at_longer views (new ∷ []) seat (Owes place process value count rival) owes

  kept : (s t : St V) → Keeps s.views t.views → OwesOrHasPaid s t
  kept s t keeps seat place process value count rival owes = inl (keeps seat place process value count rival owes)

  -- a seat that owes no ring takes a step
  seat_steps : (s t : St V) (seat word number : ℕ) (slots : Slots V) (before : View V) (after : Me (std.Option V) (View V))
      → get_elem? s.views seat ≡ some before → OwesNone before → SeatSteps s t seat word number slots after
      → OwesOrHasPaid s t
  seat_steps s t seat word number slots before after at none step =
      subst (λ (u : St V). OwesOrHasPaid s u) (sym step.leads)
      (kept s (stepped s word number seat slots after.0 step.act) (set_keeps s.views seat before after.0 at none))

  maker_owes : (before : View V) (slots : Slots V) (after : Me (std.Option V) (View V)) → MakerIsTold before slots after
      → OwesNone before
  maker_owes Unused slots after told rival h = h
  maker_owes Making slots after told rival h = h
  maker_owes Filling slots after told rival h = h
  maker_owes (HandingOut first value) slots after told rival h = h
  maker_owes (Seated place process value count) slots after told rival h = h
  maker_owes (Watching place process value count) slots after told rival h = h
  maker_owes (Owes place process value count other) slots after told rival h = absurd told
  maker_owes (Joining place value other seen count) slots after told rival h = h
  maker_owes Spent slots after told rival h = h

  split : (s t : St V) → SplitsOff s t → OwesOrHasPaid s t
  split s t k =
      let rest : View V = HandingOut (k.first + 1) k.value in let pass : View V = Seated k.first Idle k.value 0 in
      let views : List (View V) = set s.views k.seat rest in
      subst (λ (u : St V). OwesOrHasPaid s u) (sym k.leads)
      (kept s (record { words = s.words; homes = s.homes; views = views ++ pass ∷ [] })
      (λ seat place process value count rival owes. add_keeps views pass seat place process value count rival
      (set_keeps s.views k.seat (HandingOut k.first k.value) rest k.view (λ other h. h) seat place process value count rival
      owes)))

  join : (s t : St V) → JoinsPass s t → OwesOrHasPaid s t
  join s t k =
      let inside : View V = Seated k.place Inside k.found k.count in
      let idle : View V = Seated k.other Idle k.seen k.last in
      let both : View V = Joining k.place k.found k.other k.seen k.count in
      let views : List (View V) = set s.views k.seat both in
      subst (λ (u : St V). OwesOrHasPaid s u) (sym k.leads)
      (kept s (record { words = s.words; homes = s.homes; views = set views k.idle Spent })
      (λ seat place process value count rival owes.
      set_keeps views k.idle idle Spent (set_else s.views k.seat k.idle both k.apart ∙ k.spent) (λ other h. h) seat place
      process value count rival
      (set_keeps s.views k.seat inside both k.view (λ other h. h) seat place process value count rival owes)))

  -- the view of a seat that owes a ring after its access of a bell
  of_debt : (place : ℕ) (process : Process) (value : V) (count rival : ℕ) (after : View V)
      → (after ≡ Owes place process value count rival)
      ⊎ ((after ≡ awake (Owes place process value count rival)) ⊎ (after ≡ paid (Owes place process value count rival)))
      → (after ≡ Owes place process value count rival) ⊎ (after ≡ Seated place process value count)
  of_debt place process value count rival after (inl e) = inl e
  of_debt place process value count rival after (inr (inl e)) = inl e
  of_debt place process value count rival after (inr (inr e)) = inr e

  bell : (s t : St V) (levels : ℕ) → AccessesBell s t levels → OwesOrHasPaid s t
  bell s t levels k =
      subst (λ (u : St V). OwesOrHasPaid s u) (sym k.steps.leads)
      (λ seat place process value count rival owes. by_seat seat place process value count rival owes
      (ℕ_discrete seat k.seat))
    where
      by_seat : (seat place : ℕ) (process : Process) (value : V) (count rival : ℕ)
          → get_elem? s.views seat ≡ some (Owes place process value count rival) → Dec (seat ≡ k.seat)
          → (get_elem? (set s.views k.seat k.after) seat ≡ some (Owes place process value count rival))
          ⊎ (get_elem? (set s.views k.seat k.after) seat ≡ some (Seated place process value count))
      by_seat seat place process value count rival owes (yes same) =
          let owing : View V = Owes place process value count rival in
          let before : k.before ≡ owing =
          some-injective k.before owing (sym k.view ∙ (ap (λ (j : ℕ). get_elem? s.views j) (sym same) ∙ owes)) in
          let there : get_elem? (set s.views k.seat k.after) seat ≡ some k.after =
          ap (λ (j : ℕ). get_elem? (set s.views k.seat k.after) j) same ∙ set_at s.views k.seat k.before k.after k.view in
          ⊎_elim (λ e. inl (there ∙ ap some e)) (λ e. inr (there ∙ ap some e))
          (of_debt place process value count rival k.after
          (subst (λ (v : View V). (k.after ≡ v) ⊎ ((k.after ≡ awake v) ⊎ (k.after ≡ paid v))) before k.known))
      by_seat seat place process value count rival owes (no ne) = inl (set_else s.views k.seat seat k.after ne ∙ owes)

  module _ (since : ℕ → V → V → Type 0) (levels : ℕ) where
    other_keeps : (s t : St V) → IsOtherStep s t since levels → OwesOrHasPaid s t
    other_keeps s t (Swap k) =
        subst (λ (u : St V). OwesOrHasPaid s u) (sym k.leads)
        (λ seat place process value count rival owes. inl (add_keeps s.views k.view seat place process value count rival owes))
    other_keeps s t (MakerLoad k) =
        seat_steps s t k.seat k.word (slice_index s.words k.word) k.slots k.before k.after k.view
        (maker_owes k.before k.slots k.after k.told) k.steps
    other_keeps s t (Split k) = split s t k
    other_keeps s t (Join k) = join s t k
    other_keeps s t (Learn k) =
        seat_steps s t k.seat k.word (slice_index s.words k.word) k.slots (Joining k.place k.found k.other k.seen k.count) k.after
        k.view (λ rival h. h) k.steps
    other_keeps s t (Bell k) = bell s t levels k

    -- whatever step a seat takes, each seat that owes a ring still owes it or has paid
    pub step_keeps : (s t : St V) → IsStep s t since levels → OwesOrHasPaid s t
    step_keeps s t (Due seat place process seen count slots k) =
        seat_steps s t seat (index_of levels (word_of (access_of levels place process)))
        (value_of (words_in levels s.words) (access_of levels place process)) slots
        (view_at (free k.vain) place process seen count) k.after k.view
        (λ rival owes. free_owes levels k.vain place process seen count rival owes) k.steps
    step_keeps s t (Gift value k) =
        seat_steps s t k.seat k.word (slice_index s.words k.word) ((0, Some value) ∷ []) Filling k.after k.view (λ rival h. h)
        k.steps
    step_keeps s t (Other k) = other_keeps s t k
