-- Every kind of step except the step of a process leaves words and processes as they are, and every kind except the
-- gift also leaves the content.
use Rattle.std.proofs.Common.{◌≡◌, ◌≢◌, ◌↔◌, ℕ, ◌+◌, ◌<◌, ◌≤◌, List, [], ◌∷◌, ◌++◌, set, sym, refl, ap, ◌∙◌, subst, arith}
use Rattle.std.proofs.Common.{inl, inr, ⊎_elim, ◌⊎◌, slice_index, Some, None}
use Rattle.ya_lock.specs.StepEffects.{awake, paid}
use Rattle.std.specs.Prelude as std
use mathlib.Core.Option.{Option, none, some, some-injective}
use native.Mathlib.Decide.{ℕ_discrete}
use lib.ListN.{get_elem?}
use Rattle.atomic_table.specs.Table.{State, Me, carried_after, homes_after, stepped}
use Rattle.atomic_table.proofs.Lists.{at_set, at_longer, set_else}
use Rattle.ya_core.specs.declared.word.Word.{Word}
use Rattle.ya_core.specs.declared.process.Process.{Process}
use Rattle.ya_core.specs.declared.process.Process.TheVariants.{Idle, Inside}
use Rattle.ya_lock.specs.declared.rule.View.{View}
use Rattle.ya_lock.specs.declared.rule.View.TheVariants.{Unused, Making, Filling, HandingOut, Seated, Watching, Owes, Joining, Spent}
use Rattle.ya_lock.specs.Rule.{Slots, making_index, words_in, Rule}
use Rattle.ya_lock.specs.LockState.{IsOf}
use Rattle.ya_lock.specs.StepKinds.{SeatSteps, SwapsToMake, GivesHome, SplitsOff, JoinsPass, LearnsOfPass}
use Rattle.ya_lock.specs.StepKinds.{AccessesBell, IsOtherStep, Swap, MakerLoad, Split, Join, Learn, Bell}
use Rattle.ya_lock.specs.StepKinds.{LeavesProcesses, IsContent, SameContent, MakerIsTold}
use Rattle.ya_lock.proofs.WordsInRow.{word_kept, words_behind, set_at}
use Rattle.ya_lock.proofs.NewSteps.{at_end}
use Rattle.ya_lock.proofs.RuleMeaning.{made_by_one}
use Rattle.ya_lock.proofs.Slots.{one_slot, no_slot, given, same_homes, home_not, home_empty, empty_is_home}

-- the views of all seats show that one has the place's process
abbrev Has : {V : Type 0} → List (View V) → ℕ → ℕ → Process → V → Type 0
Has {V} views seat place process value =
    (view : View V) × (get_elem? views seat ≡ some view) × IsOf view place process value

-- they show the same processes that aren't idle
abbrev pub SameBusy : {V : Type 0} → List (View V) → List (View V) → Type 0
SameBusy {V} views views' =
    (seat place : ℕ) (process : Process) (value : V) → process ≢ Idle
    → Has views seat place process value ↔ Has views' seat place process value

-- two views of a seat show the same process, unless it is idle
abbrev ShowsSame : {V : Type 0} → View V → View V → Type 0
ShowsSame {V} v w =
    (place : ℕ) (process : Process) (value : V) → process ≢ Idle → IsOf v place process value ↔ IsOf w place process value

module _ {V : Type 0} where
  -- two changes in a row
  both_changes : (l m n : List (View V)) → SameBusy l m → SameBusy m n → SameBusy l n
  both_changes l m n a b seat place process value busy =
      let f = a seat place process value busy in let g = b seat place process value busy in
      ((λ h. g.0 (f.0 h)), (λ h. f.1 (g.1 h)))

  -- a seat's view is replaced by a view with the same process
  pub view_set : (views : List (View V)) (id : ℕ) (v w : View V) → get_elem? views id ≡ some v → ShowsSame v w
      → SameBusy views (set views id w)
  view_set views id v w at same seat place process value busy = (
    (λ h. there h (ℕ_discrete seat id)),
    (λ h. ⊎_elim
        (λ p. (
          v,
          ap (λ (k : ℕ). get_elem? views k) p.0 ∙ at,
          (same place process value busy).1 (subst (λ (u : View V). IsOf u place process value) (sym p.1) h.2),
        ))
        (λ p. (h.0, p.1, h.2))
        (at_set views id seat w h.0 h.1)),
  )
    where
      there : Has views seat place process value → Dec (seat ≡ id) → Has (set views id w) seat place process value
      there h (yes e) =
          let is : v ≡ h.0 = some-injective v h.0 (sym at ∙ (ap (λ (k : ℕ). get_elem? views k) (sym e) ∙ h.1)) in (
            w,
            ap (λ (k : ℕ). get_elem? (set views id w) k) e ∙ set_at views id v w at,
            (same place process value busy).0 (subst (λ (u : View V). IsOf u place process value) (sym is) h.2),
          )
      there h (no ne) = (h.0, set_else views id seat w ne ∙ h.1, h.2)

  -- a new seat with no process but an idle one
  view_added : (views : List (View V)) (u : View V)
      → ((place : ℕ) (process : Process) (value : V) → process ≢ Idle → ¬ IsOf u place process value)
      → SameBusy views (views ++ u ∷ [])
  view_added views u nothing seat place process value busy = (
    (λ h. (h.0, at_longer views (u ∷ []) seat h.0 h.1, h.2)),
    (λ h. ⊎_elim (λ e. (h.0, e, h.2))
        (λ p. absurd (nothing place process value busy (subst (λ (x : View V). IsOf x place process value) (sym p.1) h.2)))
        (at_end views u h.0 seat h.1)),
  )

  -- if the slot and the busy processes are the same, the content is the same
  same_content : (s t : State (std.Option V) (View V)) → SameBusy s.views t.views
      → ((value : V) → ◌↔◌ (s.homes ≡ some (Some value) ∷ []) (t.homes ≡ some (Some value) ∷ [])) → SameContent s t
  same_content s t busy slot value = (
    (λ c. ⊎_elim (λ h. inl ((slot value).0 h))
        (λ h. inr (h.0, (h.1.0, (busy h.0 h.1.0 Inside value (λ e. cc)).0 h.1.1))) c),
    (λ c. ⊎_elim (λ h. inl ((slot value).1 h))
        (λ h. inr (h.0, (h.1.0, (busy h.0 h.1.0 Inside value (λ e. cc)).1 h.1.1))) c),
  )

  -- the same slot if the homes stay
  same_slot : (homes homes' : List (Option (std.Option V))) → homes' ≡ homes → (value : V)
      → ◌↔◌ (homes ≡ some (Some value) ∷ []) (homes' ≡ some (Some value) ∷ [])
  same_slot homes homes' e value = ((λ h. e ∙ h), (λ h. sym e ∙ h))

  module _ (since : ℕ → V → V → Type 0) (levels : ℕ) where
    -- the obligation for each kind of step
    abbrev pub Leaves : (s t : State (std.Option V) (View V)) → Type 0
    Leaves s t = LeavesProcesses s t levels × SameContent s t

    -- from the words, the views and the homes
    leaves : (s t : State (std.Option V) (View V))
        → ((word : Word) → words_in levels t.words word ≡ words_in levels s.words word)
        → SameBusy s.views t.views
        → ((value : V) → ◌↔◌ (s.homes ≡ some (Some value) ∷ []) (t.homes ≡ some (Some value) ∷ [])) → Leaves s t
    leaves s t words busy slot =
        (record { words = words; busy = busy }, same_content s t busy slot)

    -- a load leaves all words
    loaded : (row : List ℕ) (i : ℕ) (word : Word)
        → words_in levels (set row i (slice_index row i)) word ≡ words_in levels row word
    loaded row i word = ap (λ (r : List ℕ). words_in levels r word) (word_kept row i)

    -- a load that keeps the seat's slots and the process that its view shows
    keeps_slots : (s t : State (std.Option V) (View V)) (seat word number : ℕ) (slots : Slots V)
        (before : View V) (after : Me (std.Option V) (View V)) → get_elem? s.views seat ≡ some before
        → ((w : Word) → words_in levels (set s.words word number) w ≡ words_in levels s.words w)
        → (step : SeatSteps s t seat word number slots after) → after.1 ≡ slots → ShowsSame before after.0 → Leaves s t
    keeps_slots s t seat word number slots before after at words step still same =
        subst (λ (u : State (std.Option V) (View V)). Leaves s u) (sym step.leads)
        (leaves s (stepped s word number seat slots after.0 step.act) words (view_set s.views seat before after.0 at same)
        (same_slot s.homes (homes_after s.homes slots step.act)
        (same_homes step.act s.homes slots step.slot step.valid (step.carries ∙ still))))

    -- the swap into the making word
    swap : (s t : State (std.Option V) (View V)) → SwapsToMake s t levels → Leaves s t
    swap s t k =
        let m : ℕ = making_index levels in
        subst (λ (u : State (std.Option V) (View V)). Leaves s u) (sym k.leads)
        (leaves s (record { words = set s.words m 1; homes = homes_after s.homes [] k.act; views = s.views ++ k.view ∷ [] })
        (λ w. ap (λ (f : Word → ℕ). f w) (words_behind levels m s.words 1 (let here : m ≤ m = omega arith in here)))
        (view_added s.views k.view (shows_none (ℕ_discrete (slice_index s.words m) 0)))
        (same_slot s.homes (homes_after s.homes [] k.act)
        (same_homes k.act s.homes [] (inl refl) k.valid k.told.2)))
      where
        shows_none : Dec (slice_index s.words (making_index levels) ≡ 0)
            → (place : ℕ) (process : Process) (value : V) → process ≢ Idle → ¬ IsOf k.view place process value
        shows_none (yes zero) place process value busy h =
            subst (λ (x : View V). IsOf x place process value)
            (ap (λ (me : Me (std.Option V) (View V)). me.0) (k.told.0 zero)) h
        shows_none (no other) place process value busy h =
            subst (λ (x : View V). IsOf x place process value)
            (ap (λ (me : Me (std.Option V) (View V)). me.0) (k.told.1 other)) h

    -- neither view shows a process but an idle one
    shows_idle : (v w : View V) → ((p : ℕ) (x : Process) (y : V) → x ≢ Idle → ¬ IsOf v p x y)
        → ((p : ℕ) (x : Process) (y : V) → x ≢ Idle → ¬ IsOf w p x y) → ShowsSame v w
    shows_idle v w a b p x y busy = ((λ h. absurd (a p x y busy h)), (λ h. absurd (b p x y busy h)))

    -- the maker takes the empty slot
    take_slot : (s t : State (std.Option V) (View V)) (seat word : ℕ) (slots : Slots V)
        (after : Me (std.Option V) (View V)) → Rule since levels s → get_elem? s.views seat ≡ some Making
        → (step : SeatSteps s t seat word (slice_index s.words word) slots after) → after ≡ (Filling, (0, None) ∷ [])
        → Leaves s t
    take_slot s t seat word slots after rule at step told =
        subst (λ (u : State (std.Option V) (View V)). Leaves s u) (sym step.leads)
        (leaves s (stepped s word (slice_index s.words word) seat slots after.0 step.act) (loaded s.words word)
        (view_set s.views seat Making after.0 at
        (subst (λ (u : View V). ShowsSame Making u) (sym (ap (λ (me : Me (std.Option V) (View V)). me.0) told))
        (shows_idle Making Filling (λ p x y busy h. h) (λ p x y busy h. h))))
        (λ value. ((λ h. absurd (empty value h)), (λ h. absurd (out value h)))))
      where
        home : s.homes ≡ some None ∷ []
        home = (rule.1.fits seat Making at).3

        nothing : slots ≡ []
        nothing = ⊎_elim (λ h. h) (λ h. absurd (empty_is_home (sym h.2 ∙ home))) step.slot

        empty : (value : V) → s.homes ≡ some (Some value) ∷ [] → ⊥
        empty value h = home_empty value (sym home ∙ h)

        taken : carried_after slots step.act ≡ (0, None) ∷ []
        taken = step.carries ∙ ap (λ (me : Me (std.Option V) (View V)). me.1) told

        out : (value : V) → homes_after s.homes slots step.act ≡ some (Some value) ∷ [] → ⊥
        out value h = ⊎_elim (λ p. home_not value (sym p.0 ∙ h)) (λ p. no_slot _ _ (sym p.1 ∙ taken))
            (one_slot step.act None s.homes slots (inr (home, nothing)) step.valid)

    -- a load by the maker, by its view
    maker_load : (s t : State (std.Option V) (View V)) (seat word : ℕ) (before : View V) (slots : Slots V)
        (after : Me (std.Option V) (View V)) → Rule since levels s → get_elem? s.views seat ≡ some before
        → (step : SeatSteps s t seat word (slice_index s.words word) slots after) → MakerIsTold before slots after
        → Leaves s t
    maker_load s t seat word Making slots after rule at step told = take_slot s t seat word slots after rule at step told
    maker_load s t seat word (HandingOut first value) slots after rule at step told =
        keeps_slots s t seat word (slice_index s.words word) slots (HandingOut first value) after at (loaded s.words word)
        step (ap (λ (me : Me (std.Option V) (View V)). me.1) told)
        (subst (λ (u : View V). ShowsSame (HandingOut first value) u)
        (sym (ap (λ (me : Me (std.Option V) (View V)). me.0) told))
        (shows_idle (HandingOut first value) (Seated first Idle value 0) (λ p x y busy h. h)
        (λ p x y busy h. busy (sym h.1))))
    maker_load s t seat word Unused slots after rule at step told = absurd told
    maker_load s t seat word Filling slots after rule at step told = absurd told
    maker_load s t seat word (Seated place process value count) slots after rule at step told = absurd told
    maker_load s t seat word (Watching place process value count) slots after rule at step told = absurd told
    maker_load s t seat word (Owes place process value count rival) slots after rule at step told = absurd told
    maker_load s t seat word (Joining place value other seen count) slots after rule at step told = absurd told
    maker_load s t seat word Spent slots after rule at step told = absurd told

    -- the split of the maker
    split : (s t : State (std.Option V) (View V)) → SplitsOff s t → Leaves s t
    split s t k =
        let rest : View V = HandingOut (k.first + 1) k.value in let pass : View V = Seated k.first Idle k.value 0 in
        let views : List (View V) = set s.views k.seat rest in
        subst (λ (u : State (std.Option V) (View V)). Leaves s u) (sym k.leads)
        (leaves s (record { words = s.words; homes = s.homes; views = views ++ pass ∷ [] }) (λ w. refl)
        (both_changes s.views views (views ++ pass ∷ [])
        (view_set s.views k.seat (HandingOut k.first k.value) rest k.view
        (shows_idle (HandingOut k.first k.value) rest (λ p x y busy h. h) (λ p x y busy h. h)))
        (view_added views pass (λ p x y busy h. busy (sym h.1))))
        (same_slot s.homes s.homes refl))

    -- the join of `confirm`
    join : (s t : State (std.Option V) (View V)) → JoinsPass s t → Leaves s t
    join s t k =
        let inside : View V = Seated k.place Inside k.found k.count in
        let idle : View V = Seated k.other Idle k.seen k.last in
        let both : View V = Joining k.place k.found k.other k.seen k.count in
        let views : List (View V) = set s.views k.seat both in
        subst (λ (u : State (std.Option V) (View V)). Leaves s u) (sym k.leads)
        (leaves s (record { words = s.words; homes = s.homes; views = set views k.idle Spent }) (λ w. refl)
        (both_changes s.views views (set views k.idle Spent)
        (view_set s.views k.seat inside both k.view (λ p x y busy. ((λ h. h), (λ h. h))))
        (view_set views k.idle idle Spent (set_else s.views k.seat k.idle both k.apart ∙ k.spent)
        (shows_idle idle Spent (λ p x y busy h. busy (sym h.1)) (λ p x y busy h. h))))
        (same_slot s.homes s.homes refl))

    -- and its load
    learn : (s t : State (std.Option V) (View V)) → LearnsOfPass s t since → Leaves s t
    learn s t k =
        let both : View V = Joining k.place k.found k.other k.seen k.count in
        keeps_slots s t k.seat k.word (slice_index s.words k.word) k.slots both k.after k.view (loaded s.words k.word) k.steps
        (ap (λ (me : Me (std.Option V) (View V)). me.1) k.told.1)
        (subst (λ (u : View V). ShowsSame both u) (sym (ap (λ (me : Me (std.Option V) (View V)). me.0) k.told.1))
        (λ p x y busy. ((λ h. h), (λ h. h))))

    -- what a seat knows of bells doesn't change its process
    awake_shows : (v : View V) → ShowsSame v (awake v)
    awake_shows Unused p x y busy = ((λ h. h), (λ h. h))
    awake_shows Making p x y busy = ((λ h. h), (λ h. h))
    awake_shows Filling p x y busy = ((λ h. h), (λ h. h))
    awake_shows (HandingOut first value) p x y busy = ((λ h. h), (λ h. h))
    awake_shows (Seated place process value count) p x y busy = ((λ h. h), (λ h. h))
    awake_shows (Watching place process value count) p x y busy = ((λ h. h), (λ h. h))
    awake_shows (Owes place process value count rival) p x y busy = ((λ h. h), (λ h. h))
    awake_shows (Joining place value other seen count) p x y busy = ((λ h. h), (λ h. h))
    awake_shows Spent p x y busy = ((λ h. h), (λ h. h))

    paid_shows : (v : View V) → ShowsSame v (paid v)
    paid_shows Unused p x y busy = ((λ h. h), (λ h. h))
    paid_shows Making p x y busy = ((λ h. h), (λ h. h))
    paid_shows Filling p x y busy = ((λ h. h), (λ h. h))
    paid_shows (HandingOut first value) p x y busy = ((λ h. h), (λ h. h))
    paid_shows (Seated place process value count) p x y busy = ((λ h. h), (λ h. h))
    paid_shows (Watching place process value count) p x y busy = ((λ h. h), (λ h. h))
    paid_shows (Owes place process value count rival) p x y busy = ((λ h. h), (λ h. h))
    paid_shows (Joining place value other seen count) p x y busy = ((λ h. h), (λ h. h))
    paid_shows Spent p x y busy = ((λ h. h), (λ h. h))

    bell_shows : (v w : View V) → (w ≡ v) ⊎ ((w ≡ awake v) ⊎ (w ≡ paid v)) → ShowsSame v w
    bell_shows v w (inl e) = subst (λ (u : View V). ShowsSame v u) (sym e) (λ p x y busy. ((λ h. h), (λ h. h)))
    bell_shows v w (inr (inl e)) = subst (λ (u : View V). ShowsSame v u) (sym e) (awake_shows v)
    bell_shows v w (inr (inr e)) = subst (λ (u : View V). ShowsSame v u) (sym e) (paid_shows v)

    -- an access of a bell
    bell : (s t : State (std.Option V) (View V)) → AccessesBell s t levels → Leaves s t
    bell s t k =
        let m : ℕ = making_index levels in let behind : m < k.word = k.behind in
        keeps_slots s t k.seat k.word k.number k.slots k.before (k.after, k.slots) k.view
        (λ w. ap (λ (f : Word → ℕ). f w)
        (words_behind levels k.word s.words k.number (let le : m ≤ k.word = omega arith in le)))
        k.steps refl (bell_shows k.before k.after k.known)

    -- so every other kind leaves words, processes and content as they are
    pub other_leaves : (s t : State (std.Option V) (View V)) → Rule since levels s → IsOtherStep s t since levels → Leaves s t
    other_leaves s t rule (Swap k) = swap s t k
    other_leaves s t rule (MakerLoad k) = maker_load s t k.seat k.word k.before k.slots k.after rule k.view k.steps k.told
    other_leaves s t rule (Split k) = split s t k
    other_leaves s t rule (Join k) = join s t k
    other_leaves s t rule (Learn k) = learn s t k
    other_leaves s t rule (Bell k) = bell s t k

    -- the gift makes the value the content, for the first time
    pub gift_leaves : (s t : State (std.Option V) (View V)) (value : V) → Rule since levels s → GivesHome s t value
        → LeavesProcesses s t levels × ((v : V) → ¬ IsContent s v) × IsContent t value
    gift_leaves s t value rule k =
        subst (λ (u : State (std.Option V) (View V)).
        LeavesProcesses s u levels × ((v : V) → ¬ IsContent s v) × IsContent u value) (sym k.steps.leads) (
          record {
            words = loaded s.words k.word;
            busy = view_set s.views k.seat Filling k.after.0 k.view
                (subst (λ (u : View V). ShowsSame Filling u) (sym (ap (λ (me : Me (std.Option V) (View V)). me.0) told))
                (shows_idle Filling (HandingOut 0 value) (λ p x y busy h. h) (λ p x y busy h. h)));
          },
          (λ v c. ⊎_elim (λ h. home_not v (sym out ∙ h))
              (λ h. (made_by_one since levels s rule).unfilled k.seat Filling k.view tt h.0 h.1.0 Inside v h.1.1) c),
          inl (given k.steps.act (Some value) s.homes ((0, Some value) ∷ []) k.steps.slot k.steps.valid refl
              (k.steps.carries ∙ ap (λ (me : Me (std.Option V) (View V)). me.1) told)),
        )
      where
        told : k.after ≡ (HandingOut 0 value, [])
        told = k.told value refl

        out : s.homes ≡ none ∷ []
        out = ⊎_elim (λ h. absurd (no_slot _ _ (sym h))) (λ h. h.2) k.steps.slot
