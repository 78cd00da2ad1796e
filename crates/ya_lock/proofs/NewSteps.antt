-- The steps of `new` that make the passes keep the rule.
use Rattle.std.proofs.Common.{◌≡◌, ◌≢◌, ℕ, zero, suc, ◌+◌, ◌*◌, ◌^◌, ◌<◌, ◌≤◌, eqb, true, false, cond, List, [], ◌∷◌, ◌++◌}
use Rattle.std.proofs.Common.{length, set, sym, refl, ap, ◌∙◌, subst, arith, slice_index, None, Some, replicate, inl}
use Rattle.std.proofs.Common.{inr, ⊎_elim, ◌⊎◌, eq-eqb, ne_eqb}
use Rattle.std.specs.Prelude as std
use Rattle.std.proofs.lemmas.List.{length-set, get_or-set_same, length-replicate}
use Rattle.std.proofs.lemmas.Nat.{pow_pos}
use mathlib.Core.Option.{Option, none, some, some-injective, some-ne-none}
use native.Mathlib.Decide.{ℕ_discrete}
use lib.ListN.{get_elem?}
use Rattle.atomic_table.specs.Table.{State, Me, keeps, takes, gives, carried_after, homes_after, opening, Allows}
use Rattle.atomic_table.specs.Table.{Arrives, Splits}
use Rattle.atomic_table.proofs.Lists.{at_set, at_last}
use Rattle.ya_core.specs.declared.word.Word.{Word}
use Rattle.ya_core.specs.declared.process.Process.TheVariants.{Idle}
use Rattle.ya_core.specs.Soundness.{IsSoundState}
use Rattle.ya_lock.specs.declared.rule.View.{View}
use Rattle.ya_lock.specs.declared.rule.View.TheVariants.{Unused, Making, Filling, HandingOut, Seated, Watching, Owes, Joining, Spent}
use Rattle.ya_lock.specs.Rule.{making_index, row_length, GlobalView, ValueInSlot, ViewFits, Obeys, Rule, Slots}
use Rattle.ya_core.specs.Worlds.{is_inside}
use Rattle.ya_lock.specs.StepEffects.{BeginsMaking, TakesSlot, GivesValue, HandsOutLast}
use Rattle.ya_core.proofs.Promised.{opens as opens_sound}
use Rattle.ya_lock.proofs.WordsInRow.{words_zero, words_behind, set_at}
use Rattle.ya_lock.specs.Rule.{IsWatching}
use Rattle.ya_core.specs.declared.process.Process.{Process}
use Rattle.ya_lock.proofs.Rings.{set_quiet, add_quiet, set_making}
use Rattle.ya_lock.proofs.Frames.{refits, looks, sees, Sits, sits_still, sits_else, sits_longer}

-- an element of the longer list is the last one, or was there before
pub at_end : {A : Type 0} (l : List A) (a b : A) (j : ℕ) → get_elem? (l ++ a ∷ []) j ≡ some b
    → (get_elem? l j ≡ some b) ⊎ ((j ≡ length l) × (a ≡ b))
at_end [] a b zero e = inr (refl, some-injective a b e)
at_end [] a b (suc j) e = absurd (some-ne-none b (sym e))
at_end (x ∷ xs) a b zero e = inl e
at_end (x ∷ xs) a b (suc j) e = ⊎_elim inl (λ p. inr (ap suc p.0, p.1)) (at_end xs a b j e)

-- a list of one element, with another in its place
pub only : {A : Type 0} (l : List A) (a : A) → length l ≡ 1 → set l 0 a ≡ a ∷ []
only [] a e = absurd (omega arith)
only (x ∷ []) a e = refl
only (x ∷ y ∷ zs) a e = absurd (omega arith)

-- the contents of the slot taken last
first_value : {V : Type 0} → Slots V → std.Option V
first_value [] = None
first_value (x ∷ xs) = x.1

-- a slot has only one value
pub one_value : {V : Type 0} (a b : V) → ◌≡◌ {A = Slots V} ((0, Some a) ∷ []) ((0, Some b) ∷ []) → a ≡ b
unfolding first_value
one_value {V} a b e = let values : Some a ≡ Some b = ap (λ (l : Slots V). first_value l) e in cc

module _ {V : Type 0} (since : ℕ → V → V → Type 0) (since_same : (place : ℕ) (a : V) → since place a a)
    (levels : ℕ) where
  -- a state of the table
  abbrev St : Type 0
  St = State (std.Option V) (View V)

  -- before anything happened
  nothing : GlobalView V
  nothing = record { seat_of = λ _. none; processes = λ _. Idle; maker = none; content = none }

  -- the seat that the table begins with is unused
  first_fits : (s : St) (seat : ℕ) (view : View V) → get_elem? (Unused ∷ []) seat ≡ some view
      → ViewFits since levels s nothing seat view
  first_fits s zero view at = subst (λ (v : View V). ViewFits since levels s nothing zero v) (some-injective _ _ at) tt
  first_fits s (suc j) view at = absurd (some-ne-none view (sym at))

  -- it doesn't watch
  first_watches : (seat : ℕ) (view : View V) (place : ℕ) (process : Process) → get_elem? (Unused ∷ []) seat ≡ some view
      → ¬ IsWatching view place process
  first_watches zero view place process at h =
      subst (λ (v : View V). IsWatching v place process) (sym (some-injective Unused view at)) h
  first_watches (suc j) view place process at h = some-ne-none view (sym at)

  -- a new table, whose words are 0 and whose slot is empty
  pub opens : (n : ℕ) → n ≡ row_length levels → Rule since levels (opening (replicate n 0) (None ∷ []) Unused)
  unfolding nothing
  opens n long = (
    nothing,
    record {
      wide = length-replicate n 0 ∙ long;
      unmade = λ _. (refl, refl);
      before = λ _ _. refl;
      seated = λ place seat e. absurd (some-ne-none seat (sym e));
      absent = λ _ _. refl;
      sound = subst (λ (words : Word → ℕ). IsSoundState levels record { words = words; processes = λ _. Idle })
          (sym (words_zero levels n)) (opens_sound levels);
      lies = tt;
      fits = first_fits (opening (replicate n 0) (None ∷ []) Unused);
    },
    λ seat place process view at watches. absurd (first_watches seat view place process at watches),
  )

  -- while the making word is 0, all seats are unused
  unused_fits : (s t : St) (x y : GlobalView V) (seat : ℕ) (view : View V) → slice_index s.words (making_index levels) ≡ 0
      → ViewFits since levels s x seat view → ViewFits since levels t y seat view
  unused_fits s t x y seat Unused e f = tt
  unused_fits s t x y seat Making e f = absurd (f.0 e)
  unused_fits s t x y seat Filling e f = absurd (f.0 e)
  unused_fits s t x y seat (HandingOut first value) e f = absurd (f.0 e)
  unused_fits s t x y seat (Seated place process value count) e f = absurd (f.0 e)
  unused_fits s t x y seat (Watching place process value count) e f = absurd (f.0 e)
  unused_fits s t x y seat (Owes place process value count debt) e f = absurd (f.0 e)
  unused_fits s t x y seat (Joining place value other seen count) e f = absurd (f.0 e)
  unused_fits s t x y seat Spent e f = absurd (f e)

  -- the table once 1 was swapped into the making word by a new seat of this view
  abbrev swapped : St → View V → St
  swapped s w = record { words = set s.words (making_index levels) 1; homes = s.homes; views = s.views ++ w ∷ [] }

  -- the same global view, with this maker, or none
  abbrev made_by : GlobalView V → Option ℕ → GlobalView V
  made_by x maker =
      record { seat_of = x.seat_of; processes = x.processes; maker = maker; content = x.content }

  -- the making word isn't 0 then
  begun_by_swap : (s : St) (w : View V) → length s.words ≡ row_length levels
      → slice_index (swapped s w).words (making_index levels) ≢ 0
  begun_by_swap s w wide e =
      let m : ℕ = making_index levels in let n : ℕ = length s.words in let places : ℕ = 2 ^ levels in
      let long : n ≡ m + 8 * (1 + places) = wide in
      let one : ◌≡◌ {A = ℕ} 1 0 = sym (get_or-set_same s.words m 1 0 (omega arith)) ∙ e in absurd (omega arith)

  -- and the rest of the rule still holds
  swap_obeys : (s : St) (x : GlobalView V) (maker : Option ℕ) (w : View V) → Obeys since levels s x
      → ((seat : ℕ) (view : View V) → get_elem? (s.views ++ w ∷ []) seat ≡ some view
      → ViewFits since levels (swapped s w) (made_by x maker) seat view) → Obeys since levels (swapped s w) (made_by x maker)
  swap_obeys s x maker w o fits =
      let m : ℕ = making_index levels in record {
        wide = length-set s.words m 1 ∙ o.wide;
        unmade = λ e. absurd (begun_by_swap s w o.wide e);
        before = o.before;
        seated = λ k seat e. sits_longer since levels s.views w k seat (o.seated k seat e);
        absent = o.absent;
        sound = subst (λ (words : Word → ℕ). IsSoundState levels record { words = words; processes = x.processes })
            (sym (words_behind levels m s.words 1 (let here : m ≤ m = omega arith in here))) o.sound;
        lies = o.lies;
        fits = fits;
      }

  -- the swap of 1 into the making word
  begins_at : (slots : ℕ)
      → Arrives (Rule since levels) slots (making_index levels) (λ _. 1) (λ found me. BeginsMaking found me)
  begins_at slots s rule wide small =
      let x : GlobalView V = rule.0 in let o = rule.1 in
      elim (ℕ_discrete (slice_index s.words (making_index levels)) 0) [
        | yes z ↦
            let t : St = swapped s Making in let y : GlobalView V = made_by x (some (length s.views)) in (
              Making,
              keeps,
              tt,
              (
                y,
                swap_obeys s x (some (length s.views)) Making o (λ seat view at.
                    ⊎_elim (λ there. unused_fits s t x y seat view z (o.fits seat view there))
                    (λ p. subst (λ (v : View V). ViewFits since levels t y seat v) p.1
                    (begun_by_swap s Making o.wide, ap some (sym p.0), (o.unmade z).0, (o.unmade z).1))
                    (at_end s.views Making view seat at)),
                add_quiet levels t.words s.views Making (λ p y h. h) (set_making levels s.words s.views 1 rule.2),
              ),
              ((λ _. refl), (λ other. absurd (other z)), refl),
            )
        | no other ↦
            let t : St = swapped s Unused in (
              Unused,
              keeps,
              tt,
              (
                x,
                swap_obeys s x x.maker Unused o (λ seat view at. ⊎_elim
                    (λ there. refits since levels s t x (λ _. begun_by_swap s Unused o.wide) seat view (λ _. refl)
                    (o.fits seat view there))
                    (λ p. subst (λ (v : View V). ViewFits since levels t x seat v) p.1 tt)
                    (at_end s.views Unused view seat at)),
                add_quiet levels t.words s.views Unused (λ p y h. h) (set_making levels s.words s.views 1 rule.2),
              ),
              ((λ z. absurd (other z)), (λ _. refl), refl),
            )
      ]

  -- the same where the word is named by its number
  pub begins : (slots i : ℕ) → i ≡ making_index levels
      → Arrives (Rule since levels) slots i (λ _. 1) (λ found me. BeginsMaking found me)
  begins slots i is =
      subst (λ (j : ℕ). Arrives (Rule since levels) slots j (λ _. 1) (λ found me. BeginsMaking found me)) (sym is)
      (begins_at slots)

  -- the maker has one seat
  other_maker : (x : GlobalView V) (id seat : ℕ) → x.maker ≡ some id → x.maker ≡ some seat → seat ≢ id → ⊥
  other_maker x id seat a b ne = ne (some-injective _ _ (sym b ∙ a))

  -- the maker takes the empty slot
  pub takes_slot : (slots id i : ℕ) (me : Me (std.Option V) (View V)) → me.0 ≡ Making → me.1 ≡ []
      → Allows (Rule since levels) slots id me i (λ n. n) (λ n then'. TakesSlot me.0 then')
  takes_slot slots id i me is none' s rule wide at small =
      let x : GlobalView V = rule.0 in let o = rule.1 in let f = o.fits id Making (at ∙ ap some is) in
      let t : St = record { words = s.words; homes = set s.homes 0 none; views = set s.views id Filling } in (
        Filling,
        takes 0 None,
        ap (λ (h : List (Option (std.Option V))). get_elem? h 0) f.3,
        looks since levels s id i me.1 Filling (takes 0 None) (
          x,
          record {
            wide = o.wide;
            unmade = λ e. absurd (f.0 e);
            before = o.before;
            seated = λ k seat e. sits_still since levels s.views id Making Filling (at ∙ ap some is) refl k seat
                (o.seated k seat e);
            absent = o.absent;
            sound = o.sound;
            lies = subst (λ (c : Option V). ValueInSlot since x.processes (set s.homes 0 none) c) (sym f.2) tt;
            fits = λ seat view there. ⊎_elim
                (λ p. subst (λ (v : View V). ViewFits since levels t x seat v) p.1 (
                  f.0,
                  f.1 ∙ ap some (sym p.0),
                  f.2,
                  ap (λ (h : List (Option (std.Option V))). length (set h 0 none)) f.3,
                ))
                (λ p. refits since levels s t x (λ b. b) seat view (λ m. absurd (other_maker x id seat f.1 m p.0))
                (o.fits seat view p.1)) (at_set s.views id seat Filling view there);
          },
          set_quiet levels s.words s.views id Making Filling (at ∙ ap some is) (λ p h. h) (λ p y h. h) rule.2,
        ),
        subst (λ (v : View V). TakesSlot v (Filling, (0, None) ∷ me.1)) (sym is)
            (ap (λ (l : Slots V). (Filling, (0, None) ∷ l)) none'),
      )

  -- before the value was given, all seats but the maker are unused
  given_fits : (s t : St) (x y : GlobalView V) (id : ℕ) → Obeys since levels s x → x.maker ≡ some id → x.content ≡ none
      → slice_index t.words (making_index levels) ≢ 0
      → (seat : ℕ) (view : View V) → seat ≢ id → ViewFits since levels s x seat view → ViewFits since levels t y seat view
  given_fits s t x y id o m c begun seat Unused ne f = tt
  given_fits s t x y id o m c begun seat Making ne f = absurd (other_maker x id seat m f.1 ne)
  given_fits s t x y id o m c begun seat Filling ne f = absurd (other_maker x id seat m f.1 ne)
  given_fits s t x y id o m c begun seat (HandingOut first value) ne f = absurd (other_maker x id seat m f.1 ne)
  given_fits s t x y id o m c begun seat (Seated place process value count) ne f =
      absurd (some-ne-none seat (sym f.1 ∙ o.before c place))
  given_fits s t x y id o m c begun seat (Watching place process value count) ne f =
      absurd (some-ne-none seat (sym f.1 ∙ o.before c place))
  given_fits s t x y id o m c begun seat (Owes place process value count debt) ne f =
      absurd (some-ne-none seat (sym f.1 ∙ o.before c place))
  given_fits s t x y id o m c begun seat (Joining place value other seen count) ne f =
      absurd (some-ne-none seat (sym f.1 ∙ o.before c place))
  given_fits s t x y id o m c begun seat Spent ne f = begun

  -- the maker gives the slot home with the value
  pub gives_value : (slots id i : ℕ) (value : V) (me : Me (std.Option V) (View V)) → me.0 ≡ Filling
      → me.1 ≡ (0, Some value) ∷ []
      → Allows (Rule since levels) slots id me i (λ n. n) (λ n then'. GivesValue me.0 me.1 then')
  gives_value slots id i value me is has s rule wide at small =
      let x : GlobalView V = rule.0 in let o = rule.1 in let f = o.fits id Filling (at ∙ ap some is) in
      let homes : List (Option (std.Option V)) = homes_after s.homes me.1 gives in
      let home : homes ≡ some (Some value) ∷ [] =
      ap (λ (l : Slots V). homes_after s.homes l gives) has ∙ only s.homes (some (Some value)) f.3 in
      let t : St = record { words = s.words; homes = homes; views = set s.views id (HandingOut 0 value) } in
      let y : GlobalView V =
      record { seat_of = x.seat_of; processes = x.processes; maker = x.maker; content = some value } in (
        HandingOut 0 value,
        gives,
        tt,
        looks since levels s id i me.1 (HandingOut 0 value) gives (
          y,
          record {
            wide = o.wide;
            unmade = λ e. absurd (f.0 e);
            before = λ e. absurd (some-ne-none value e);
            seated = λ k seat e. sits_still since levels s.views id Filling (HandingOut 0 value)
                (at ∙ ap some is) refl k seat (o.seated k seat e);
            absent = o.absent;
            sound = o.sound;
            lies = (
              (λ _. home),
              (λ k e. let idle : true ≡ false = sym e ∙ ap is_inside (o.absent k (o.before f.2 k)) in cc),
            );
            fits = λ seat view there. ⊎_elim
                (λ p. subst (λ (v : View V). ViewFits since levels t y seat v) p.1 (
                  f.0,
                  f.1 ∙ ap some (sym p.0),
                  pow_pos levels,
                  λ k le. (o.before f.2 k, (value, refl, since_same k value)),
                ))
                (λ p. given_fits s t x y id o f.1 f.2 f.0 seat view p.0 (o.fits seat view p.1))
                (at_set s.views id seat (HandingOut 0 value) view there);
          },
          set_quiet levels s.words s.views id Filling (HandingOut 0 value) (at ∙ ap some is) (λ p h. h) (λ p y h. h) rule.2,
        ),
        subst (λ (v : View V). GivesValue v me.1 (HandingOut 0 value, carried_after me.1 gives)) (sym is)
            (λ other e. let same : value ≡ other = one_value value other (sym has ∙ e) in
            λ k. (HandingOut 0 (same k), carried_after (e k) gives)),
      )

  -- a place has its process in a seat from now on
  abbrev seated : GlobalView V → ℕ → ℕ → GlobalView V
  seated x place id =
      record {
        seat_of = λ other. cond (eqb other place) (some id) (x.seat_of other);
        processes = x.processes;
        maker = x.maker;
        content = x.content;
      }

  -- the place has that seat
  seated_here : (x : GlobalView V) (place id : ℕ) → (seated x place id).seat_of place ≡ some id
  seated_here x place id = rw (eq-eqb place place refl) refl

  -- all other places keep theirs
  seated_else : (x : GlobalView V) (place id other : ℕ) → other ≢ place
      → (seated x place id).seat_of other ≡ x.seat_of other
  seated_else x place id other ne = rw (ne_eqb other place ne) refl

  -- a place without a seat isn't one with a seat
  unseated : (x : GlobalView V) (place other seat : ℕ) → x.seat_of place ≡ none → x.seat_of other ≡ some seat
      → other ≢ place
  unseated x place other seat a b e = some-ne-none seat (sym b ∙ (ap x.seat_of e ∙ a))

  -- the view of another seat fits the new global view
  handed_fits : (s t : St) (x : GlobalView V) (id place number : ℕ) → x.maker ≡ some id → x.seat_of place ≡ none
      → t.words ≡ s.words → t.homes ≡ s.homes
      → (seat : ℕ) (view : View V) → seat ≢ id → ViewFits since levels s x seat view
      → ViewFits since levels t (seated x place number) seat view
  handed_fits s t x id place number m free words homes seat Unused ne f = tt
  handed_fits s t x id place number m free words homes seat Making ne f = absurd (other_maker x id seat m f.1 ne)
  handed_fits s t x id place number m free words homes seat Filling ne f = absurd (other_maker x id seat m f.1 ne)
  handed_fits s t x id place number m free words homes seat (HandingOut first value) ne f =
      absurd (other_maker x id seat m f.1 ne)
  handed_fits s t x id place number m free words homes seat (Seated p process value count) ne f = (
    subst (λ (r : List ℕ). slice_index r (making_index levels) ≢ 0) (sym words) f.0,
    seated_else x place number p (unseated x place p seat free f.1) ∙ f.1,
    f.2,
    f.3,
    f.4,
    f.5,
  )
  handed_fits s t x id place number m free words homes seat (Watching p process value count) ne f = (
    subst (λ (r : List ℕ). slice_index r (making_index levels) ≢ 0) (sym words) f.0,
    seated_else x place number p (unseated x place p seat free f.1) ∙ f.1,
    f.2,
    f.3,
    f.4,
    f.5,
  )
  handed_fits s t x id place number m free words homes seat (Owes p process value count debt) ne f = (
    subst (λ (r : List ℕ). slice_index r (making_index levels) ≢ 0) (sym words) f.0,
    seated_else x place number p (unseated x place p seat free f.1) ∙ f.1,
    f.2,
    f.3,
    f.4,
    f.5,
  )
  handed_fits s t x id place number m free words homes seat (Joining p value other seen count) ne f = (
    subst (λ (r : List ℕ). slice_index r (making_index levels) ≢ 0) (sym words) f.0,
    seated_else x place number p (unseated x place p seat free f.1) ∙ f.1,
    f.2,
    f.3,
    f.4,
    f.5,
    f.6,
  )
  handed_fits s t x id place number m free words homes seat Spent ne f =
      subst (λ (r : List ℕ). slice_index r (making_index levels) ≢ 0) (sym words) f

  -- a place that still has no seat is idle
  seated_absent : (x : GlobalView V) (place id : ℕ) → ((k : ℕ) → x.seat_of k ≡ none → x.processes k ≡ Idle) → (k : ℕ)
      → (seated x place id).seat_of k ≡ none → x.processes k ≡ Idle
  seated_absent x place id absent k e = elim (ℕ_discrete k place) [
    | yes same ↦ absurd
        (some-ne-none id (sym (seated_here x place id) ∙ (ap (seated x place id).seat_of (sym same) ∙ e)))
    | no ne ↦ absent k (sym (seated_else x place id k ne) ∙ e)
  ]

  -- the pass that was split off has the place, and the others sit where they sat
  handed_sits : (views : List (View V)) (id first : ℕ) (value : V) (place k seat : ℕ)
      → get_elem? views id ≡ some (HandingOut first value) → (x : GlobalView V)
      → (x.seat_of k ≡ some seat → Sits since levels views k seat) → Dec (k ≡ place)
      → (seated x place (length (set views id (HandingOut (first + 1) value)))).seat_of k ≡ some seat
      → Sits since levels (set views id (HandingOut (first + 1) value) ++ Seated place Idle value 0 ∷ []) k seat
  handed_sits views id first value place k seat at x sits (yes same) e =
      let n : ℕ = length (set views id (HandingOut (first + 1) value)) in
      let number : n ≡ seat =
      some-injective n seat (sym (seated_here x place n) ∙ (ap (seated x place n).seat_of (sym same) ∙ e)) in (
        Seated place Idle value 0,
        at_last (set views id (HandingOut (first + 1) value)) (Seated place Idle value 0) seat number,
        ap some (sym same),
      )
  handed_sits views id first value place k seat at x sits (no ne) e =
      sits_longer since levels (set views id (HandingOut (first + 1) value)) (Seated place Idle value 0) k seat
      (sits_still since levels views id (HandingOut first value) (HandingOut (first + 1) value) at refl k seat
      (sits (sym (seated_else x place (length (set views id (HandingOut (first + 1) value))) k ne) ∙ e)))

  -- the seat that became a pass has its place, and the others sit where they sat
  ended_sits : (views : List (View V)) (x : GlobalView V) (id place : ℕ) (value : V) (k seat : ℕ)
      → get_elem? views id ≡ some (HandingOut place value) → (x.seat_of k ≡ some seat → Sits since levels views k seat)
      → Dec (k ≡ place) → (seated x place id).seat_of k ≡ some seat
      → Sits since levels (set views id (Seated place Idle value 0)) k seat
  ended_sits views x id place value k seat at sits (yes same) e =
      let number : id ≡ seat =
      some-injective id seat (sym (seated_here x place id) ∙ (ap (seated x place id).seat_of (sym same) ∙ e)) in (
        Seated place Idle value 0,
        ap (λ (j : ℕ). get_elem? (set views id (Seated place Idle value 0)) j) (sym number)
            ∙ set_at views id (HandingOut place value) (Seated place Idle value 0) at,
        ap some (sym same),
      )
  ended_sits views x id place value k seat at sits (no ne) e =
      sits_else since levels views id (HandingOut place value) (Seated place Idle value 0) at k seat
      (λ h. some-ne-none k (sym h)) (sits (sym (seated_else x place id k ne) ∙ e))

  -- a place that has entered never made no remote access
  nothing_yet : 0 ≤ 0
  nothing_yet = omega arith

  -- the dealer splits off the pass of its first place
  pub splits : (id place : ℕ) (value : V) → place + 1 < 2 ^ levels
      → Splits (Rule since levels) id (HandingOut place value) (HandingOut (place + 1) value) (Seated place Idle value 0)
  splits id place value room s rule at =
      let x : GlobalView V = rule.0 in let o = rule.1 in let f = o.fits id (HandingOut place value) at in
      let views : List (View V) = set s.views id (HandingOut (place + 1) value) in
      let t : St = record { words = s.words; homes = s.homes; views = views ++ Seated place Idle value 0 ∷ [] } in
      let here = f.3 place (omega arith) in
      let y : GlobalView V = seated x place (length views) in (
        y,
        record {
          wide = o.wide;
          unmade = o.unmade;
          before = λ e. absurd (some-ne-none here.1.0 (sym here.1.1 ∙ e));
          seated = λ k seat e. handed_sits s.views id place value place k seat at x (o.seated k seat)
              (ℕ_discrete k place) e;
          absent = seated_absent x place (length views) o.absent;
          sound = o.sound;
          lies = o.lies;
          fits = λ seat view there. ⊎_elim
              (λ old. ⊎_elim
              (λ p. subst (λ (v : View V). ViewFits since levels t y seat v) p.1 (
                f.0,
                f.1 ∙ ap some (sym p.0),
                room,
                λ k le. let g = f.3 k (omega arith) in
                    (seated_else x place (length views) k (λ e. omega arith) ∙ g.0, g.1),
              ))
              (λ p. handed_fits s t x id place (length views) f.1 here.0 refl refl seat view p.0 (o.fits seat view p.1))
              (at_set s.views id seat (HandingOut (place + 1) value) view old))
              (λ p. subst (λ (v : View V). ViewFits since levels t y seat v) p.1
              (f.0, seated_here x place (length views) ∙ ap some (sym p.0), o.absent place here.0, here.1, nothing_yet, f.2))
              (at_end views (Seated place Idle value 0) view seat there);
        },
        add_quiet levels s.words views (Seated place Idle value 0) (λ p y h. h)
            (set_quiet levels s.words s.views id (HandingOut place value) (HandingOut (place + 1) value) at (λ p h. h)
            (λ p y h. h) rule.2),
      )

  -- the dealer becomes the pass of its last place
  pub ends : (slots id i place : ℕ) (value : V) (me : Me (std.Option V) (View V)) → me.0 ≡ HandingOut place value
      → Allows (Rule since levels) slots id me i (λ n. n) (λ n then'. HandsOutLast me.0 me.1 then')
  ends slots id i place value me is s rule wide at small =
      let x : GlobalView V = rule.0 in let o = rule.1 in let f = o.fits id (HandingOut place value) (at ∙ ap some is) in
      let w : View V = Seated place Idle value 0 in
      let t : St = record { words = s.words; homes = s.homes; views = set s.views id w } in
      let here = f.3 place (omega arith) in
      let y : GlobalView V = seated x place id in
      sees since levels s id i me.1 w (λ then'. HandsOutLast me.0 me.1 then') (
        y,
        record {
          wide = o.wide;
          unmade = o.unmade;
          before = λ e. absurd (some-ne-none here.1.0 (sym here.1.1 ∙ e));
          seated = λ k seat e. ended_sits s.views x id place value k seat (at ∙ ap some is) (o.seated k seat)
              (ℕ_discrete k place) e;
          absent = seated_absent x place id o.absent;
          sound = o.sound;
          lies = o.lies;
          fits = λ seat view there. ⊎_elim
              (λ p. subst (λ (v : View V). ViewFits since levels t y seat v) p.1
              (f.0, seated_here x place id ∙ ap some (sym p.0), o.absent place here.0, here.1, nothing_yet, f.2))
              (λ p. handed_fits s t x id place id f.1 here.0 refl refl seat view p.0 (o.fits seat view p.1))
              (at_set s.views id seat w view there);
        },
        set_quiet levels s.words s.views id (HandingOut place value) w (at ∙ ap some is) (λ p h. h) (λ p y h. h) rule.2,
      )
      (subst (λ (v : View V). HandsOutLast v me.1 (w, me.1)) (sym is) refl)
