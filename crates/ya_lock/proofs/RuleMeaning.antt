-- Consequences of the rule.
use Rattle.std.proofs.Common.{◌≡◌, ◌≢◌, ℕ, ◌^◌, ◌<◌, ◌≤◌, ◌⊎◌, inl, inr, Bool, true, false, [], ◌∷◌, sym, refl, ap, ◌∙◌, subst}
use Rattle.std.proofs.Common.{slice_index, Some}
use Rattle.std.specs.Prelude as std
use mathlib.Core.Option.{Option, none, some, some-injective, some-ne-none}
use Rattle.atomic_table.specs.Table.{State}
use Rattle.ya_core.specs.declared.process.Process.{Process}
use Rattle.ya_core.specs.declared.process.Process.TheVariants.{Idle, Inside}
use Rattle.ya_core.proofs.Promised.{is_inside_is, excludes, someone_goes_on}
use Rattle.ya_lock.specs.declared.rule.View.{View}
use Rattle.ya_lock.specs.declared.rule.View.TheVariants.{Unused, Making, Filling, HandingOut, Seated, Watching, Owes, Joining, Spent}
use Rattle.ya_lock.specs.Rule.{making_index, words_in, place_of_view, GlobalView, KnowsValue, ValueInSlot, ViewFits, Rule}
use Rattle.ya_lock.specs.Rule.{BellKnowledge, Quiet, Vain, Debt, view_at}
use Rattle.ya_core.specs.Worlds.{is_inside}
use Rattle.ya_lock.specs.LockState.{IsOf, IsFilling, IsMaking, HasProcess, IsAway, NoneInside, ShowsCore, GoesOn}
use Rattle.ya_lock.specs.LockState.{SomeSeatGoesOn, EachInTree, OneSeatAPlace, OneInside, IsToMake, IsGiven, IsInSlot, IsFresh, IsMadeByOne}
use Rattle.ya_lock.proofs.ProcessSteps.{none_true}
use Rattle.ya_lock.proofs.Slots.{home_is, home_not}

module _ {V : Type 0} where
  -- the view of a seat shows its process, whatever the seat knows of bells
  pub of_seated : (b : BellKnowledge) (place : ℕ) (process : Process) (value : V) (count p : ℕ) (x : Process) (v : V)
      → IsOf (view_at b place process value count) p x v → IsOf (Seated place process value count) p x v
  of_seated Quiet place process value count p x v h = h
  of_seated Vain place process value count p x v h = h
  of_seated (Debt rival) place process value count p x v h = h

  pub seated_of : (b : BellKnowledge) (place : ℕ) (process : Process) (value : V) (count p : ℕ) (x : Process) (v : V)
      → IsOf (Seated place process value count) p x v → IsOf (view_at b place process value count) p x v
  seated_of Quiet place process value count p x v h = h
  seated_of Vain place process value count p x v h = h
  seated_of (Debt rival) place process value count p x v h = h

  pub is_of : (b : BellKnowledge) (place : ℕ) (process : Process) (value : V) (count : ℕ)
      → IsOf (view_at b place process value count) place process value
  is_of b place process value count = seated_of b place process value count place process value (refl, refl, refl)

module _ {V : Type 0} (since : ℕ → V → V → Type 0) (levels : ℕ) where
  -- a state of the table
  abbrev St : Type 0
  St = State (std.Option V) (View V)

  -- the global view of a place with a seat and a process
  record Shown (x : GlobalView V) (seat place : ℕ) (process : Process) (value : V) : Type 0 where
    sits : x.seat_of place ≡ some seat
    is : x.processes place ≡ process
    knows : KnowsValue since x.content place (is_inside process) value
    below : place < 2 ^ levels

  -- by cases of the view
  shown_by : (s : St) (x : GlobalView V) (seat place : ℕ) (process : Process) (value : V) (view : View V)
      → IsOf view place process value → ViewFits since levels s x seat view → Shown x seat place process value
  shown_by s x seat place process value Unused e f = absurd e
  shown_by s x seat place process value Making e f = absurd e
  shown_by s x seat place process value Filling e f = absurd e
  shown_by s x seat place process value (HandingOut first v) e f = absurd e
  shown_by s x seat place process value (Seated p y v count) e f = record {
    sits = ap x.seat_of (sym e.0) ∙ f.1;
    is = ap x.processes (sym e.0) ∙ (f.2 ∙ e.1);
    knows = subst (λ (k : ℕ). KnowsValue since x.content k (is_inside process) value) e.0
        (subst (λ (z : Process). KnowsValue since x.content p (is_inside z) value) e.1
        (subst (λ (w : V). KnowsValue since x.content p (is_inside y) w) e.2 f.3));
    below = subst (λ (k : ℕ). k < 2 ^ levels) e.0 f.5;
  }
  shown_by s x seat place process value (Watching p y v count) e f = record {
    sits = ap x.seat_of (sym e.0) ∙ f.1;
    is = ap x.processes (sym e.0) ∙ (f.2 ∙ e.1);
    knows = subst (λ (k : ℕ). KnowsValue since x.content k (is_inside process) value) e.0
        (subst (λ (z : Process). KnowsValue since x.content p (is_inside z) value) e.1
        (subst (λ (w : V). KnowsValue since x.content p (is_inside y) w) e.2 f.3));
    below = subst (λ (k : ℕ). k < 2 ^ levels) e.0 f.5;
  }
  shown_by s x seat place process value (Owes p y v count debt) e f = record {
    sits = ap x.seat_of (sym e.0) ∙ f.1;
    is = ap x.processes (sym e.0) ∙ (f.2 ∙ e.1);
    knows = subst (λ (k : ℕ). KnowsValue since x.content k (is_inside process) value) e.0
        (subst (λ (z : Process). KnowsValue since x.content p (is_inside z) value) e.1
        (subst (λ (w : V). KnowsValue since x.content p (is_inside y) w) e.2 f.3));
    below = subst (λ (k : ℕ). k < 2 ^ levels) e.0 f.5;
  }
  shown_by s x seat place process value (Joining p v other seen count) e f = record {
    sits = ap x.seat_of (sym e.0) ∙ f.1;
    is = ap x.processes (sym e.0) ∙ (f.2 ∙ e.1);
    knows = subst (λ (k : ℕ). KnowsValue since x.content k (is_inside process) value) e.0
        (subst (λ (z : Process). KnowsValue since x.content p (is_inside z) value) e.1
        (subst (λ (w : V). KnowsValue since x.content p true w) e.2 f.3));
    below = subst (λ (k : ℕ). k < 2 ^ levels) e.0 f.6;
  }
  shown_by s x seat place process value Spent e f = absurd e

  -- so wherever the rule holds
  shown : (s : St) (r : Rule since levels s) (seat place : ℕ) (process : Process) (value : V)
      → HasProcess s seat place process value → Shown r.0 seat place process value
  shown s r seat place process value h = shown_by s r.0 seat place process value h.0 h.2 (r.1.fits seat h.0 h.1)

  -- a view that has a place has its process
  of_place : (view : View V) (place : ℕ) → place_of_view view ≡ some place
      → (process : Process) × ((value : V) × IsOf view place process value)
  of_place Unused place e = absurd (some-ne-none place (sym e))
  of_place Making place e = absurd (some-ne-none place (sym e))
  of_place Filling place e = absurd (some-ne-none place (sym e))
  of_place (HandingOut first v) place e = absurd (some-ne-none place (sym e))
  of_place (Seated p y v count) place e = (y, (v, (some-injective p place e, refl, refl)))
  of_place (Watching p y v count) place e = (y, (v, (some-injective p place e, refl, refl)))
  of_place (Owes p y v count debt) place e = (y, (v, (some-injective p place e, refl, refl)))
  of_place (Joining p v other seen count) place e = (Inside, (v, (some-injective p place e, refl, refl)))
  of_place Spent place e = absurd (some-ne-none place (sym e))

  -- a place that no view has is idle
  no_seat : (s : St) (r : Rule since levels s) (place : ℕ)
      → ((seat : ℕ) (process : Process) (value : V) → ¬ HasProcess s seat place process value) → (o : Option ℕ)
      → r.0.seat_of place ≡ o → r.0.processes place ≡ Idle
  no_seat s r place away none e = r.1.absent place e
  no_seat s r place away (some seat) e =
      let sits = r.1.seated place seat e in let view = of_place sits.0 place sits.2 in
      absurd (away seat view.0 view.1.0 (sits.0, sits.1, view.1.1))

  -- the words and the views show a state of the core
  pub shows_core : (s : St) → Rule since levels s → ShowsCore s levels
  shows_core s r = (
    r.0.processes,
    r.1.sound,
    (λ seat place process value h. (shown s r seat place process value h).is),
    (λ place away. no_seat s r place away (r.0.seat_of place) refl),
  )

  -- if some process takes part, some process that takes part goes on
  pub some_seat_goes_on : 1 ≤ levels → (s : St) → Rule since levels s → SomeSeatGoesOn s levels
  some_seat_goes_on least s r seat place process value h busy =
      let one = someone_goes_on levels
      (record { words = words_in levels s.words; processes = r.0.processes }) least r.1.sound place
      (λ idle. busy (sym (shown s r seat place process value h).is ∙ idle)) in
      by_seat one.place one.busy (λ same. one.goes_on (one.step.process ∙ same)) (r.0.seat_of one.place) refl
    where
      by_seat : (q : ℕ) → r.0.processes q ≢ Idle → GoesOn s levels q (r.0.processes q) → (o : Option ℕ)
          → r.0.seat_of q ≡ o
          → (other k : ℕ) × ((x : Process) × ((v : V) × HasProcess s other k x v × (x ≢ Idle) × GoesOn s levels k x))
      by_seat q takes_part moves none e = absurd (takes_part (r.1.absent q e))
      by_seat q takes_part moves (some other) e =
          let sits = r.1.seated q other e in let view = of_place sits.0 q sits.2 in
          let x : Process = view.0 in let v : V = view.1.0 in
          let has : HasProcess s other q x v = (sits.0, sits.1, view.1.1) in
          let is : r.0.processes q ≡ x = (shown s r other q x v has).is in
          (other, q, (x, (v, has, (λ idle. takes_part (is ∙ idle)), subst (GoesOn s levels q) is moves)))

  -- two views of the same place belong to the same seat
  pub one_seat : (s : St) → Rule since levels s → OneSeatAPlace s
  one_seat s r one other place x y v w h k =
      some-injective one other (sym (shown s r one place x v h).sits ∙ (shown s r other place y w k).sits)

  -- a place with a process is one of the tree's
  pub in_tree : (s : St) → Rule since levels s → EachInTree s levels
  in_tree s r seat place process value h = (shown s r seat place process value h).below

  -- two views inside belong to the same seat
  pub one_inside : 1 ≤ levels → (s : St) → Rule since levels s → OneInside s
  one_inside least s r one other p q v w h k =
      let a = shown s r one p Inside v h in let b = shown s r other q Inside w k in
      let same : p ≡ q =
      excludes levels p q (record { words = words_in levels s.words; processes = r.0.processes }) least r.1.sound
      (ap is_inside a.is) (ap is_inside b.is) in
      some-injective one other (sym a.sits ∙ (ap r.0.seat_of same ∙ b.sits))

  -- knowledge of the content implies that there is a content
  content_of : (content : Option V) (place : ℕ) (value : V) (b : Bool) → KnowsValue since content place b value
      → (now : V) × (content ≡ some now)
  content_of content place value true k = (value, k)
  content_of content place value false k = (k.0, k.1)

  -- a place that is inside has a seat whose view is inside
  has_seat : (s : St) (r : Rule since levels s) (place : ℕ) → r.0.processes place ≡ Inside → NoneInside s
      → (o : Option ℕ) → r.0.seat_of place ≡ o → ⊥
  has_seat s r place is away none e = let both : Inside ≡ Idle = sym is ∙ r.1.absent place e in cc
  has_seat s r place is away (some seat) e =
      let sits = r.1.seated place seat e in let view = of_place sits.0 place sits.2 in
      let x : Process = view.0 in let v : V = view.1.0 in
      let a = shown s r seat place x v (sits.0, sits.1, view.1.1) in
      away seat place v (sits.0, sits.1, subst (λ (y : Process). IsOf sits.0 place y v) (sym a.is ∙ is) view.1.1)

  -- once the value was given, the global view has it
  given_is : (s : St) (r : Rule since levels s) → IsGiven s → (now : V) × (r.0.content ≡ some now)
  given_is s r (seat, place, (value, inl (process, has))) =
      content_of r.0.content place value (is_inside process) (shown s r seat place process value has).knows
  given_is s r (seat, place, (value, inr (first, at, far))) =
      let k = ((r.1.fits seat (HandingOut first value) at).3 place far).1 in (k.0, k.1)

  -- the value is in its slot exactly if no view is inside
  pub in_slot : (s : St) → Rule since levels s → IsInSlot s
  in_slot s r = (
    (λ seat place value h. let a = shown s r seat place Inside value h in
        (subst (λ (c : Option V). ValueInSlot since r.0.processes s.homes c) a.knows r.1.lies).1 place (ap is_inside a.is)),
    (λ given away.
        let c = given_is s r given in (
          c.0,
          (subst (λ (c : Option V). ValueInSlot since r.0.processes s.homes c) c.1 r.1.lies).0
              (λ k. none_true (is_inside (r.0.processes k))
              (λ e. has_seat s r k (is_inside_is (r.0.processes k) e) away (r.0.seat_of k) refl)),
        )),
  )

  -- the knowledge of the content of a place that is away, or whose pass is still to be made
  known : (s : St) (r : Rule since levels s) (seat place : ℕ) (seen : V) → IsAway s seat place seen ⊎ IsToMake s seat place seen
      → KnowsValue since r.0.content place false seen
  known s r seat place seen (inl (process, apart, has)) =
      let a = shown s r seat place process seen has in
      let out : is_inside process ≡ false = none_true (is_inside process) (λ e. apart (is_inside_is process e)) in
      subst (λ (b : Bool). KnowsValue since r.0.content place b seen) out a.knows
  known s r seat place seen (inr (first, at, far)) = ((r.1.fits seat (HandingOut first seen) at).3 place far).1

  -- others may have made the current value of the value that it has seen
  pub is_fresh : (s : St) → Rule since levels s → IsFresh s since
  is_fresh s r seat place seen now h =
      let k = known s r seat place seen h in
      let lies = subst (λ (c : Option V). ValueInSlot since r.0.processes s.homes c) k.1 r.1.lies in (
        (λ home.
            let same : s.homes ≡ some (Some k.0) ∷ [] =
            lies.0 (λ p. none_true (is_inside (r.0.processes p)) (λ e. home_not now (sym (lies.1 p e) ∙ home))) in
            subst (λ (v : V). since place seen v) (home_is k.0 now (sym same ∙ home)) k.2),
        (λ one other g. let b = shown s r one other Inside now g in
            subst (λ (v : V). since place seen v) (some-injective k.0 now (sym k.1 ∙ b.knows)) k.2),
      )

  -- before the passes are made, all seats are unused
  only_unused : (s : St) (x : GlobalView V) (seat : ℕ) (view : View V) → slice_index s.words (making_index levels) ≡ 0
      → ViewFits since levels s x seat view → view ≡ Unused
  only_unused s x seat Unused zero f = refl
  only_unused s x seat Making zero f = absurd (f.0 zero)
  only_unused s x seat Filling zero f = absurd (f.0 zero)
  only_unused s x seat (HandingOut first value) zero f = absurd (f.0 zero)
  only_unused s x seat (Seated place process value count) zero f = absurd (f.0 zero)
  only_unused s x seat (Watching place process value count) zero f = absurd (f.0 zero)
  only_unused s x seat (Owes place process value count debt) zero f = absurd (f.0 zero)
  only_unused s x seat (Joining place value other seen count) zero f = absurd (f.0 zero)
  only_unused s x seat Spent zero f = absurd (f zero)

  -- the global view has one maker
  makes : (s : St) (x : GlobalView V) (seat : ℕ) (view : View V) → IsMaking view → ViewFits since levels s x seat view
      → x.maker ≡ some seat
  makes s x seat Unused h f = absurd h
  makes s x seat Making h f = f.1
  makes s x seat Filling h f = f.1
  makes s x seat (HandingOut first value) h f = f.1
  makes s x seat (Seated place process value count) h f = absurd h
  makes s x seat (Watching place process value count) h f = absurd h
  makes s x seat (Owes place process value count debt) h f = absurd h
  makes s x seat (Joining place value other seen count) h f = absurd h
  makes s x seat Spent h f = absurd h

  -- which has no content before the value is given
  fills : (s : St) (x : GlobalView V) (seat : ℕ) (view : View V) → IsFilling view → ViewFits since levels s x seat view
      → x.content ≡ none
  fills s x seat Unused h f = absurd h
  fills s x seat Making h f = f.2
  fills s x seat Filling h f = f.2
  fills s x seat (HandingOut first value) h f = absurd h
  fills s x seat (Seated place process value count) h f = absurd h
  fills s x seat (Watching place process value count) h f = absurd h
  fills s x seat (Owes place process value count debt) h f = absurd h
  fills s x seat (Joining place value other seen count) h f = absurd h
  fills s x seat Spent h f = absurd h

  -- the passes are made by one seat
  pub made_by_one : (s : St) → Rule since levels s → IsMadeByOne s levels
  made_by_one s r = record {
    unused = λ zero seat view h. only_unused s r.0 seat view zero (r.1.fits seat view h);
    empty = λ zero. (r.1.unmade zero).1;
    one_maker = λ one other v w h m k n. some-injective one other
        (sym (makes s r.0 one v m (r.1.fits one v h)) ∙ makes s r.0 other w n (r.1.fits other w k));
    unfilled = λ seat view h m other place process value k.
        some-ne-none other
        (sym (shown s r other place process value k).sits
        ∙ r.1.before (fills s r.0 seat view m (r.1.fits seat view h)) place);
    not_made = λ seat first given h other place process value far k.
        some-ne-none other
        (sym (shown s r other place process value k).sits ∙ ((r.1.fits seat (HandingOut first given) h).3 place far).0);
  }
