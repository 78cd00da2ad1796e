-- The two loads of `confirm` keep the rule.
use Rattle.std.proofs.Common.{◌≡◌, ◌≢◌, ℕ, eqb, cond, List, length, set, sym, refl, ap, ◌∙◌, subst, slice_index, ⊎_elim}
use Rattle.std.proofs.Common.{eq-eqb, ne_eqb}
use Rattle.std.specs.Prelude as std
use mathlib.Core.Option.{none, some, some-injective, some-ne-none}
use native.Mathlib.Decide.{ℕ_discrete}
use lib.ListN.{get_elem?}
use Rattle.atomic_table.specs.Table.{State, Me, Allows, Joins}
use Rattle.atomic_table.proofs.Lists.{at_set}
use Rattle.ya_core.specs.declared.process.Process.TheVariants.{Idle, Inside}
use Rattle.ya_lock.specs.declared.rule.View.{View}
use Rattle.ya_lock.specs.declared.rule.View.TheVariants.{Unused, Making, Filling, HandingOut, Seated, Watching, Owes, Joining, Spent}
use Rattle.ya_lock.specs.Rule.{making_index, GlobalView, ViewFits, Rule}
use Rattle.ya_lock.specs.StepEffects.{LearnsSince}
use Rattle.ya_lock.proofs.Rings.{set_quiet}
use Rattle.ya_lock.proofs.Frames.{refits, sees, sits_still, sits_else}

module _ {V : Type 0} (since : ℕ → V → V → Type 0) (levels : ℕ) where
  -- a state of the table
  abbrev St : Type 0
  St = State (std.Option V) (View V)

  -- a place has no seat from now on
  abbrev freed : GlobalView V → ℕ → GlobalView V
  freed x place =
      record {
        seat_of = λ other. cond (eqb other place) none (x.seat_of other);
        processes = x.processes;
        maker = x.maker;
        content = x.content;
      }

  -- all other places keep their seats
  freed_else : (x : GlobalView V) (place other : ℕ) → other ≢ place → (freed x place).seat_of other ≡ x.seat_of other
  freed_else x place other ne = rw (ne_eqb other place ne) refl

  -- the place itself has none
  freed_here : (x : GlobalView V) (place other : ℕ) → other ≡ place → (freed x place).seat_of other ≡ none
  freed_here x place other e = rw (eq-eqb other place e) refl

  -- a place with a seat had it before
  freed_was : (x : GlobalView V) (place other seat : ℕ) → (freed x place).seat_of other ≡ some seat
      → x.seat_of other ≡ some seat
  freed_was x place other seat e = elim (ℕ_discrete other place) [
    | yes same ↦ absurd (some-ne-none seat (sym e ∙ freed_here x place other same))
    | no ne ↦ sym (freed_else x place other ne) ∙ e
  ]

  -- a place without a seat before has none
  freed_none : (x : GlobalView V) (place other : ℕ) → x.seat_of other ≡ none → (freed x place).seat_of other ≡ none
  freed_none x place other e =
      elim (ℕ_discrete other place) [
        | yes same ↦ rw (eq-eqb other place same) refl
        | no ne ↦ freed_else x place other ne ∙ e
      ]

  -- so a place without a seat is idle, if this one is
  freed_absent : (x : GlobalView V) (place : ℕ) → x.processes place ≡ Idle
      → ((k : ℕ) → x.seat_of k ≡ none → x.processes k ≡ Idle) → (k : ℕ) → (freed x place).seat_of k ≡ none
      → x.processes k ≡ Idle
  freed_absent x place idle absent k e =
      elim (ℕ_discrete k place) [
        | yes same ↦ ap x.processes same ∙ idle
        | no ne ↦ absent k (sym (freed_else x place k ne) ∙ e)
      ]

  -- places with different seats are different
  other_place : (x : GlobalView V) (place id other seat : ℕ) → x.seat_of place ≡ some id → x.seat_of other ≡ some seat
      → seat ≢ id → other ≢ place
  other_place x place id other seat a b ne e = ne (some-injective _ _ (sym b ∙ (ap x.seat_of e ∙ a)))

  -- the view of another seat fits the new global view
  freed_fits : (s t : St) (x : GlobalView V) (id place : ℕ) → x.seat_of place ≡ some id → t.words ≡ s.words
      → t.homes ≡ s.homes
      → (seat : ℕ) (view : View V) → seat ≢ id → ViewFits since levels s x seat view
      → ViewFits since levels t (freed x place) seat view
  freed_fits s t x id place here words homes seat Unused ne f = tt
  freed_fits s t x id place here words homes seat Making ne f =
      (subst (λ (r : List ℕ). slice_index r (making_index levels) ≢ 0) (sym words) f.0, f.1, f.2, homes ∙ f.3)
  freed_fits s t x id place here words homes seat Filling ne f =
      (subst (λ (r : List ℕ). slice_index r (making_index levels) ≢ 0) (sym words) f.0, f.1, f.2, ap length homes ∙ f.3)
  freed_fits s t x id place here words homes seat (HandingOut first value) ne f = (
    subst (λ (r : List ℕ). slice_index r (making_index levels) ≢ 0) (sym words) f.0,
    f.1,
    f.2,
    λ k le. let g = f.3 k le in (freed_none x place k g.0, g.1),
  )
  freed_fits s t x id place here words homes seat (Seated p process value count) ne f = (
    subst (λ (r : List ℕ). slice_index r (making_index levels) ≢ 0) (sym words) f.0,
    freed_else x place p (other_place x place id p seat here f.1 ne) ∙ f.1,
    f.2,
    f.3,
    f.4,
    f.5,
  )
  freed_fits s t x id place here words homes seat (Watching p process value count) ne f = (
    subst (λ (r : List ℕ). slice_index r (making_index levels) ≢ 0) (sym words) f.0,
    freed_else x place p (other_place x place id p seat here f.1 ne) ∙ f.1,
    f.2,
    f.3,
    f.4,
    f.5,
  )
  freed_fits s t x id place here words homes seat (Owes p process value count debt) ne f = (
    subst (λ (r : List ℕ). slice_index r (making_index levels) ≢ 0) (sym words) f.0,
    freed_else x place p (other_place x place id p seat here f.1 ne) ∙ f.1,
    f.2,
    f.3,
    f.4,
    f.5,
  )
  freed_fits s t x id place here words homes seat (Joining p value other seen count) ne f = (
    subst (λ (r : List ℕ). slice_index r (making_index levels) ≢ 0) (sym words) f.0,
    freed_else x place p (other_place x place id p seat here f.1 ne) ∙ f.1,
    f.2,
    f.3,
    f.4,
    f.5,
    f.6,
  )
  freed_fits s t x id place here words homes seat Spent ne f =
      subst (λ (r : List ℕ). slice_index r (making_index levels) ≢ 0) (sym words) f

  -- the seat of an idle process is joined to the seat of the process inside
  pub joins : (id place : ℕ) (value : V) (count rival other : ℕ) (seen : V) (last : ℕ)
      → Joins (Rule since levels) id (Seated place Inside value count) rival (Seated other Idle seen last)
      (Joining place value other seen count) Spent
  joins id place value count rival other seen last s rule at ne at' =
      let x : GlobalView V = rule.0 in let o = rule.1 in
      let w : View V = Joining place value other seen count in
      let f = o.fits id (Seated place Inside value count) at in
      let old : get_elem? s.views rival ≡ some (Seated other Idle seen last) =
      ⊎_elim (λ p. absurd (ne p.0)) (λ p. p.1) (at_set s.views id rival w (Seated other Idle seen last) at') in
      let g = o.fits rival (Seated other Idle seen last) old in
      let t : St = record { words = s.words; homes = s.homes; views = set (set s.views id w) rival Spent } in
      let y : GlobalView V = freed x other in (
        y,
        record {
          wide = o.wide;
          unmade = o.unmade;
          before = λ e. absurd (some-ne-none value (sym f.3 ∙ e));
          seated = λ k seat e. sits_else since levels (set s.views id w) rival (Seated other Idle seen last) Spent at' k seat
              (λ same. some-ne-none seat (sym e ∙ freed_here x other k (sym (some-injective other k same))))
              (sits_still since levels s.views id (Seated place Inside value count) w at refl k seat
              (o.seated k seat (freed_was x other k seat e)));
          absent = freed_absent x other g.2 o.absent;
          sound = o.sound;
          lies = o.lies;
          fits = λ seat view there. ⊎_elim
              (λ p. subst (λ (v : View V). ViewFits since levels t y seat v) p.1 f.0)
              (λ q. ⊎_elim
              (λ p. subst (λ (v : View V). ViewFits since levels t y seat v) p.1 (
                f.0,
                freed_else x other place (other_place x other rival place id g.1 f.1 (λ e. ne (sym e)))
                    ∙ (f.1 ∙ ap some (sym p.0)),
                f.2,
                f.3,
                g.3,
                f.4,
                f.5,
              ))
              (λ p. freed_fits s t x rival other g.1 refl refl seat view q.0 (o.fits seat view p.1))
              (at_set s.views id seat w view q.1))
              (at_set (set s.views id w) rival seat Spent view there);
        },
        set_quiet levels s.words (set s.views id w) rival (Seated other Idle seen last) Spent at' (λ p h. h) (λ p y h. h)
            (set_quiet levels s.words s.views id (Seated place Inside value count) w at (λ p h. h) (λ p y h. h) rule.2),
      )

  -- it learns what others may have made of the value that the other has seen
  pub learns : (slots id i place : ℕ) (value : V) (other : ℕ) (seen : V) (count : ℕ) (me : Me (std.Option V) (View V))
      → me.0 ≡ Joining place value other seen count
      → Allows (Rule since levels) slots id me i (λ n. n) (λ n then'. LearnsSince since me.0 me.1 then')
  learns slots id i place value other seen count me is s rule wide at small =
      let x : GlobalView V = rule.0 in let o = rule.1 in let f =
      o.fits id (Joining place value other seen count) (at ∙ ap some is) in
      let w : View V = Seated place Inside value count in
      let t : St = record { words = s.words; homes = s.homes; views = set s.views id w } in
      sees since levels s id i me.1 w (λ then'. LearnsSince since me.0 me.1 then') (
        x,
        record {
          wide = o.wide;
          unmade = o.unmade;
          before = o.before;
          seated = λ k seat e. sits_still since levels s.views id (Joining place value other seen count) w
              (at ∙ ap some is) refl k seat (o.seated k seat e);
          absent = o.absent;
          sound = o.sound;
          lies = o.lies;
          fits = λ seat view there. ⊎_elim
              (λ p. subst (λ (v : View V). ViewFits since levels t x seat v) p.1 (f.0, f.1 ∙ ap some (sym p.0), f.2, f.3, f.5, f.6))
              (λ p. refits since levels s t x (λ b. b) seat view (λ _. refl) (o.fits seat view p.1))
              (at_set s.views id seat w view there);
        },
        set_quiet levels s.words s.views id (Joining place value other seen count) w (at ∙ ap some is) (λ p h. h) (λ p y h. h)
            rule.2,
      )
      (subst (λ (v : View V). LearnsSince since v me.1 (w, me.1)) (sym is)
      (subst (λ (now : V). since other seen now) (some-injective _ _ (sym f.4.1 ∙ f.3)) f.4.2, refl))
