-- A step of one process leaves the rule to the other seats.
use Rattle.std.proofs.Common.{◌≡◌, ◌≢◌, ℕ, ◌≤◌, eqb, Bool, true, false, cond, List, [], ◌∷◌, ◌++◌, length, set}
use Rattle.std.proofs.Common.{sym, refl, ap, ◌∙◌, subst, slice_index, ⊎_elim, eq-eqb, ne_eqb}
use Rattle.std.specs.Prelude as std
use mathlib.Core.Option.{Option, none, some, some-injective, some-ne-none}
use lib.ListN.{get_elem?}
use Rattle.atomic_table.specs.Table.{State, Me, Act, keeps, Valid, carried_after, homes_after, stepped}
use native.Mathlib.Decide.{ℕ_discrete}
use Rattle.atomic_table.proofs.Lists.{at_set, set_else, at_longer}
use Rattle.ya_core.specs.declared.process.Process.{Process}
use Rattle.ya_core.specs.Soundness.{IsSoundState}
use Rattle.ya_lock.specs.declared.rule.View.{View}
use Rattle.ya_lock.specs.declared.rule.View.TheVariants.{Unused, Making, Filling, HandingOut, Seated, Watching, Owes, Joining, Spent}
use Rattle.ya_lock.specs.Rule.{Slots, making_index, words_in, place_of_view, GlobalView, KnowsValue, ValueInSlot, least_count, ViewFits, Obeys, Rule}
use Rattle.ya_lock.specs.Rule.{BellKnowledge, Quiet, Vain, Debt, view_at, IsWatching}
use Rattle.ya_lock.proofs.WordsInRow.{word_kept, set_at}
use Rattle.ya_lock.proofs.Rings.{OnlyHere}
use Rattle.ya_core.specs.Worlds.{is_inside}

-- the processes after one place's process is replaced
abbrev pub moved : (ℕ → Process) → ℕ → Process → ℕ → Process
moved processes place process other = cond (eqb other place) process (processes other)

-- the replaced process is the new one
pub moved_here : (processes : ℕ → Process) (place : ℕ) (process : Process)
    → moved processes place process place ≡ process
moved_here processes place process = rw (eq-eqb place place refl) refl

-- all others stay
pub moved_else : (processes : ℕ → Process) (place : ℕ) (process : Process) (other : ℕ) → other ≢ place
    → moved processes place process other ≡ processes other
moved_else processes place process other ne = rw (ne_eqb other place ne) refl

module _ {V : Type 0} (since : ℕ → V → V → Type 0) (levels : ℕ) where
  -- a state of the table
  abbrev St : Type 0
  St = State (std.Option V) (View V)

  -- the content stays, or it changes while no other process is inside, to a value that the others may find
  pub data Later (x : GlobalView V) (place : ℕ) (content : Option V) : Type 0 where
    Same : content ≡ x.content → Later x place content
    Changed : ((other : ℕ) → other ≢ place → is_inside (x.processes other) ≡ true → ⊥)
        → ((other : ℕ) (value : V) → other ≢ place → KnowsValue since x.content other false value
        → KnowsValue since content other false value) → Later x place content

  -- the knowledge of another place stays true
  away_later : (x : GlobalView V) (place : ℕ) (content : Option V) (other : ℕ) (value : V) → Later x place content
      → other ≢ place → KnowsValue since x.content other false value
      → KnowsValue since content other false value
  away_later x place content other value (Same e) ne k =
      subst (λ (c : Option V). KnowsValue since c other false value) (sym e) k
  away_later x place content other value (Changed alone away) ne k = away other value ne k

  -- so does the knowledge of two places, one of them inside
  inside_later : (x : GlobalView V) (place : ℕ) (content : Option V) (other third : ℕ) (value seen : V)
      → Later x place content → other ≢ place → is_inside (x.processes other) ≡ true
      → KnowsValue since x.content other true value → KnowsValue since x.content third false seen
      → KnowsValue since content other true value × KnowsValue since content third false seen
  inside_later x place content other third value seen (Same e) ne is k l = (
    subst (λ (c : Option V). KnowsValue since c other true value) (sym e) k,
    subst (λ (c : Option V). KnowsValue since c third false seen) (sym e) l,
  )
  inside_later x place content other third value seen (Changed alone away) ne is k l = absurd (alone other ne is)

  -- the knowledge of a seat about its own process stays true
  knows_later : (x : GlobalView V) (place : ℕ) (content : Option V) (other : ℕ) (value : V) (b : Bool)
      → Later x place content → other ≢ place → is_inside (x.processes other) ≡ b
      → KnowsValue since x.content other b value → KnowsValue since content other b value
  knows_later x place content other value true (Same e) ne is k =
      subst (λ (c : Option V). KnowsValue since c other true value) (sym e) k
  knows_later x place content other value true (Changed alone away) ne is k = absurd (alone other ne is)
  knows_later x place content other value false later ne is k = away_later x place content other value later ne k

  -- the global view after a process went on
  abbrev pub gone_on : GlobalView V → ℕ → Process → Option V → GlobalView V
  gone_on x place process content =
      record { seat_of = x.seat_of; processes = moved x.processes place process; maker = x.maker; content = content }

  -- places with different seats are different
  other_place : (x : GlobalView V) (place id other seat : ℕ) → x.seat_of place ≡ some id → x.seat_of other ≡ some seat
      → seat ≢ id → other ≢ place
  other_place x place id other seat a b ne e = ne (some-injective _ _ (sym b ∙ (ap x.seat_of e ∙ a)))

  -- a place without a seat is another one
  no_place : (x : GlobalView V) (place id other : ℕ) → x.seat_of place ≡ some id → x.seat_of other ≡ none → other ≢ place
  no_place x place id other a b e = some-ne-none id (sym a ∙ (ap x.seat_of (sym e) ∙ b))

  -- the view of another seat fits the new global view
  other_fits : (s t : St) (x : GlobalView V) (id place : ℕ) (process : Process) (content : Option V) (now : V)
      → x.content ≡ some now
      → slice_index t.words (making_index levels) ≡ slice_index s.words (making_index levels)
      → x.seat_of place ≡ some id → Later x place content
      → (seat : ℕ) (view : View V) → seat ≢ id → ViewFits since levels s x seat view
      → ViewFits since levels t (gone_on x place process content) seat view
  other_fits s t x id place process content now is word here later seat Unused ne f = tt
  other_fits s t x id place process content now is word here later seat Making ne f =
      absurd (some-ne-none now (sym is ∙ f.2))
  other_fits s t x id place process content now is word here later seat Filling ne f =
      absurd (some-ne-none now (sym is ∙ f.2))
  other_fits s t x id place process content now is word here later seat (HandingOut first value) ne f = (
    (λ e. f.0 (sym word ∙ e)),
    f.1,
    f.2,
    λ k le. let g = f.3 k le in
        (g.0, away_later x place content k value later (no_place x place id k here g.0) g.1),
  )
  other_fits s t x id place process content now is word here later seat (Seated k p value count) ne f =
      let other = other_place x place id k seat here f.1 ne in (
        (λ e. f.0 (sym word ∙ e)),
        f.1,
        moved_else x.processes place process k other ∙ f.2,
        knows_later x place content k value (is_inside p) later other (ap is_inside f.2) f.3,
        f.4,
        f.5,
      )
  other_fits s t x id place process content now is word here later seat (Watching k p value count) ne f =
      let other = other_place x place id k seat here f.1 ne in (
        (λ e. f.0 (sym word ∙ e)),
        f.1,
        moved_else x.processes place process k other ∙ f.2,
        knows_later x place content k value (is_inside p) later other (ap is_inside f.2) f.3,
        f.4,
        f.5,
      )
  other_fits s t x id place process content now is word here later seat (Owes k p value count debt) ne f =
      let other = other_place x place id k seat here f.1 ne in (
        (λ e. f.0 (sym word ∙ e)),
        f.1,
        moved_else x.processes place process k other ∙ f.2,
        knows_later x place content k value (is_inside p) later other (ap is_inside f.2) f.3,
        f.4,
        f.5,
      )
  other_fits s t x id place process content now is word here later seat (Joining k value j seen count) ne f =
      let other = other_place x place id k seat here f.1 ne in
      let both = inside_later x place content k j value seen later other (ap is_inside f.2) f.3 f.4 in (
        (λ e. f.0 (sym word ∙ e)),
        f.1,
        moved_else x.processes place process k other ∙ f.2,
        both.0,
        both.1,
        f.5,
        f.6,
      )
  other_fits s t x id place process content now is word here later seat Spent ne f = λ e. f (sym word ∙ e)

  -- a seat has the process of a place
  abbrev pub Sits : List (View V) → ℕ → ℕ → Type 0
  Sits views place seat = (view : View V) × (get_elem? views seat ≡ some view) × (place_of_view view ≡ some place)

  -- by cases: that seat, or another
  sits_by : (views : List (View V)) (id : ℕ) (old new : View V) → get_elem? views id ≡ some old
      → place_of_view new ≡ place_of_view old → (place seat : ℕ) → Sits views place seat → Dec (seat ≡ id)
      → Sits (set views id new) place seat
  sits_by views id old new at same place seat sits (yes is) =
      let here : old ≡ sits.0 =
      some-injective old sits.0 (sym at ∙ (ap (λ (k : ℕ). get_elem? views k) (sym is) ∙ sits.1)) in (
        new,
        ap (λ (k : ℕ). get_elem? (set views id new) k) is ∙ set_at views id old new at,
        same ∙ (ap place_of_view here ∙ sits.2),
      )
  sits_by views id old new at same place seat sits (no ne) = (sits.0, set_else views id seat new ne ∙ sits.1, sits.2)

  -- still so if the seat's view changes, but not its place
  pub sits_still : (views : List (View V)) (id : ℕ) (old new : View V) → get_elem? views id ≡ some old
      → place_of_view new ≡ place_of_view old → (place seat : ℕ) → Sits views place seat → Sits (set views id new) place seat
  sits_still views id old new at same place seat sits =
      sits_by views id old new at same place seat sits (ℕ_discrete seat id)

  -- still so if the seat of another place changes its view
  pub sits_else : (views : List (View V)) (id : ℕ) (old new : View V) → get_elem? views id ≡ some old → (place seat : ℕ)
      → place_of_view old ≢ some place → Sits views place seat → Sits (set views id new) place seat
  sits_else views id old new at place seat other sits =
      let ne : seat ≢ id =
      λ e. other (ap place_of_view
      (some-injective old sits.0 (sym at ∙ (ap (λ (k : ℕ). get_elem? views k) (sym e) ∙ sits.1))) ∙ sits.2) in
      (sits.0, set_else views id seat new ne ∙ sits.1, sits.2)

  -- still so if a seat is added
  pub sits_longer : (views : List (View V)) (new : View V) (place seat : ℕ) → Sits views place seat
      → Sits (views ++ new ∷ []) place seat
  sits_longer views new place seat sits = (sits.0, at_longer views (new ∷ []) seat sits.0 sits.1, sits.2)

  -- the view of a process has its place, whatever its seat knows of bells
  pub place_at : (b : BellKnowledge) (place : ℕ) (process : Process) (value : V) (count : ℕ)
      → place_of_view (view_at b place process value count) ≡ some place
  place_at Quiet place process value count = refl
  place_at Vain place process value count = refl
  place_at (Debt rival) place process value count = refl

  -- and fits the global view as any other of the process
  pub fits_at : (s : St) (x : GlobalView V) (seat : ℕ) (b : BellKnowledge) (place : ℕ) (process : Process) (value : V) (count : ℕ)
      → ViewFits since levels s x seat (Seated place process value count)
      → ViewFits since levels s x seat (view_at b place process value count)
  fits_at s x seat Quiet place process value count f = f
  fits_at s x seat Vain place process value count f = f
  fits_at s x seat (Debt rival) place process value count f = f

  pub fits_of : (s : St) (x : GlobalView V) (seat : ℕ) (b : BellKnowledge) (place : ℕ) (process : Process) (value : V) (count : ℕ)
      → ViewFits since levels s x seat (view_at b place process value count)
      → ViewFits since levels s x seat (Seated place process value count)
  fits_of s x seat Quiet place process value count f = f
  fits_of s x seat Vain place process value count f = f
  fits_of s x seat (Debt rival) place process value count f = f

  -- the place of a seat that watches
  watches_from : (s : St) (x : GlobalView V) (seat : ℕ) (view : View V) (p : ℕ) (y : Process) → IsWatching view p y
      → ViewFits since levels s x seat view → x.seat_of p ≡ some seat
  watches_from s x seat Unused p y h f = absurd h
  watches_from s x seat Making p y h f = absurd h
  watches_from s x seat Filling p y h f = absurd h
  watches_from s x seat (HandingOut first value) p y h f = absurd h
  watches_from s x seat (Seated place process value count) p y h f = absurd h
  watches_from s x seat (Watching place process value count) p y h f = ap x.seat_of (sym h.0) ∙ f.1
  watches_from s x seat (Owes place process value count rival) p y h f = absurd h
  watches_from s x seat (Joining place value other seen count) p y h f = absurd h
  watches_from s x seat Spent p y h f = absurd h

  -- so no other seat watches for the place of a seat
  pub only_here : (s : St) (x : GlobalView V) → Obeys since levels s x → (id place : ℕ) → x.seat_of place ≡ some id
      → OnlyHere levels s.views id place
  only_here s x o id place here seat view p y ne at watches same =
      ne (some-injective seat id
      (sym (watches_from s x seat view p y watches (o.fits seat view at)) ∙ (ap x.seat_of same ∙ here)))

  -- a process goes on, and its seat knows the value next
  pub goes_on : (s : St) (x : GlobalView V) → Obeys since levels s x
      → (id place : ℕ) (old new : BellKnowledge) (before process : Process) (value next now then' : V) (count total : ℕ)
      (content : Option V) (row : List ℕ)
      (homes : List (Option (std.Option V)))
      → get_elem? s.views id ≡ some (view_at old place before value count)
      → slice_index s.words (making_index levels) ≢ 0 → x.seat_of place ≡ some id → x.content ≡ some now
      → content ≡ some then'
      → length row ≡ length s.words → slice_index row (making_index levels) ≡ slice_index s.words (making_index levels)
      → IsSoundState levels (record { words = words_in levels row; processes = moved x.processes place process })
      → ValueInSlot since (moved x.processes place process) homes content
      → KnowsValue since content place (is_inside process) next → least_count levels process ≤ total
      → Later x place content
      → Obeys since levels
      record { words = row; homes = homes; views = set s.views id (view_at new place process next total) }
      (gone_on x place process content)
  goes_on s x o id place old new before process value next now then' count total content row homes at' begun here was is long word sound
      lies knows least later =
      let t : St = record { words = row; homes = homes; views = set s.views id (view_at new place process next total) } in
      record {
        wide = long ∙ o.wide;
        unmade = λ e. absurd (begun (sym word ∙ e));
        before = λ e. absurd (some-ne-none then' (sym is ∙ e));
        seated = λ k seat e. sits_still s.views id (view_at old place before value count)
            (view_at new place process next total) at'
            (place_at new place process next total ∙ sym (place_at old place before value count)) k seat (o.seated k seat e);
        absent = λ k e. moved_else x.processes place process k (no_place x place id k here e) ∙ o.absent k e;
        sound = sound;
        lies = lies;
        fits = λ seat view at. ⊎_elim
            (λ p. subst (λ (y : View V). ViewFits since levels t (gone_on x place process content) seat y) p.1
            (fits_at t (gone_on x place process content) seat new place process next total (
              (λ e. begun (sym word ∙ e)),
              here ∙ ap some (sym p.0),
              moved_here x.processes place process,
              knows,
              least,
              (fits_of s x id old place before value count (o.fits id (view_at old place before value count) at')).5,
            )))
            (λ p. other_fits s t x id place process content now was word here later seat view p.0
            (o.fits seat view p.1))
            (at_set s.views id seat (view_at new place process next total) view at);
      }

  -- the same global view fits if the making word stays set, and the slot stays while the maker waits for it
  pub refits : (s t : St) (x : GlobalView V)
      → (slice_index s.words (making_index levels) ≢ 0 → slice_index t.words (making_index levels) ≢ 0)
      → (seat : ℕ) (view : View V) → (x.maker ≡ some seat → t.homes ≡ s.homes) → ViewFits since levels s x seat view
      → ViewFits since levels t x seat view
  refits s t x begun seat Unused slot f = tt
  refits s t x begun seat Making slot f = (begun f.0, f.1, f.2, slot f.1 ∙ f.3)
  refits s t x begun seat Filling slot f = (begun f.0, f.1, f.2, ap length (slot f.1) ∙ f.3)
  refits s t x begun seat (HandingOut first value) slot f = (begun f.0, f.1, f.2, f.3)
  refits s t x begun seat (Seated place process value count) slot f = (begun f.0, f.1, f.2, f.3, f.4, f.5)
  refits s t x begun seat (Watching place process value count) slot f = (begun f.0, f.1, f.2, f.3, f.4, f.5)
  refits s t x begun seat (Owes place process value count debt) slot f = (begun f.0, f.1, f.2, f.3, f.4, f.5)
  refits s t x begun seat (Joining place value other seen count) slot f = (begun f.0, f.1, f.2, f.3, f.4, f.5, f.6)
  refits s t x begun seat Spent slot f = begun f

  -- the obligation of a load that changes no word
  abbrev pub Looks : St → ℕ → Slots V → View V → Act (std.Option V) → List ℕ → Type 0
  Looks s id slots w a row =
      Rule since levels record { words = row; homes = homes_after s.homes slots a; views = set s.views id w }

  -- a load leaves its word unchanged, so the rule needs to be shown only for the words as they are
  pub looks : (s : St) (id i : ℕ) (slots : Slots V) (w : View V) (a : Act (std.Option V)) → Looks s id slots w a s.words
      → Rule since levels (stepped s i (slice_index s.words i) id slots w a)
  looks s id i slots w a r = subst (Looks s id slots w a) (sym (word_kept s.words i)) r

  -- so a load that leaves the slots as they are may give its seat a new view that keeps the rule
  pub sees : (s : St) (id i : ℕ) (slots : Slots V) (w : View V) (Then : Me (std.Option V) (View V) → Type 0)
      → Looks s id slots w keeps s.words → Then (w, slots)
      → (v : View V) × (a : Act (std.Option V)) × Valid s.homes slots a
      × Rule since levels (stepped s i (slice_index s.words i) id slots v a) × Then (v, carried_after slots a)
  sees s id i slots w Then rule said = (w, keeps, tt, looks s id i slots w keeps rule, said)
