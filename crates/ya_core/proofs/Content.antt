-- After any events, the content has the entries of each place, in order, and each entry was allowed after those
-- before it.
use Rattle.std.proofs.Common.{◌≡◌, ◌≢◌, ℕ, ◌≤◌, ◌==◌, Bool, true, false, refl, arith, ap, sym, ◌∙◌, subst}
use Rattle.std.proofs.Common.{if◌then◌else◌, List, [], ◌∷◌, ◌++◌, append_assoc}
use Rattle.std.proofs.lemmas.Bool.Decides.{nat_tests}
use Rattle.std.proofs.lemmas.List.{append-nil}
use Rattle.ya_core.specs.Steps.{State, LeadTo, next_of, access_of, value_of}
use Rattle.ya_core.specs.Soundness.{IsSoundState}
use Rattle.ya_core.specs.Worlds.{Marked, World, Event, Steps, Appends, opening_world, WorldSteps, WorldAppends, Happens}
use Rattle.ya_core.specs.Worlds.{Runs, IsReached, entries_of, FollowsFrom, EachMayFollow, is_inside, IsInside, any_entry}
use Rattle.ya_core.specs.Worlds.{places_of}
use Rattle.ya_core.proofs.Cases.{everywhere}
use Rattle.ya_core.proofs.Invariant.{keeps, opens, is_inside_is, excludes}

-- the entries of a place, each with its mark
abbrev pub marked : {X : Type 0} → ℕ → List X → List (Marked X)
marked place [] = []
marked place (x ∷ xs) = (place, x) ∷ marked place xs

marked-append : {X : Type 0} (place : ℕ) (xs ys : List X) → marked place (xs ++ ys) ≡ marked place xs ++ marked place ys
marked-append place [] ys = refl
marked-append place (x ∷ xs) ys = ap (λ zs. (place, x) ∷ zs) (marked-append place xs ys)

-- the entries of a place in two lists, one after the other
pub entries_of-append : {X : Type 0} (place : ℕ) (xs ys : List (Marked X))
    → entries_of place (xs ++ ys) ≡ entries_of place xs ++ entries_of place ys
entries_of-append place [] ys = refl
entries_of-append place (x ∷ xs) ys = cases (x.0 == place) (entries_of-append place xs ys)
  where
    cases : (b : Bool) → entries_of place (xs ++ ys) ≡ entries_of place xs ++ entries_of place ys
        → (if b then x.1 ∷ entries_of place (xs ++ ys) else entries_of place (xs ++ ys)) ≡ (if b
        then x.1 ∷ entries_of place xs else entries_of place xs) ++ entries_of place ys
    cases true rest = ap (λ zs. x.1 ∷ zs) rest
    cases false rest = rest

-- the entries of a place, marked with it, are all its entries
pub entries_of-marked : {X : Type 0} (place : ℕ) (xs : List X) → entries_of place (marked place xs) ≡ xs
entries_of-marked place [] = refl
entries_of-marked place (x ∷ xs) = cases (place == place) (grind (arith, nat_tests)) (entries_of-marked place xs)
  where
    cases : (b : Bool) → b ≡ true → entries_of place (marked place xs) ≡ xs
        → (if b then x ∷ entries_of place (marked place xs) else entries_of place (marked place xs)) ≡ x ∷ xs
    cases true is rest = ap (λ zs. x ∷ zs) rest
    cases false is rest = cc

pub entries_of-marked_other : {X : Type 0} (place other : ℕ) (xs : List X) → other ≢ place
    → entries_of place (marked other xs) ≡ []
entries_of-marked_other place other [] apart = refl
entries_of-marked_other place other (x ∷ xs) apart =
    cases (other == place) (grind (arith, nat_tests)) (entries_of-marked_other place other xs apart)
  where
    cases : (b : Bool) → b ≡ false → entries_of place (marked other xs) ≡ []
        → (if b then x ∷ entries_of place (marked other xs) else entries_of place (marked other xs)) ≡ []
    cases false is rest = rest
    cases true is rest = cc

-- one more entry, which may follow all the others
FollowsFrom-push : {X : Type 0} (ok : List (Marked X) → Marked X → Type 0) (before xs : List (Marked X)) (x : Marked X)
    → FollowsFrom ok before xs → ok (before ++ xs) x → FollowsFrom ok before (xs ++ x ∷ [])
FollowsFrom-push ok before [] x is may = (subst (λ ys. ok ys x) (append-nil before) may, tt)
FollowsFrom-push ok before (y ∷ ys) x is may = (
  is.0,
  FollowsFrom-push ok (before ++ y ∷ []) ys x is.1
      (subst (λ zs. ok zs x) (sym (append_assoc before (y ∷ []) ys)) may),
)

-- the invariant of every reached world
pub record IsKept {X : Type 0} (levels : ℕ) (ok : List (Marked X) → Marked X → Type 0) (w : World X) : Type 0 where
  pub sound : IsSoundState levels w.state
  pub copies : (p : ℕ) → IsInside w.state p → w.copies p ≡ w.content ++ marked p (w.doing p)
  pub made : (p : ℕ) → entries_of p w.content ≡ w.made p
  pub lawful : EachMayFollow ok w.content
  lawful_copy : (p : ℕ) → IsInside w.state p → EachMayFollow ok (w.copies p)

-- at the start it holds
kept_opening : {X : Type 0} (levels : ℕ) (ok : List (Marked X) → Marked X → Type 0) → IsKept levels ok opening_world
kept_opening levels ok =
    record {
      sound = opens levels;
      copies = λ p h. absurd cc;
      made = λ p. refl;
      lawful = tt;
      lawful_copy = λ p h. absurd cc;
    }

module _ {X : Type 0} (levels : ℕ) (ok : List (Marked X) → Marked X → Type 0) (some : 1 ≤ levels) where
  module _ (place : ℕ) (old new : World X) (is : IsKept levels ok old) where
    -- the step of a place that is inside writes its copy over the content
    kept_release : WorldSteps levels place old new → is_inside (old.state.processes place) ≡ true → IsKept levels ok new
    kept_release step inside =
        record {
          sound = sound;
          copies = λ q h. absurd (nobody q h);
          made = made;
          lawful = subst (EachMayFollow ok) (sym content) (is.lawful_copy place inside);
          lawful_copy = λ q h. absurd (nobody q h);
        }
      where
        sound : IsSoundState levels new.state
        sound = keeps levels place old.state new.state some is.sound step.state

        content : new.content ≡ old.copies place
        content = step.content ∙ ap (λ b. if b then old.copies place else old.content) inside

        whole : new.content ≡ old.content ++ marked place (old.doing place)
        whole = content ∙ is.copies place inside

        out : is_inside (new.state.processes place) ≡ false
        out =
            let was = is_inside_is (old.state.processes place) inside in
            let value = value_of old.state.words (access_of levels place (old.state.processes place)) in
            ap is_inside (step.state.process ∙ ap (λ x. next_of levels place x value) was)

        nobody : (q : ℕ) → IsInside new.state q → ⊥
        nobody =
            everywhere (λ q. IsInside new.state q → ⊥) place (λ now. let both : true ≡ false = sym now ∙ out in cc)
            (λ q apart h. apart
            (excludes levels q place old.state some is.sound (ap is_inside (sym (step.state.others q apart)) ∙ h) inside))

        entries : (q : ℕ)
            → entries_of q new.content ≡ entries_of q old.content ++ entries_of q (marked place (old.doing place))
        entries q = ap (entries_of q) whole ∙ entries_of-append q old.content (marked place (old.doing place))

        made : (q : ℕ) → entries_of q new.content ≡ new.made q
        made =
            everywhere (λ q. entries_of q new.content ≡ new.made q) place
            (entries place ∙ ap (λ xs. xs ++ entries_of place (marked place (old.doing place))) (is.made place)
            ∙ ap (λ xs. old.made place ++ xs) (entries_of-marked place (old.doing place))
            ∙ sym (step.made ∙ ap (λ b. if b then old.made place ++ old.doing place else old.made place) inside))
            (λ q apart. entries q
            ∙ ap (λ xs. entries_of q old.content ++ xs)
            (entries_of-marked_other q place (old.doing place) (λ e. apart (sym e)))
            ∙ append-nil (entries_of q old.content) ∙ is.made q ∙ sym (step.others_made q apart))

    -- any other step leaves the content; if it wins the root, the copy is the content
    kept_step : WorldSteps levels place old new → is_inside (old.state.processes place) ≡ false → IsKept levels ok new
    kept_step step outside =
        record {
          sound = keeps levels place old.state new.state some is.sound step.state;
          copies = copies;
          made = λ q. ap (entries_of q) content ∙ is.made q ∙ sym (made q);
          lawful = subst (EachMayFollow ok) (sym content) is.lawful;
          lawful_copy = lawful_copy;
        }
      where
        content : new.content ≡ old.content
        content = step.content ∙ ap (λ b. if b then old.copies place else old.content) outside

        made : (q : ℕ) → new.made q ≡ old.made q
        made =
            everywhere (λ q. new.made q ≡ old.made q) place
            (step.made ∙ ap (λ b. if b then old.made place ++ old.doing place else old.made place) outside)
            step.others_made

        copied : IsInside new.state place → new.copies place ≡ old.content
        copied now = step.copy ∙ ap (λ b. if b then old.content else old.copies place) now

        was : (q : ℕ) → q ≢ place → IsInside new.state q → IsInside old.state q
        was q apart h = ap is_inside (sym (step.state.others q apart)) ∙ h

        copies : (q : ℕ) → IsInside new.state q → new.copies q ≡ new.content ++ marked q (new.doing q)
        copies =
            everywhere (λ q. IsInside new.state q → new.copies q ≡ new.content ++ marked q (new.doing q)) place
            (λ now. copied now ∙ sym content ∙ sym (append-nil new.content)
            ∙ ap (λ xs. new.content ++ marked place xs)
            (sym (step.doing ∙ ap (λ b. if b then [] else old.doing place) now)))
            (λ q apart h. step.others_copy q apart ∙ is.copies q (was q apart h)
            ∙ ap (λ xs. xs ++ marked q (old.doing q)) (sym content)
            ∙ ap (λ xs. new.content ++ marked q xs) (sym (step.others_doing q apart)))

        lawful_copy : (q : ℕ) → IsInside new.state q → EachMayFollow ok (new.copies q)
        lawful_copy =
            everywhere (λ q. IsInside new.state q → EachMayFollow ok (new.copies q)) place
            (λ now. subst (EachMayFollow ok) (sym (copied now)) is.lawful)
            (λ q apart h. subst (EachMayFollow ok) (sym (step.others_copy q apart)) (is.lawful_copy q (was q apart h)))

    -- an entry that is appended to a copy
    kept_append : (entry : X) → WorldAppends ok place entry old new → IsKept levels ok new
    kept_append entry adds =
        record {
          sound = subst (IsSoundState levels) (sym adds.state) is.sound;
          copies = λ q h. copies q (was q h);
          made = λ q. ap (entries_of q) adds.content ∙ is.made q ∙ sym (made q);
          lawful = subst (EachMayFollow ok) (sym adds.content) is.lawful;
          lawful_copy = λ q h. lawful_copy q (was q h);
        }
      where
        was : (q : ℕ) → IsInside new.state q → IsInside old.state q
        was q h = subst (λ s. IsInside s q) adds.state h

        made : (q : ℕ) → new.made q ≡ old.made q
        made = everywhere (λ q. new.made q ≡ old.made q) place adds.made adds.others_made

        copies : (q : ℕ) → IsInside old.state q → new.copies q ≡ new.content ++ marked q (new.doing q)
        copies =
            everywhere (λ q. IsInside old.state q → new.copies q ≡ new.content ++ marked q (new.doing q)) place
            (λ h. adds.copy ∙ ap (λ xs. xs ++ (place, entry) ∷ []) (is.copies place h)
            ∙ append_assoc old.content (marked place (old.doing place)) ((place, entry) ∷ [])
            ∙ ap (λ xs. old.content ++ xs) (sym (marked-append place (old.doing place) (entry ∷ [])))
            ∙ ap (λ xs. xs ++ marked place (old.doing place ++ entry ∷ [])) (sym adds.content)
            ∙ ap (λ xs. new.content ++ marked place xs) (sym adds.doing))
            (λ q apart h. adds.others_copy q apart ∙ is.copies q h
            ∙ ap (λ xs. xs ++ marked q (old.doing q)) (sym adds.content)
            ∙ ap (λ xs. new.content ++ marked q xs) (sym (adds.others_doing q apart)))

        lawful_copy : (q : ℕ) → IsInside old.state q → EachMayFollow ok (new.copies q)
        lawful_copy =
            everywhere (λ q. IsInside old.state q → EachMayFollow ok (new.copies q)) place
            (λ h. subst (EachMayFollow ok) (sym adds.copy)
            (FollowsFrom-push ok [] (old.copies place) (place, entry) (is.lawful_copy place h) adds.may_follow))
            (λ q apart h. subst (EachMayFollow ok) (sym (adds.others_copy q apart)) (is.lawful_copy q h))

  -- each event keeps it
  pub kept_event : (event : Event X) (old new : World X) → IsKept levels ok old → Happens levels ok event old new
      → IsKept levels ok new
  kept_event (Steps place) old new is step = cases (is_inside (old.state.processes place)) refl
    where
      cases : (b : Bool) → is_inside (old.state.processes place) ≡ b → IsKept levels ok new
      cases true inside = kept_release place old new is step inside
      cases false outside = kept_step place old new is step outside
  kept_event (Appends place entry) old new is adds = kept_append place old new is entry adds

  -- and each run
  kept_run : (events : List (Event X)) (old new : World X) → IsKept levels ok old → Runs levels ok old events new
      → IsKept levels ok new
  kept_run [] old new is run = subst (IsKept levels ok) (sym run) is
  kept_run (event ∷ events) old new is run = kept_run events run.0 new (kept_event event old run.0 is run.1) run.2

  -- so the invariant holds in every reached world
  pub kept : (events : List (Event X)) (w : World X) → IsReached levels ok events w → IsKept levels ok w
  kept events w run = kept_run events opening_world w (kept_opening levels ok) run

-- a run whose entries may follow is a run
pub any_run : {X : Type 0} (levels : ℕ) (ok : List (Marked X) → Marked X → Type 0) (events : List (Event X))
    (old new : World X) → Runs levels ok old events new → Runs levels any_entry old events new
any_run levels ok [] old new run = run
any_run levels ok (Steps place ∷ events) old new run = (run.0, run.1, any_run levels ok events run.0 new run.2)
any_run levels ok (Appends place entry ∷ events) old new run = (
  run.0,
  record {
    inside = run.1.inside;
    may_follow = tt;
    state = run.1.state;
    content = run.1.content;
    copy = run.1.copy;
    doing = run.1.doing;
    made = run.1.made;
    others_copy = run.1.others_copy;
    others_doing = run.1.others_doing;
    others_made = run.1.others_made;
  },
  any_run levels ok events run.0 new run.2,
)

-- the steps of a run lead from its first state to its last
pub steps_lead : {X : Type 0} (levels : ℕ) (ok : List (Marked X) → Marked X → Type 0) (events : List (Event X))
    (old new : World X) → Runs levels ok old events new → LeadTo levels old.state (places_of events) new.state
steps_lead levels ok [] old new run = ap (λ w. w.state) run
steps_lead levels ok (Steps place ∷ events) old new run =
    (run.0.state, run.1.state, steps_lead levels ok events run.0 new run.2)
steps_lead levels ok (Appends place entry ∷ events) old new run =
    subst (λ s. LeadTo levels s (places_of events) new.state) run.1.state (steps_lead levels ok events run.0 new run.2)

-- each state that steps of places lead to from a sound state is sound
pub sound_after : (levels : ℕ) (places : List ℕ) (old new : State) → 1 ≤ levels → IsSoundState levels old
    → LeadTo levels old places new → IsSoundState levels new
sound_after levels [] old new some is lead = subst (IsSoundState levels) (sym lead) is
sound_after levels (place ∷ places) old new some is lead =
    sound_after levels places lead.0 new some (keeps levels place old lead.0 some is lead.1) lead.2
