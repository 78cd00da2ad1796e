-- In every run the content is in real-time order: later entries come after earlier ones.
use Rattle.std.proofs.Common.{◌≡◌, ℕ, ◌≤◌, Bool, true, false, refl, ap, sym, ◌∙◌, if◌then◌else◌, List, [], ◌∷◌}
use Rattle.std.proofs.Common.{◌++◌, append_assoc}
use Rattle.std.proofs.lemmas.List.{append-nil}
use Rattle.ya_core.specs.Worlds.{Marked, World, Event, Steps, Appends, WorldSteps, Happens, Runs, entries_of, is_inside}
use Rattle.ya_core.specs.RealTime.{KeepsRealTimeOrder}
use Rattle.ya_core.proofs.Cases.{everywhere}
use Rattle.ya_core.proofs.Content.{IsKept, kept_event, marked, entries_of-append, entries_of-marked, entries_of-marked_other}

-- from one time to a later one, and from there to one still later
onward : {X : Type 0} (early middle late : World X) → KeepsRealTimeOrder early middle → KeepsRealTimeOrder middle late
    → KeepsRealTimeOrder early late
onward early middle late first then' = record {
  since = first.since ++ then'.since;
  content = then'.content ∙ ap (λ xs. xs ++ then'.since) first.content
      ∙ append_assoc early.content first.since then'.since;
  made = first.made;
  made_since = λ place. then'.made_since place ∙ ap (λ xs. xs ++ entries_of place then'.since) (first.made_since place)
      ∙ append_assoc (early.made place) (entries_of place first.since) (entries_of place then'.since)
      ∙ ap (λ xs. early.made place ++ xs) (sym (entries_of-append place first.since then'.since));
}

module _ {X : Type 0} (levels : ℕ) (ok : List (Marked X) → Marked X → Type 0) (some : 1 ≤ levels) where
  -- nothing was made
  nothing_made : (old new : World X) → IsKept levels ok old → new.content ≡ old.content
      → ((place : ℕ) → new.made place ≡ old.made place) → KeepsRealTimeOrder old new
  nothing_made old new is content made = record {
    since = [];
    content = content ∙ sym (append-nil old.content);
    made = is.made;
    made_since = λ place. made place ∙ sym (append-nil (old.made place));
  }

  -- the step of a place that is inside appends its entries of this passage to the content
  by_release : (place : ℕ) (old new : World X) → IsKept levels ok old → WorldSteps levels place old new
      → is_inside (old.state.processes place) ≡ true → KeepsRealTimeOrder old new
  by_release place old new is step inside = record {
    since = marked place (old.doing place);
    content = step.content ∙ ap (λ b. if b then old.copies place else old.content) inside ∙ is.copies place inside;
    made = is.made;
    made_since = everywhere
        (λ q. new.made q ≡ old.made q ++ entries_of q (marked place (old.doing place))) place
        (step.made ∙ ap (λ b. if b then old.made place ++ old.doing place else old.made place) inside
        ∙ ap (λ xs. old.made place ++ xs) (sym (entries_of-marked place (old.doing place))))
        (λ q apart. step.others_made q apart ∙ sym (append-nil (old.made q))
        ∙ ap (λ xs. old.made q ++ xs)
        (sym (entries_of-marked_other q place (old.doing place) (λ same. apart (sym same)))));
  }

  -- any other step makes nothing
  by_step : (place : ℕ) (old new : World X) → IsKept levels ok old → WorldSteps levels place old new
      → is_inside (old.state.processes place) ≡ false → KeepsRealTimeOrder old new
  by_step place old new is step outside =
      nothing_made old new is
      (step.content ∙ ap (λ b. if b then old.copies place else old.content) outside)
      (everywhere (λ q. new.made q ≡ old.made q) place
      (step.made ∙ ap (λ b. if b then old.made place ++ old.doing place else old.made place) outside)
      step.others_made)

  -- each event keeps the order
  by_event : (event : Event X) (old new : World X) → IsKept levels ok old → Happens levels ok event old new
      → KeepsRealTimeOrder old new
  by_event (Steps place) old new is step = cases (is_inside (old.state.processes place)) refl
    where
      cases : (b : Bool) → is_inside (old.state.processes place) ≡ b → KeepsRealTimeOrder old new
      cases true inside = by_release place old new is step inside
      cases false outside = by_step place old new is step outside
  by_event (Appends place entry) old new is adds =
      nothing_made old new is adds.content (everywhere (λ q. new.made q ≡ old.made q) place adds.made adds.others_made)

  -- and so does each run
  pub keeps_order : (events : List (Event X)) (old new : World X) → IsKept levels ok old → Runs levels ok old events new
      → KeepsRealTimeOrder old new
  keeps_order [] old new is run =
      nothing_made old new is (ap (λ w. w.content) run) (λ place. ap (λ w. w.made place) run)
  keeps_order (event ∷ events) old new is run =
      onward old run.0 new (by_event event old run.0 is run.1)
      (keeps_order events run.0 new (kept_event levels ok some event old run.0 is run.1) run.2)
