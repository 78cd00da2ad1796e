-- The memory of texts that is given back as they are executed, and what is left of the input.
use Rattle.std.proofs.Common.{◌≡◌, ◌≢◌, ℕ, ◌+◌, ◌<◌, ◌≤◌, inl, inr, true, false, List, [], ◌∷◌, ◌++◌, length, get_or, set, drop, if◌then◌else◌, refl, sym, ap, subst, ◌∙◌, arith, length-set}
use Rattle.std.specs.Prelude.{Option, Result, Ok, Err, IfOk}
use Rattle.std.proofs.lemmas.Bool.{cases_lt, cond-true, cond-false}
use Rattle.std.proofs.lemmas.Bool.Decides.{nat_tests}
use Rattle.std.proofs.lemmas.List.{get_or_append_left, get_or_push, get_or-set_same, get_or-set_other, drop_at}
use Rattle.rt_run.specs.declared.faults.AppFault.{AppFault}
use Rattle.rt_run.specs.declared.tallies.RejectedInput.{RejectedInput}
use Rattle.rt_run.specs.RunText.{InputContents, RunContents}
use Rattle.rt_run.specs.TableText.{has_faulty, IsGivenBack}
use Rattle.rt_run.specs.Shares.{AreTalliesOfShares}
use Rattle.rt_run.specs.inside.Runs.{IsGivenBackByShares}
use Rattle.rt_run.specs.inside.Outputs.{Writes}

-- a tally has a faulty line if it counts one
pub none_faulty : (tally : RejectedInput) → tally.faulty.count ≡ 0 → has_faulty tally ≡ false
none_faulty tally none = grind (arith, nat_tests, none)

pub some_faulty : (tally : RejectedInput) → (tally.faulty.count ≡ 0 → ⊥) → has_faulty tally ≡ true
some_faulty tally some = grind (arith, nat_tests, some)

-- the first texts were executed with these tallies, and the others are as they were
pub record IsGivenSoFar (old : InputContents) (n : ℕ) (tallies : List RejectedInput) (new : InputContents) : Type 0 where
  pub limited : new.limit ≡ old.limit
  pub as_many : length new.texts ≡ length old.texts
  pub each : (k : ℕ) (none : RejectedInput) → k < n → k < length old.texts → get_or new.texts k [] ≡ (if has_faulty (get_or tallies k none) then get_or old.texts k [] else [])
  pub later : (k : ℕ) → n ≤ k → get_or new.texts k [] ≡ get_or old.texts k []

pub given_none : (old : InputContents) (tallies : List RejectedInput) → IsGivenSoFar old 0 tallies old
given_none old tallies = record { limited = refl; as_many = refl; each = λ k none before here. absurd (omega (arith, before)); later = λ k from. refl }

-- one more text
module _ (old : InputContents) (n : ℕ) (tallies tallies' : List RejectedInput) (tally : RejectedInput) (new : InputContents) (so_far : IsGivenSoFar old n tallies new)
    (counted : length tallies ≡ n) (pushed : tallies' ≡ tallies ++ tally ∷ []) where
  tally_before : (k : ℕ) (none : RejectedInput) → k < n → get_or tallies' k none ≡ get_or tallies k none
  tally_before k none before = ap (λ l. get_or l k none) pushed ∙ get_or_append_left tallies (tally ∷ []) none k (omega (arith, before, counted))

  tally_at : (none : RejectedInput) → get_or tallies' n none ≡ tally
  tally_at none = ap (λ l. get_or l n none) pushed ∙ get_or_push tallies tally none n counted

  module _ (new' : InputContents) (limited : new'.limit ≡ new.limit) (as_many : length new'.texts ≡ length new.texts)
      (others : (k : ℕ) → k ≢ n → get_or new'.texts k [] ≡ get_or new.texts k [])
      (at : n < length old.texts → get_or new'.texts n [] ≡ (if has_faulty tally then get_or old.texts n [] else [])) where
    given_next : IsGivenSoFar old (n + 1) tallies' new'
    given_next = record {
      limited = limited ∙ so_far.limited;
      as_many = as_many ∙ so_far.as_many;
      each = λ k none before here. elim (cases_lt k n) [
        | inl earlier ↦
            others k (λ same. absurd (omega (arith, earlier, same)))
            ∙ (so_far.each k none earlier here
            ∙ ap (λ t. if has_faulty t then get_or old.texts k [] else []) (sym (tally_before k none earlier)))
        | inr last ↦
            let place : n ≡ k = omega (arith, before, last) in
            subst (λ i. get_or new'.texts i [] ≡ (if has_faulty (get_or tallies' i none) then get_or old.texts i [] else [])) place
            (at (omega (arith, place, here)) ∙ ap (λ t. if has_faulty t then get_or old.texts n [] else []) (sym (tally_at none)))
      ];
      later = λ k from. others k (λ same. absurd (omega (arith, from, same))) ∙ so_far.later k (omega (arith, from));
    }

  -- with a faulty line: it stays
  pub given_faulty : has_faulty tally ≡ true → IsGivenSoFar old (n + 1) tallies' new
  given_faulty faulty = given_next new refl refl (λ k other. refl)
      (λ here. so_far.later n (omega arith) ∙ sym (cond-true (has_faulty tally) (get_or old.texts n []) [] faulty))

  -- without one: its memory is given back
  pub given_more : (new' : InputContents) → has_faulty tally ≡ false → n < length new.texts → new' ≡ record { texts = set new.texts n []; limit = new.limit }
      → IsGivenSoFar old (n + 1) tallies' new'
  given_more new' none here is =
      let texts : new'.texts ≡ set new.texts n [] = ap (λ (i : InputContents). i.texts) is in
      given_next new' (ap (λ (i : InputContents). i.limit) is) (ap length texts ∙ length-set new.texts n [])
      (λ k other. ap (λ ts. get_or ts k []) texts ∙ get_or-set_other new.texts n k [] [] other)
      (λ within. ap (λ ts. get_or ts n []) texts
      ∙ (get_or-set_same new.texts n [] [] here ∙ sym (cond-false (has_faulty tally) (get_or old.texts n []) [] none)))

pub given_all : (old : InputContents) (n : ℕ) (tallies : List RejectedInput) (new : InputContents) → IsGivenSoFar old n tallies new → length old.texts ≤ n → IsGivenBack old tallies new
given_all old n tallies new so_far all = record { limited = so_far.limited; as_many = so_far.as_many; each = λ k none here. so_far.each k none (omega (arith, here, all)) here }

-- further tallies behind those of the texts change nothing
pub given_with_more : (old : InputContents) (tallies others all : List RejectedInput) (new : InputContents) → length tallies ≡ length old.texts → all ≡ tallies ++ others
    → IsGivenBack old tallies new → IsGivenBack old all new
given_with_more old tallies others all new counted whole is = record {
  limited = is.limited;
  as_many = is.as_many;
  each = λ k none here.
      is.each k none here
      ∙ ap (λ t. if has_faulty t then get_or old.texts k [] else [])
      (sym (ap (λ l. get_or l k none) whole ∙ get_or_append_left tallies others none k (omega (arith, here, counted))));
}

-- the tallies behind those of other texts
pub given_behind : (before : ℕ) (old : InputContents) (others tallies all : List RejectedInput) (new : InputContents) → length others ≡ before → all ≡ others ++ tallies
    → IsGivenBack old tallies new → IsGivenBack old (drop before all) new
given_behind before old others tallies all new counted whole is =
    subst (λ l. IsGivenBack old l new) (sym (ap (drop before) whole ∙ drop_at others tallies before counted)) is

-- shares with these tallies are one run with the tallies of the texts
pub given_by_shares : (old : InputContents) (asked : RunContents) (dealt : List ℕ) (told : List (List RejectedInput)) (all : List RejectedInput) (new : InputContents)
    → asked.texts ≡ old.texts → AreTalliesOfShares asked dealt told all → IsGivenBackByShares old dealt told new → IsGivenBack old all new
given_by_shares old asked dealt told all new same tallies is = record {
  limited = is.limited;
  as_many = is.as_many;
  each = λ k none here.
      is.each k none here
      ∙ ap (λ t. if has_faulty t then get_or old.texts k [] else []) (sym (tallies.each k none (omega (arith, here, ap length same))));
}

-- what is true of the value that is returned if everything was written
pub if_written : {X : Type 0} (P : X → Type 0) (text : List ℕ) (given : X) (old new : Option (List ℕ)) (result : Result X AppFault)
    → P given → Writes text given old new result → IfOk result P
if_written P text given old new (Ok done) is wrote = subst P (sym wrote.0) is
if_written P text given old new (Err fault) is wrote = tt
