-- The texts of an input, taken out into parts, one for each share.
use Rattle.std.proofs.Common.{◌≡◌, ℕ, ◌+◌, ◌<◌, ◌≤◌, inl, inr, Bool, false, if◌then◌else◌, List, [], ◌∷◌, ◌++◌, length, map, get_or, replicate, refl, sym, ap, subst, ◌∙◌, arith, eqb-true, length-append}
use Rattle.std.specs.Bool.{◌==◌}
use Rattle.std.proofs.lemmas.Bool.{cases_Bool, cases_lt, cond-true, cond-false, ne_eqb}
use Rattle.std.proofs.lemmas.List.{length-map, length-replicate, get_or-map, get_or-replicate, get_or_append_left, get_or_push, ext_get_or}
use Rattle.rt_run.specs.ChosenFeeds.{texts_kept}
use Rattle.rt_run.specs.RunText.{InputContents, in_batches}
use Rattle.rt_run.specs.Shares.{share_with, is_of_other}
use Rattle.rt_run.specs.inside.Runs.{part_of, AreExchanged}
use Rattle.rt_run.proofs.KeptTexts.{kept_length}
use Rattle.rt_run.proofs.Shares.{has_text_at, has_none_at}

-- there is an element at each place below the number of elements
some_element : {X : Type 0} (xs : List X) (k : ℕ) → k < length xs → X
some_element [] k here = absurd (omega (arith, here))
some_element (x ∷ xs) k here = x

-- a place that took its element from one of two lists has what that element contains
element_map : {X Y : Type 0} (f : X → Y) (taken : Bool) (one other new : List X) (k : ℕ) (none : Y) → k < length one → length other ≡ length one → length new ≡ length one
    → ((some : X) → get_or new k some ≡ (if taken then get_or other k some else get_or one k some))
    → get_or (map f new) k none ≡ (if taken then get_or (map f other) k none else get_or (map f one) k none)
element_map {X} f taken one other new k none here same as_many is =
    let some : X = some_element one k here in
    get_or-map f new k some none (omega (arith, here, as_many))
    ∙ (ap f (is some)
    ∙ grind (arith, get_or-map f other k some none (omega (arith, here, same)), get_or-map f one k some none here))

-- lists that exchanged elements exchanged what the elements contain
pub exchanged_map : {X Y : Type 0} (f : X → Y) (dealt : List ℕ) (share : ℕ) (one other one' other' : List X) → length one ≡ length other
    → AreExchanged dealt share one other one' other' → AreExchanged dealt share (map f one) (map f other) (map f one') (map f other')
exchanged_map f dealt share one other one' other' same is = record {
  as_many = (length-map one' f ∙ (is.as_many.0 ∙ sym (length-map one f)), length-map other' f ∙ (is.as_many.1 ∙ sym (length-map other f)));
  one_has = λ k none within.
      let here : k < length one = omega (arith, within, length-map one f) in
      element_map f (share_with dealt k == share) one other one' k none here (sym same) is.as_many.0 (λ some. is.one_has k some here);
  other_has = λ k none within.
      let here : k < length one = omega (arith, within, length-map one f) in
      element_map f (share_with dealt k == share) other one other' k none (omega (arith, here, same)) same is.as_many.1 (λ some. is.other_has k some here);
}

-- the texts that are still in the input: those of this share and of later ones
pub record AreLeft (dealt : List ℕ) (share : ℕ) (all texts : List (List ℕ)) : Type 0 where
  pub as_many : length texts ≡ length all
  pub later : (k : ℕ) → k < length all → share ≤ share_with dealt k → get_or texts k [] ≡ get_or all k []

pub left_at_first : (dealt : List ℕ) (all : List (List ℕ)) → AreLeft dealt 0 all all
left_at_first dealt all = record { as_many = refl; later = λ k here from. refl }

pub left_after : (dealt : List ℕ) (share : ℕ) (all texts other texts' other' : List (List ℕ)) → AreLeft dealt share all texts → AreExchanged dealt share texts other texts' other'
    → AreLeft dealt (share + 1) all texts'
left_after dealt share all texts other texts' other' left is = record {
  as_many = is.as_many.0 ∙ left.as_many;
  later = λ k here from.
      let differ : (share_with dealt k == share) ≡ false = ne_eqb (share_with dealt k) share (λ same. omega (arith, from, same)) in
      is.one_has k [] (omega (arith, here, left.as_many))
      ∙ (cond-false (share_with dealt k == share) (get_or other k []) (get_or texts k []) differ ∙ left.later k here (omega (arith, from)));
}

abbrev made : List (List ℕ) → ℕ → InputContents
made texts limit = record { texts = texts; limit = limit }

-- the part of a share has the share's texts
pub taken_part : (all : InputContents) (dealt : List ℕ) (share : ℕ) (texts texts' : List (List ℕ)) (part : InputContents) → AreLeft dealt share all.texts texts
    → AreExchanged dealt share texts (replicate (length texts) []) texts' part.texts → part.limit ≡ all.limit → part ≡ part_of all dealt share
taken_part all dealt share texts texts' part left is limited =
    let n = length texts in
    let count : length part.texts ≡ n = is.as_many.1 ∙ length-replicate n [] in
    let same : part.texts ≡ texts_kept (is_of_other dealt share) 1 all.texts =
    ext_get_or [] part.texts (texts_kept (is_of_other dealt share) 1 all.texts) (count ∙ (left.as_many ∙ sym (kept_length (is_of_other dealt share) 1 all.texts)))
    (λ k within.
    let here : k < n = omega (arith, within, count) in
    let has = is.other_has k [] here in
    elim (cases_Bool (share_with dealt k == share)) [
      | inl own ↦
          let mine : share_with dealt k ≡ share = eqb-true (share_with dealt k) share own in
          has ∙ (cond-true (share_with dealt k == share) (get_or texts k []) (get_or (replicate n []) k []) own
          ∙ (left.later k (omega (arith, here, left.as_many)) (omega (arith, mine)) ∙ sym (has_text_at (in_batches 1 all) dealt share k mine)))
      | inr other ↦
          has ∙ (cond-false (share_with dealt k == share) (get_or texts k []) (get_or (replicate n []) k []) other
          ∙ (get_or-replicate n k [] [] here ∙ sym (has_none_at (in_batches 1 all) dealt share k other)))
    ]) in
    ap (λ texts. made texts part.limit) same ∙ ap (made (texts_kept (is_of_other dealt share) 1 all.texts)) limited

-- the parts so far are those of the first shares
abbrev pub AreFirstParts : InputContents → List ℕ → List InputContents → Type 0
AreFirstParts all dealt parts = (share : ℕ) (none : InputContents) → share < length parts → get_or parts share none ≡ part_of all dealt share

pub first_parts_more : (all : InputContents) (dealt : List ℕ) (parts parts' : List InputContents) (part : InputContents) (n : ℕ) → length parts ≡ n → AreFirstParts all dealt parts
    → part ≡ part_of all dealt n → parts' ≡ parts ++ part ∷ [] → AreFirstParts all dealt parts'
first_parts_more all dealt parts parts' part n count so_far is pushed share none here = elim (cases_lt share n) [
  | inl earlier ↦
      ap (λ l. get_or l share none) pushed
      ∙ (get_or_append_left parts (part ∷ []) none share (omega (arith, count, earlier)) ∙ so_far share none (omega (arith, count, earlier)))
  | inr last ↦
      let place : n ≡ share = omega (arith, last, here, count, ap length pushed, length-append parts (part ∷ [])) in
      subst (λ i. get_or parts' i none ≡ part_of all dealt i) place (ap (λ l. get_or l n none) pushed ∙ (get_or_push parts part none n count ∙ is))
]
