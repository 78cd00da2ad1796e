-- How the list of all differences is built: from the first one at or after an address, and from the list after it.
use Rattle.std.proofs.Common.{◌≡◌, ℕ, ◌+◌, ◌^◌, ◌<◌, ◌≤◌, inl, inr, List, [], ◌∷◌, sym, ◌∙◌, arith}
use Rattle.std.proofs.lemmas.Bool.{cases_lt}
use Rattle.std.proofs.lemmas.List.Elements.{All-nil, All-cons, All-head, All-tail, All-weaker}
use Rattle.std.proofs.lemmas.List.Kept.{AllPairs-cons}
use Rattle.std.specs.List.{All}
use Rattle.rt_cidr.specs.declared.address.Addr.{Addr}
use Rattle.rt_diff.specs.declared.table_answers.CompareBy.{CompareBy}
use Rattle.rt_diff.specs.declared.comparison.Difference.{Difference}
use Rattle.rt_diff.specs.Differences.{IsAlike, IsWithin, IsDifference, IsNextDifference, HaveSameAnswers, AreDifferences}
use Rattle.rt_diff.specs.inside.Rest.{AreRest}
use Rattle.rt_diff.specs.Answers.{RenumberedTable, answer_of}
use Rattle.rt_diff.proofs.Deciding.{answer_cases}
use Rattle.rt_diff.proofs.Lists.{Any-head, Any-tail, Any-cases, Any-none, All-any, AllPairs-head, AllPairs-tail, AllPairs-none}

-- the address of this number
abbrev pub at : ℕ → Addr
at n = record { 0 = n }

abbrev Rises : Difference → Difference → Type 0
Rises c d = c.last.0 < d.first.0

abbrev IsApart : Difference → Difference → Type 0
IsApart c d = c.last.0 + 1 ≡ d.first.0 → ¬ HaveSameAnswers c d

module _ (by : CompareBy) (old new : RenumberedTable) where
  -- there is no range if each address has the same answer in both tables
  pub rest_none : (from : ℕ) → ((addr : Addr) → from ≤ addr.0 → addr.0 < 2 ^ 32 → IsAlike by old new addr) → AreRest by old new from []
  rest_none from alike = record {
    onward = All-nil (λ (d : Difference). from ≤ d.first.0);
    each = All-nil (IsDifference by old new);
    all = λ addr here fits unlike. absurd (unlike (alike addr here fits));
    rising = AllPairs-none Rises;
    fewest = AllPairs-none IsApart;
  }

  -- and only then
  pub rest_alike_all : (from : ℕ) → AreRest by old new from [] → (addr : Addr) → from ≤ addr.0 → addr.0 < 2 ^ 32 → IsAlike by old new addr
  rest_alike_all from are addr here fits = elim (answer_cases (answer_of by addr old) (answer_of by addr new)) [
    | inl alike ↦ alike
    | inr unlike ↦ absurd (Any-none (λ (d : Difference). IsWithin d addr) (are.all addr here fits unlike))
  ]

  -- a range before one that has its answers isn't adjacent to it
  next_apart : (from : Addr) (d e : Difference) → IsNextDifference by old new from d → IsDifference by old new e → IsApart d e
  next_apart from d e next is adjacent same =
      let first = is.each e.first (omega arith, is.some) in
      next.longest e.first (sym adjacent) (omega (arith, is.some, is.fits)) (first.0 ∙ sym same.0, first.1 ∙ sym same.1)

  -- the first range from an address on, and those after it
  pub rest_next : (from : Addr) (d : Difference) (rest : List Difference) → IsNextDifference by old new from d
      → AreRest by old new (d.last.0 + 1) rest → AreRest by old new from.0 (d ∷ rest)
  rest_next from d rest next are = record {
    onward = All-cons (λ (e : Difference). from.0 ≤ e.first.0) d rest next.onward
        (All-weaker (λ (e : Difference). d.last.0 + 1 ≤ e.first.0) (λ (e : Difference). from.0 ≤ e.first.0)
        (λ e behind. omega (arith, next.onward, next.difference.some)) rest are.onward);
    each = All-cons (IsDifference by old new) d rest next.difference are.each;
    all = λ addr here fits unlike. elim (cases_lt addr.0 d.first.0) [
      | inl before ↦ absurd (unlike (next.before addr here before))
      | inr inside ↦ elim (cases_lt d.last.0 addr.0) [
        | inl behind ↦ Any-tail (λ (e : Difference). IsWithin e addr) d rest (are.all addr (omega arith) fits unlike)
        | inr within ↦ Any-head (λ (e : Difference). IsWithin e addr) d rest (inside, within)
      ]
    ];
    rising = AllPairs-cons Rises d rest
        (All-weaker (λ (e : Difference). d.last.0 + 1 ≤ e.first.0) (Rises d) (λ e behind. omega arith) rest are.onward) are.rising;
    fewest = AllPairs-cons IsApart d rest (All-weaker (IsDifference by old new) (IsApart d) (λ e is. next_apart from d e next is) rest are.each) are.fewest;
  }

  -- the ranges after the first one
  pub rest_behind : (from : ℕ) (d : Difference) (rest : List Difference) → AreRest by old new from (d ∷ rest) → AreRest by old new (d.last.0 + 1) rest
  rest_behind from d rest are =
      let first = All-head (IsDifference by old new) d rest are.each in
      let onward = All-head (λ (e : Difference). from ≤ e.first.0) d rest are.onward in
      record {
        onward = All-weaker (Rises d) (λ (e : Difference). d.last.0 + 1 ≤ e.first.0) (λ e rises. omega arith) rest (AllPairs-head Rises d rest are.rising);
        each = All-tail (IsDifference by old new) d rest are.each;
        all = λ addr here fits unlike.
            let some = are.all addr (omega (arith, first.some, onward)) fits unlike in
            elim (Any-cases (λ (e : Difference). IsWithin e addr) d rest some) [
              | inl within ↦ absurd (omega (arith, within.1))
              | inr later ↦ later
            ];
        rising = AllPairs-tail Rises d rest are.rising;
        fewest = AllPairs-tail IsApart d rest are.fewest;
      }

  -- what is known of a range after another
  record Follows (d e : Difference) : Type 0 where
    is : IsDifference by old new e
    rises : Rises d e
    apart : IsApart d e

  -- this holds for each range after the first one
  follow : (from : ℕ) (d : Difference) (rest : List Difference) → AreRest by old new from (d ∷ rest) → All (Follows d) rest
  follow from d rest are k e l = record {
    is = All-tail (IsDifference by old new) d rest are.each k e l;
    rises = AllPairs-head Rises d rest are.rising k e l;
    apart = AllPairs-head IsApart d rest are.fewest k e l;
  }

  -- no range begins before the first one
  none_before : (from : ℕ) (d : Difference) (rest : List Difference) → AreRest by old new from (d ∷ rest)
      → All (λ (e : Difference). d.first.0 ≤ e.first.0) (d ∷ rest)
  none_before from d rest are =
      let first = All-head (IsDifference by old new) d rest are.each in
      All-cons (λ (e : Difference). d.first.0 ≤ e.first.0) d rest (omega arith)
      (All-weaker (Rises d) (λ (e : Difference). d.first.0 ≤ e.first.0) (λ e rises. omega (arith, first.some)) rest (AllPairs-head Rises d rest are.rising))

  -- and the first one of the list is the first from that address on
  pub rest_first : (from : Addr) (d : Difference) (rest : List Difference) → AreRest by old new from.0 (d ∷ rest) → IsNextDifference by old new from d
  rest_first from d rest are =
      let first = All-head (IsDifference by old new) d rest are.each in
      record {
        onward = All-head (λ (e : Difference). from.0 ≤ e.first.0) d rest are.onward;
        before = λ addr here before. elim (answer_cases (answer_of by addr old) (answer_of by addr new)) [
          | inl alike ↦ alike
          | inr unlike ↦ absurd (All-any (λ (e : Difference). IsWithin e addr) (λ (e : Difference). d.first.0 ≤ e.first.0) (d ∷ rest)
              (none_before from.0 d rest are) (are.all addr here (omega (arith, first.some, first.fits)) unlike)
              (λ e later within. omega (arith, within.0)))
        ];
        difference = first;
        longest = λ addr adjacent fits same. elim (Any-cases (λ (e : Difference). IsWithin e addr) d rest
            (are.all addr (omega (arith, first.some, All-head (λ (e : Difference). from.0 ≤ e.first.0) d rest are.onward)) fits
            (λ alike. first.differ (sym same.0 ∙ alike ∙ same.1)))) [
              | inl within ↦ omega (arith, within.1)
              | inr later ↦ All-any (λ (e : Difference). IsWithin e addr) (Follows d) rest (follow from.0 d rest are) later
                  (λ e follows within.
                  let answers = follows.is.each addr within in
                  follows.apart (omega (arith, follows.rises, within.0)) (sym same.0 ∙ answers.0, sym same.1 ∙ answers.1))
            ];
      }

  -- the whole list is the one from 0 on
  pub whole : (list : List Difference) → AreRest by old new 0 list → AreDifferences by old new list
  whole list are = record {
    each = are.each;
    all = λ addr fits unlike. are.all addr (omega arith) fits unlike;
    rising = are.rising;
    fewest = are.fewest;
  }

  pub from_whole : (list : List Difference) → AreDifferences by old new list → AreRest by old new 0 list
  from_whole list are = record {
    onward = λ k d l. omega arith;
    each = are.each;
    all = λ addr here fits unlike. are.all addr fits unlike;
    rising = are.rising;
    fewest = are.fewest;
  }
