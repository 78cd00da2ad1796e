-- Two tables have a list of their differences: it is built from the last address to the first.
use Rattle.std.proofs.Common.{◌≡◌, ℕ, zero, suc, ◌+◌, ◌-◌, ◌^◌, ◌<◌, ◌≤◌, ◌⊎◌, inl, inr, List, [], ◌∷◌, sym, refl, ◌∙◌, subst, arith}
use Rattle.std.proofs.lemmas.Bool.{cases_lt, cases_eq}
use Rattle.std.proofs.lemmas.List.Elements.{All-weaker}
use Rattle.rt_cidr.specs.declared.address.Addr.{Addr}
use Rattle.rt_diff.specs.declared.table_answers.CompareBy.{CompareBy}
use Rattle.rt_diff.specs.declared.comparison.Difference.{Difference}
use Rattle.rt_diff.specs.Answers.{RenumberedTable, answer_of}
use Rattle.rt_diff.specs.Differences.{HasAnswers, IsAlike, IsNextDifference, HaveSameAnswers}
use Rattle.rt_diff.specs.Laws.{HaveDifferences}
use Rattle.rt_diff.specs.inside.Rest.{AreRest}
use Rattle.rt_diff.proofs.Deciding.{answer_cases}
use Rattle.rt_diff.proofs.Rest.{at, rest_none, rest_next, rest_behind, rest_first, rest_alike_all, whole}

module _ (by : CompareBy) (old new : RenumberedTable) where
  -- if this address has the same answer in both tables, the list from the next address on is the list from this one on
  rest_alike : (from : ℕ) (list : List Difference) → IsAlike by old new (at from) → AreRest by old new (from + 1) list → AreRest by old new from list
  rest_alike from list alike are = record {
    onward = All-weaker (λ (d : Difference). from + 1 ≤ d.first.0) (λ (d : Difference). from ≤ d.first.0) (λ d behind. omega arith) list are.onward;
    each = are.each;
    all = λ addr here fits unlike. elim (cases_lt from addr.0) [
      | inl later ↦ are.all addr (omega arith) fits unlike
      | inr now ↦
          let same : from ≡ addr.0 = omega arith in
          absurd (unlike (subst (λ (n : ℕ). IsAlike by old new (at n)) same alike))
    ];
    rising = are.rising;
    fewest = are.fewest;
  }

  -- the range of a single address
  abbrev alone : ℕ → Difference
  alone from = record { first = at from; last = at from; old = answer_of by (at from) old; new = answer_of by (at from) new }

  -- it is the first range there if the next address has other answers
  alone_first : (from : ℕ) → from < 2 ^ 32 → ¬ IsAlike by old new (at from)
      → ((addr : Addr) → addr.0 ≡ from + 1 → addr.0 < 2 ^ 32 → ¬ HasAnswers by old new addr (answer_of by (at from) old) (answer_of by (at from) new))
      → IsNextDifference by old new (at from) (alone from)
  alone_first from fits unlike ends = record {
    onward = omega arith;
    before = λ addr here before. absurd (omega arith);
    difference = record {
      some = omega arith;
      fits = fits;
      each = λ addr within.
          let same : from ≡ addr.0 = omega (arith, within.0, within.1) in
          subst (λ (n : ℕ). HasAnswers by old new (at n) (answer_of by (at from) old) (answer_of by (at from) new)) same (refl, refl);
      differ = unlike;
    };
    longest = ends;
  }

  -- a range that begins after this address and has its answers
  abbrev Joins : ℕ → Difference → Type 0
  Joins from d = (d.first.0 ≡ from + 1) × HaveSameAnswers (alone from) d

  joins_cases : (from : ℕ) (d : Difference) → Joins from d ⊎ (Joins from d → ⊥)
  joins_cases from d = elim (cases_eq d.first.0 (from + 1)) [
    | inl adjacent ↦ elim (answer_cases (answer_of by (at from) old) d.old) [
      | inl first ↦ elim (answer_cases (answer_of by (at from) new) d.new) [
        | inl second ↦ inl (adjacent, (first, second))
        | inr other ↦ inr (λ joins. other joins.1.1)
      ]
      | inr other ↦ inr (λ joins. other joins.1.0)
    ]
    | inr other ↦ inr (λ joins. other joins.0)
  ]

  -- such a range extended to this address
  abbrev longer : ℕ → Difference → Difference
  longer from d = record { first = at from; last = d.last; old = d.old; new = d.new }

  longer_first : (from : ℕ) (d : Difference) → Joins from d → IsNextDifference by old new (at (from + 1)) d
      → IsNextDifference by old new (at from) (longer from d)
  longer_first from d joins next = record {
    onward = omega arith;
    before = λ addr here before. absurd (omega arith);
    difference = record {
      some = omega (arith, next.difference.some, joins.0);
      fits = next.difference.fits;
      each = λ addr within. elim (cases_lt from addr.0) [
        | inl later ↦ next.difference.each addr (omega (arith, joins.0), within.1)
        | inr now ↦
            let same : from ≡ addr.0 = omega (arith, within.0) in
            subst (λ (n : ℕ). HasAnswers by old new (at n) d.old d.new) same joins.1
      ];
      differ = next.difference.differ;
    };
    longest = next.longest;
  }

  -- if there is no such range, the answers end here
  ends_before : (from : ℕ) (d : Difference) → (Joins from d → ⊥) → ¬ IsAlike by old new (at from) → IsNextDifference by old new (at (from + 1)) d
      → (addr : Addr) → addr.0 ≡ from + 1 → addr.0 < 2 ^ 32 → ¬ HasAnswers by old new addr (answer_of by (at from) old) (answer_of by (at from) new)
  ends_before from d apart unlike next addr adjacent fits same = elim (cases_lt addr.0 d.first.0) [
    | inl before ↦ unlike (sym same.0 ∙ next.before addr (omega arith) before ∙ same.1)
    | inr begun ↦
        let answers = next.difference.each addr (begun, omega (arith, next.difference.some, next.onward)) in
        apart (omega (arith, next.onward), (sym same.0 ∙ answers.0, sym same.1 ∙ answers.1))
  ]

  -- if this address has different answers, the list begins with one more range, or with a range that begins here
  rest_unlike : (from : ℕ) (list : List Difference) → from < 2 ^ 32 → ¬ IsAlike by old new (at from) → AreRest by old new (from + 1) list
      → (more : List Difference) × AreRest by old new from more
  rest_unlike from [] fits unlike are = (
    alone from ∷ [],
    rest_next by old new (at from) (alone from) []
        (alone_first from fits unlike
        (λ addr adjacent fits same. unlike (sym same.0 ∙ rest_alike_all by old new (from + 1) are addr (omega arith) fits ∙ same.1)))
        are,
  )
  rest_unlike from (d ∷ rest) fits unlike are =
      let next = rest_first by old new (at (from + 1)) d rest are in
      elim (joins_cases from d) [
        | inl joins ↦ (
          longer from d ∷ rest,
          rest_next by old new (at from) (longer from d) rest (longer_first from d joins next) (rest_behind by old new (from + 1) d rest are),
        )
        | inr apart ↦ (
          alone from ∷ (d ∷ rest),
          rest_next by old new (at from) (alone from) (d ∷ rest) (alone_first from fits unlike (ends_before from d apart unlike next)) are,
        )
      ]

  -- the list from the address `count` before the end on
  rest_before_end : (count from : ℕ) → from + count ≡ 2 ^ 32 → (list : List Difference) × AreRest by old new from list
  rest_before_end zero from end = ([], rest_none by old new from (λ addr here fits. absurd (omega arith)))
  rest_before_end (suc count) from end =
      let (list, are) = rest_before_end count (from + 1) (omega arith) in
      elim (answer_cases (answer_of by (at from) old) (answer_of by (at from) new)) [
        | inl alike ↦ (list, rest_alike from list alike are)
        | inr unlike ↦ rest_unlike from list (omega arith) unlike are
      ]

  pub rest_there : (from : ℕ) → from ≤ 2 ^ 32 → (list : List Difference) × AreRest by old new from list
  rest_there from fits = rest_before_end (2 ^ 32 - from) from (omega arith)

pub have_differences : HaveDifferences
have_differences by old new =
    let (list, are) = rest_there by old new 0 (omega arith) in
    (list, whole by old new list are)
