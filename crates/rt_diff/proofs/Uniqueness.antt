-- Two tables have only one list of their differences.
use Rattle.std.proofs.Common.{◌≡◌, ◌+◌, ◌≤◌, inl, inr, List, [], ◌∷◌, sym, refl, ◌∙◌, subst, arith}
use Rattle.std.proofs.lemmas.Bool.{cases_lt}
use Rattle.rt_cidr.specs.declared.address.Addr.{Addr}
use Rattle.rt_diff.specs.declared.table_answers.CompareBy.{CompareBy}
use Rattle.rt_diff.specs.declared.comparison.Difference.{Difference}
use Rattle.rt_diff.specs.Answers.{RenumberedTable}
use Rattle.rt_diff.specs.Differences.{IsNextDifference, HaveSameAnswers}
use Rattle.rt_diff.specs.Laws.{HaveOneList}
use Rattle.rt_diff.specs.inside.Rest.{AreRest}
use Rattle.rt_diff.proofs.Rest.{at, rest_behind, rest_first, rest_alike_all, from_whole}

module _ (by : CompareBy) (old new : RenumberedTable) where
  -- the first range from an address on is unique
  begins_no_later : (from : Addr) (d e : Difference) → IsNextDifference by old new from d → IsNextDifference by old new from e → e.first.0 ≤ d.first.0
  begins_no_later from d e is also = elim (cases_lt d.first.0 e.first.0) [
    | inl before ↦
        let answers = is.difference.each d.first (omega arith, is.difference.some) in
        absurd (is.difference.differ (sym answers.0 ∙ also.before d.first is.onward before ∙ answers.1))
    | inr later ↦ later
  ]

  ends_no_later : (from : Addr) (d e : Difference) → IsNextDifference by old new from d → IsNextDifference by old new from e
      → d.first.0 ≡ e.first.0 → HaveSameAnswers d e → e.last.0 ≤ d.last.0
  ends_no_later from d e is also first same = elim (cases_lt d.last.0 e.last.0) [
    | inl before ↦
        let answers = also.difference.each (at (d.last.0 + 1)) (omega (arith, is.difference.some), omega arith) in
        absurd (is.longest (at (d.last.0 + 1)) refl (omega (arith, also.difference.fits)) (answers.0 ∙ sym same.0, answers.1 ∙ sym same.1))
    | inr later ↦ later
  ]

  one_next : (from : Addr) (d e : Difference) → IsNextDifference by old new from d → IsNextDifference by old new from e → d ≡ e
  one_next from d e is also =
      let first : d.first.0 ≡ e.first.0 = omega (arith, begins_no_later from d e is also, begins_no_later from e d also is) in
      let of_d = is.difference.each d.first (omega arith, is.difference.some) in
      let of_e = also.difference.each d.first (omega arith, omega (arith, also.difference.some)) in
      let one : d.old ≡ e.old = sym of_d.0 ∙ of_e.0 in
      let other : d.new ≡ e.new = sym of_d.1 ∙ of_e.1 in
      let last : d.last.0 ≡ e.last.0 =
      omega (arith, ends_no_later from d e is also first (one, other), ends_no_later from e d also is (sym first) (sym one, sym other)) in
      λ i. record { first = at (first i); last = at (last i); old = one i; new = other i }

  -- if there are no ranges, there is no first one
  no_next : (from : Addr) (d : Difference) → IsNextDifference by old new from d → AreRest by old new from.0 [] → ⊥
  no_next from d is none =
      let answers = is.difference.each d.first (omega arith, is.difference.some) in
      is.difference.differ
      (sym answers.0 ∙ rest_alike_all by old new from.0 none d.first is.onward (omega (arith, is.difference.some, is.difference.fits)) ∙ answers.1)

  -- hence two lists have the same first range, and then the same rest
  one_rest : (from : Addr) (one other : List Difference) → AreRest by old new from.0 one → AreRest by old new from.0 other → one ≡ other
  one_rest from [] [] is also = refl
  one_rest from [] (e ∷ other) is also =
      let next = rest_first by old new from e other also in
      absurd (no_next from e next is)
  one_rest from (d ∷ one) [] is also =
      let next = rest_first by old new from d one is in
      absurd (no_next from d next also)
  one_rest from (d ∷ one) (e ∷ other) is also =
      let same = one_next from d e (rest_first by old new from d one is) (rest_first by old new from e other also) in
      let rest = rest_behind by old new from.0 e other also in
      let behind : AreRest by old new (d.last.0 + 1) other = subst (λ (c : Difference). AreRest by old new (c.last.0 + 1) other) (sym same) rest in
      λ i. same i ∷ one_rest (at (d.last.0 + 1)) one other (rest_behind by old new from.0 d one is) behind i

pub have_one_list : HaveOneList
have_one_list by old new one other is also =
    one_rest by old new (at 0) one other (from_whole by old new one is) (from_whole by old new other also)
