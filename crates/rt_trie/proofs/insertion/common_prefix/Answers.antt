use Rattle.std.proofs.Common.{◌≡◌, ◌+◌, ◌-◌, ◌*◌, ◌/◌, ◌%◌, ◌^◌, inl, inr, sym, subst, ap, ◌∙◌, arith}
use Rattle.std.specs.Prelude.{Err}
use Rattle.std.proofs.lemmas.Bool.{cases_lt}
use Rattle.rt_cidr.proofs.Promised.{size_pos}
use Rattle.rt_cidr.specs.Reading.{AnswersPair}
use Rattle.rt_trie.proofs.Partings.{parts_at, is_prefix, not_refused, shifted_back}
use Rattle.rt_trie.proofs.insertion.common_prefix.Goals as goal

pub highest_difference-bit-requires : goal.highest_difference-bit-requires
highest_difference-bit-requires c =
    let p = c.base-a.ensures in
    let r = c.requires in
    record {
      differ = λ e. elim r.2 [
        | inl o ↦ omega (arith, o, e, p, r.1, size_pos r.0.len)
        | inr o ↦ omega (arith, o, e, p, r.1, size_pos c.args.p.now.len)
      ];
    }

pub unreachable-requires : goal.unreachable-requires
unreachable-requires c =
    let p = c.args.p.now in
    let j = c.highest_difference-bit.result in
    let e = c.base-a.ensures in
    let f = shifted_back p.base j p.is_prefix.fits in
    let r = c.in_default.ensures in
    not_refused (p.base / 2 ^ (j + 1) * 2 ^ (j + 1)) (31 - j) c.in_default.field-0
    (is_prefix p.base j p.is_prefix.fits c.highest_difference-bit.ensures.bit)
    (subst (λ n. AnswersPair n (31 - j) (Err c.in_default.field-0)) (ap (λ n. (n / 2 ^ (j + 1) * 2 ^ (j + 1)) % 18446744073709551616) e ∙ f) r)

pub returns : goal.returns
returns c = λ q d apart.
    let p = c.args.p.now in
    let j = c.highest_difference-bit.result in
    let i = c.highest_difference-bit.ensures in
    let same : p.base / 2 ^ (j + 1) ≡ q.base / 2 ^ (j + 1) =
    ap (λ n. n / 2 ^ (j + 1)) (sym c.base-a.ensures) ∙ i.same ∙ ap (λ n. n / 2 ^ (j + 1)) d in
    let differ = λ (e : p.base / 2 ^ j ≡ q.base / 2 ^ j).
    i.differ (ap (λ n. n / 2 ^ j) c.base-a.ensures ∙ e ∙ ap (λ n. n / 2 ^ j) (sym d)) in
    let base : c.in-Ok.prefix.base ≡ p.base / 2 ^ (j + 1) * 2 ^ (j + 1) =
    c.in-Ok.ensures.0 ∙ ap (λ n. (n / 2 ^ (j + 1) * 2 ^ (j + 1)) % 18446744073709551616) c.base-a.ensures
    ∙ shifted_back p.base j p.is_prefix.fits in (
      λ h. parts_at p q c.in-Ok.prefix j i.bit same differ h apart base c.in-Ok.ensures.1,
      λ h. elim (cases_lt q.base p.base) [
        | inl lt ↦ parts_at q p c.in-Ok.prefix j i.bit (sym same) (λ e. differ (sym e)) lt
            (elim apart [ inl x ↦ inr x | inr x ↦ inl x ]) (base ∙ ap (λ n. n * 2 ^ (j + 1)) same) c.in-Ok.ensures.1
        | inr ge ↦ absurd (differ (ap (λ n. n / 2 ^ j) (omega arith)))
      ],
    )
