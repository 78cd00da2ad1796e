use Rattle.std.proofs.Common.{◌≡◌, [], ◌∷◌, ap, ◌∙◌, arith}
use Rattle.rt_rib.proofs.OfferLists.{Contains-insert, IsRanked-behind, IsRanked-before}
use Rattle.rt_rib.proofs.Order.{outranks-by}
use Rattle.rt_rib.proofs.offers.two.Goals as goal
use Rattle.rt_rib.proofs.offers.two.Goals.{then-is_some, else-is_some}

pub returns-clause-gained : goal.returns-clause-gained
returns-clause-gained g c =
    let items : c.in_ok-new.field-0.value.items ≡ c.if-is_some.offers = ap (λ v. v.items) c.in_ok-new.ensures.ok ∙ c.in_ok-offers.ensures.items in
    elim c.if-is_some.branch [
      | then-is_some w ↦ rw (items, w.offers-is) (λ o. Contains-insert (c.args.one ∷ []) 1 c.args.other o (omega arith))
      | else-is_some w ↦ rw (items, w.offers-is) (λ o. Contains-insert (c.args.one ∷ []) 0 c.args.other o (omega arith))
    ]

pub returns-clause-ranked : goal.returns-clause-ranked
returns-clause-ranked g c =
    let items : c.in_ok-new.field-0.value.items ≡ c.if-is_some.offers = ap (λ v. v.items) c.in_ok-new.ensures.ok ∙ c.in_ok-offers.ensures.items in
    elim c.if-is_some.branch [
      | then-is_some w ↦ rw (items, w.offers-is) (IsRanked-behind c.args.one c.args.other c.requires (outranks-by c.args.one c.args.other c.beats.result c.is_some.result c.beats.ensures c.is_some.ensures ∙ w.if-is_some.true))
      | else-is_some w ↦ rw (items, w.offers-is)
          (IsRanked-before c.args.one c.args.other c.requires (outranks-by c.args.one c.args.other c.beats.result c.is_some.result c.beats.ensures c.is_some.ensures ∙ w.if-is_some.false))
    ]
