use Rattle.std.proofs.Common.{◌≡◌, Option, None, Some, refl, sym, ap, ◌∙◌, arith}
use Rattle.rt_cidr.specs.declared.prefixes.Prefix.{Prefix}
use Rattle.rt_trie.specs.inside.Links.{or_else, pairs}
use Rattle.std.specs.Prelude.{Bool, true, false, [], ◌∷◌, if◌then◌else◌}
use Rattle.rt_trie.specs.Map.{Pairs, before, first, next_after}
use Rattle.rt_trie.proofs.PrefixOrder.{lt_before}
use Rattle.rt_trie.proofs.LinkOrder.{node_after-lower, node_after-upper, node_after-all, node_after-none, below_left, below_right}
use Rattle.rt_trie.proofs.search.+after.Goals as goal

-- if there is an answer on the left, it is the answer
found_first : (o d : Option Prefix) → (o ≡ None → ⊥) → o ≡ or_else o d
found_first None d h = absurd (h refl)
found_first (Some x) d h = refl

-- the next prefix after p in a list of a single pair
after_single : {V : Type 0} (m : Pairs V) (p q : Prefix) (v : V) (comes : Bool) → m ≡ (q, v) ∷ [] → before p q ≡ comes
    → next_after m p ≡ (if comes then Some q else None)
after_single m p q v comes e h = ap (λ m. next_after m p) e ∙ ap (λ comes. if comes then Some q else None) h

pub returns-in-Vacant : goal.returns-in-Vacant
returns-in-Vacant g t c = sym (ap (λ m. next_after m c.args.p) c.in-Vacant.ensures)

pub returns-then-lt : goal.returns-then-lt
returns-then-lt g t c =
    let q = c.in-Single.stored in
    sym (after_single _ c.args.p q _ true c.in-Single.ensures (sym (lt_before c.args.p q) ∙ sym c.if-lt.ensures))

pub returns-else-lt : goal.returns-else-lt
returns-else-lt g t c =
    let q = c.in-Single.stored in
    sym (after_single _ c.args.p q _ false c.in-Single.ensures (sym (lt_before c.args.p q) ∙ sym c.if-lt.ensures))

pub returns-in-None : goal.returns-in-None
returns-in-None g t c =
    let b = c.in-Branch in
    let n = b.ensures.0 c.requires.0 in
    c.first.ensures ∙ ap (λ o. or_else o (first (pairs b.right.now))) (sym c.in-None.is ∙ c.after.ensures)
    ∙ sym (node_after-lower _ _ _ _ _ n c.args.p _ (c.position_of.ensures b.prefix (record { len_is = c.len.ensures; base_is = c.base.ensures })) c.in-Here.is)

pub returns-in_default : goal.returns-in_default
returns-in_default g t c =
    let b = c.in-Branch in
    let n = b.ensures.0 c.requires.0 in
    found_first c.after.result (first (pairs b.right.now)) c.in_default.not-None ∙ ap (λ o. or_else o (first (pairs b.right.now))) c.after.ensures
    ∙ sym (node_after-lower _ _ _ _ _ n c.args.p _ (c.position_of.ensures b.prefix (record { len_is = c.len.ensures; base_is = c.base.ensures })) c.in-Here.is)

pub returns-in-Right : goal.returns-in-Right
returns-in-Right g t c =
    let b = c.in-Branch in
    let n = b.ensures.0 c.requires.0 in
    c.after-in-Right.ensures ∙ sym (node_after-upper _ _ _ _ _ n c.args.p _
    (c.position_of.ensures b.prefix (record { len_is = c.len.ensures; base_is = c.base.ensures })) c.in-Right.is)

pub returns-then-lt-2 : goal.returns-then-lt-2
returns-then-lt-2 g t c =
    let b = c.in-Branch in
    let n = b.ensures.0 c.requires.0 in
    c.first-then-lt-2.ensures
    ∙ sym (node_after-all _ _ _ _ _ n c.args.p (sym (lt_before c.args.p b.prefix) ∙ sym c.if-lt-2.ensures))

pub returns-else-lt-2 : goal.returns-else-lt-2
returns-else-lt-2 g t c =
    let b = c.in-Branch in
    let n = b.ensures.0 c.requires.0 in
    sym (node_after-none _ _ _ _ _ n c.args.p _ (c.position_of.ensures b.prefix
    (record { len_is = c.len.ensures; base_is = c.base.ensures })) c.in-Above.is
    (sym (lt_before c.args.p b.prefix) ∙ sym c.if-lt-2.ensures))

pub after-requires : goal.after-requires
after-requires g t c = λ κs l.
    let b = below_left _ _ _ _ _ (c.in-Branch.ensures.0 c.requires.0) in (omega (arith, b.1, c.decreases), (l.0, (l.1, b.0)))

pub after-requires-in-Right : goal.after-requires-in-Right
after-requires-in-Right g t c = λ κs l.
    let b = below_right _ _ _ _ _ (c.in-Branch.ensures.0 c.requires.0) in (omega (arith, b.1, c.decreases), (l.0, (l.1, b.0)))

pub first-requires : goal.first-requires
first-requires g t c = (below_right _ _ _ _ _ (c.in-Branch.ensures.0 c.requires.0)).0
