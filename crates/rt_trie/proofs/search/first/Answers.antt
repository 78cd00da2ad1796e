use Rattle.std.proofs.Common.{sym, ap, ◌∙◌}
use Rattle.std.specs.Option.{option_copied}
use Rattle.rt_trie.specs.Map.{first}
use Rattle.rt_trie.proofs.LinkOrder.{first_own, first_left, none_of, below_left}
use Rattle.rt_trie.proofs.search.first.Goals as goal

pub returns-in-Vacant : goal.returns-in-Vacant
returns-in-Vacant g c = sym (c.loop-prefix.invariant.same ∙ ap first c.in-Vacant.ensures)

pub returns-in-Single : goal.returns-in-Single
returns-in-Single g c = sym (c.loop-prefix.invariant.same ∙ ap first c.in-Single.ensures)

pub returns-then-is_some : goal.returns-then-is_some
returns-then-is_some g c =
    let i = c.loop-prefix.invariant in
    sym (i.same ∙ first_own _ _ c.in-Branch.value _ _ (c.in-Branch.ensures.0 i.lawful.0) c.if-is_some.ensures)

pub loop-prefix-smaller : goal.loop-prefix-smaller
loop-prefix-smaller g c = (below_left _ _ _ _ _ (c.in-Branch.ensures.0 c.loop-prefix.invariant.lawful.0)).1

pub loop-prefix-preserved : goal.loop-prefix-preserved
loop-prefix-preserved g c =
    let i = c.loop-prefix.invariant in
    let b = c.in-Branch in
    let n = b.ensures.0 i.lawful.0 in
    let e = ap option_copied (none_of b.value c.if-is_some.ensures) in
    record { lawful = n.left_lawful; same = i.same ∙ first_left _ _ _ _ _ n e (b.ensures.1 i.lawful.1 e).0 }
