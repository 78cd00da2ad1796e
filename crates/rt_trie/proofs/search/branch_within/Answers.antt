use Rattle.std.proofs.Common.{sym, ◌∙◌}
use Rattle.rt_trie.specs.inside.Blocks.{StandsAt}
use Rattle.rt_trie.specs.inside.Links.{pairs}
use Rattle.rt_trie.proofs.WithinPairs.{single_within, single_off, within-all_below, within-left, within-right, within-apart}
use Rattle.rt_trie.proofs.search.branch_within.Given.{Over}
use Rattle.rt_trie.proofs.search.branch_within.Goals.{After-position_of}
use Rattle.rt_trie.proofs.search.branch_within.Goals as goal

-- the position of the prefix relative to the node
stands : (g : Over) (c : After-position_of g) → StandsAt c.in-Branch.prefix c.args.p c.position_of.result
stands g c = c.position_of.ensures c.in-Branch.prefix (record { len_is = c.len.ensures; base_is = c.base.ensures })

pub returns-in-Here-clause-pairs : goal.returns-in-Here-clause-pairs
returns-in-Here-clause-pairs g c =
    let n = c.in-Branch.ensures.0 c.loop-prefix.invariant.lawful.0 in
    let s = stands g (goal.at.returns-in-Here-clause-pairs g c).After-position_of in
    c.loop-prefix.invariant.same ∙ within-all_below _ _ _ _ _ n c.args.p _ s c.in-Here.is

pub returns-in-Apart-clause-pairs : goal.returns-in-Apart-clause-pairs
returns-in-Apart-clause-pairs g c =
    let n = c.in-Branch.ensures.0 c.loop-prefix.invariant.lawful.0 in
    let s = stands g (goal.at.returns-in-Apart-clause-pairs g c).After-position_of in
    c.loop-prefix.invariant.same ∙ within-apart _ _ _ _ _ n c.args.p _ s c.in-Apart.is

pub loop-prefix-preserved-in-Left : goal.loop-prefix-preserved-in-Left
loop-prefix-preserved-in-Left g c =
    let n = c.in-Branch.ensures.0 c.loop-prefix.invariant.lawful.0 in
    let s = stands g (goal.at.loop-prefix-preserved-in-Left g c).After-position_of in
    record { lawful = n.left_lawful; same = c.loop-prefix.invariant.same ∙ within-left _ _ _ _ _ n c.args.p _ s c.in-Left.is }

pub loop-prefix-preserved : goal.loop-prefix-preserved
loop-prefix-preserved g c =
    let n = c.in-Branch.ensures.0 c.loop-prefix.invariant.lawful.0 in
    let s = stands g (goal.at.loop-prefix-preserved g c).After-position_of in
    record { lawful = n.right_lawful; same = c.loop-prefix.invariant.same ∙ within-right _ _ _ _ _ n c.args.p _ s c.in-Right.is }

pub returns-then-contains-clause-pairs : goal.returns-then-contains-clause-pairs
returns-then-contains-clause-pairs g c =
    c.loop-prefix.invariant.same ∙ single_within (pairs c.loop-prefix.link.now) c.in-Single.prefix c.in-Single.field-1.now c.args.p c.in-Single.ensures (sym c.if-contains.ensures)

pub returns-else-contains-clause-pairs : goal.returns-else-contains-clause-pairs
returns-else-contains-clause-pairs g c =
    c.loop-prefix.invariant.same ∙ single_off (pairs c.loop-prefix.link.now) c.in-Single.prefix c.in-Single.field-1.now c.args.p c.in-Single.ensures (sym c.if-contains.ensures)
