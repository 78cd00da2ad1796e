use Rattle.std.proofs.Common.{◌≡◌, refl, sym, ◌∙◌}
use Rattle.rt_trie.specs.inside.Blocks.{StandsAt}
use Rattle.rt_trie.proofs.FromPrefixes.{from_whole, from_nothing, from_lower, from_upper, left_side, right_side}
use Rattle.rt_trie.proofs.PrefixOrder.{lt_before}
use Rattle.rt_trie.proofs.walks.step_to.Given.{Over}
use Rattle.rt_trie.proofs.walks.step_to.Goals.{After-position_of}
use Rattle.rt_trie.proofs.walks.step_to.Goals as goal

-- the position of the prefix relative to the node
stands : (g : Over) (c : After-position_of g) → StandsAt c.in-Branch.prefix c.args.p c.position_of.result
stands g c = c.position_of.ensures c.in-Branch.prefix (record { len_is = c.len.ensures; base_is = c.base.ensures })

pub returns-in-Left : goal.returns-in-Left
returns-in-Left g c =
    let n = c.in-Branch.ensures.0 c.requires.0 in
    let s = stands g (goal.at.returns-in-Left g c).After-position_of in
    (from_lower _ _ _ _ _ n c.args.p _ s c.in-Left.is, left_side _ _ _ _ _ n c.args.p, right_side _ _ _ _ _ n c.args.p)

pub returns-in-Right : goal.returns-in-Right
returns-in-Right g c =
    let n = c.in-Branch.ensures.0 c.requires.0 in
    let s = stands g (goal.at.returns-in-Right g c).After-position_of in
    (from_upper _ _ _ _ _ n c.args.p _ s c.in-Right.is, right_side _ _ _ _ _ n c.args.p)

pub returns-then-lt-2 : goal.returns-then-lt-2
returns-then-lt-2 g c =
    let n = c.in-Branch.ensures.0 c.requires.0 in
    let s = stands g (goal.at.returns-then-lt-2 g c).After-position_of in
    from_nothing _ _ _ _ _ n c.args.p _ s c.in-Here.is (sym (lt_before c.in-Branch.prefix c.args.p) ∙ sym c.if-lt-2.ensures)

pub returns-else-lt-2 : goal.returns-else-lt-2
returns-else-lt-2 g c =
    let n = c.in-Branch.ensures.0 c.requires.0 in
    (from_whole _ _ _ _ _ n c.args.p (sym (lt_before c.in-Branch.prefix c.args.p) ∙ sym c.if-lt-2.ensures), rw n.root_is refl)
