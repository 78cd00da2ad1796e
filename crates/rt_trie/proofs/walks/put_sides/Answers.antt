use Rattle.std.proofs.Common.{◌+◌, set, ◌∙◌, arith, length-set}
use Rattle.rt_trie.proofs.WalkStacks.{link_at-set_same, link_at-set_other}
use Rattle.rt_trie.proofs.walks.put_sides.Goals as goal

pub returns-clause-right : goal.returns-clause-right
returns-clause-right g c =
    let xs = c.args.stack.now in
    let k = c.args.k in
    link_at-set_other (set xs k c.args.right) k (k + 1) c.args.left (λ e. omega arith) ∙ link_at-set_same xs k c.args.right (omega arith)

pub returns-clause-left : goal.returns-clause-left
returns-clause-left g c =
    let xs = c.args.stack.now in
    let k = c.args.k in
    link_at-set_same (set xs k c.args.right) (k + 1) c.args.left (omega (arith, length-set xs k c.args.right))

pub returns-clause-below : goal.returns-clause-below
returns-clause-below g c = λ j h.
    let xs = c.args.stack.now in
    let k = c.args.k in
    link_at-set_other (set xs k c.args.right) j (k + 1) c.args.left (λ e. omega arith) ∙ link_at-set_other xs j k c.args.right (λ e. omega arith)
