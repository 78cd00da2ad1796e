use Rattle.std.proofs.Common.{sym, subst, ◌∙◌}
use Rattle.rt_trie.specs.inside.Links.{IsNode}
use Rattle.rt_trie.proofs.LinkOrder.{of_empty, of_leaf, of_fork, of_full, fork_filled, full_filled}
use Rattle.rt_trie.proofs.nodes.Link.view.Goals as goal

pub returns-in-Empty : goal.returns-in-Empty
returns-in-Empty g c = of_empty c.args.self.now c.in-Empty.is

pub returns-in-Leaf : goal.returns-in-Leaf
returns-in-Leaf g c = of_leaf c.in-Leaf.leaf c.as_ref-leaf.result.now c.args.self.now c.in-Leaf.is c.as_ref-leaf.ensures

pub returns-in-Fork : goal.returns-in-Fork
returns-in-Fork g c =
    let link = c.args.self.now in
    let m = c.as_ref-fork.result.now in (
      λ h. of_fork c.in-Fork.fork m link c.in-Fork.is c.as_ref-fork.ensures h,
      λ h e. fork_filled c.in-Fork.fork m link c.in-Fork.is c.as_ref-fork.ensures h,
    )

pub returns-in-Full : goal.returns-in-Full
returns-in-Full g c =
    let link = c.args.self.now in
    let m = c.as_ref-full.result.now in
    let value = c.as_ref.ensures.value in (
      λ h. subst (λ v. IsNode link m.prefix v m.left m.right) (sym value) (of_full c.in-Full.full m link c.in-Full.is c.as_ref-full.ensures h),
      λ h e. full_filled c.in-Full.full m link c.in-Full.is c.as_ref-full.ensures h (sym value ∙ e),
    )
