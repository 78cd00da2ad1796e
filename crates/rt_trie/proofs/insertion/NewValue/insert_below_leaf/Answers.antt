use Rattle.std.proofs.Common.{Some, refl, sym, subst, ap, ◌∙◌, ◌<◌, ◌≤◌, arith}
use Rattle.std.specs.Box.{with_value}
use Rattle.rt_trie.specs.declared.nodes.LeafNode.{LeafNode}
use Rattle.rt_trie.specs.declared.nodes.Link.{Link, Empty}
use Rattle.rt_trie.specs.Halves.{middle}
use Rattle.rt_trie.specs.inside.Links.{IsLeafOf}
use Rattle.rt_trie.proofs.Insertions.{below_insert}
use Rattle.rt_trie.proofs.insertion.NewValue.insert_below_leaf.Goals as goal

pub returns : goal.returns
returns g c =
    let p = c.args.p in
    let q = c.args.q in
    let is = sym c.in-Leaf.ensures.value in
    let new = c.replace-above.ensures.after in
    let had = c.replace-above.ensures.value ∙ c.deref_mut.ensures.value in
    let above = c.replace-above.result.value in
    let s = c.on_side-left.result in
    rw c.fill.ensures (below_insert c.in-Leaf.leaf c.args.link.now c.args.self.now.nodes _ q p c.args.self.now.value c.take.new.self c.in-Some-take.value above
    is (subst (IsLeafOf q) is c.requires.leaf) (ap (λ (x : LeafNode _). x.value) had) c.requires.below c.in-Some-take.ensures.value c.take.ensures.after refl
    (with_value c.in-Leaf.leaf c.replace-above.new.dest) (ap (λ (x : LeafNode _). x.prefix) new) (ap (λ (x : LeafNode _). x.value) new) s
    (λ (h : p.base < middle q). c.on_side-left.ensures.left (omega (arith, c.base.ensures, h)) ∙ ap (λ (x : Link _ _). (x, Empty)) c.of_leaf.ensures)
    (λ (h : middle q ≤ p.base). c.on_side-left.ensures.right (omega (arith, c.base.ensures, h)) ∙ ap (λ (x : Link _ _). (Empty, x)) c.of_leaf.ensures)
    (with_value c.in-Some.full (record { prefix = q; value = Some above; left = s.0; right = s.1 })) refl refl refl refl)
