use Rattle.std.proofs.Common.{refl, sym, subst, ap, inl, inr}
use Rattle.rt_trie.specs.declared.nodes.LeafNode.{LeafNode}
use Rattle.rt_trie.specs.declared.nodes.Position.TheVariants.{Above, Apart}
use Rattle.rt_trie.specs.inside.Blocks.{StandsAt}
use Rattle.rt_trie.specs.inside.Changes.{Inserts}
use Rattle.rt_trie.proofs.Insertions.{insert_leaf}
use Rattle.rt_trie.proofs.LinkOrder.{key_of_leaf, seen_from, short_leaf}
use Rattle.rt_trie.proofs.insertion.NewValue.insert_at_leaf.Goals as goal

pub returns-in-Here : goal.returns-in-Here
returns-in-Here g c =
    let d = c.deref_mut in
    let m = d.result.now in
    let position = c.in-Here.ensures m.prefix (key_of_leaf c.in-Leaf.leaf m c.args.link.now c.in-Leaf.is d.ensures.value c.requires.lawful.0) in
    insert_leaf c.in-Leaf.leaf m c.args.link.now c.args.self.now.nodes c.args.p c.args.self.now.value c.exchange.new.value c.exchange.new.stored
    c.in-Leaf.is d.ensures.value c.requires.lawful position c.exchange.ensures.stored c.exchange.ensures.had

pub insert_below_leaf-requires-clause-below : goal.insert_below_leaf-requires-clause-below
insert_below_leaf-requires-clause-below g c =
    let m = c.deref.result.now in
    let p = c.args.p in
    let position = c.position_of.ensures m.prefix (key_of_leaf c.in-Leaf.leaf m c.args.link.now c.in-Leaf.is c.deref.ensures c.requires.lawful.0) in
    elim c.in-Left.is [ inl e ↦ inl (subst (StandsAt m.prefix p) e position) | inr e ↦ inr (subst (StandsAt m.prefix p) e position) ]

pub insert_above-requires-clause-seen : goal.insert_above-requires-clause-seen
insert_above-requires-clause-seen g c =
    seen_from _ _ c.args.p Above refl (key_of_leaf c.in-Leaf.leaf c.in-Leaf.leaf.value c.args.link.now c.in-Leaf.is refl c.requires.lawful.0)
    c.in-Above.ensures

pub insert_beside-requires-clause-seen : goal.insert_beside-requires-clause-seen
insert_beside-requires-clause-seen g c =
    seen_from _ _ c.args.p Apart refl (key_of_leaf c.in-Leaf.leaf c.in-Leaf.leaf.value c.args.link.now c.in-Leaf.is refl c.requires.lawful.0)
    c.in-Apart.ensures

pub insert_below_leaf-requires-clause-leaf : goal.insert_below_leaf-requires-clause-leaf
insert_below_leaf-requires-clause-leaf g c = sym (ap (λ (x : LeafNode _). x.prefix) c.deref.ensures)

pub position_of-requires : goal.position_of-requires
position_of-requires g c = short_leaf c.in-Leaf.leaf c.args.link.now c.in-Leaf.is c.requires.lawful.0

pub returns-in-Left : goal.returns-in-Left
returns-in-Left g c =
    let k = c.insert_below_leaf in
    subst (λ l. Inserts l k.new.link c.args.p c.args.self.now k.new.self k.result) (sym c.in-Leaf.is) k.ensures

pub returns-in-Above : goal.returns-in-Above
returns-in-Above g c =
    let k = c.insert_above in
    subst (λ l. Inserts l k.new.link c.args.p c.args.self.now k.new.self k.result) (sym c.in-Leaf.is) k.ensures

pub returns-in-Apart : goal.returns-in-Apart
returns-in-Apart g c =
    let k = c.insert_beside in
    subst (λ l. Inserts l k.new.link c.args.p c.args.self.now k.new.self k.result) (sym c.in-Leaf.is) k.ensures
