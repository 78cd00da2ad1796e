use Rattle.std.proofs.Common.{Some, refl, sym, subst, ap, ◌∙◌, inl, inr}
use Rattle.rt_trie.specs.declared.nodes.LeafNode.{LeafNode}
use Rattle.rt_trie.specs.inside.Links.{IsNoLonger}
use Rattle.rt_trie.specs.Map.{pair_copied}
use Rattle.rt_trie.proofs.NodePairs.{best_stored, best_unstored, step_single}
use Rattle.rt_trie.proofs.LinkOrder.{none_unless, of_leaf, of_fork, of_full, short_fork, short_full, short_leaf, key_of_leaf, key_of_fork}
use Rattle.rt_trie.proofs.LinkOrder.{key_of_full, side_below, step_side, step_ends}
use Rattle.rt_trie.proofs.Blocks.{not_covered}
use Rattle.rt_trie.proofs.search.step.Goals as goal
use Rattle.rt_trie.proofs.search.step.Goals.{in-Some, in_default, then-offset-lt-END, else-offset-lt-END}

pub returns-after-offset-lt-END-clause-sought : goal.returns-after-offset-lt-END-clause-sought
returns-after-offset-lt-END-clause-sought g c = λ most short.
    let b = c.in-Leaf.leaf in
    let q = b.value.prefix in
    let k = key_of_leaf b b.value c.args.link.now c.in-Leaf.is refl c.requires in
    step_single _ q b.value.value most c.args.address _ _ (of_leaf b b.value c.args.link.now c.in-Leaf.is refl) (subst (IsNoLonger most) c.in-Leaf.is short)
    (elim c.if-offset-lt-END.branch [
      | then-offset-lt-END w ↦ inl (
        (c.offset.ensures.covered q k).1 w.if-offset-lt-END.true,
        ap pair_copied w.best-is ∙ ap (λ (n : LeafNode _). Some (n.prefix, n.value)) w.as_ref-leaf.ensures,
      )
      | else-offset-lt-END w ↦ inr (not_covered q c.args.address _ (c.offset.ensures.covered q k) w.if-offset-lt-END.false, ap pair_copied w.best-is)
    ])

pub returns-then-offset-ge-END-clause-sought : goal.returns-then-offset-ge-END-clause-sought
returns-then-offset-ge-END-clause-sought g c =
    let q = c.in-Fork.fork.value.prefix in
    let n = of_fork c.in-Fork.fork c.in-Fork.fork.value c.args.link.now c.in-Fork.is refl c.requires in
    let k = key_of_fork c.in-Fork.fork c.in-Fork.fork.value c.args.link.now c.in-Fork.is refl c.requires in
    λ most short. step_ends _ _ _ _ _ n most short c.args.address _
    (not_covered q c.args.address _ (c.offset-offset.ensures.covered q k) c.if-offset-ge-END.true)

pub returns-then-offset-ge-END-2-clause-sought : goal.returns-then-offset-ge-END-2-clause-sought
returns-then-offset-ge-END-2-clause-sought g c =
    let q = c.in-Full.full.value.prefix in
    let n = of_full c.in-Full.full c.in-Full.full.value c.args.link.now c.in-Full.is refl c.requires in
    let k = key_of_full c.in-Full.full c.in-Full.full.value c.args.link.now c.in-Full.is refl c.requires in
    λ most short. step_ends _ _ _ _ _ n most short c.args.address _
    (not_covered q c.args.address _ (c.offset-offset-in-Full.ensures.covered q k) c.if-offset-ge-END-2.true)

pub returns-else-offset-ge-END : goal.returns-else-offset-ge-END
returns-else-offset-ge-END g c =
    let m = c.as_ref-fork.result.now in
    let n = of_fork c.in-Fork.fork m c.args.link.now c.in-Fork.is c.as_ref-fork.ensures c.requires in
    let k = key_of_fork c.in-Fork.fork m c.args.link.now c.in-Fork.is c.as_ref-fork.ensures c.requires in
    let o = c.offset-offset in
    let covered = (o.ensures.covered m.prefix k).1 c.if-offset-ge-END.false in
    let below = side_below _ _ _ _ _ _ n o.result c.side.ensures in
    record {
      lawful = below.0;
      down = below.1;
      sought = λ most short. step_side _ _ _ _ _ _ n most short c.args.address _ _ o.result (o.ensures.half m.prefix k covered)
          (λ e. o.ensures.none (k.len_is ∙ e) c.if-offset-ge-END.false) c.side.ensures refl;
    }

pub returns-after-full : goal.returns-after-full
returns-after-full g c =
    let m = c.as_ref-full.result.now in
    let n = of_full c.in-Full.full m c.args.link.now c.in-Full.is c.as_ref-full.ensures c.requires in
    let k = key_of_full c.in-Full.full m c.args.link.now c.in-Full.is c.as_ref-full.ensures c.requires in
    let o = c.offset-offset-in-Full in
    let covered = (o.ensures.covered m.prefix k).1 c.if-offset-ge-END-2.false in
    let below = side_below _ _ _ _ _ _ n o.result c.side-in-Full.ensures in
    record {
      lawful = below.0;
      down = below.1;
      sought = λ most short. step_side _ _ _ _ _ _ n most short c.args.address _ _ o.result (o.ensures.half m.prefix k covered)
          (λ e. o.ensures.none (k.len_is ∙ e) c.if-offset-ge-END-2.false) c.side-in-Full.ensures
          (elim c.match-full.branch [
            | in-Some w ↦ best_stored _ _ _ c.args.address _ w.in-Some.is covered ∙ sym (ap pair_copied w.best-is)
            | in_default w ↦ best_unstored _ _ c.args.address _ (none_unless m.value w.in_default.not-Some) ∙ sym (ap pair_copied w.best-is)
          ]);
    }

pub offset-requires : goal.offset-requires
offset-requires g c = short_leaf c.in-Leaf.leaf c.args.link.now c.in-Leaf.is c.requires

pub offset-offset-requires : goal.offset-offset-requires
offset-offset-requires g c = short_fork c.in-Fork.fork c.args.link.now c.in-Fork.is c.requires

pub offset-offset-requires-in-Full : goal.offset-offset-requires-in-Full
offset-offset-requires-in-Full g c = short_full c.in-Full.full c.args.link.now c.in-Full.is c.requires
