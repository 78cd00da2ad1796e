use Rattle.std.proofs.Common.{inl, inr, refl, ap, ◌∙◌, arith}
use Rattle.std.specs.Box.{with_value}
use Rattle.rt_trie.specs.declared.nodes.Link.{Link}
use Rattle.rt_trie.proofs.Insertions.{beside_insert, get_apart, refused}
use Rattle.rt_trie.proofs.insertion.NewValue.insert_beside.Goals as goal
use Rattle.rt_trie.proofs.insertion.NewValue.insert_beside.Goals.{then-base, else-base}

pub returns : goal.returns
returns g c =
    let r = c.requires in
    let leaf = c.in-Some-leaf_of in
    let fork = with_value c.in-Some.fork (record { prefix = c.common_prefix-prefix.result; left = c.if-base.left.0; right = c.if-base.left.1 }) in
    rw c.of_fork.ensures (beside_insert c.args.link.now c.args.self.now.nodes _ r.seen.node c.args.p
    c.common_prefix-prefix.result c.args.self.now.value c.leaf_of.new.value leaf.new
    r.lawful r.seen.root_is r.seen.stands leaf.ensures.made.0 leaf.ensures.made.1 leaf.ensures.made.2 refl fork refl
    (elim c.if-base.branch [
      | then-base w ↦ inl (
        (c.common_prefix-prefix.ensures r.seen.node r.seen.base_is r.seen.stands).0 (omega (arith, r.seen.base_is)),
        ap (λ (x : Link _ _ × Link _ _). x.0) w.left-is ∙ c.of_leaf-new.ensures,
        ap (λ (x : Link _ _ × Link _ _). x.1) w.left-is ∙ c.replace-other.ensures.value,
      )
      | else-base w ↦ inr (
        (c.common_prefix-prefix.ensures r.seen.node r.seen.base_is r.seen.stands).1 (omega (arith, r.seen.base_is)),
        ap (λ (x : Link _ _ × Link _ _). x.0) w.left-is ∙ c.replace-other.ensures.value,
        ap (λ (x : Link _ _ × Link _ _). x.1) w.left-is ∙ c.of_leaf-new.ensures,
      )
    ]))

pub returns-in_default : goal.returns-in_default
returns-in_default g c =
    refused c.args.link.now c.args.self.now.nodes c.args.p c.args.self.now.value
    (get_apart c.args.link.now c.requires.seen.node c.args.p c.requires.lawful c.requires.seen.root_is c.requires.seen.stands)

pub returns-in_default-leaf_of : goal.returns-in_default-leaf_of
returns-in_default-leaf_of g c = record {
  absent = get_apart c.args.link.now c.requires.seen.node c.args.p c.requires.lawful c.requires.seen.root_is c.requires.seen.stands;
  back_is = c.in_default-leaf_of.ensures.refused;
  same = refl;
  counted = refl;
}
