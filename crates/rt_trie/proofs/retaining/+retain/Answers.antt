use Rattle.std.proofs.Common.{◌≡◌, ℕ, ◌+◌, ◌++◌, None, length, refl, sym, ap, ◌∙◌, arith, length-append}
use Rattle.rt_trie.specs.inside.Links.{pairs, count, own_pair}
use Rattle.rt_trie.proofs.Filters.{IsHalfRetained, retained_none, retained_done, link_same, half_fork, half_full, retained_of, node_length}
use Rattle.rt_trie.proofs.LinkOrder.{of_fork, of_full, view_fork}
use Rattle.rt_trie.proofs.retaining.+retain.Given.{Over}
use Rattle.rt_trie.proofs.retaining.+retain.Goals as goal
use Rattle.rt_trie.proofs.retaining.+retain.Goals.{Joined-link, in-Fork, in-Full}

pub returns-then-is_done-clause-retained : goal.returns-then-is_done-clause-retained
returns-then-is_done-clause-retained g t c =
    let done = g.S.RetainFilter.done in
    let judges = g.S.RetainFilter.judges in
    link_same done judges c.args.filter.now c.args.link.now c.requires.lawful
    (retained_done done judges c.args.filter.now (pairs c.args.link.now) (sym c.is_done.ensures ∙ c.if-is_done.true))

pub returns-in-Empty-clause-retained : goal.returns-in-Empty-clause-retained
returns-in-Empty-clause-retained g t c =
    let done = g.S.RetainFilter.done in
    let judges = g.S.RetainFilter.judges in
    link_same done judges c.args.filter.now c.args.link.now c.requires.lawful (rw c.in-Empty.is (retained_none done judges c.args.filter.now))

-- the link before a node that isn't needed is removed
halfway : (g : Over) (t : ℕ) (c : Joined-link g t)
    → IsHalfRetained g.S.RetainFilter.done g.S.RetainFilter.judges c.args.filter.now c.match-link.filter c.args.link.now c.match-link.link
halfway g t c =
    let done = g.S.RetainFilter.done in
    let judges = g.S.RetainFilter.judges in
    let old = c.args.link.now in
    let s = c.args.filter.now in
    elim c.match-link.branch [
      | in-Fork w ↦
          let m = w.as_mut-fork.result.now in
          rw (w.link-is, w.filter-is) (half_fork done judges s w.retain.new.filter w.retain-in-Fork.new.filter old m.prefix m.left m.right
          w.retain.new.link w.retain-in-Fork.new.link _
          (view_fork w.in-Fork.fork m old w.in-Fork.is w.as_mut-fork.ensures.value c.requires.lawful.0) w.retain.ensures.retained w.retain-in-Fork.ensures.retained)
      | in-Full w ↦
          let m = w.as_mut-full.result.now in
          rw (w.link-is, w.filter-is) (half_full done judges s w.retain_own.new.filter w.retain-in-Full.new.filter
          w.retain-in-Full-2.new.filter w.in-Full.full m old
          w.retain_own.new.value w.retain-in-Full.new.link w.retain-in-Full-2.new.link w.in-Full.is w.as_mut-full.ensures.value c.requires.lawful
          w.retain_own.ensures.retained w.retain-in-Full.ensures.retained w.retain-in-Full-2.ensures.retained)
    ]

pub splice-requires-clause-lawful : goal.splice-requires-clause-lawful
splice-requires-clause-lawful g t c = (halfway g t (goal.at.splice-requires-clause-lawful g t c).Joined-link).below

pub returns-clause-retained : goal.returns-clause-retained
returns-clause-retained g t c =
    retained_of g.S.RetainFilter.done g.S.RetainFilter.judges c.args.filter.now c.match-link.filter c.args.link.now c.match-link.link c.splice.new.link
    (halfway g t (goal.at.returns-clause-retained g t c).Joined-link) c.splice.ensures.spliced

pub returns-clause-len : goal.returns-clause-len
returns-clause-len g t c =
    let old = c.args.link.now in
    let whole : c.match-link.len + length (pairs old) ≡ c.args.len.now + length (pairs c.match-link.link) = elim c.match-link.branch [
      | in-Fork w ↦
          let m = w.as_mut-fork.result.now in
          let node = of_fork w.in-Fork.fork m old w.in-Fork.is w.as_mut-fork.ensures.value c.requires.lawful.0 in
          rw (w.link-is, w.len-is) (omega (
            arith,
            node_length old m.prefix None m.left m.right node,
            w.retain.ensures.len,
            w.retain-in-Fork.ensures.len,
            length-append (pairs w.retain.new.link) (pairs w.retain-in-Fork.new.link),
          ))
      | in-Full w ↦
          let m = w.as_mut-full.result.now in
          let node = of_full w.in-Full.full m old w.in-Full.is w.as_mut-full.ensures.value c.requires.lawful.0 in
          let l = pairs w.retain-in-Full.new.link in
          let r = pairs w.retain-in-Full-2.new.link in
          rw (w.link-is, w.len-is) (omega (
            arith,
            node_length old m.prefix m.value m.left m.right node,
            w.retain_own.ensures.len,
            w.retain-in-Full.ensures.len,
            w.retain-in-Full-2.ensures.len,
            length-append (own_pair m.prefix w.retain_own.new.value) (l ++ r),
            length-append l r,
          ))
    ] in
    omega (arith, whole, ap length c.splice.ensures.spliced.pairs_are)

pub retain_leaf-requires-clause-leaf : goal.retain_leaf-requires-clause-leaf
retain_leaf-requires-clause-leaf g t c = rw c.in-Leaf.is (c.in-Leaf.field-2.value.prefix, refl)

-- the number of nodes at that point
nodes_halfway : (g : Over) (t : ℕ) (c : Joined-link g t)
    → c.match-link.nodes + count c.args.link.now ≡ c.args.nodes.now + count c.match-link.link
nodes_halfway g t c =
    let old = c.args.link.now in
    elim c.match-link.branch [
      | in-Fork w ↦
          let node = of_fork w.in-Fork.fork w.as_mut-fork.result.now old w.in-Fork.is w.as_mut-fork.ensures.value c.requires.lawful.0 in
          rw (w.link-is, w.nodes-is) (omega (arith, node.count_is, w.retain.ensures.nodes, w.retain-in-Fork.ensures.nodes))
      | in-Full w ↦
          let node = of_full w.in-Full.full w.as_mut-full.result.now old w.in-Full.is w.as_mut-full.ensures.value c.requires.lawful.0 in
          rw (w.link-is, w.nodes-is) (omega (arith, node.count_is, w.retain-in-Full.ensures.nodes, w.retain-in-Full-2.ensures.nodes))
    ]

pub splice-requires-clause-counted : goal.splice-requires-clause-counted
splice-requires-clause-counted g t c =
    omega (arith, nodes_halfway g t (goal.at.splice-requires-clause-counted g t c).Joined-link, c.requires.nodes)

pub returns-clause-nodes : goal.returns-clause-nodes
returns-clause-nodes g t c =
    omega (arith, nodes_halfway g t (goal.at.returns-clause-nodes g t c).Joined-link, c.splice.ensures.counted)
