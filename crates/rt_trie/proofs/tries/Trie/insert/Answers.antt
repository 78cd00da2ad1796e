use Rattle.std.proofs.Common.{Some, length, refl, sym, subst, ap, ◌∙◌, arith}
use Rattle.rt_trie.specs.TrieContents.{TrieContents}
use Rattle.rt_trie.specs.Map.{get}
use Rattle.rt_trie.specs.declared.insertion.NewValue.{NewValue}
use Rattle.rt_trie.specs.inside.Changes.{IsPut, IsInserted, Inserts}
use Rattle.rt_trie.specs.inside.Links.{pairs}
use Rattle.rt_trie.proofs.LinkOrder.{pairs_ordered}
use Rattle.rt_trie.proofs.Counts.{count_small, pairs_few, length-put_absent, length-put_known, none_is}
use Rattle.rt_trie.proofs.tries.Trie.insert.Given.{Over}
use Rattle.rt_trie.proofs.tries.Trie.insert.Goals.{Then-insert}
use Rattle.rt_trie.proofs.tries.Trie.insert.Goals as goal

pub insert-requires-clause-given : goal.insert-requires-clause-given
insert-requires-clause-given g c = record {
  room = omega (arith, c.self.invariant.nodes, count_small c.self.inside.root c.self.invariant.lawful);
  value = refl;
}

-- the insertion was done, from which the rest follows
done : (g : Over) (c : Then-insert g)
    → IsInserted c.self.inside.root c.insert.new.link c.self.inside.nodes c.insert.new.given.nodes c.args.p (Some c.args.v) c.insert.new.given.value
done g c =
    let given : NewValue _ _ = record { value = Some c.args.v; alloc = c.self.inside.alloc; nodes = c.self.inside.nodes } in
    subst (Inserts c.self.inside.root c.insert.new.link c.args.p given c.insert.new.given) c.if-insert.true c.insert.ensures

pub overflow_add-self : goal.overflow_add-self
overflow_add-self g c =
    omega (arith, c.self.invariant.len, pairs_few c.self.inside.root, count_small c.self.inside.root c.self.invariant.lawful)

pub invariant_of-self : goal.invariant_of-self
invariant_of-self g c =
    let old = c.self.inside.root in
    let new = c.insert.new.link in
    let slot = c.insert.new.given.value in
    let i = done g (goal.at.invariant_of-self g c).Then-insert in
    let put : IsPut old new c.args.p c.args.v = i.put in
    let e = sym i.had_is ∙ none_is slot c.if-is_none.ensures in
    record {
      lawful = put.lawful;
      len = omega (arith, c.self.invariant.len, ap length put.pairs_are, length-put_absent (pairs old) c.args.p c.args.v e);
      nodes = omega (arith, c.self.invariant.nodes, i.counted);
    }

pub invariant_of-self-else-is_none : goal.invariant_of-self-else-is_none
invariant_of-self-else-is_none g c =
    let old = c.self.inside.root in
    let new = c.insert.new.link in
    let slot = c.insert.new.given.value in
    let i = done g (goal.at.invariant_of-self-else-is_none g c).Then-insert in
    let put : IsPut old new c.args.p c.args.v = i.put in
    record {
      lawful = put.lawful;
      len = omega (
        arith,
        c.self.invariant.len,
        ap length put.pairs_are,
        length-put_known (pairs old) c.args.p c.args.v slot (pairs_ordered old c.self.invariant.lawful.0) (sym i.had_is) c.if-is_none.ensures,
      );
      nodes = omega (arith, c.self.invariant.nodes, i.counted);
    }

pub returns-then-insert-clause-had : goal.returns-then-insert-clause-had
returns-then-insert-clause-had g c =
    let i = done g (goal.at.returns-then-insert-clause-had g c).Then-insert in
    i.had_is ∙ ap (λ (x : TrieContents _). get x.pairs c.args.p) c.self.view_is
