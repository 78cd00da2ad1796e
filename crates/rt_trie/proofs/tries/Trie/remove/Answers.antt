use Rattle.std.proofs.Common.{length, sym, ap, ◌∙◌, arith}
use Rattle.rt_trie.specs.TrieContents.{TrieContents}
use Rattle.rt_trie.specs.Map.{get, erase}
use Rattle.rt_trie.specs.inside.Links.{pairs}
use Rattle.rt_trie.proofs.Removals.{erase-absent}
use Rattle.rt_trie.proofs.LinkOrder.{none_of}
use Rattle.rt_trie.proofs.Counts.{length-erase_known}
use Rattle.rt_trie.proofs.tries.Trie.remove.Goals as goal

pub invariant_of-self : goal.invariant_of-self
invariant_of-self g c =
    let i = c.remove-gone.ensures in
    let m = pairs c.self.inside.root in
    record {
      lawful = i.erased.lawful;
      len = omega (
        arith,
        c.self.invariant.len,
        ap length i.erased.pairs_are,
        length-erase_known m c.args.p c.remove-gone.result (sym i.value) c.if-is_some.ensures,
      );
      nodes = omega (arith, c.self.invariant.nodes, i.counted);
    }

pub invariant_of-self-else-is_some : goal.invariant_of-self-else-is_some
invariant_of-self-else-is_some g c =
    let i = c.remove-gone.ensures in
    let m = pairs c.self.inside.root in
    let e = sym i.value ∙ none_of c.remove-gone.result c.if-is_some.ensures in
    record {
      lawful = i.erased.lawful;
      len = omega (arith, c.self.invariant.len, ap length i.erased.pairs_are, ap length (erase-absent m c.args.p e));
      nodes = omega (arith, c.self.invariant.nodes, i.counted);
    }

pub returns-then-is_some-clause-erased : goal.returns-then-is_some-clause-erased
returns-then-is_some-clause-erased g c =
    c.remove-gone.ensures.erased.pairs_are ∙ ap (λ (x : TrieContents _). erase x.pairs c.args.p) c.self.view_is

pub returns-then-is_some-clause-had : goal.returns-then-is_some-clause-had
returns-then-is_some-clause-had g c = c.remove-gone.ensures.value ∙ ap (λ (x : TrieContents _). get x.pairs c.args.p) c.self.view_is

pub returns-else-is_some-clause-erased : goal.returns-else-is_some-clause-erased
returns-else-is_some-clause-erased g c =
    c.remove-gone.ensures.erased.pairs_are ∙ ap (λ (x : TrieContents _). erase x.pairs c.args.p) c.self.view_is

pub returns-else-is_some-clause-had : goal.returns-else-is_some-clause-had
returns-else-is_some-clause-had g c = c.remove-gone.ensures.value ∙ ap (λ (x : TrieContents _). get x.pairs c.args.p) c.self.view_is
