use Rattle.std.proofs.Common.{refl, sym, ap, ◌∙◌}
use Rattle.rt_trie.specs.TrieContents.{TrieContents}
use Rattle.rt_trie.specs.Map.{get}
use Rattle.rt_trie.proofs.Descents.{found_is, written_kept, lent}
use Rattle.rt_trie.proofs.tries.Trie.get_mut.Goals as goal

pub invariant_of-self-lent : goal.invariant_of-self-lent
invariant_of-self-lent g c = λ r. (
  λ w.
      let i = c.self.invariant in
      let k = written_kept 33 c.self.inside.root c.args.p w i.lawful in
      record { lawful = k.lawful; len = i.len ∙ sym k.len_is; nodes = i.nodes ∙ sym k.count_is },
  c.self.invariant,
)

pub returns : goal.returns
returns g c =
    let link = c.self.inside.root in
    let h = c.self.invariant.lawful in (
      lent _ link c.args.p c.find.result _ refl h c.self.view_is c.find.follows,
      record {
        writes_back = tt;
        value = c.find.follows ∙ found_is _ link c.args.p refl h ∙ ap (λ (t : TrieContents _). get t.pairs c.args.p) c.self.view_is;
      },
    )
