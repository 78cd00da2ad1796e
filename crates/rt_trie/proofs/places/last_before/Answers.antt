use Rattle.std.proofs.Common.{inl, inr, refl, ap}
use Rattle.rt_trie.specs.inside.Lawful.{root}
use Rattle.rt_trie.proofs.LinkOrder.{key_of_leaf, key_of_fork, key_of_full}
use Rattle.rt_trie.proofs.AnswerEnds.{before_key, none_before}
use Rattle.rt_trie.proofs.places.last_before.Goals as goal

pub returns-in-Leaf-clause-none : goal.returns-in-Leaf-clause-none
returns-in-Leaf-clause-none g c = λ b h.
    let link = c.args.link.now in
    let lawful = c.requires.lawful in
    let after = c.requires.after in
    none_before link b lawful (elim c.in-Leaf.is [
      | inl w ↦ before_key link _ _ b.0 _ (ap root w.2) (key_of_leaf w.1 w.1.value link w.2 refl lawful).base_is after h
      | inr r ↦ elim r [
        | inl w ↦ before_key link _ _ b.0 _ (ap root w.2) (key_of_fork w.1 w.1.value link w.2 refl lawful).base_is after h
        | inr w ↦ before_key link _ _ b.0 _ (ap root w.2) (key_of_full w.1 w.1.value link w.2 refl lawful).base_is after h
      ]
    ])
