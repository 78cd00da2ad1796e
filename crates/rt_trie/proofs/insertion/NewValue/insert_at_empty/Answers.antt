use Rattle.rt_trie.proofs.Insertions.{empty_insert}
use Rattle.std.proofs.Common.{refl}
use Rattle.rt_trie.proofs.insertion.NewValue.insert_at_empty.Goals as goal

pub returns : goal.returns
returns g c =
    let made = c.in-Some.ensures.made in
    rw c.of_leaf.ensures (empty_insert c.args.link.now c.args.self.now.nodes _ c.args.p c.args.self.now.value c.leaf_of.new.value c.in-Some.leaf
    c.requires.empty made.0 made.1 made.2 refl)
