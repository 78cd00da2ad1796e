use Rattle.std.proofs.Common.{rules}
use Rattle.rt_trie.proofs.Filters.{leaf_goes, leaf_stays}
use Rattle.rt_trie.proofs.retaining.retain_leaf.Goals as goal

pub returns-then-not-keeps-clause-retained : goal.returns-then-not-keeps-clause-retained
returns-then-not-keeps-clause-retained g c =
    leaf_goes g.S.RetainFilter.done g.S.RetainFilter.judges c.args.filter.now c.keeps.new.self c.in-Leaf.leaf c.args.link.now c.keeps.new.value c.in-Leaf.is
    c.requires.wanted
    (rw (c.deref.ensures, c.deref_mut.ensures.value, c.if-not-keeps.true) at c.keeps.ensures)

pub returns-else-not-keeps-clause-retained : goal.returns-else-not-keeps-clause-retained
returns-else-not-keeps-clause-retained g c =
    leaf_stays g.S.RetainFilter.done g.S.RetainFilter.judges c.args.filter.now c.keeps.new.self c.in-Leaf.leaf c.deref_mut.result.now
    c.args.link.now c.keeps.new.value c.in-Leaf.is
    c.deref_mut.ensures.value c.requires.lawful c.requires.wanted
    (rw (c.deref.ensures, c.deref_mut.ensures.value, c.if-not-keeps.false) at c.keeps.ensures)

pub returns-then-not-keeps-clause-nodes : goal.returns-then-not-keeps-clause-nodes
returns-then-not-keeps-clause-nodes g c = search rules
