use Rattle.std.proofs.Common.{true, false}
use Rattle.rt_trie.proofs.Filters.{retained_none, retained_one}
use Rattle.rt_trie.proofs.retaining.retain_own.Goals as goal

pub returns-then-not-keeps-clause-retained : goal.returns-then-not-keeps-clause-retained
returns-then-not-keeps-clause-retained g c =
    rw c.in-Some.is
    (retained_one g.S.RetainFilter.done g.S.RetainFilter.judges c.args.filter.now c.keeps.new.self c.args.prefix c.in-Some.held c.keeps.new.value false c.requires.wanted
    c.if-not-keeps.ensures)

pub returns-else-not-keeps-clause-retained : goal.returns-else-not-keeps-clause-retained
returns-else-not-keeps-clause-retained g c =
    rw c.in-Some.is
    (retained_one g.S.RetainFilter.done g.S.RetainFilter.judges c.args.filter.now c.keeps.new.self c.args.prefix c.in-Some.held c.keeps.new.value true c.requires.wanted
    c.if-not-keeps.ensures)

pub returns-in_default-clause-retained : goal.returns-in_default-clause-retained
returns-in_default-clause-retained g c = rw c.in_default.is (retained_none g.S.RetainFilter.done g.S.RetainFilter.judges c.args.filter.now)
