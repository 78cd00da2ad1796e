use Rattle.rt_trie.proofs.Removals.{fork_apart, full_apart}
use Rattle.rt_trie.proofs.removal.into_sides.Goals as goal

pub returns-in-Fork : goal.returns-in-Fork
returns-in-Fork g c =
    fork_apart c.in-Fork.fork c.into_inner-left.result c.args.link c.in-Fork.is c.into_inner-left.ensures c.requires.lawful c.requires.lone

pub returns-in-Full : goal.returns-in-Full
returns-in-Full g c =
    full_apart c.in-Full.full c.into_inner-left-in-Full.result c.args.link c.in-Full.is c.into_inner-left-in-Full.ensures
    c.requires.lawful c.requires.lone
