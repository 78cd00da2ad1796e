use Rattle.rt_trie.proofs.places.step.Goals as goal

pub step_at_branch-requires-clause-node : goal.step_at_branch-requires-clause-node
step_at_branch-requires-clause-node g c = (c.args.link.now, c.in-Branch.ensures.0 c.requires.lawful)

pub returns-in-Branch : goal.returns-in-Branch
returns-in-Branch g c = c.step_at_branch.ensures c.args.link.now (c.in-Branch.ensures.0 c.requires.lawful)
