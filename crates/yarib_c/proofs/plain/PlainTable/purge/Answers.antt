use Rattle.yarib_c.proofs.plain.PlainTable.purge.Goals as goal

pub purged-reply-requires-clause-beside : goal.purged-reply-requires-clause-beside
purged-reply-requires-clause-beside c = rw c.take.ensures.value c.self.invariant
