use Rattle.std.proofs.Common.{[]}
use Rattle.rt_shared.proofs.RunJournals.{lawful_from}
use Rattle.rt_shared.proofs.laws.journal.Goals as goal

pub returns : goal.returns
returns g c = λ levels world run.
    lawful_from c.lawful_by_entry.ensures g.row.LIMIT [] world.content
    (c.content.ensures.lawful levels run.1 world run.0 run.2) (c.lawful_by_entry.ensures.empty g.row.LIMIT)
