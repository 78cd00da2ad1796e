use Rattle.std.proofs.Common.{ap, ◌∙◌, map}
use Rattle.rt_shared.specs.Headline.{entry_of, journal_of}
use Rattle.rt_shared.proofs.RunJournals.{entries_same, finds_best}
use Rattle.rt_shared.proofs.laws.headline.Goals as goal

pub returns-clause-exclusion : goal.returns-clause-exclusion
returns-clause-exclusion g c = λ levels world run.
    c.content.ensures.exclusion levels run.1 world run.0 (c.content.ensures.any levels run.1 world run.2)

pub returns-clause-made : goal.returns-clause-made
returns-clause-made g c = λ levels world run place.
    entries_same place world.content ∙ ap (map (entry_of place))
    (c.content.ensures.kept levels run.1 world run.0 (c.content.ensures.any levels run.1 world run.2) place)

pub returns-clause-lawful : goal.returns-clause-lawful
returns-clause-lawful g c = c.journal.ensures

pub returns-clause-table : goal.returns-clause-table
returns-clause-table g c = λ levels world run. c.table_by_entry.ensures.table g.row.LIMIT (journal_of world.content)

pub returns-clause-best : goal.returns-clause-best
returns-clause-best g c = λ levels world run. finds_best c.look_up_finds_best.ensures c.table_by_entry.ensures
    g.row.LIMIT (journal_of world.content) (c.journal.ensures levels world run)
