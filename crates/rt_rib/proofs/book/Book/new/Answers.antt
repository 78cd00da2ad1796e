use Rattle.std.proofs.Common.{sym}
use Rattle.std.proofs.lemmas.List.Elements.{All-nil}
use Rattle.rt_rib.proofs.Journals.{IsLawfulJournal-nil, table_of_journal-nil}
use Rattle.rt_rib.proofs.TableChanges.{holds_table}
use Rattle.rt_rib.proofs.book.Book.new.Goals as goal

pub invariant_of-result : goal.invariant_of-result
invariant_of-result g c =
    rw (c.new-table.ensures, c.new.ensures.items)
    (record { feeds = All-nil _; lawful = IsLawfulJournal-nil c.args.limit; routes = sym (table_of_journal-nil c.args.limit) })

pub returns-clause-holds : goal.returns-clause-holds
returns-clause-holds g c = holds_table c.new-table.result c.new.result.items c.holds.ensures (invariant_of-result g c)
