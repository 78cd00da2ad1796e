use Rattle.std.proofs.Common.{rules}
use Rattle.rt_rib.proofs.book.Book.journal.Goals as goal

pub returns-clause-entries : goal.returns-clause-entries
returns-clause-entries g c = search rules
