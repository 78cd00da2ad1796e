use Rattle.rt_rib.proofs.TableChanges.{holds_table}
use Rattle.rt_rib.proofs.book.Book.holds.Goals as goal

pub returns : goal.returns
returns g c = rw (← c.self.view_is) (holds_table c.self.inside.table c.self.inside.journal.items c.holds.ensures c.self.invariant)
