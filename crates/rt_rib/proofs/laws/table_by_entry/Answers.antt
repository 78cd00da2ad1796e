use Rattle.rt_rib.proofs.JournalLaws.{table_by_entry as law}
use Rattle.rt_rib.proofs.laws.table_by_entry.Goals as goal

pub returns : goal.returns
returns c = law
