use Rattle.rt_rib.proofs.JournalLaws.{lawful_by_entry as law}
use Rattle.rt_rib.proofs.laws.lawful_by_entry.Goals as goal

pub returns : goal.returns
returns c = law
