use Rattle.rt_rib.proofs.JournalLaws.{lawful_journal_is_unique as law}
use Rattle.rt_rib.proofs.laws.lawful_journal_is_unique.Goals as goal

pub returns : goal.returns
returns c = law
