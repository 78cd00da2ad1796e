use Rattle.yarib_c.proofs.AttachedFib.{beside_left}
use Rattle.yarib_c.proofs.plain.purged.Goals as goal

pub returns-in-Some-clause-beside : goal.returns-in-Some-clause-beside
returns-in-Some-clause-beside c = beside_left _ _ c.purge-in-Some.ensures.followed
