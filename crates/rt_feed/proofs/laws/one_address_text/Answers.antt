use Rattle.rt_feed.proofs.ReadAddresses as reading
use Rattle.rt_feed.proofs.laws.one_address_text.Goals as goal

pub returns : goal.returns
returns c = reading.one_address_text c.one_address.ensures
