-- How long the texts of addresses and prefixes are at most.
use Rattle.rt_cidr.proofs.Promised.{length-address_text, length-prefix_text}

-- both have room in a short text
pub ruleset lengths = (length-address_text, length-prefix_text)
