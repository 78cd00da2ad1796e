-- The part of a map from a prefix on.
use Rattle.std.specs.Prelude.{not, filter}
use Rattle.rt_cidr.specs.declared.prefixes.Prefix.{Prefix}
use Rattle.rt_trie.specs.Map.{Pairs, before}

-- the pairs of p and of the prefixes that come after it, in the order of the list
abbrev pub from_prefix : {V : Type 0} → Pairs V → Prefix → Pairs V
from_prefix m p = filter (λ x. not (before x.0 p)) m
