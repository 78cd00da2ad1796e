-- The prefixes at which a trie has nodes, defined only by its map.
use Rattle.std.specs.Prelude.{◌≡◌, ◌↔◌, ◌⊎◌, ℕ, length}
use Rattle.rt_cidr.specs.declared.prefixes.Prefix.{Prefix}
use Rattle.rt_trie.specs.Map.{Pairs, IsStored, IsOrdered}
use Rattle.rt_trie.specs.Halves.{PartsAt}

-- two stored prefixes diverge at c: one is in the lower half of its addresses, the other in the upper half
pub record PartAt {V : Type 0} (m : Pairs V) (c : Prefix) : Type 0 where
  pub low : Prefix
  pub high : Prefix
  pub low_stored : IsStored m low
  pub high_stored : IsStored m high
  pub parts : PartsAt c low high

-- there is a node at c: c is stored, or two stored prefixes diverge there
abbrev pub IsNodeAt : {V : Type 0} → Pairs V → Prefix → Type 0
IsNodeAt m c = IsStored m c ⊎ PartAt m c

-- n is the number of prefixes that have a node: they are listed in order, so each once
pub record CountsNodes {V : Type 0} (m : Pairs V) (n : ℕ) : Type 0 where
  pub nodes : Pairs (Unit {0})
  pub ordered : IsOrdered nodes
  pub each : (c : Prefix) → IsStored nodes c ↔ IsNodeAt m c
  pub count : length nodes ≡ n
