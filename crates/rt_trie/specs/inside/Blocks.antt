-- A key given by its numbers, and the position of a prefix relative to another.
use Rattle.std.specs.Prelude.{◌≡◌, ℕ, Bool, true, false, ◌+◌, ◌≤◌, ◌==◌, ◌&&◌, ◌⊎◌}
use Rattle.rt_cidr.specs.declared.prefixes.Prefix.{Prefix}
use Rattle.rt_trie.specs.declared.nodes.Position.{Position}
use Rattle.rt_trie.specs.declared.nodes.Position.TheVariants.{Here, Left, Right, Above, Apart}
use Rattle.rt_trie.specs.Halves.{past, IsInBlock, IsChild}

-- true if that length and base are p's
abbrev pub is_key : ℕ → ℕ → Prefix → Bool
is_key len base p = base == p.base && len == p.len

-- the position of p relative to q
abbrev pub StandsAt : Prefix → Prefix → Position → Type 0
StandsAt q p Here = p ≡ q
StandsAt q p Left = IsChild q false p
StandsAt q p Right = IsChild q true p
StandsAt q p Above = IsInBlock p.base (past p) (p.len + 1) q
StandsAt q p Apart = (past q ≤ p.base) ⊎ (past p ≤ q.base)
