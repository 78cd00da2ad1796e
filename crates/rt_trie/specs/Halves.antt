-- The addresses that a prefix covers are a block of numbers with two halves: a longer prefix is in one of the halves,
-- or outside the block.
use Rattle.std.specs.Prelude.{ℕ, Bool, true, false, ◌+◌, ◌/◌, ◌≤◌}
use Rattle.rt_cidr.specs.declared.prefixes.Prefix.{Prefix}
use Rattle.rt_cidr.specs.Cidr.{size_of}

-- the first address of the upper half of the prefix with that length and base
abbrev pub middle_at : ℕ → ℕ → ℕ
middle_at len base = base + size_of len / 2

-- the first address of a prefix's upper half
abbrev pub middle : Prefix → ℕ
middle q = middle_at q.len q.base

-- the first address after those that the prefix covers
abbrev pub past : Prefix → ℕ
past q = q.base + size_of q.len

-- c has at least that length, and only covers addresses from lo on and below hi
pub record IsInBlock (lo hi len : ℕ) (c : Prefix) : Type 0 where
  pub long : len ≤ c.len
  pub from : lo ≤ c.base
  pub to : past c ≤ hi

-- c is longer than the parent, and only covers addresses of its lower half (false), or only of its upper half (true)
abbrev pub IsChild : Prefix → Bool → Prefix → Type 0
IsChild parent false c = IsInBlock parent.base (middle parent) (parent.len + 1) c
IsChild parent true c = IsInBlock (middle parent) (past parent) (parent.len + 1) c

-- the prefix at which two others diverge: one is in its lower half, the other in its upper half
abbrev pub PartsAt : Prefix → Prefix → Prefix → Type 0
PartsAt c low high = IsChild c false low × IsChild c true high
