-- Prefixes as pairs of numbers: a base address and a length (RFC 4632, section 3.1).
use Rattle.std.specs.Prelude.{◌≡◌, ℕ, ◌-◌, ◌%◌, ◌^◌, ◌<◌, ◌≤◌}

-- the number of addresses that share their first `len` bits
abbrev pub size_of : ℕ → ℕ
size_of len = 2 ^ (32 - len)

-- the pair is a prefix: at most 32 bits, and no bit of the base past the length is set
pub record IsPrefix (base len : ℕ) : Type 0 where
  pub short : len ≤ 32
  pub fits : base < 2 ^ 32
  pub clear : base % size_of len ≡ 0
