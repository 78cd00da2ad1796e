-- The prefix of a given length that covers an address has a unique base.
use Rattle.std.proofs.Common.{◌≡◌, ℕ, ◌*◌, ◌/◌, ◌%◌, true, ap, ◌∙◌, sym, arith}
use Rattle.std.proofs.Math.Nat.{mod-add-div'}
use Rattle.std.proofs.lemmas.Bool.{eqb-true}
use Rattle.rt_cidr.specs.declared.address.Addr.{Addr}
use Rattle.rt_cidr.specs.declared.prefixes.Prefix.{Prefix}
use Rattle.rt_cidr.specs.Cidr.{size_of}
use Rattle.rt_cidr.specs.Prefix.{covers}

-- a multiple of n is determined by its quotient
quotient : (a b n : ℕ) → a / n ≡ b / n → b % n ≡ 0 → b ≡ a / n * n
quotient a b n same clear = let parts = mod-add-div' b n in let whole : b / n * n ≡ b = omega arith in sym (ap (λ q. q * n) same ∙ whole)

-- the base of the prefix of a length that covers an address
abbrev pub base_at : Addr → ℕ → ℕ
base_at addr len = addr.0 / size_of len * size_of len

-- a prefix that covers the address has that base
pub covers-base : (p : Prefix) (addr : Addr) → covers p addr ≡ true → p.base ≡ base_at addr p.len
covers-base p addr covered =
    let quotients : addr.0 / size_of p.len ≡ p.base / size_of p.len = eqb-true (addr.0 / size_of p.len) (p.base / size_of p.len) covered in
    quotient addr.0 p.base (size_of p.len) quotients p.is_prefix.clear
