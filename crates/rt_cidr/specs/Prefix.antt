-- Which addresses and prefixes a prefix covers and contains (RFC 4632, section 3.1), and when two are the same.
use Rattle.std.specs.Prelude.{◌/◌, ◌==◌, ◌&&◌, nat_le, Bool}
use Rattle.rt_cidr.specs.declared.address.Addr.{Addr}
use Rattle.rt_cidr.specs.declared.prefixes.Prefix.{Prefix}
use Rattle.rt_cidr.specs.Cidr.{size_of}

-- true if the address and the base agree in their first `len` bits
abbrev pub covers : Prefix → Addr → Bool
covers p a = (a.0 / size_of p.len) == (p.base / size_of p.len)

-- true if q isn't shorter than p, and p covers its base
abbrev pub contains : Prefix → Prefix → Bool
contains p q = nat_le p.len q.len && (q.base / size_of p.len) == (p.base / size_of p.len)

-- true if two prefixes have the same base and the same length
abbrev pub same_prefix : Prefix → Prefix → Bool
same_prefix p q = p.base == q.base && p.len == q.len
