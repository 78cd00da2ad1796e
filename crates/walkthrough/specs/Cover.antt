-- A prefix and an address, read from two texts.
use Rattle.std.specs.Prelude.{◌≡◌, ℕ, Bool, List, Ok}
use Rattle.rt_cidr.specs.declared.address.Addr.{Addr}
use Rattle.rt_cidr.specs.declared.prefixes.Prefix.{Prefix}
use Rattle.rt_cidr.specs.Prefix.{covers}
use Rattle.rt_cidr.specs.Reading.{ReadsAddress, ReadsPrefix}

-- the texts are a prefix and an address, and `covered` says whether the prefix covers the address
pub record TextsCover (block address : List ℕ) (covered : Bool) : Type 0 where
  pub prefix : Prefix
  pub addr : Addr
  pub reads_prefix : ReadsPrefix block (Ok prefix)
  pub reads_address : ReadsAddress address (Ok addr)
  pub answer : covered ≡ covers prefix addr
