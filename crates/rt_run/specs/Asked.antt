-- The addresses that a query looks up: those that are named, and those of a text.
use Rattle.std.specs.Prelude.{◌≡◌, ℕ, Bool, List, ◌++◌, map}
use Rattle.rt_cidr.specs.declared.address.Addr.{Addr}
use Rattle.rt_feed.specs.declared.faulty.FaultyLines.{FaultyLines}
use Rattle.rt_feed.specs.Addresses.{AddressRow, address_row, SaysAddresses}

-- the addresses to look up: the named ones, and after them those of a text; and whether the invalid lines of this text are
-- kept, each in its place
pub record AddressContents : Type 0 where
  pub named : List Addr
  pub text : List ℕ
  pub keeps_invalid : Bool

-- the rows are the named addresses and after them the lines of the text, whose faulty lines these are
pub record SaysRows (addresses : AddressContents) (rows : List AddressRow) (faulty : FaultyLines) : Type 0 where
  pub said : List AddressRow
  pub says : SaysAddresses addresses.text said faulty
  pub in_order : rows ≡ map address_row addresses.named ++ said
