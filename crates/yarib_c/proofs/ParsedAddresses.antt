-- Texts that are no address.
use Rattle.std.proofs.Common.{ℕ, List}
use Rattle.std.specs.Prelude.{Err}
use Rattle.rt_cidr.specs.declared.prefixes.TextFault.{TextFault}
use Rattle.rt_cidr.specs.declared.prefixes.TextFault.TheVariants.{Text, Length, Bits}
use Rattle.rt_cidr.specs.Text.{IsAddressText}
use Rattle.rt_cidr.specs.Reading.{ReadsAddress}

-- whatever fault is told
pub no_address : (text : List ℕ) (fault : TextFault) → ReadsAddress text (Err fault) → (a : ℕ) → ¬ IsAddressText text a
no_address text Text h a = h a
no_address text Length h a = absurd h
no_address text Bits h a = absurd h
