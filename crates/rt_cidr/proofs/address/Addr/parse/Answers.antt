use Rattle.std.proofs.Common.{arith}
use Rattle.std.proofs.lemmas.Bool.Decides.{nat_tests}
use Rattle.rt_cidr.specs.Text.{IsAddressText}
use Rattle.rt_cidr.proofs.Fronts.{address_read_once, whole_of_front, no_whole_before, no_whole}
use Rattle.rt_cidr.proofs.address.Addr.parse.Goals as goal

pub returns-in_default : goal.returns-in_default
returns-in_default c = no_whole IsAddressText c.args.text.now c.in_default.ensures

pub returns-then-not-is_empty : goal.returns-then-not-is_empty
returns-then-not-is_empty c =
    no_whole_before IsAddressText c.args.text.now address_read_once _ _ c.in-Some.ensures (grind (arith, nat_tests))

pub returns : goal.returns
returns c = whole_of_front IsAddressText c.args.text.now _ _ c.in-Some.ensures (grind (arith, nat_tests))
