use Rattle.std.proofs.Common.{arith}
use Rattle.rt_cidr.proofs.Fronts.{octet_is_decimal, no_octet}
use Rattle.rt_cidr.proofs.address.read_octet.Goals as goal

pub returns-in_err-value : goal.returns-in_err-value
returns-in_err-value c =
    rw c.from_residual.ensures (λ n rest h. c.in_err-value.ensures n rest (octet_is_decimal c.args.text.now n rest h))

pub returns-then-value-gt255 : goal.returns-then-value-gt255
returns-then-value-gt255 c = no_octet c.args.text.now _ _ c.in_ok-value.ensures (omega arith)
