use Rattle.std.proofs.Common.{◌∙◌}
use Rattle.rt_cidr.specs.declared.address.Addr.{Addr}
use Rattle.rt_rib.specs.LookUp.{look_up}
use Rattle.rt_rib.proofs.Promised.{answered-map}
use Rattle.rt_fib.proofs.fib.Fib.look_up_each.Goals as goal

pub returns : goal.returns
returns g c =
    c.look_up_in_chunks.ensures ∙ answered-map (λ (addr : Addr). look_up addr c.args.self.now) c.args.addresses.now c.args.answers.now c.requires
