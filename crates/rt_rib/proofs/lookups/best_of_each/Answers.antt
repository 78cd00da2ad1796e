use Rattle.std.proofs.Common.{◌∙◌}
use Rattle.rt_cidr.specs.declared.address.Addr.{Addr}
use Rattle.rt_rib.specs.LookUp.{look_up}
use Rattle.rt_rib.specs.Maps.{routes_of}
use Rattle.rt_rib.proofs.ChunkAnswers.{answered-map}
use Rattle.rt_rib.proofs.lookups.best_of_each.Goals as goal

pub returns : goal.returns
returns g c =
    c.look_up_in_chunks.ensures
    ∙ answered-map (λ (addr : Addr). look_up addr (routes_of c.args.map.now.pairs)) c.args.addresses.now c.args.answers.now c.requires
