use Rattle.std.proofs.Common.{◌≡◌, rules}
use Rattle.rt_rib.specs.declared.routes.Hop.TheVariants.{Discard}
use Rattle.rt_print.specs.ChangeCounts.{hop_as}
use Rattle.rt_print.proofs.change_counts.put_hop_object.Goals as goal

pub returns-in-Some-Discard : goal.returns-in-Some-Discard
unfolding hop_as
returns-in-Some-Discard g c =
    let discards : c.in-Some-Discard.field-0 ≡ Discard = search rules in
    rw (c.in-Some-Discard.is, discards) c.put_to-in-Some-Discard.ensures
