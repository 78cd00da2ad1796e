use Rattle.std.proofs.Common.{subst}
use Rattle.std.specs.List.{All}
use Rattle.rt_rib.specs.Table.{IsTable}
use Rattle.rt_tables.proofs.Halves.{routes_of_each}
use Rattle.rt_tables.proofs.tables.TableUnion.new.Goals as goal

pub invariant_of-result : goal.invariant_of-result
invariant_of-result g c = (
  c.requires.few,
  record { each = subst (λ l. All IsTable (routes_of_each l)) c.deref.ensures.value c.know_tables.ensures; differ = c.requires.apart },
)
