use Rattle.std.proofs.Common.{length, ap, ◌∙◌}
use Rattle.rt_tables.specs.Unions.{union_of}
use Rattle.rt_tables.proofs.Halves.{routes_of_each}
use Rattle.rt_tables.proofs.Lengths.{union_length}
use Rattle.rt_tables.proofs.tables.TableUnion.len.Goals as goal

pub returns : goal.returns
returns g c =
    c.total.ensures ∙ union_length c.deref.result.now ∙ ap (λ l. length (union_of (routes_of_each l))) c.deref.ensures.value ∙ ap length c.self.view_is
