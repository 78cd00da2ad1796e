use Rattle.std.proofs.Common.{List, ap, ◌∙◌, sym, subst, arith}
use Rattle.rt_rib.specs.Book.{TableContents}
use Rattle.rt_tables.specs.Unions.{union_of}
use Rattle.rt_tables.specs.inside.Tables.{AreTables}
use Rattle.rt_tables.proofs.Halves.{routes_of_each, union_of_only}
use Rattle.rt_tables.proofs.tables.TableUnion.single.Goals as goal

pub returns-in-len1 : goal.returns-in-len1
returns-in-len1 g c =
    let tables : List TableContents = c.as_slice.result.now in
    union_of_only tables c.table-item.result (subst (λ l. AreTables (routes_of_each l)) (sym c.as_slice.ensures.value) c.self.invariant.1)
    (omega (arith, c.in-len1.len_at_least, c.in-len1.len_below)) c.table-item.is
    ∙ ap (λ l. union_of (routes_of_each l)) c.as_slice.ensures.value ∙ c.self.view_is
