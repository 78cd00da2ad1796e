use Rattle.std.proofs.Common.{List, subst}
use Rattle.std.specs.List.{All}
use Rattle.std.proofs.lemmas.List.{take_all}
use Rattle.std.proofs.lemmas.List.Elements.{All-more, All-map}
use Rattle.rt_rib.specs.Book.{TableContents}
use Rattle.rt_rib.specs.Table.{IsTable}
use Rattle.rt_tables.proofs.tables.know_tables.Goals as goal

-- its routes are a table
abbrev HoldsTable : TableContents → Type 0
HoldsTable t = IsTable t.routes

pub loop-table-preserved : goal.loop-table-preserved
loop-table-preserved g c =
    All-more HoldsTable c.args.tables.now c.loop-table.table-index c.table-item.result c.loop-table-test.true c.loop-table.invariant
    (subst HoldsTable c.table-item.is c.holds.ensures.once)

pub returns : goal.returns
returns g c =
    let tables : List TableContents = c.args.tables.now in
    All-map IsTable (λ (t : TableContents). t.routes) tables
    (subst (All HoldsTable) (take_all c.loop-table.table-index tables c.loop-table-test.false) c.loop-table.invariant)
