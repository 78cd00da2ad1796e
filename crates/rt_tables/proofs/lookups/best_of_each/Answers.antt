use Rattle.std.proofs.Common.{◌+◌, List, take, ap, ◌∙◌, sym, subst, arith}
use Rattle.std.proofs.lemmas.List.{take_all}
use Rattle.rt_cidr.specs.declared.address.Addr.{Addr}
use Rattle.rt_rib.specs.Book.{TableContents}
use Rattle.rt_rib.specs.Chunks.{answered}
use Rattle.rt_rib.specs.LookUp.{look_up}
use Rattle.rt_tables.specs.inside.Answers.{better_of}
use Rattle.rt_tables.specs.inside.Tables.{AreTables}
use Rattle.rt_tables.proofs.Halves.{routes_of_each, front_half, next_table}
use Rattle.rt_tables.proofs.Improving.{answers_of, no_answers, answers_more}
use Rattle.rt_tables.proofs.lookups.best_of_each.Goals as goal

pub loop-table-init : goal.loop-table-init
loop-table-init g c =
    no_answers c.args.addresses.now c.forget_each.new.answers (c.forget_each.auto.answers ∙ c.requires.size)
    (λ k l. c.forget_each.ensures k (omega (arith, c.forget_each.auto.answers)))

pub loop-table-preserved : goal.loop-table-preserved
loop-table-preserved g c =
    let tables : List TableContents = c.args.tables.now in
    let i = c.loop-table.table-index in
    let addresses = c.args.addresses.now in
    let table = c.table-item.result.routes in
    let more = next_table tables i c.table-item.result c.loop-table-test.true c.table-item.is in
    c.look_up_in_chunks.ensures
    ∙ ap (answered (λ (addr : Addr) earlier. better_of earlier (look_up addr table)) addresses) c.loop-table.invariant
    ∙ answers_more addresses (routes_of_each (take i tables)) table (subst AreTables more (front_half tables (i + 1) c.requires.tables))
    ∙ ap (answers_of addresses) (sym more)

pub returns : goal.returns
returns g c =
    let tables : List TableContents = c.args.tables.now in
    c.loop-table.invariant
    ∙ ap (λ l. answers_of c.args.addresses.now (routes_of_each l)) (take_all c.loop-table.table-index tables c.loop-table-test.false)
