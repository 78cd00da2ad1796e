use Rattle.std.proofs.Common.{◌≡◌, ◌/◌, List, length, take, drop, ap, ◌∙◌, sym, subst, arith, rules}
use Rattle.std.specs.Prelude.{IfOk}
use Rattle.std.proofs.lemmas.List.{nil_from_length}
use Rattle.rt_rib.specs.Book.{TableContents}
use Rattle.rt_rib.specs.declared.routes.Route.{Route}
use Rattle.rt_rib.specs.LookUp.{best_routes}
use Rattle.rt_rib.specs.Selection.{selected}
use Rattle.rt_rib.specs.Table.{precedes, IsTable}
use Rattle.rt_tables.specs.Unions.{union_of}
use Rattle.rt_tables.specs.inside.Merging.{merged, AreInDumpOrder}
use Rattle.rt_tables.specs.inside.Tables.{AreTables}
use Rattle.rt_tables.proofs.Halves.{routes_of_each, none_selected, union_of_only, front_half, back_half, chosen_in_order, selected_table, selected_halves, best_halves}
use Rattle.rt_tables.proofs.selection.+selecting.Goals as goal
use Rattle.rt_tables.proofs.selection.+selecting.Goals.{select_from-then-asked, select_from-else-asked}

pub select_halves-join-first-requires-after_bounds : goal.select_halves-join-first-requires-after_bounds
select_halves-join-first-requires-after_bounds g t c κs within =
    let tables : List TableContents = c.args.tables.now in
    let some : AreTables (routes_of_each c.split_at.result.0.now) =
    subst (λ l. AreTables (routes_of_each l)) (sym c.split_at.ensures.front) (front_half tables (length tables / 2) c.requires.tables) in
    let others : AreTables (routes_of_each c.split_at.result.1.now) =
    subst (λ l. AreTables (routes_of_each l)) (sym c.split_at.ensures.back) (back_half tables (length tables / 2) c.requires.tables) in (
      (
        omega (arith, c.decreases, c.split_at.ensures.front_len, c.requires.several),
        ((λ a in_it. in_it), (((search rules), some, c.requires.asked), (search rules))),
      ),
      (
        omega (arith, c.decreases, c.split_at.ensures.back_len, c.requires.several),
        ((λ a in_it. in_it), (((search rules), others, c.requires.asked), (search rules))),
      ),
    )

pub select_halves-returns-clause-first : goal.select_halves-returns-clause-first
select_halves-returns-clause-first g t c =
    let first : c.in_ok-first.field-0.items ≡ selected c.args.asked.now (union_of (routes_of_each c.split_at.result.0.now)) = search rules in
    first ∙ ap (λ l. selected c.args.asked.now (union_of (routes_of_each l))) c.split_at.ensures.front

pub select_halves-returns-clause-second : goal.select_halves-returns-clause-second
select_halves-returns-clause-second g t c =
    let second : c.in_ok-second.field-0.items ≡ selected c.args.asked.now (union_of (routes_of_each c.split_at.result.1.now)) = search rules in
    second ∙ ap (λ l. selected c.args.asked.now (union_of (routes_of_each l))) c.split_at.ensures.back

pub select_from-returns-in-empty : goal.select_from-returns-in-empty
select_from-returns-in-empty g t c =
    let tables : List TableContents = c.args.tables.now in
    c.new.ensures.items ∙ none_selected c.args.asked.now
    ∙ ap (λ l. selected c.args.asked.now (union_of (routes_of_each l))) (sym (nil_from_length tables (omega (arith, c.in-empty.len_below))))

pub select_from-returns-in-len1 : goal.select_from-returns-in-len1
select_from-returns-in-len1 g t c =
    subst (λ l. IfOk c.select.result (λ routes. routes.items ≡ selected c.args.asked.now l))
    (union_of_only c.args.tables.now c.table-item.result c.requires.tables (omega (arith, c.in-len1.len_at_least, c.in-len1.len_below)) c.table-item.is)
    c.select.ensures

pub select_from-merge_on_threads-requires-clause-first : goal.select_from-merge_on_threads-requires-clause-first
select_from-merge_on_threads-requires-clause-first g t c κs within =
    let tables : List TableContents = c.args.tables.now in
    subst AreInDumpOrder (sym c.in_ok-first-in_default.ensures.first) (chosen_in_order tables (length tables / 2) c.requires.tables c.args.asked.now).0

pub select_from-merge_on_threads-requires-clause-second : goal.select_from-merge_on_threads-requires-clause-second
select_from-merge_on_threads-requires-clause-second g t c κs within =
    let tables : List TableContents = c.args.tables.now in
    subst AreInDumpOrder (sym c.in_ok-first-in_default.ensures.second) (chosen_in_order tables (length tables / 2) c.requires.tables c.args.asked.now).1

pub select_from-keep_best-requires : goal.select_from-keep_best-requires
select_from-keep_best-requires g t c =
    let tables : List TableContents = c.args.tables.now in
    let halves = c.in_ok-first-in_default in
    subst IsTable
    (sym (c.in_ok-routes-in_default.ensures ∙ ap (λ l. merged precedes l halves.second.items) halves.ensures.first
    ∙ ap (merged precedes (selected c.args.asked.now (union_of (routes_of_each (take (length tables / 2) tables))))) halves.ensures.second))
    (selected_table tables (length tables / 2) c.requires.tables c.args.asked.now)

pub select_from-returns-after-asked : goal.select_from-returns-after-asked
select_from-returns-after-asked g t c =
    let tables : List TableContents = c.args.tables.now in
    let mid = length tables / 2 in
    let asked = c.args.asked.now in
    let found : List TableContents → List Route = λ l. selected asked (union_of (routes_of_each l)) in
    let halves = c.in_ok-first-in_default in
    let both : c.in_ok-routes-in_default.routes.items ≡ merged precedes (found (take mid tables)) (found (drop mid tables)) =
    c.in_ok-routes-in_default.ensures ∙ ap (λ l. merged precedes l halves.second.items) halves.ensures.first
    ∙ ap (merged precedes (found (take mid tables))) halves.ensures.second in
    elim c.if-asked.branch [
      | select_from-then-asked w ↦ rw w.routes-is
          (w.keep_best.ensures ∙ ap best_routes both ∙ best_halves tables mid c.requires.tables asked c.requires.asked w.if-asked.true)
      | select_from-else-asked w ↦ rw w.routes-is (both ∙ selected_halves tables mid c.requires.tables asked w.if-asked.false)
    ]
