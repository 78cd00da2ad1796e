use Rattle.std.proofs.Common.{◌≡◌, ◌/◌, List, length, take, ap, ◌∙◌, sym, subst}
use Rattle.std.specs.Prelude.{IfOk}
use Rattle.std.specs.List.{flat_map}
use Rattle.rt_rib.specs.Book.{TableContents}
use Rattle.rt_rib.specs.declared.routes.Route.{Route}
use Rattle.rt_rib.specs.Selection.{selected}
use Rattle.rt_rib.specs.Table.{precedes}
use Rattle.rt_tables.specs.Unions.{union_of}
use Rattle.rt_tables.specs.inside.Merging.{merged, AreInDumpOrder}
use Rattle.rt_tables.specs.inside.Tables.{AreTables}
use Rattle.rt_tables.proofs.Halves.{routes_of_each, chosen_in_order, selected_halves}
use Rattle.rt_tables.proofs.tables.TableUnion+Global.select_in_pieces.Goals as goal

pub merge_in_pieces-requires-clause-first : goal.merge_in_pieces-requires-clause-first
merge_in_pieces-requires-clause-first g c κs within =
    let tables : List TableContents = c.deref.result.now in
    let known : AreTables (routes_of_each tables) = subst (λ l. AreTables (routes_of_each l)) (sym c.deref.ensures.value) c.self.invariant.1 in
    subst AreInDumpOrder (sym (c.deref-2.ensures.value ∙ c.in_ok-first.ensures.first)) (chosen_in_order tables (length tables / 2) known c.args.asked.now).0

pub merge_in_pieces-requires-clause-second : goal.merge_in_pieces-requires-clause-second
merge_in_pieces-requires-clause-second g c κs within =
    let tables : List TableContents = c.deref.result.now in
    let known : AreTables (routes_of_each tables) = subst (λ l. AreTables (routes_of_each l)) (sym c.deref.ensures.value) c.self.invariant.1 in
    subst AreInDumpOrder (sym (c.deref-3.ensures.value ∙ c.in_ok-first.ensures.second)) (chosen_in_order tables (length tables / 2) known c.args.asked.now).1

pub returns : goal.returns
returns g c =
    let tables : List TableContents = c.deref.result.now in
    let mid = length tables / 2 in
    let asked = c.args.asked.now in
    let known : AreTables (routes_of_each tables) = subst (λ l. AreTables (routes_of_each l)) (sym c.deref.ensures.value) c.self.invariant.1 in
    let found : List TableContents → List Route = λ l. selected asked (union_of (routes_of_each l)) in
    let whole : merged precedes c.deref-2.result.now c.deref-3.result.now ≡ selected asked c.args.self.now =
    ap (λ l. merged precedes l c.deref-3.result.now) (c.deref-2.ensures.value ∙ c.in_ok-first.ensures.first)
    ∙ ap (merged precedes (found (take mid tables))) (c.deref-3.ensures.value ∙ c.in_ok-first.ensures.second)
    ∙ selected_halves tables mid known asked c.if-asked.false
    ∙ ap found c.deref.ensures.value ∙ ap (selected asked) c.self.view_is in
    subst (λ l. IfOk c.merge_in_pieces.result (λ pieces. flat_map (λ piece. piece.items) pieces.items ≡ l)) whole c.merge_in_pieces.ensures
