use Rattle.std.proofs.Common.{◌≡◌, ◌/◌, List, length, take, ap, ◌∙◌, sym, subst, arith}
use Rattle.std.specs.Prelude.{IfOk}
use Rattle.std.proofs.lemmas.List.{nil_from_length}
use Rattle.rt_rib.specs.Book.{TableContents}
use Rattle.rt_rib.specs.declared.routes.Route.{Route}
use Rattle.rt_rib.specs.LookUp.{beats, look_up_all}
use Rattle.rt_tables.specs.Unions.{union_of}
use Rattle.rt_tables.specs.inside.Merging.{merged}
use Rattle.rt_tables.specs.inside.Tables.{AreTables}
use Rattle.rt_tables.proofs.Halves.{routes_of_each, no_matches, union_of_only, front_half, back_half, matches_halves}
use Rattle.rt_tables.proofs.lookups.+matches_in.Goals as goal

pub matches_in-requires : goal.matches_in-requires
matches_in-requires g t c = λ κs within.
    let tables : List TableContents = c.args.tables.now in (
      omega (arith, c.decreases, c.split_at.ensures.front_len, c.in_default.len_at_least),
      (within, subst (λ l. AreTables (routes_of_each l)) (sym c.split_at.ensures.front) (front_half tables (length tables / 2) c.requires)),
    )

pub matches_in-requires-in_default : goal.matches_in-requires-in_default
matches_in-requires-in_default g t c = λ κs within.
    let tables : List TableContents = c.args.tables.now in (
      omega (arith, c.decreases, c.split_at.ensures.back_len, c.in_default.len_at_least),
      (within, subst (λ l. AreTables (routes_of_each l)) (sym c.split_at.ensures.back) (back_half tables (length tables / 2) c.requires)),
    )

pub returns-in-empty : goal.returns-in-empty
returns-in-empty g t c =
    let tables : List TableContents = c.args.tables.now in
    c.new.ensures.items ∙ no_matches c.args.addr
    ∙ ap (λ l. look_up_all c.args.addr (union_of (routes_of_each l))) (sym (nil_from_length tables (omega (arith, c.in-empty.len_below))))

pub returns-in-len1 : goal.returns-in-len1
returns-in-len1 g t c =
    subst (λ l. IfOk c.look_up_all.result (λ routes. routes.items ≡ look_up_all c.args.addr l))
    (union_of_only c.args.tables.now c.table-item.result c.requires (omega (arith, c.in-len1.len_at_least, c.in-len1.len_below)) c.table-item.is)
    c.look_up_all.ensures

pub returns-in_ok-second-in_default : goal.returns-in_ok-second-in_default
returns-in_ok-second-in_default g t c =
    let tables : List TableContents = c.args.tables.now in
    let mid = length tables / 2 in
    let addr = c.args.addr in
    let found : List TableContents → List Route = λ l. look_up_all addr (union_of (routes_of_each l)) in
    let first = c.in_ok-first-in_default.ensures ∙ ap found c.split_at.ensures.front in
    let second = c.in_ok-second-in_default.ensures ∙ ap found c.split_at.ensures.back in
    subst (λ all. IfOk c.merge.result (λ routes. routes.items ≡ all))
    (ap (λ l. merged beats l c.in_ok-second-in_default.second.items) first ∙ ap (merged beats (found (take mid tables))) second
    ∙ matches_halves tables mid c.requires addr)
    c.merge.ensures
