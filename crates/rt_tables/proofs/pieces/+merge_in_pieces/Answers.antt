use Rattle.std.proofs.Common.{◌≡◌, ◌++◌, take, drop, ap, ◌∙◌, sym, subst, rules}
use Rattle.std.proofs.lemmas.Grind.{flat_map-append}
use Rattle.std.specs.List.{flat_map}
use Rattle.std.specs.Prelude.{IfOk}
use Rattle.rt_rib.specs.Table.{precedes}
use Rattle.rt_tables.specs.inside.Merging.{merged}
use Rattle.rt_tables.proofs.pieces.+merge_in_pieces.Goals as goal

pub returns-then-pieces-lt2 : goal.returns-then-pieces-lt2
returns-then-pieces-lt2 g t c =
    let all = merged precedes c.args.first.now c.args.second.now in
    let routes : c.append_merged.new.routes.items ≡ all = c.in_ok-append_merged.ensures ∙ ap (λ l. l ++ all) c.in_ok-routes.ensures.items in
    subst (λ l. IfOk c.only_piece.result (λ lists. flat_map (λ list. list.items) lists.items ≡ l)) routes c.only_piece.ensures

pub returns : goal.returns
returns g t c =
    let first = c.args.first.now in
    let second = c.args.second.now in
    let i = c.cut-i.result.0 in
    let j = c.cut-i.result.1 in
    let front : flat_map (λ list. list.items) c.in_ok-lists.lists.items ≡ merged precedes (take i first) (take j second) = search rules in
    let back : flat_map (λ list. list.items) c.in_ok-rest.field-0.items ≡ merged precedes (drop i first) (drop j second) = search rules in
    ap (flat_map (λ list. list.items)) c.in_ok-append.ensures.items
    ∙ flat_map-append (λ list. list.items) c.in_ok-lists.lists.items c.in_ok-rest.field-0.items
    ∙ ap (λ l. l ++ flat_map (λ list. list.items) c.in_ok-rest.field-0.items) front
    ∙ ap (λ l. merged precedes (take i first) (take j second) ++ l) back ∙ sym c.cut-i.ensures.parts
