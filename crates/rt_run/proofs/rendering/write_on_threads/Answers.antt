use Rattle.std.proofs.Common.{◌≡◌, ◌++◌, [], length, refl, ap, sym, arith, rules, append-nil, take-append-drop}
use Rattle.std.proofs.lemmas.List.{nil_from_length, with_items_is}
use Rattle.std.specs.List.{flat_map}
use Rattle.rt_cidr.proofs.Promised.{appends_after}
use Rattle.rt_print.proofs.Promised.{breaks_off, writes_after}
use Rattle.rt_run.proofs.Pieces.{rows_begin, rows_grow}
use Rattle.rt_run.proofs.rendering.write_on_threads.Goals as goal

pub loop-rest-init : goal.loop-rest-init
loop-rest-init g c =
    let cut : c.args.items.now ≡ c.split_at.result.0.now ++ c.split_at.result.1.now =
    rw (c.split_at.ensures.front, c.split_at.ensures.back) (sym (take-append-drop c.min.result c.args.items.now)) in
    let same : length c.render_pieces.new.texts ≡ c.in-Ok-Ok.texts.len = omega (arith, c.render_pieces.ensures.count, c.deref_mut.ensures.len) in
    record {
      text = [];
      written = search rules;
      rendered = rw (with_items_is c.in-Ok-Ok.texts c.render_pieces.new.texts same) c.render_pieces.ensures.texts;
      whole = ap (flat_map (g.P.Rows.row_of c.args.rows.now)) (sym cut);
      room = omega (arith, c.saturating_mul-most.ensures, c.in-Ok-Ok.ensures');
      other_room = omega (arith, c.saturating_mul-most.ensures, c.in-Ok-Ok.ensures);
    }

pub returns-in_err-write_and_render : goal.returns-in_err-write_and_render
returns-in_err-write_and_render g c =
    let group = c.loop-rest.group.now in
    let rest = c.loop-rest.rest.now in
    breaks_off _ _ _ _ c.from_residual.ensures.0 (rows_begin (g.P.Rows.row_of c.args.rows.now) c.args.items.now (group ++ rest) group rest
    c.loop-rest.invariant.text c.loop-rest.invariant.whole refl _ _ _ c.loop-rest.invariant.written c.in_err-write_and_render.ensures.written.err)

pub loop-rest-preserved : goal.loop-rest-preserved
loop-rest-preserved g c =
    let row = g.P.Rows.row_of c.args.rows.now in
    let group = c.loop-rest.group.now in
    let rest = c.loop-rest.rest.now in
    let cut : rest ≡ c.split_at-in-loop-rest.result.0.now ++ c.split_at-in-loop-rest.result.1.now =
    rw (c.split_at-in-loop-rest.ensures.front, c.split_at-in-loop-rest.ensures.back) (sym (take-append-drop c.min-in-loop-rest.result rest)) in
    let same : length c.write_and_render.new.next_texts ≡ c.loop-rest.next_texts.len =
    omega (arith, c.in_ok-write_and_render.ensures.count, c.deref_mut-in-loop-rest.ensures.len) in
    record {
      text = c.loop-rest.invariant.text ++ flat_map row group;
      written = appends_after _ _ _ c.loop-rest.invariant.text (flat_map row group) c.loop-rest.invariant.written c.in_ok-write_and_render.ensures.written.ok;
      rendered = rw (c.swap.ensures.x_after, with_items_is c.loop-rest.next_texts c.write_and_render.new.next_texts same) c.in_ok-write_and_render.ensures.rendered;
      whole = rw (← cut) (rows_grow row c.args.items.now (group ++ rest) group rest c.loop-rest.invariant.text c.loop-rest.invariant.whole refl);
      room = rw c.swap.ensures.y_after c.loop-rest.invariant.other_room;
      other_room = rw c.swap.ensures.x_after c.loop-rest.invariant.room;
    }

pub returns : goal.returns
returns g c =
    let none : c.loop-rest.rest.now ≡ [] = nil_from_length c.loop-rest.rest.now (search rules) in
    rw (← (rw (none, append-nil) at c.loop-rest.invariant.whole)) (writes_after _ _ _ _ _ _ c.loop-rest.invariant.written c.write_texts.ensures)
