use Rattle.std.proofs.Common.{◌≡◌, ◌==◌, List, ℕ, ◌++◌, length, rules, ap, ◌∙◌}
use Rattle.std.specs.List.{flat_map}
use Rattle.rt_print.specs.Styles.{rows_as, rows_header}
use Rattle.rt_run.proofs.Outputs.{headed-empty, rows-empty}
use Rattle.rt_run.proofs.output.write_route_pieces.Goals as goal

pub returns : goal.returns
returns g c =
    let made = c.new-out.ensures in
    let wrote = c.write_headed_pieces-written.ensures in
    let style = c.args.style.now in
    let routes = flat_map (λ piece. piece.items) c.args.pieces.now in
    let text : List ℕ = rows_as style routes in
    let empty : c.is_output_empty-is_empty.result ≡ (length (rows_header style.syntax ++ text) == 0) =
    (rw c.rows_header.ensures at c.is_output_empty-is_empty.ensures)
    ∙ headed-empty (rows_header style.syntax) text c.are_all_empty.result (rows-empty style c.are_all_empty.result routes c.are_all_empty.ensures) in
    c.finish-told.ensures.text c.new-out.result.writer.ghost_name (g.W.Write.contents c.args.w.now) _ (rows_header style.syntax ++ text) empty
    (rw (made.began, made.over.1, made.held, c.requires.new) at wrote)
    (λ one. ap g.W.Write.contents {y = c.finish-told.new.buffer.writer.now} (search rules))
