use Rattle.std.proofs.Common.{List, ℕ, ◌++◌, ◌∙◌, rules, ap}
use Rattle.std.specs.List.{flat_map}
use Rattle.rt_run.specs.inside.Outputs.{with_invalid}
use Rattle.rt_run.proofs.InvalidLines.{with_invalid-empty}
use Rattle.rt_run.proofs.Outputs.{headed-empty}
use Rattle.rt_run.proofs.output.write_rows_through.Goals as goal

pub returns : goal.returns
returns g c =
    let made = c.new-out.ensures in
    let wrote = c.write_with_invalid-written.ensures in
    let syntax = c.args.style.now.syntax in
    let text_of = flat_map (g.P.Rows.row_of c.args.rows.now) in
    let text : List ℕ = with_invalid syntax text_of 0 c.args.items.now c.args.invalid.now in
    c.finish-told.ensures.text c.new-out.result.writer.ghost_name (g.W.Write.contents c.args.w.now) _
    (c.args.header.now ++ text) (c.is_output_empty-is_empty.ensures ∙ headed-empty c.args.header.now text c.have_no_rows.result
    (c.have_no_rows.ensures ∙ with_invalid-empty syntax text_of c.args.items.now c.args.invalid.now c.requires.empty))
    (rw (made.began, made.over.1, made.held, c.requires.new) at wrote)
    (λ one. ap g.W.Write.contents {y = c.finish-told.new.buffer.writer.now} (search rules))
