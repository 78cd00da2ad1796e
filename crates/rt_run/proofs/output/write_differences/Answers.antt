use Rattle.std.proofs.Common.{List, ℕ, ◌≡◌, ◌==◌, ◌++◌, length, rules, ap, ◌∙◌}
use Rattle.rt_print.specs.DifferenceText.{differences_as, differences_header}
use Rattle.rt_run.proofs.Outputs.{headed-empty}
use Rattle.rt_run.proofs.output.write_differences.Goals as goal

pub returns : goal.returns
returns g c =
    let made = c.new-out.ensures in
    let wrote = c.write_headed_ranges-written.ensures in
    let text : List ℕ = differences_as c.args.options.now c.args.list.now in
    let empty : c.is_output_empty-is_empty.result ≡ (length (differences_header c.args.options.now ++ text) == 0) =
    (rw c.header.ensures at c.is_output_empty-is_empty.ensures)
    ∙ headed-empty (differences_header c.args.options.now) text c.is_empty.result (c.is_empty.ensures ∙ c.requires.empty) in
    c.finish-told.ensures.text c.new-out.result.writer.ghost_name (g.W.Write.contents c.args.w.now) _ (differences_header c.args.options.now ++ text) empty
    (rw (made.began, made.over.1, made.held, c.requires.new) at wrote)
    (λ one. ap g.W.Write.contents {y = c.finish-told.new.buffer.writer.now} (search rules))
