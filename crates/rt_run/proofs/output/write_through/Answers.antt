use Rattle.std.proofs.Common.{rules, ap}
use Rattle.rt_run.proofs.output.write_through.Goals as goal

pub returns-clause-text : goal.returns-clause-text
returns-clause-text g c text empty prints =
    let made = c.new-out.ensures in
    let wrote = prints c.new-out.result c.print-written.result c.print-written.new.arg2 (search rules) in
    c.finish-told.ensures.text c.new-out.result.writer.ghost_name (g.W.Write.contents c.args.w.now) _ text empty
    (rw (made.began, made.over.1, made.held, c.requires.new) at wrote)
    (λ one. ap g.W.Write.contents {y = c.finish-told.new.buffer.writer.now} (search rules))
