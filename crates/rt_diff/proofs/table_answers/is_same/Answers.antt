use Rattle.std.proofs.Common.{sym, ◌∙◌}
use Rattle.rt_diff.proofs.Equality.{answers}
use Rattle.rt_diff.proofs.table_answers.is_same.Goals as goal

pub returns : goal.returns
returns c =
    let decides = answers c.args.one.now c.args.other.now in
    (λ is. decides.0 (sym c.eq.ensures ∙ is), λ same. c.eq.ensures ∙ decides.1 same)
