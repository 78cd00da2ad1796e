use Rattle.std.proofs.Common.{◌∙◌, take, ap}
use Rattle.std.proofs.lemmas.List.{take_min}
use Rattle.rt_run.specs.declared.rendering.TheConstants.{PIECE_ITEMS}
use Rattle.rt_run.proofs.rendering.piece_at.Goals as goal

pub returns : goal.returns
returns g c =
    let rest = c.split_at.result.1.now in
    c.split_at-2.ensures.front ∙ (ap (λ n. take n rest) c.min.ensures ∙ (take_min PIECE_ITEMS rest ∙ ap (λ xs. take PIECE_ITEMS xs) c.split_at.ensures.back))
