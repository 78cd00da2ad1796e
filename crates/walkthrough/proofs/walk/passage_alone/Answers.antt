use Rattle.std.proofs.Common.{arith, ap, ◌∙◌}
use Rattle.std.proofs.lemmas.Grind.{common_steps}
use Rattle.ya_core.specs.WalkerModel.{Walk}
use Rattle.walkthrough.proofs.Walks.{one_tree}
use Rattle.walkthrough.proofs.walk.passage_alone.Goals as goal

pub drive-walker-requires-2 : goal.drive-walker-requires-2
drive-walker-requires-2 c =
    let tree = ap (λ (w : Walk). w.levels) c.begin_exit.ensures
    ∙ one_tree c.begin_entry.new.self c.drive-walker.result c.drive-walker.ensures.leads in
    grind (arith, common_steps, tree)
