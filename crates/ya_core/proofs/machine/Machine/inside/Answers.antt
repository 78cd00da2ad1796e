use Rattle.std.proofs.Common.{◌≡◌, ℕ, ◌∙◌, ap, sym, subst, Option}
use Rattle.std.specs.List.{position}
use Rattle.ya_core.specs.Machines.{Rows, state_of}
use Rattle.ya_core.specs.inside.Machines.{rows}
use Rattle.ya_core.specs.Worlds.{ReportsInside, is_inside}
use Rattle.ya_core.proofs.MachineSteps.{inside_at}
use Rattle.ya_core.proofs.machine.Machine.inside.Goals as goal

pub returns : goal.returns
returns c =
    let machine = rows c.self.inside.shape c.self.inside.words.items c.self.inside.processes.items in
    let found : c.first_inside.result ≡ position is_inside machine.processes =
    c.first_inside.ensures ∙ ap (position is_inside) c.deref.ensures.value in
    subst (λ (m : Rows). ReportsInside (state_of m) c.first_inside.result) c.self.view_is
    (subst (λ (inside : Option ℕ). ReportsInside (state_of machine) inside) (sym found)
    (inside_at machine c.self.invariant))
