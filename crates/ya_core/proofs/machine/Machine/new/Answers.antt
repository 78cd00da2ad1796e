use Rattle.std.proofs.Common.{ap, ◌∙◌, replicate}
use Rattle.ya_core.proofs.MachineSteps.{opening_row, opening_machine, some_level}
use Rattle.ya_core.specs.declared.process.Process.TheVariants.{Idle}
use Rattle.ya_core.proofs.machine.Machine.new.Goals as goal

pub invariant_of-result : goal.invariant_of-result
invariant_of-result c =
    opening_machine c.args.shape c.in_ok-words.words.items c.in_ok-processes.processes.items
    (some_level c.args.shape c.places.result c.places.ensures.value c.places.ensures.least)
    (c.in_ok-words.ensures.items_if_clones_equal (λ y h. h) ∙ ap (λ n. replicate n 0) c.words.ensures)
    (c.in_ok-processes.ensures.items_if_clones_equal (λ y h. h) ∙ ap (λ n. replicate n Idle) c.places.ensures.value)

pub returns-clause-start : goal.returns-clause-start
returns-clause-start c =
    opening_row c.args.shape c.in_ok-words.words.items c.in_ok-processes.processes.items
    (c.in_ok-words.ensures.items_if_clones_equal (λ y h. h) ∙ ap (λ n. replicate n 0) c.words.ensures)
    (c.in_ok-processes.ensures.items_if_clones_equal (λ y h. h) ∙ ap (λ n. replicate n Idle) c.places.ensures.value)
