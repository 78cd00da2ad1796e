use Rattle.std.proofs.Common.{◌≡◌, refl, ◌∙◌, ap, subst}
use Rattle.ya_core.specs.declared.word.Access.{Access}
use Rattle.ya_core.specs.Steps.{Accesses, access_of, next_of, value_of}
use Rattle.ya_core.specs.Machines.{processes_of}
use Rattle.ya_core.specs.FlatRow.{words_of}
use Rattle.ya_core.proofs.MachineSteps.{proper_here, within_here, machine_steps, machine_stays}
use Rattle.ya_core.proofs.machine.take_step.Goals as goal

pub access-access-requires-clause-proper : goal.access-access-requires-clause-proper
unfolding processes_of
access-access-requires-clause-proper c =
    rw c.levels-levels.ensures.value (proper_here _ _ _ _ c.requires.room c.requires.machine)

pub perform-value-requires-clause-within : goal.perform-value-requires-clause-within
unfolding processes_of
perform-value-requires-clause-within c =
    rw (c.access-access.ensures, c.levels-levels.ensures.value) (within_here _ _ _ _ c.requires.room c.requires.machine)

pub next-next-requires-clause-proper : goal.next-next-requires-clause-proper
unfolding processes_of
next-next-requires-clause-proper c =
    rw c.levels-levels.ensures.value (proper_here _ _ _ _ c.requires.room c.requires.machine)

pub returns : goal.returns
unfolding processes_of
returns c =
    let levels = c.args.shape.now in
    let words = c.args.words.now in
    let list = c.args.processes.now in
    let place = c.args.place in
    let access : c.access-access.result ≡ access_of levels place (processes_of list place) =
    rw (c.access-access.ensures, c.levels-levels.ensures.value) refl in
    let done : Accesses (access_of levels place (processes_of list place)) (words_of levels words)
    (words_of levels c.perform-value.new.words) =
    subst (λ (a : Access). Accesses a (words_of levels words)
    (words_of levels c.perform-value.new.words)) access c.perform-value.ensures.words in
    let value : c.perform-value.result ≡ value_of (words_of levels words)
    (access_of levels place (processes_of list place)) =
    c.perform-value.ensures.value ∙ ap (value_of (words_of levels words)) access in
    let goes : c.next-next.result ≡ next_of levels place (processes_of list place)
    (value_of (words_of levels words) (access_of levels place (processes_of list place))) =
    rw (c.next-next.ensures, c.levels-levels.ensures.value, value) refl in
    record {
      machine = machine_stays levels place words list c.requires.room c.requires.machine c.perform-value.new.words
          c.next-next.result done goes c.perform-value.auto.words;
      step = machine_steps levels place words list c.requires.room c.requires.machine c.perform-value.new.words
          c.next-next.result done goes;
      told = c.step_by.ensures ∙ cc;
    }
