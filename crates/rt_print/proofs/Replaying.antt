-- A replay: its text is not empty, and why the place of its last line is inside after its steps.
use Rattle.std.proofs.Common.{ℕ, ◌<◌, ◌≤◌, List, length, arith, length-append, Option, None, ◌≡◌, [], ◌∷◌, fold, ◌==◌, false, if◌then◌else◌, Some}
use Rattle.std.specs.Option.{option_map_or}
use Rattle.ya_core.specs.declared.step.Step.{Step}
use Rattle.rt_print.specs.ReplayText.{inside_text, replay_text_of}
use Rattle.std.proofs.lemmas.Bool.Decides.{nat_tests}
use Rattle.ya_core.specs.Steps.{State, StepsTo, opening, access_of, next_of, value_of}
use Rattle.ya_core.specs.Soundness.{IsSoundState}
use Rattle.ya_core.specs.Machines.{ReplaysTo, mark_of}
use Rattle.ya_core.specs.Worlds.{ReportsInside, is_inside}
use Rattle.ya_core.proofs.Promised.{opens, keeps, excludes}
use Rattle.rt_print.specs.inside.Parts.{inside_next, inside_after}

-- the text of a replay is not empty
pub replay_text-some : (steps : List Step) (inside : Option ℕ) → 0 < length (replay_text_of steps inside)
unfolding inside_text
replay_text-some steps inside = grind (arith, length-append)

module _ (levels place : ℕ) (s after : State) (some : 1 ≤ levels) (sound : IsSoundState levels after) (step : StepsTo levels place s after) where
  -- the step's mark and place determine the place that is inside after it
  tells_next : (inside : Option ℕ) → ReportsInside s inside → ReportsInside after (inside_next inside place (mark_of (next_of levels place (s.processes place) (value_of s.words (access_of levels place (s.processes place))))))
  tells_next inside tells q =
      let next = next_of levels place (s.processes place) (value_of s.words (access_of levels place (s.processes place))) in
      let marked : inside_next inside place (mark_of next)
      ≡ (if is_inside (after.processes place) then Some place else if option_map_or (λ p. p == place) inside false then None else inside)
      = grind (arith, step.process) in
      rw marked (grind (arith, nat_tests, tells, step.others q, excludes levels place q after some sound))

-- the same for all steps, one after another
tells_from : (levels : ℕ) (picks : List ℕ) (steps : List Step) (s last : State) (inside : Option ℕ) → 1 ≤ levels → IsSoundState levels s → ReportsInside s inside
    → ReplaysTo levels s picks steps last → ReportsInside last (fold (λ inside step. inside_next inside step.place step.mark) inside steps)
tells_from levels [] [] s last inside some sound tells run = rw run tells
tells_from levels (place ∷ picks) (step ∷ steps) s last inside some sound tells run =
    let kept = keeps levels place s run.0 some sound run.1 in
    let next = tells_next levels place s run.0 some kept run.1 inside tells in
    tells_from levels picks steps run.0 last (inside_next inside step.place step.mark) some kept (rw run.2 next) run.3
tells_from levels [] (step ∷ steps) s last inside some sound tells run = absurd run
tells_from levels (place ∷ picks) [] s last inside some sound tells run = absurd run

-- the place that is inside after the steps of a replay is inside in the state after these steps
pub tells_after : (levels : ℕ) (picks : List ℕ) (steps : List Step) (last : State) → 1 ≤ levels
    → ReplaysTo levels opening picks steps last → ReportsInside last (inside_after steps)
tells_after levels picks steps last some run =
    tells_from levels picks steps opening last None some (opens levels) (λ place. (λ e. absurd cc, λ h. absurd cc)) run
