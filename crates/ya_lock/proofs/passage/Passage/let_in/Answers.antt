use Rattle.std.proofs.Common.{lit<, inr, refl}
use Rattle.ya_core.specs.declared.process.Process.TheVariants.{Leaving}
use Rattle.ya_core.specs.declared.process.ExitPoint.TheVariants.{X2}
use Rattle.ya_lock.proofs.EntrySteps.{plain_leaving, found_at}
use Rattle.ya_lock.proofs.Ways.{walks_on}
use Rattle.ya_lock.proofs.passage.Passage.let_in.Goals as goal

pub step-requires : goal.step-requires
step-requires g c = (lit< tt, plain_leaving c.args.self.now.walk c.requires.0 X2 c.requires.1 refl)

pub step_for-requires : goal.step_for-requires
step_for-requires g c =
    let x3 = c.in-Leaving-default-X3 in (
      lit< tt,
      (x3.field-0, inr (found_at (λ point. Leaving x3.field-0 point) c.self.view_is x3.ensures.value x3.field-1-is)),
    )

pub returns-in-Leaving-default-X3-clause-way : goal.returns-in-Leaving-default-X3-clause-way
returns-in-Leaving-default-X3-clause-way g c =
    walks_on c.args.self.now.walk c.step.new.self.walk c.step_for.new.self.walk c.step.ensures.way c.step_for.ensures.way
