use Rattle.std.proofs.Common.{subst}
use Rattle.ya_core.specs.Soundness.{IsSoundState}
use Rattle.ya_core.specs.Machines.{Rows, state_of}
use Rattle.ya_core.proofs.machine.Machine.holds.Goals as goal

pub returns : goal.returns
returns c = subst (λ (m : Rows). IsSoundState m.levels (state_of m)) c.self.view_is c.self.invariant.sound
