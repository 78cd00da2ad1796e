use Rattle.ya_core.specs.Worlds.{any_entry}
use Rattle.ya_core.specs.contracts.laws.no_deadlock.{X-type}
use Rattle.std.proofs.Common.{ap, sym, ◌∙◌}
use Rattle.ya_core.proofs.Content.{kept}
use Rattle.ya_core.proofs.Deadlock.{someone_goes_on}
use Rattle.ya_core.proofs.Schedules.{can_enter_from, can_leave_from}
use Rattle.ya_core.proofs.Outcomes.{world_may_step, one_outcome}
use Rattle.ya_core.proofs.laws.no_deadlock.Goals as goal

pub returns-clause-states : goal.returns-clause-states
returns-clause-states g c = λ levels place s some is busy. someone_goes_on levels s some is place busy

pub returns-clause-way_in : goal.returns-clause-way_in
returns-clause-way_in g c = λ levels place s some is. can_enter_from levels some s is place

pub returns-clause-way_out : goal.returns-clause-way_out
returns-clause-way_out g c = λ levels place s some is. can_leave_from levels some s is place

pub returns-clause-worlds : goal.returns-clause-worlds
returns-clause-worlds g c = λ levels place events world some run busy.
    let one = someone_goes_on levels world.state some
    (kept {X = X-type g.row.X} levels any_entry some events world run).sound place busy in
    let next = world_may_step levels one.place world one.step.in_tree in
    let same = one_outcome levels one.place world.state next.0.state one.after next.1.state one.step in
    record {
      place = one.place;
      busy = one.busy;
      after = next.0;
      step = next.1;
      goes_on = λ e. one.goes_on (ap (λ t. t.processes one.place) (sym same) ∙ e);
    }
