use Rattle.std.proofs.Common.{ℕ, ◌∙◌}
use Rattle.rt_rib.specs.LookUp.{look_up}
use Rattle.rt_rib.proofs.Promised.{answered-map}
use Rattle.yarib_c.specs.Kinds.{routes_in}
use Rattle.yarib_c.specs.Forms.{answer_as}
use Rattle.yarib_c.specs.Calls.{addr}
use Rattle.yarib_c.proofs.lookups.answer_each.Goals as goal

pub returns : goal.returns
returns c =
    c.look_up_in_chunks.ensures
    ∙ answered-map (λ (a : ℕ). answer_as (look_up (addr a) (routes_in c.args.held.now))) c.args.addresses.now c.args.answers.now c.requires
