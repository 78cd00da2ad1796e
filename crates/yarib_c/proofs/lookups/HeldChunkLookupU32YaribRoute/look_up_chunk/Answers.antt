use Rattle.std.proofs.Common.{ℕ, ◌+◌, Option, set, ap, ◌∙◌, arith}
use Rattle.rt_rib.specs.declared.routes.Route.{Route}
use Rattle.rt_rib.specs.LookUp.{look_up}
use Rattle.rt_rib.proofs.Promised.{answered_more, answer_read}
use Rattle.yarib_c.specs.Kinds.{routes_in}
use Rattle.yarib_c.specs.Forms.{answer_as}
use Rattle.yarib_c.specs.Calls.{addr}
use Rattle.yarib_c.proofs.lookups.HeldChunkLookupU32YaribRoute.look_up_chunk.Goals as goal

pub loop-k-preserved : goal.loop-k-preserved
loop-k-preserved c =
    let k = c.loop-k.k in
    let addresses = c.args.addresses.now in
    let routes = routes_in c.args.self.now in
    let new = c.answer.result in
    let found = answer_read (λ (a : ℕ). look_up (addr a) routes) addresses c.look_up_numbers.new.answers _ k 0 c.index-found-k.result c.loop-k-test.true
    c.look_up_numbers.ensures in
    ap (λ l. set l k new) c.loop-k.invariant
    ∙ answered_more (λ (a : ℕ) earlier. answer_as (look_up (addr a) routes)) k (k + 1) addresses c.args.answers.now 0 new new
    (omega arith) c.loop-k-test.true c.requires.size (c.answer.ensures ∙ ap (λ (o : Option Route). answer_as o) found)
