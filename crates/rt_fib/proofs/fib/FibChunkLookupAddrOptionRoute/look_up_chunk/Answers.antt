use Rattle.std.proofs.Common.{◌≡◌, ◌+◌, List, set, get_or, None, ap, subst, ◌∙◌, arith}
use Rattle.rt_cidr.specs.declared.address.Addr.{Addr}
use Rattle.rt_rib.specs.declared.routes.Route.{Route}
use Rattle.rt_rib.specs.LookUp.{look_up}
use Rattle.rt_rib.proofs.Promised.{answered_more}
use Rattle.rt_fib.specs.inside.Entries.{at}
use Rattle.rt_fib.proofs.fib.FibChunkLookupAddrOptionRoute.look_up_chunk.Goals as goal

pub answers-preserved : goal.answers-preserved
answers-preserved g c =
    let k = c.answers.k in
    let new = c.answer_by.result in
    ap (λ l. set l k new) c.answers.invariant
    ∙ answered_more (λ (addr : Addr) earlier. look_up addr c.args.self.now) k (k + 1) c.args.addresses.now c.args.answers.now (at 0) None new
    (omega arith) c.answers-test.true c.requires.size
    (subst (λ (routes : List Route). new ≡ look_up (get_or c.args.addresses.now k (at 0)) routes) c.self.view_is c.answer_by.ensures)
