use Rattle.std.proofs.Common.{◌≡◌, ◌+◌, Option, set, get_or, None, ap, ◌∙◌, arith}
use Rattle.std.proofs.lemmas.List.{get_or_default}
use Rattle.rt_cidr.specs.declared.address.Addr.{Addr}
use Rattle.rt_rib.specs.declared.routes.Route.{Route}
use Rattle.rt_rib.specs.LookUp.{look_up}
use Rattle.rt_rib.proofs.Promised.{answered_more, answer_read}
use Rattle.rt_tables.specs.inside.Answers.{better_of}
use Rattle.rt_tables.proofs.lookups.ImprovementChunkLookupAddrOptionRoute.look_up_chunk.Goals as goal

same_better : (a b c d : Option Route) → a ≡ c → b ≡ d → better_of a b ≡ better_of c d
same_better a b c d first second = ap (λ x. better_of x b) first ∙ ap (better_of c) second

pub loop-k-preserved : goal.loop-k-preserved
loop-k-preserved g c =
    let k = c.loop-k.k in
    let addresses = c.args.addresses.now in
    let table = c.args.self.now.table.now.routes in
    let first : Addr = record { 0 = 0 } in
    let new = c.better_of.result in
    let earlier = c.index-answers-k.is ∙ get_or_default c.loop-k.answers k _ None (omega (arith, c.loop-k.auto.answers, c.requires.size, c.loop-k-test.true))
    ∙ ap (λ l. get_or l k None) c.loop-k.invariant in
    let here = answer_read (λ (addr : Addr). look_up addr table) addresses c.look_up_each.new.answers _ k first c.index-found-k.result c.loop-k-test.true
    c.look_up_each.ensures in
    ap (λ l. set l k new) c.loop-k.invariant
    ∙ answered_more (λ (addr : Addr) earlier. better_of earlier (look_up addr table)) k (k + 1) addresses c.args.answers.now first None new
    (omega arith) c.loop-k-test.true c.requires.size (c.better_of.ensures ∙ same_better _ _ _ _ earlier here)
