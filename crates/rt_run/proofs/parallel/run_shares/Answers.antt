use Rattle.std.proofs.Common.{◌≡◌, List, length, map, subst, sym, refl, arith}
use Rattle.std.specs.declared.vec.Vec.{Vec}
use Rattle.std.specs.declared.alloc.Global.{Global}
use Rattle.rt_rib.specs.declared.routes.Route.{Route}
use Rattle.rt_rib.specs.Book.{TableContents}
use Rattle.rt_run.specs.declared.tallies.RejectedInput.{RejectedInput}
use Rattle.rt_run.specs.RunText.{RunContents, in_batches}
use Rattle.rt_run.specs.Shares.{AreShares, AreTalliesOfShares}
use Rattle.rt_run.specs.TableText.{LeavesTable}
use Rattle.rt_run.specs.inside.Runs.{AreTalliesOfEach}
use Rattle.rt_run.proofs.Dealt.{whole_of_shares}
use Rattle.rt_run.proofs.GivenBack.{given_by_shares}
use Rattle.rt_run.proofs.parallel.run_shares.Goals as goal

pub tallies_of-requires : goal.tallies_of-requires
tallies_of-requires g c =
    let told = c.in_ok-tables.told.items in
    let counted : c.count-count.result ≡ length c.args.input.now.texts = c.count-count.ensures.count in
    let each : AreTalliesOfEach c.count-count.result c.args.dealt.now (map (λ tallies. tallies.items) told) = rw counted (c.in_ok-tables.ensures {u = tt}).tallies in
    subst (λ (told : List (Vec RejectedInput Global)). AreTalliesOfEach c.count-count.result c.args.dealt.now (map (λ tallies. tallies.items) told)) (sym c.deref.ensures.value) each

pub new-requires-clause-apart : goal.new-requires-clause-apart
new-requires-clause-apart g c =
    c.shares.ensures.apart (in_batches 1 c.args.input.now) c.args.dealt.now _ _ ((c.in_ok-tables.ensures {u = tt}).shares 1 (omega arith))

pub returns-clause-ran : goal.returns-clause-ran
returns-clause-ran g c batch some =
    let asked : RunContents = in_batches batch c.args.input.now in
    let dealt = c.args.dealt.now in
    let tables : List (List Route) = map (λ (table : TableContents). table.routes) c.in_ok-tables.tables.items in
    let told : List (List RejectedInput) = map (λ (tallies : Vec RejectedInput Global). tallies.items) c.in_ok-tables.told.items in
    let shares : AreShares asked dealt tables told = (c.in_ok-tables.ensures {u = tt}).shares batch some in
    let tallies : AreTalliesOfShares asked dealt told c.in_ok-tallies.tallies.items =
    subst (λ (told : List (Vec RejectedInput Global)). AreTalliesOfShares asked dealt (map (λ tallies. tallies.items) told) c.in_ok-tallies.tallies.items) c.deref.ensures.value
    ((c.in_ok-tallies.ensures {u = tt}) asked (sym c.count-count.ensures.count)) in
    let whole = whole_of_shares c.table_by_entry.ensures c.union_is_table.ensures c.union_has_their_routes.ensures asked dealt tables told shares
    (c.shares.ensures.apart asked dealt tables told shares) in
    subst (λ (routes : List Route). LeavesTable asked routes c.in_ok-tallies.tallies.items) (sym c.new.ensures)
    (c.shares.ensures.one asked dealt tables told _ _ some shares whole tallies)

pub returns-clause-given_back : goal.returns-clause-given_back
returns-clause-given_back g c =
    let input = c.args.input.now in
    let asked : RunContents = in_batches 1 input in
    let told : List (List RejectedInput) = map (λ (tallies : Vec RejectedInput Global). tallies.items) c.in_ok-tables.told.items in
    let tallies : AreTalliesOfShares asked c.args.dealt.now told c.in_ok-tallies.tallies.items =
    subst (λ (told : List (Vec RejectedInput Global)). AreTalliesOfShares asked c.args.dealt.now (map (λ tallies. tallies.items) told) c.in_ok-tallies.tallies.items) c.deref.ensures.value
    ((c.in_ok-tallies.ensures {u = tt}) asked (sym c.count-count.ensures.count)) in
    given_by_shares input asked c.args.dealt.now told c.in_ok-tallies.tallies.items _ refl tallies (c.in_ok-tables.ensures {u = tt}).given_back

pub returns-clause-tallies : goal.returns-clause-tallies
returns-clause-tallies g c =
    let all = (c.in_ok-tallies.ensures {u = tt}) (in_batches 1 c.args.input.now) (sym c.count-count.ensures.count) in
    omega (arith, all.as_many, c.in_ok-tallies.tallies.ok.0)
