use Rattle.std.proofs.Common.{true, false, refl, ap, ◌∙◌, lit<}
use Rattle.ya_core.specs.declared.process.Process.TheVariants.{Idle}
use Rattle.ya_core.specs.WalkerModel.{walk}
use Rattle.ya_lock.specs.Lock.{IdlePass}
use Rattle.ya_lock.proofs.TreeSize.{place_below}
use Rattle.ya_lock.proofs.Ways.{comes_inside}
use Rattle.ya_lock.proofs.tree_lock.TreeLock.enter.Goals as goal

pub throttle_if_contended-crowd-requires : goal.throttle_if_contended-crowd-requires
throttle_if_contended-crowd-requires g c =
    let same = ap (λ (q : IdlePass g.row.V.Denot). q.lock) c.pass.view_is ∙ c.requires in
    let pass = c.pass.inside in (
      lit< tt,
      (
        place_below pass.seat.table_id c.args.self.now pass.place g.row.L g.row.L same
            c.holds_tree.ensures.words refl c.pass.invariant.in_tree,
        (false, (Idle, (pass.seen.value, (pass.remote, ap (λ m. m.0) c.pass.invariant.process)))),
      ),
    )

pub take_value-requires : goal.take_value-requires
take_value-requires g c = (lit< tt, c.acquire.ensures.inside)

pub returns-clause-walks : goal.returns-clause-walks
returns-clause-walks g c =
    comes_inside (walk g.row.L c.args.pass.place Idle true 0) c.begin.result.walk c.acquire.result.walk c.take_value.result.remote
    c.begin.ensures.walk c.acquire.ensures.way c.acquire.ensures.inside c.take_value.ensures.remote
