use Rattle.std.proofs.Common.{List, length, refl, ap, arith, rules}
use Rattle.rt_rib.specs.declared.routes.Route.{Route}
use Rattle.rt_tables.proofs.Improving.{no_answer}
use Rattle.rt_tables.proofs.Ranges.{holds_with_next, cursors_stay}
use Rattle.rt_tables.proofs.cursor.best_range.Goals as goal

pub loop-k-init : goal.loop-k-init
loop-k-init g c = record { same = refl; onward = search rules; holds = λ b from to. no_answer b }

pub loop-k-preserved : goal.loop-k-preserved
loop-k-preserved g c =
    let so_far = c.loop-k.invariant in
    let cursors : List (List Route) = c.loop-k.cursors in
    let tables : List (List Route) = c.args.cursors.now in
    let k = c.loop-k.k in
    let table : List Route = c.index-cursors-k.result in
    let asked = c.lookup_range-found.ensures in
    record {
      same = cursors_stay cursors tables k table so_far.same c.index-cursors-k.is c.lookup_range-found.new.self asked.kept;
      onward = search rules;
      holds =
          holds_with_next cursors tables k table so_far.same c.index-cursors-k.is c.loop-k.best c.lookup_range-found.result.0 c.better_of-best.result c.args.addr
          c.loop-k.last c.lookup_range-found.result.1 (record { 0 = c.min.result }) c.requires
          (omega (arith, c.loop-k-test.true, ap length so_far.same)) so_far.holds asked.same c.better_of-best.ensures c.min.ensures;
    }
