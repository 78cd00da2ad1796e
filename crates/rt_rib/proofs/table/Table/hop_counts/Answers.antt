use Rattle.std.proofs.Common.{◌<◌, ◌^◌, length, ap, arith}
use Rattle.rt_rib.proofs.MapRoutes.{pairs_few}
use Rattle.rt_rib.proofs.table.Table.hop_counts.Goals as goal

pub hop_counts-requires : goal.hop_counts-requires
hop_counts-requires g c =
    let held = c.holds.ensures in
    let few = pairs_few c.args.self.now.trie.pairs held.map in
    let many = ap length held.exactly in
    let bound : length c.args.self.now.trie.pairs < 2 ^ 32 = omega (arith, few, many, c.len-routes.ensures) in
    record { few = rw (← c.self.view_is) at bound }

pub returns-clause-counts : goal.returns-clause-counts
returns-clause-counts g c = rw (← c.self.view_is) c.hop_counts.ensures.counts

pub returns-clause-all : goal.returns-clause-all
returns-clause-all g c = rw (← c.self.view_is) c.hop_counts.ensures.all
