use Rattle.rt_rib.specs.Maps.{routes_of}
use Rattle.rt_rib.proofs.CommandCases.{found, unfound, dumped}
use Rattle.rt_rib.proofs.table.Table.apply.Goals as goal

pub returns-after-best_of-clause-ok : goal.returns-after-best_of-clause-ok
returns-after-best_of-clause-ok g c =
    elim c.match-best_of.branch [
      | goal.in-Some w ↦
          rw (← c.self.view_is, c.in-Lookup.is, w.result-is)
          (found c.self.inside.limit (routes_of c.self.inside.map.pairs) c.args.feed c.in-Lookup.addr w.in-Some.route w.in-Some.ensures)
      | goal.in-None w ↦
          rw (← c.self.view_is, c.in-Lookup.is, w.result-is)
          (unfound c.self.inside.limit (routes_of c.self.inside.map.pairs) c.args.feed c.in-Lookup.addr w.in-None.ensures)
    ]

pub returns-in-Dump-clause-ok : goal.returns-in-Dump-clause-ok
returns-in-Dump-clause-ok g c = rw (c.in-Dump.is, c.len.ensures) (dumped c.args.self.now.limit c.args.self.now.routes c.args.feed)
