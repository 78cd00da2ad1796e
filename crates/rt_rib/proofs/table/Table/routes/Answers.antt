use Rattle.rt_rib.proofs.table.Table.routes.Goals as goal

pub returns-clause-routes : goal.returns-clause-routes
returns-clause-routes g c = rw (← c.self.view_is) c.routes.ensures

pub returns-clause-table : goal.returns-clause-table
returns-clause-table g c = rw (← c.self.view_is) c.self.invariant.table
