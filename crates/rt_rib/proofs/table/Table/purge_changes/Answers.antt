use Rattle.rt_rib.proofs.table.Table.purge_changes.Goals as goal

pub returns-clause-changes : goal.returns-clause-changes
returns-clause-changes g c = rw (← c.self.view_is) c.new.ensures.changes

pub returns-clause-few : goal.returns-clause-few
returns-clause-few g c = rw (← c.self.view_is) c.new.ensures.few
