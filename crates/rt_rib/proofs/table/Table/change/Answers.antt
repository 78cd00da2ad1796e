use Rattle.rt_rib.proofs.table.Table.change.Goals as goal

pub returns-in-Add-clause-best : goal.returns-in-Add-clause-best
returns-in-Add-clause-best g c = rw c.in-Add.is c.add.ensures.best

pub returns-in-Replace-clause-best : goal.returns-in-Replace-clause-best
returns-in-Replace-clause-best g c = rw c.in-Replace.is c.replace.ensures.best

pub returns-in-Withdraw-clause-best : goal.returns-in-Withdraw-clause-best
returns-in-Withdraw-clause-best g c = rw c.in-Withdraw.is c.withdraw.ensures.best
