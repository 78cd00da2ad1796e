use Rattle.std.proofs.Common.{rules}
use Rattle.rt_rib.proofs.book.Book.reserve.Goals as goal

pub returns-in_err-try_reserve-clause-err : goal.returns-in_err-try_reserve-clause-err
returns-in_err-try_reserve-clause-err g c = search rules

pub returns-clause-ok : goal.returns-clause-ok
returns-clause-ok g c = search rules

pub returns-in_err-try_reserve-clause-holds : goal.returns-in_err-try_reserve-clause-holds
returns-in_err-try_reserve-clause-holds g c = search rules

pub returns-clause-holds : goal.returns-clause-holds
returns-clause-holds g c = search rules
