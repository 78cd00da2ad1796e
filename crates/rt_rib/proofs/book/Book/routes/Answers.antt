use Rattle.std.proofs.Common.{rules}
use Rattle.rt_rib.proofs.book.Book.routes.Goals as goal

pub returns-clause-routes : goal.returns-clause-routes
returns-clause-routes g c = search rules
