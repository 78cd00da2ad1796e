use Rattle.fib_readers.proofs.Publishing.{first_shown}
use Rattle.fib_readers.proofs.readers.FibWriter.new.Goals as goal

pub new-requires-2-clause-rule : goal.new-requires-2-clause-rule
new-requires-2-clause-rule c = first_shown _
