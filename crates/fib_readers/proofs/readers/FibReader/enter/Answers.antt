use Rattle.fib_readers.proofs.Publishing.{looked}
use Rattle.fib_readers.proofs.readers.FibReader.enter.Goals as goal

pub enter_as-requires : goal.enter_as-requires
enter_as-requires c x views is there = let after = looked _ _ _ views is there in (is.0, after.0, (after.1, after.2))
