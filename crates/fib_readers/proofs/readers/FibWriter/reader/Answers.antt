use Rattle.fib_readers.proofs.Publishing.{admitted}
use Rattle.fib_readers.proofs.readers.FibWriter.reader.Goals as goal

pub reader-requires : goal.reader-requires
reader-requires c x views is = admitted _ views is
