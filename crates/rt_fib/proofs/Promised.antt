-- What this crate promises to those above it, beside the contracts of its functions: lemmas that their proofs may
-- cite. No other file of this folder is part of the promise.

-- that a thread may be given its table, and several may ask one
pub use Rattle.rt_fib.proofs.Crossing.{fib_send, fib_sync}
