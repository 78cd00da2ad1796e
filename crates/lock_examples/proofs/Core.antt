-- Examples that test the definitions of ya_core, in a file for each part of them. Both sides are computed; relations and
-- laws are spelled out for some values.
pub mod ArbitrationTree
pub mod Steps
pub mod WalkerModel
pub mod Soundness
pub mod Machines
pub mod Progress
pub mod Fairness
pub mod Worlds
