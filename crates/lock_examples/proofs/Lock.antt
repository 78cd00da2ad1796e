-- Examples that test the definitions of ya_lock, in a file for each part of them. Both sides are computed; relations are
-- spelled out for some values. The value that the lock lends is a number here, which other places can only raise.
pub mod LockState
pub mod Rule
pub mod Passes
pub mod Steps
pub mod Bells
