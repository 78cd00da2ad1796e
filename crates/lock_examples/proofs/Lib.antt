pub mod Core
pub mod Lock
