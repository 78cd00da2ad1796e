pub mod Readers
pub mod inside
