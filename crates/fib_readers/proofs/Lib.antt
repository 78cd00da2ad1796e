pub mod Publishing
pub mod Crossing
