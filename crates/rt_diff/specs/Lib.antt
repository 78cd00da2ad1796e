pub mod Answers
pub mod Differences
pub mod Laws
pub mod inside
