pub mod Lists
pub mod Rest
pub mod Parts
pub mod Deciding
pub mod Equality
pub mod Existence
pub mod Uniqueness
