pub mod Unions
pub mod Laws
pub mod inside
