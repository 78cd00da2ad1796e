pub mod Cidr
pub mod Laws
pub mod Output
pub mod Prefix
pub mod Reading
pub mod ShortText
pub mod Text
pub mod inside
