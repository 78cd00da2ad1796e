pub mod Placing
pub mod Leading
pub mod Others
pub mod Changing
pub mod Crossing
pub mod Shown
pub mod Promised
