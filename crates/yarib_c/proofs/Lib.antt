pub mod AnsweredCommands
pub mod AsBox
pub mod AttachedFib
pub mod Crossing
mod Examples
pub mod FilledLists
pub mod Outcomes
pub mod ParsedAddresses
pub mod ShownParts
pub mod TextLengths
pub mod SelectionParts
