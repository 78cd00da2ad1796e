pub mod Promised
pub mod Crossing
pub mod EntriesInPieces
pub mod Passes
pub mod UncutVisits
pub mod RunJournals
pub mod TwoPasses
pub mod Debts
