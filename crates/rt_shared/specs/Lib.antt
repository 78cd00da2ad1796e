pub mod JournalVisits
pub mod SharedTable
pub mod Laws
pub mod Headline
pub mod Moments
pub mod WakeUps
pub mod inside
