pub mod Batches
pub mod JournalTold
pub mod Walks
