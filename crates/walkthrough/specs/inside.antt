-- Definitions that no public clause uses.
pub mod JournalTold
pub mod TallyLaws
