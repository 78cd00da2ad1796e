-- Definitions that no public clause uses.
pub mod MarkLaws
