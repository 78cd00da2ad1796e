-- Definitions that no public clause uses: the invariant on what is shown.
pub mod Published
