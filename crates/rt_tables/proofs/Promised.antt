-- The lemmas of this crate that proofs of the crates above may cite, besides the contracts of its functions. No other
-- file of this directory is part of its interface.

-- the union of tables of different feeds contains exactly their routes, is a table, and is the only such table
pub use Rattle.rt_tables.proofs.Unions.{union_has_their_routes, union_is_table, one_union}
