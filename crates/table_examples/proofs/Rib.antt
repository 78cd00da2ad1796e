-- Examples that test the definitions of rt_rib, in a file for each file of definitions, each under a line with the
-- definition's name. Both sides are computed; a relation or a theorem is spelled out for some values.
pub mod Values
pub mod Order
pub mod Table
pub mod Places
pub mod LookUp
pub mod Chunks
pub mod Selection
pub mod Changes
pub mod HopCounts
pub mod Sequential
pub mod Laws
pub mod Maps
pub mod Book
-- the values and examples that the examples of other crates use
pub use Rattle.table_examples.proofs.Rib.Values.{ten_1_16, at_10_1_2_3, entry, ten_2_16, ten_3_16, at_10_9_0_1, ten_9_16, via_192_0_2, route_via, tutorial}
pub use Rattle.table_examples.proofs.Rib.Sequential.{the_table_of_the_tutorial, the_journal_of_the_tutorial}
pub use Rattle.table_examples.proofs.Rib.Book.{empty_book, holds_no_route}
