-- The lemmas of this crate that proofs of the crates above may cite, besides the contracts of its functions. No other
-- file of this directory is part of its interface.

-- a prefix covers some address, and two prefixes with the same base and length are equal
pub use Rattle.rt_cidr.proofs.Ranges.{size_pos, prefix_by_parts}
-- how a short text grows piece by piece
pub use Rattle.rt_cidr.proofs.ShortTexts.{prepending}
-- the maximum lengths of the texts of numbers, addresses and prefixes
pub use Rattle.rt_cidr.proofs.ShortTexts.{length-decimal, length-address_text, length-prefix_text}
-- the contents of a writer after one text and then another, and after an error
pub use Rattle.rt_cidr.proofs.Outputs.{appends_after, begins_after, begins_longer}
-- the text written for a number, an address and a prefix denotes it, and a text denotes at most one pair
pub use Rattle.rt_cidr.proofs.Texts.{decimal_is_decimal, decimal_one_number, address_text_is_address, pair_one_value}
pub use Rattle.rt_cidr.proofs.OneAnswer.{prefix_is_written}
