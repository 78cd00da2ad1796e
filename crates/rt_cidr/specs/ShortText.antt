-- A short text that is built from back to front.
use Rattle.std.specs.Prelude.{ℕ, ◌+◌, ◌≤◌, List, length}
use Rattle.rt_cidr.specs.declared.short_text.TheConstants.{SHORT_TEXT_BYTES}

-- there is room for the text in front of the old one
abbrev pub FitsInShortText : List ℕ → List ℕ → Type 0
FitsInShortText text old = length text + length old ≤ SHORT_TEXT_BYTES
