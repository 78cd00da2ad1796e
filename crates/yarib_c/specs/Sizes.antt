-- The approximate size in bytes of what a handle holds.
use Rattle.std.specs.Prelude.{◌≡◌, ℕ, ◌+◌, ◌*◌, ◌^◌, ◌≤◌, min, true, length}
use Rattle.rt_rib.specs.Book.{OfferTrie}
use Rattle.yarib_c.specs.declared.held.Held.{Held}
use Rattle.yarib_c.specs.declared.held.Held.TheVariants.{Plain, Journaled, Forwarding}
use Rattle.yarib_c.specs.declared.sizes.TheConstants.{PREFIX_BYTES, NODE_BYTES, ENTRY_BYTES, MAX_COUNTED}

-- the size of `count` elements of this size each, counting at most as many as can exist
abbrev pub bytes_of : ℕ → ℕ → ℕ
bytes_of each count = each * min count MAX_COUNTED

-- the size of a trie whose prefixes have one offer each: as much for each prefix, and as much for each node
abbrev pub trie_bytes : OfferTrie → ℕ
trie_bytes trie = bytes_of PREFIX_BYTES (length trie.pairs) + bytes_of NODE_BYTES trie.nodes

-- the size of a table is at least that of its trie and of its journal's entries; a forwarding table has at least 64 MiB,
-- also if it belongs to a table
abbrev pub TakesBytes : Held → ℕ → Type 0
TakesBytes (Plain plain) bytes =
    (trie_bytes plain.table.trie ≤ bytes) × (plain.is_followed ≡ true → trie_bytes plain.table.trie + 2 ^ 26 ≤ bytes)
TakesBytes (Journaled book) bytes = trie_bytes book.trie + bytes_of ENTRY_BYTES (length book.journal) ≤ bytes
TakesBytes (Forwarding fib) bytes = 2 ^ 26 ≤ bytes
