-- A map of two pairs.
use Rattle.std.specs.Prelude.{ℕ, []}
use Rattle.rt_cidr.specs.declared.prefixes.Prefix.{Prefix}
use Rattle.rt_trie.specs.Map.{Pairs, put}

-- the empty map after inserting the first pair, and then the second
unfoldable pub map_of : Prefix × ℕ → Prefix × ℕ → Pairs ℕ
map_of wide narrow = put (put [] wide.0 wide.1) narrow.0 narrow.1
