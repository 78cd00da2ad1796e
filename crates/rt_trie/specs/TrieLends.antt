-- The contents of a trie after a `&mut` to one of its values has ended.
use Rattle.std.specs.Prelude.{Option}
use Rattle.std.specs.Borrow.{LendsIf, Fml, RattleType, MutBor}
use Rattle.std.specs.declared.alloc.Allocator.{Ghosts}
use Rattle.rt_cidr.specs.declared.prefixes.Prefix.{Prefix}
use Rattle.rt_trie.specs.contracts.tries.Trie.{the_row}
use Rattle.rt_trie.specs.TrieContents.{TrieContents}
use Rattle.rt_trie.specs.Map.{put}

-- the contents with w at p
abbrev pub contents_with : {V : Type 0} → TrieContents V → Prefix → V → TrieContents V
contents_with t p w = record t { pairs = put t.pairs p w }

module _ (V A : RattleType) (alloc : Ghosts A.Denot) where
  -- the value at the prefix is the last one written through r; if r is `None`, the trie is unchanged
  abbrev pub lends_value : MutBor (TrieContents V.Denot) → Prefix → Option (MutBor V.Denot) → Fml
  lends_value t p r = LendsIf (the_row V A alloc) V t r (contents_with t.now p) t.now
