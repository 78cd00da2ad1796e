-- A link after a `&mut` into it has ended.
use Rattle.std.specs.Prelude.{ℕ, Option}
use Rattle.std.specs.Borrow.{LendsIf, Fml, RattleType, MutBor}
use Rattle.std.specs.declared.alloc.Allocator.{Ghosts}
use Rattle.rt_cidr.specs.declared.prefixes.Prefix.{Prefix}
use Rattle.rt_trie.specs.declared.nodes.Link.{Link}
use Rattle.rt_trie.specs.contracts.nodes.Link.{the_row}
use Rattle.rt_trie.specs.inside.Descent.{written}

module _ (V A : RattleType) (alloc : Ghosts A.Denot) where
  -- the value at the prefix is the last one written through r; if r is `None`, the link is unchanged
  abbrev pub lends_found : ℕ → MutBor (Link V.Denot A.Denot) → Prefix → Option (MutBor V.Denot) → Fml
  lends_found d s p r = LendsIf (the_row V A alloc) V s r (written d s.now p) s.now
