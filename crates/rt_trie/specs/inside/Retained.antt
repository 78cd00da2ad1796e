-- What remains of a link after a filter was shown its pairs.
use Rattle.std.specs.Prelude.{Bool}
use Rattle.rt_cidr.specs.declared.prefixes.Prefix.{Prefix}
use Rattle.rt_trie.specs.declared.nodes.Link.{Link}
use Rattle.rt_trie.specs.inside.Links.{pairs}
use Rattle.rt_trie.specs.inside.Lawful.{IsLawfulTrie}
use Rattle.rt_trie.specs.inside.Changes.{StaysChild}
use Rattle.rt_trie.specs.Retained.{IsRetained}

module _ {V S : Type 0} (is_done : S → Bool) (judges : S → Prefix → V → S → V → Bool → Type 0) where
  -- the pairs of the link were shown to the filter one by one: the new link is lawful, and a child on each side where
  -- the old one was
  pub record IsRetainedLink {A : Type 0} (s t : S) (old new : Link V A) : Type 0 where
    pub retained : IsRetained is_done judges s t (pairs old) (pairs new)
    pub lawful : IsLawfulTrie new
    pub stays : StaysChild old new
