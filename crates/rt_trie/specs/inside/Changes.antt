-- The effect of an insertion and a removal on a link.
use Rattle.std.specs.Prelude.{◌≡◌, ℕ, ◌+◌, ◌^◌, ◌<◌, ◌++◌, ◌⊎◌, Bool, true, false, Option, None, IsSome, IfSome}
use Rattle.rt_cidr.specs.declared.prefixes.Prefix.{Prefix}
use Rattle.rt_trie.specs.declared.nodes.Link.{Link}
use Rattle.rt_trie.specs.declared.insertion.NewValue.{NewValue}
use Rattle.rt_trie.specs.Map.{get, put, erase}
use Rattle.rt_trie.specs.Halves.{IsChild}
use Rattle.rt_trie.specs.inside.Lawful.{IsFilled, IsLawfulTrie, IsChildLink}
use Rattle.rt_trie.specs.inside.Links.{pairs, count, IsVacant}

-- wherever the old link was a child, on either side of any parent, the new link is one too
abbrev pub StaysChild : {V A : Type 0} → Link V A → Link V A → Type 0
StaysChild old new = (parent : Prefix) (upper : Bool) → IsChildLink parent upper old → IsChildLink parent upper new

-- v was inserted at p: the link is lawful, and a child on each side where the old one was and p can be
pub record IsPut {V A : Type 0} (old new : Link V A) (p : Prefix) (v : V) : Type 0 where
  pub pairs_are : pairs new ≡ put (pairs old) p v
  pub lawful : IsLawfulTrie new
  pub filled : IsFilled new
  pub stays : (parent : Prefix) (upper : Bool) → IsChildLink parent upper old → IsChild parent upper p → IsChildLink parent upper new

-- the given value was inserted at p, `had` is the old value, and the number of nodes changed from n to m with the
-- link's
pub record IsInserted {V A : Type 0} (old new : Link V A) (n m : ℕ) (p : Prefix) (given had : Option V) : Type 0 where
  pub put : IfSome given (IsPut old new p)
  pub had_is : had ≡ get (pairs old) p
  pub counted : m + count old ≡ n + count new

-- memory ran out: nothing has changed, and p has no value, since replacing a value doesn't allocate
pub record IsRefused {V A : Type 0} (old new : Link V A) (n m : ℕ) (p : Prefix) (given back : Option V) : Type 0 where
  pub absent : get (pairs old) p ≡ None
  pub back_is : back ≡ given
  pub same : new ≡ old
  pub counted : m ≡ n

-- a value is given, and the number of nodes can grow by two
pub record IsGiven {V A : Type 0} (given : NewValue V A) : Type 0 where
  pub room : given.nodes + 2 < 2 ^ 64
  pub value : IsSome given.value

-- the effect of an insertion that returns whether it was done, on the link and on what was given
abbrev pub Inserts : {V A : Type 0} → Link V A → Link V A → Prefix → NewValue V A → NewValue V A → Bool → Type 0
Inserts old new p given after true = IsInserted old new given.nodes after.nodes p given.value after.value
Inserts old new p given after false = IsRefused old new given.nodes after.nodes p given.value after.value

-- p was removed: the link is lawful, and a child on each side where the old one was
pub record IsErased {V A : Type 0} (old new : Link V A) (p : Prefix) : Type 0 where
  pub pairs_are : pairs new ≡ erase (pairs old) p
  pub lawful : IsLawfulTrie new
  pub stays : StaysChild old new

-- a node that isn't needed was removed: the pairs are the same, and the link is lawful, and a child where the old one
-- was
pub record IsSpliced {V A : Type 0} (old new : Link V A) : Type 0 where
  pub pairs_are : pairs new ≡ pairs old
  pub lawful : IsLawfulTrie new
  pub stays : StaysChild old new

-- the sides of a node without a value, one of which is empty: together they have its pairs, they are lawful, and
-- children where the node is one
pub record AreSidesOf {V A : Type 0} (link left right : Link V A) : Type 0 where
  pub pairs_are : pairs link ≡ pairs left ++ pairs right
  pub counted : count link ≡ count left + count right + 1
  pub one : IsVacant left ⊎ IsVacant right
  pub left_lawful : IsLawfulTrie left
  pub right_lawful : IsLawfulTrie right
  pub left_stays : StaysChild link left
  pub right_stays : StaysChild link right
