-- What a walk has still to return: the pairs of the links on its stack, the last one first.
use Rattle.std.specs.Prelude.{◌≡◌, ℕ, zero, suc, ◌+◌, ◌<◌, ◌≤◌, ◌++◌, List, [], Option, Some, None, IfSome, IsSomeAnd, length}
use Rattle.std.specs.Borrow.{Bor}
use Rattle.rt_cidr.specs.declared.prefixes.Prefix.{Prefix}
use Rattle.rt_trie.specs.declared.nodes.Link.{Link}
use Rattle.rt_trie.specs.declared.nodes.TheConstants.{PLACES}
use Rattle.rt_trie.specs.declared.walks.StepTo.{StepTo}
use Rattle.rt_trie.specs.declared.walks.StepTo.TheVariants.{Whole, Nothing, Lower, Upper}
use Rattle.rt_trie.specs.Map.{Pairs}
use Rattle.rt_trie.specs.FromPrefix.{from_prefix}
use Rattle.rt_trie.specs.inside.References.{link_at}
use Rattle.rt_trie.specs.inside.Links.{pairs, count}
use Rattle.rt_trie.specs.inside.Lawful.{root, IsFilled, IsLawfulTrie}

-- the pairs of a link, if there is one
abbrev pub pairs_of : {V A : Type 0} → Option (Link V A) → Pairs V
pairs_of None = []
pairs_of (Some link) = pairs link

-- the pairs of the first links of the list, the last of them first
abbrev pub stack_pairs : {V A : Type 0} → List (Bor (Link V A)) → ℕ → Pairs V
stack_pairs xs zero = []
stack_pairs xs (suc k) = pairs_of (link_at xs k) ++ stack_pairs xs k

-- the link is lawful, and its node, if it has one, has at least length k
abbrev pub IsFrom : {V A : Type 0} → ℕ → Link V A → Type 0
IsFrom k link = IsLawfulTrie link × IfSome (root link) (λ q. k ≤ q.len)

-- the links of the stack are lawful, and the node at each index is at least as long as the index
pub record IsWalkStack {V A : Type 0} (xs : List (Bor (Link V A))) (len : ℕ) : Type 0 where
  pub size : length xs ≡ PLACES
  pub few : len ≤ PLACES
  pub each : (k : ℕ) → k < len → IsSomeAnd (link_at xs k) (IsFrom k)

-- a lawful link with fewer nodes than the other, whose node, if it has one, is longer than the other's
pub record IsSideOf {V A : Type 0} (link side : Link V A) : Type 0 where
  pub lawful : IsLawfulTrie side
  pub fewer : count side < count link
  pub above : (k : ℕ) → IsFrom k link → (k ≤ 32) × IsFrom (k + 1) side

-- the step says where the pairs of the link from p on are, and its sides are lawful, with fewer nodes
abbrev pub IsStepTo : {V A : Type 0} → Link V A → Prefix → StepTo V A → Type 0
IsStepTo link p Whole = (from_prefix (pairs link) p ≡ pairs link) × IsFilled link
IsStepTo link p Nothing = from_prefix (pairs link) p ≡ []
IsStepTo link p (Lower left right) =
    (from_prefix (pairs link) p ≡ from_prefix (pairs left.now) p ++ pairs right.now) × IsSideOf link left.now × IsSideOf link right.now
IsStepTo link p (Upper right) = (from_prefix (pairs link) p ≡ from_prefix (pairs right.now) p) × IsSideOf link right.now
