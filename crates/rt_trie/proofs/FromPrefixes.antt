-- The pairs from a prefix on: those on the sides of a node, by the position of the prefix relative to the node, and
-- those on a walk's stack.
use Rattle.std.proofs.Common.{◌≡◌, ℕ, suc, ◌+◌, ◌<◌, ◌≤◌, ◌⊎◌, true, false, [], ◌∷◌, ◌++◌, List, length, Option, Some, None}
use Rattle.std.proofs.Common.{inl, inr, refl, sym, subst, ap, ◌∙◌, arith}
use Rattle.std.proofs.lemmas.Bool.{cases_lt, false≢true}
use Rattle.std.proofs.lemmas.List.Elements.{filter-append}
use Rattle.std.specs.Prelude.{not, IfSome, IsSome, IsSomeAnd}
use Rattle.std.specs.Borrow.{Bor}
use Rattle.rt_cidr.specs.declared.prefixes.Prefix.{Prefix}
use Rattle.rt_cidr.proofs.Promised.{size_pos}
use Rattle.rt_trie.specs.declared.nodes.Link.{Link}
use Rattle.rt_trie.specs.declared.nodes.Position.{Position}
use Rattle.rt_trie.specs.declared.nodes.Position.TheVariants.{Here, Left, Right, Above, Apart}
use Rattle.rt_trie.specs.declared.nodes.TheConstants.{PLACES}
use Rattle.rt_trie.specs.Map.{Pairs, before, IsBeforeAll, IsOrdered}
use Rattle.rt_trie.specs.FromPrefix.{from_prefix}
use Rattle.rt_trie.specs.Halves.{IsInBlock, IsChild, middle, past}
use Rattle.rt_trie.specs.inside.Blocks.{StandsAt}
use Rattle.rt_trie.specs.inside.References.{link_at}
use Rattle.rt_trie.specs.inside.Links.{own_pair, pairs, count, IsNode}
use Rattle.rt_trie.specs.inside.Lawful.{root, IsFilled, IsLawfulTrie}
use Rattle.rt_trie.specs.inside.WalkStack.{stack_pairs, IsFrom, IsSideOf, IsWalkStack}
use Rattle.rt_trie.proofs.JoinedPairs.{AllKeys, AllKeys-map}
use Rattle.rt_trie.proofs.LinkOrder.{AllWithin, sides_of, if_some_map}
use Rattle.rt_trie.proofs.PrefixOrder.{rank, lower_rank, higher_rank, rank_of_before, rank_of_not_before, before_tells}
use Rattle.rt_trie.proofs.WalkStacks.{longer_root, rest_below}
use Rattle.rt_trie.proofs.WithinPairs.{all_within}

module _ {V : Type 0} (p : Prefix) where
  from-all : (xs : Pairs V) → AllKeys (λ x. rank p ≤ rank x) xs → from_prefix xs p ≡ xs
  from-all [] h = refl
  from-all ((q, v) ∷ xs) h = rw (higher_rank q p h.0) (ap (λ m. (q, v) ∷ m) (from-all xs h.1))

  from-none : (xs : Pairs V) → AllKeys (λ x. rank x < rank p) xs → from_prefix xs p ≡ []
  from-none [] h = refl
  from-none ((q, v) ∷ xs) h = rw (lower_rank q p h.0) (from-none xs h.1)

  from-append : (xs ys : Pairs V) → from_prefix (xs ++ ys) p ≡ from_prefix xs p ++ from_prefix ys p
  from-append xs ys = filter-append (λ x. not (before x.0 p)) xs ys

  from_own : (q : Prefix) (v : Option V) → rank q < rank p → from_prefix (own_pair q v) p ≡ []
  from_own q None h = refl
  from_own q (Some v) h = rw (lower_rank q p h) refl

  -- filtering keeps the pairs in order
  before-from : (q : Prefix) (m : Pairs V) → IsBeforeAll q m → IsBeforeAll q (from_prefix m p)
  before-from q [] h = tt
  before-from q ((x, v) ∷ m) h = elim (before_tells x p) [
    | inl b ↦ rw b.0 (before-from q m h.1)
    | inr b ↦ rw b.0 (h.0, before-from q m h.1)
  ]

  pub ordered_from : (m : Pairs V) → IsOrdered m → IsOrdered (from_prefix m p)
  ordered_from [] h = tt
  ordered_from ((x, v) ∷ m) h = elim (before_tells x p) [
    | inl b ↦ rw b.0 (ordered_from m h.1)
    | inr b ↦ rw b.0 (before-from x m h.0, ordered_from m h.1)
  ]

-- a prefix at another or in it isn't earlier in the order; one whose block ends before p's addresses comes before p
no_earlier : (q x : Prefix) → IsInBlock q.base (past q) q.len x → rank q ≤ rank x
no_earlier q x w = omega (arith, w.long, w.from)

ends_earlier : (lo hi len : ℕ) (p x : Prefix) → hi ≤ p.base → IsInBlock lo hi len x → rank x < rank p
ends_earlier lo hi len p x h w = let s = x.is_prefix.short in omega (arith, w.to, size_pos x.len)

begins_later : (lo hi len : ℕ) (p x : Prefix) → past p ≤ lo → IsInBlock lo hi len x → rank p ≤ rank x
begins_later lo hi len p x h w = let s = p.is_prefix.short in omega (arith, w.from, size_pos p.len)

module _ {V A : Type 0} (link : Link V A) (q : Prefix) (v : Option V) (left right : Link V A) (n : IsNode link q v left right) (p : Prefix) where
  -- if the node's own pair comes before p, the pairs from p on are those on the sides
  parts : rank q < rank p → from_prefix (pairs link) p ≡ from_prefix (pairs left) p ++ from_prefix (pairs right) p
  parts h =
      ap (λ m. from_prefix m p) n.pairs_are ∙ from-append p (own_pair q v) (pairs left ++ pairs right)
      ∙ ap (λ m. m ++ from_prefix (pairs left ++ pairs right) p) (from_own p q v h) ∙ from-append p (pairs left) (pairs right)

  whole_block : AllWithin q.base (past q) q.len (pairs link)
  whole_block =
      all_within link q v left right n q.base (past q) q.len (record { long = omega arith; from = omega arith; to = omega arith })

  -- if the node's prefix is at or after p, all pairs are from p on
  pub from_whole : before q p ≡ false → from_prefix (pairs link) p ≡ pairs link
  from_whole h =
      let b = rank_of_not_before q p h in
      from-all p (pairs link) (AllKeys-map (IsInBlock q.base (past q) q.len) (λ x. rank p ≤ rank x) (pairs link)
      (λ x w. omega (arith, b, no_earlier q x w)) whole_block)

  -- if the node's prefix comes before p, and p isn't on one of its sides, no pair is from p on
  pub from_nothing : (r : Position) → StandsAt q p r → (r ≡ Here) ⊎ ((r ≡ Above) ⊎ (r ≡ Apart)) → before q p ≡ true
      → from_prefix (pairs link) p ≡ []
  from_nothing r s e h =
      from-none p (pairs link) (AllKeys-map (IsInBlock q.base (past q) q.len) (λ x. rank x < rank p) (pairs link)
      (λ x. ends_earlier q.base (past q) q.len p x (behind r s e (rank_of_before q p h))) whole_block)
    where
      behind : (r : Position) → StandsAt q p r → (r ≡ Here) ⊎ ((r ≡ Above) ⊎ (r ≡ Apart)) → rank q < rank p → past q ≤ p.base
      behind r s e less = elim e [
        | inl i ↦ let same : p ≡ q = subst (StandsAt q p) i s in absurd (omega (arith, less, ap rank same))
        | inr rest ↦ elim rest [
          | inl i ↦ let w : IsInBlock p.base (past p) (p.len + 1) q = subst (StandsAt q p) i s in absurd (omega (arith, less, w.from, w.long))
          | inr i ↦ let w : (past q ≤ p.base) ⊎ (past p ≤ q.base) = subst (StandsAt q p) i s in elim w [
            | inl k ↦ k
            | inr k ↦ let t = p.is_prefix.short in absurd (omega (arith, less, size_pos p.len))
          ]
        ]
      ]

  -- if p is on the lower side, the pairs are those there from p on, and all on the upper side
  pub from_lower : (r : Position) → StandsAt q p r → r ≡ Left → from_prefix (pairs link) p ≡ from_prefix (pairs left) p ++ pairs right
  from_lower r s e =
      let c : IsChild q false p = subst (StandsAt q p) e s in
      parts (omega (arith, c.long, c.from)) ∙ ap (λ m. from_prefix (pairs left) p ++ m)
      (from-all p (pairs right) (AllKeys-map (IsInBlock (middle q) (past q) (q.len + 1)) (λ x. rank p ≤ rank x) (pairs right)
      (λ x. begins_later (middle q) (past q) (q.len + 1) p x c.to) (sides_of link q v left right n).upper))

  -- if p is on the upper side, the pairs are those there from p on
  pub from_upper : (r : Position) → StandsAt q p r → r ≡ Right → from_prefix (pairs link) p ≡ from_prefix (pairs right) p
  from_upper r s e =
      let c : IsChild q true p = subst (StandsAt q p) e s in
      parts (omega (arith, c.long, c.from)) ∙ ap (λ m. m ++ from_prefix (pairs right) p)
      (from-none p (pairs left) (AllKeys-map (IsInBlock q.base (middle q) (q.len + 1)) (λ x. rank x < rank p) (pairs left)
      (λ x. ends_earlier q.base (middle q) (q.len + 1) p x c.from) (sides_of link q v left right n).lower))

  pub left_side : IsSideOf link left
  left_side = record {
    lawful = n.left_lawful;
    fewer = omega (arith, n.count_is);
    above = λ k from.
        let deep = longer_root k (root link) q n.root_is from.1 in
        let s = q.is_prefix.short in
        (omega arith, (n.left_lawful, if_some_map (root left) (IsChild q false) (λ x. k + 1 ≤ x.len) (λ x c. omega (arith, c.long)) n.halves.lower));
  }

  pub right_side : IsSideOf link right
  right_side = record {
    lawful = n.right_lawful;
    fewer = omega (arith, n.count_is);
    above = λ k from.
        let deep = longer_root k (root link) q n.root_is from.1 in
        let s = q.is_prefix.short in
        (omega arith, (n.right_lawful, if_some_map (root right) (IsChild q true) (λ x. k + 1 ≤ x.len) (λ x c. omega (arith, c.long)) n.halves.upper));
  }

room_of : (o : Option Prefix) (k : ℕ) → IfSome o (λ q. k ≤ q.len) → IsSome o → k ≤ 32
room_of None k h f = absurd (false≢true f)
room_of (Some q) k h f = let s = q.is_prefix.short in omega (arith, h)

module _ {V A : Type 0} where
  -- a link with a node fits on the stack at each index up to the node's length
  pub filled_room : (link : Link V A) (k : ℕ) → IsFrom k link → IsFilled link → k ≤ 32
  filled_room link k from f = room_of (root link) k from.1 f

  pub from_less : (link : Link V A) (k : ℕ) → IsFrom (k + 1) link → IsFrom k link
  from_less link k from = (from.0, if_some_map (root link) (λ q. k + 1 ≤ q.len) (λ q. k ≤ q.len) (λ q l. omega (arith, l)) from.1)

  -- a link is pushed on the stack
  pub pushed : (xs ys : List (Bor (Link V A))) (k n : ℕ) (link : Link V A) → IsWalkStack xs k → n ≡ suc k → k ≤ 33 → IsFrom k link
      → link_at ys k ≡ Some link → ((j : ℕ) → j < k → link_at ys j ≡ link_at xs j) → length ys ≡ length xs
      → IsWalkStack ys n × (stack_pairs ys n ≡ pairs link ++ stack_pairs xs k)
  pushed xs ys k n link a en room from at below size =
      let here : IsSomeAnd (link_at ys k) (IsFrom k) = rw at from in (
        record {
          size = size ∙ a.size;
          few = omega arith;
          each = λ j h. elim (cases_lt j k) [
            | inl lt ↦ let b : IsSomeAnd (link_at xs j) (IsFrom j) = a.each j (omega arith) in rw (below j lt) b
            | inr ge ↦ let e : k ≡ j = omega arith in subst (λ i. IsSomeAnd (link_at ys i) (IsFrom i)) e here
          ];
        },
        rw (en, at) (ap (λ t. pairs link ++ t) (rest_below xs ys k below)),
      )
