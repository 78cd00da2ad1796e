-- The pairs with at most `most` bits that cover an address: a node's own, then those on the side that the address is
-- on. If any length is allowed, these are the pairs that cover the address; with a prefix's length and base, those that
-- contain it.
use Rattle.std.proofs.Common.{◌≡◌, ℕ, ◌+◌, ◌<◌, ◌≤◌, Bool, true, false, leb, [], ◌∷◌, ◌++◌, Option, Some, None, inl, inr, refl, sym, ap, ◌∙◌, arith}
use Rattle.std.proofs.lemmas.List.Elements.{filter-append}
use Rattle.std.proofs.lemmas.List.{append-nil}
use Rattle.std.proofs.lemmas.Bool.{cases_lt}
use Rattle.std.proofs.lemmas.Bool.Decides.{leb_tells}
use Rattle.std.specs.Prelude.{◌&&◌}
use Rattle.std.specs.Borrow.{Bor}
use Rattle.rt_cidr.specs.declared.prefixes.Prefix.{Prefix}
use Rattle.rt_cidr.specs.declared.address.Addr.{Addr}
use Rattle.rt_cidr.specs.Prefix.{covers}
use Rattle.rt_trie.specs.declared.nodes.Link.{Link}
use Rattle.rt_trie.specs.Map.{Pairs, covering}
use Rattle.rt_trie.specs.Halves.{middle}
use Rattle.rt_trie.specs.inside.Lawful.{IsLawfulBelow}
use Rattle.rt_trie.specs.inside.Links.{own_pair, pairs, count, IsNode, covers_to, covering_to}
use Rattle.rt_trie.proofs.JoinedPairs.{AllKeys, AllKeys-map}
use Rattle.rt_trie.proofs.NodePairs.{upper_clear, lower_clear, rest_clear, sides_longer}
use Rattle.rt_trie.proofs.LinkOrder.{sides_of}

-- the number of nodes that the walk still has to visit, plus one for the link itself
abbrev pub nodes_below : {V A : Type 0} → Option (Bor (Link V A)) → ℕ
nodes_below None = 0
nodes_below (Some link) = count link.now + 1

and_no : (b : Bool) → b && false ≡ false
and_no true = refl
and_no false = refl

module _ (most : ℕ) (a : Addr) where
  uncovered : (q : Prefix) → covers q a ≡ false → covers_to most q a ≡ false
  uncovered q h = ap (λ c. leb q.len most && c) h ∙ and_no (leb q.len most)

  too_long : (q : Prefix) → most < q.len → covers_to most q a ≡ false
  too_long q h = elim (leb_tells q.len most) [ inl s ↦ absurd (omega (arith, s.1)) | inr l ↦ rw l.0 refl ]

  module _ {V : Type 0} where
    covering-clear : (xs : Pairs V) → AllKeys (λ q. covers_to most q a ≡ false) xs → covering_to most xs a ≡ []
    covering-clear [] h = refl
    covering-clear ((q, v) ∷ xs) h = rw h.0 (covering-clear xs h.1)

    covering-append : (xs ys : Pairs V) → covering_to most (xs ++ ys) a ≡ covering_to most xs a ++ covering_to most ys a
    covering-append xs ys = filter-append (λ x. covers_to most x.0 a) xs ys

    covering_own : (q : Prefix) (v : Option V) → covers_to most q a ≡ true → covering_to most (own_pair q v) a ≡ own_pair q v
    covering_own q None h = refl
    covering_own q (Some v) h = rw h refl

    covering_other : (q : Prefix) (v : Option V) → covers_to most q a ≡ false → covering_to most (own_pair q v) a ≡ []
    covering_other q None h = refl
    covering_other q (Some v) h = rw h refl

module _ {V A : Type 0} (link : Link V A) (q : Prefix) (v : Option V) (left right : Link V A) (n : IsNode link q v left right) (most : ℕ) (a : Addr) where
  parts : covering_to most (pairs link) a ≡ covering_to most (own_pair q v) a ++ covering_to most (pairs left ++ pairs right) a
  parts = ap (λ m. covering_to most m a) n.pairs_are ∙ covering-append most a (own_pair q v) (pairs left ++ pairs right)

  covering_left : covers_to most q a ≡ true → a.0 < middle q → covering_to most (pairs link) a ≡ own_pair q v ++ covering_to most (pairs left) a
  covering_left h k =
      let clear = AllKeys-map (λ x. covers x a ≡ false) (λ x. covers_to most x a ≡ false) (pairs right) (uncovered most a)
      (upper_clear q v (pairs left) (pairs right) (sides_of link q v left right n) a k) in
      parts ∙ ap (λ m. m ++ covering_to most (pairs left ++ pairs right) a) (covering_own most a q v h)
      ∙ ap (λ m. own_pair q v ++ m) (covering-append most a (pairs left) (pairs right)
      ∙ ap (λ m. covering_to most (pairs left) a ++ m) (covering-clear most a (pairs right) clear) ∙ append-nil (covering_to most (pairs left) a))

  covering_right : covers_to most q a ≡ true → middle q ≤ a.0 → covering_to most (pairs link) a ≡ own_pair q v ++ covering_to most (pairs right) a
  covering_right h k =
      let clear = AllKeys-map (λ x. covers x a ≡ false) (λ x. covers_to most x a ≡ false) (pairs left) (uncovered most a)
      (lower_clear q v (pairs left) (pairs right) (sides_of link q v left right n) a k) in
      parts ∙ ap (λ m. m ++ covering_to most (pairs left ++ pairs right) a) (covering_own most a q v h)
      ∙ ap (λ m. own_pair q v ++ m) (covering-append most a (pairs left) (pairs right)
      ∙ ap (λ m. m ++ covering_to most (pairs right) a) (covering-clear most a (pairs left) clear))

  -- below a node that is longer than `most` all pairs are, and below one that doesn't cover the address no pair does
  rest_none : covers_to most q a ≡ false → AllKeys (λ x. covers_to most x a ≡ false) (pairs left ++ pairs right)
  rest_none h =
      let sides = sides_of link q v left right n in
      let xs = pairs left ++ pairs right in
      elim (leb_tells q.len most) [
        | inr l ↦ AllKeys-map (λ x. q.len < x.len) (λ x. covers_to most x a ≡ false) xs (λ x k. too_long most a x (omega (arith, l.1)))
            (sides_longer q v (pairs left) (pairs right) sides)
        | inl s ↦ let c : covers q a ≡ false = rw s.0 at h in
            AllKeys-map (λ x. covers x a ≡ false) (λ x. covers_to most x a ≡ false) xs (uncovered most a)
            (rest_clear q v (pairs left) (pairs right) sides a c)
      ]

  pub covering_none : covers_to most q a ≡ false → covering_to most (pairs link) a ≡ []
  covering_none h =
      parts ∙ ap (λ m. m ++ covering_to most (pairs left ++ pairs right) a) (covering_other most a q v h)
      ∙ covering-clear most a (pairs left ++ pairs right) (rest_none h)

  -- a node that covers the address is replaced by its own pair and the side that the address is on
  pub covering_step : (below : Link V A) → covers_to most q a ≡ true → (a.0 < middle q → below ≡ left) → (middle q ≤ a.0 → below ≡ right)
      → IsLawfulBelow below × (own_pair q v ++ covering_to most (pairs below) a ≡ covering_to most (pairs link) a) × (count below < count link)
  covering_step below h lower upper = elim (cases_lt a.0 (middle q)) [
    | inl lt ↦ rw (lower lt) (n.left_lawful.0, sym (covering_left h lt), omega (arith, n.count_is))
    | inr ge ↦ rw (upper ge) (n.right_lawful.0, sym (covering_right h ge), omega (arith, n.count_is))
  ]

-- a leaf that doesn't cover the address
pub covering_single : {V A : Type 0} (link : Link V A) (q : Prefix) (v : V) (most : ℕ) (a : Addr) → pairs link ≡ (q, v) ∷ [] → covers_to most q a ≡ false
    → covering_to most (pairs link) a ≡ []
covering_single link q v most a e h = rw (e, h) refl

-- every prefix has at most 32 bits
pub covering_any : {V : Type 0} (m : Pairs V) (a : Addr) → covering_to 32 m a ≡ covering m a
covering_any [] a = refl
covering_any ((q, v) ∷ m) a =
    let s = q.is_prefix.short in
    elim (leb_tells q.len 32) [
      | inl e ↦ rw (e.0, covering_any m a) refl
      | inr l ↦ absurd (omega (arith, l.1))
    ]
