-- In a list in order, the last pair that covers an address is the longest that does.
use Rattle.std.proofs.Common.{◌≡◌, ℕ, suc, ◌≤◌, Bool, true, false, cond, [], ◌∷◌, Option, Some, None, IsTrue, refl, sym, ap, ◌∙◌, arith, inl, inr}
use Rattle.std.proofs.lemmas.Bool.{cases_lt, false≢true}
use Rattle.std.proofs.lemmas.Bool.Decides.{leb_tells}
use Rattle.std.specs.List.{All}
use Rattle.std.proofs.lemmas.List.Elements.{All-nil, All-cons, All-weaker, All-contains}
use Rattle.rt_cidr.specs.declared.prefixes.Prefix.{Prefix}
use Rattle.rt_cidr.specs.declared.address.Addr.{Addr}
use Rattle.rt_cidr.specs.Prefix.{covers}
use Rattle.rt_trie.specs.inside.Links.{or_else, last_cover, no_longer}
use Rattle.rt_trie.specs.Map.{Pairs, same_prefix, get, before, IsBeforeAll, IsOrdered, IsLongest}
use Rattle.rt_trie.proofs.PrefixOrder.{before_tells, same_tells, rank_of_before}
use Rattle.rt_cidr.proofs.Promised.{size_pos}
use Rattle.rt_trie.proofs.Blocks.{range_of_covers, ends_before, covered_of_range, uncovered_of_range}

-- if two prefixes cover the same address, the later one is the longer
pub later_is_longer : (q x : Prefix) (a : Addr) → before q x ≡ true → covers q a ≡ true → covers x a ≡ true → q.len ≤ x.len
later_is_longer q x a b h k =
    let r = range_of_covers q a h in
    let s = range_of_covers x a k in
    elim (before_tells q x) [
      | inr n ↦ absurd (false≢true (sym n.0 ∙ b))
      | inl l ↦ elim (cases_lt x.len q.len) [
        | inr le ↦ le
        | inl lt ↦ elim (cases_lt q.base x.base) [
          | inl low ↦ absurd (omega (arith, ends_before x q (omega arith) low))
          | inr high ↦ omega arith
        ]
      ]
    ]

module _ {V : Type 0} where
  -- q comes before each pair of the list
  All-before : (q : Prefix) (rest : Pairs V) → IsBeforeAll q rest → All (λ y. before q y.0 ≡ true) rest
  All-before q [] h = All-nil (λ y. before q y.0 ≡ true)
  All-before q ((p, v) ∷ rest) h = All-cons (λ y. before q y.0 ≡ true) (p, v) rest h.0 (All-before q rest h.1)

  -- one more pair in front
  more : (q : Prefix) (v : V) (rest : Pairs V) (a : Addr) (c : Bool) (o : Option (Prefix × V)) → c ≡ covers q a → IsBeforeAll q rest
      → IsLongest rest a o → IsLongest ((q, v) ∷ rest) a (or_else o (cond c (Some (q, v)) None))
  more q v rest a true None e b h = (
    (0, omega arith, refl),
    sym e,
    All-cons (λ y. IsTrue (covers y.0 a) → y.0.len ≤ q.len) (q, v) rest (λ _. omega arith)
        (All-weaker (λ y. covers y.0 a ≡ false) (λ y. IsTrue (covers y.0 a) → y.0.len ≤ q.len)
        (λ y n t. absurd (false≢true (sym n ∙ t))) rest h),
  )
  more q v rest a false None e b h = All-cons (λ y. covers y.0 a ≡ false) (q, v) rest (sym e) h
  more q v rest a c (Some x) e b h = (
    (suc h.0.0, omega (arith, h.0.1), h.0.2),
    h.1,
    All-cons (λ y. IsTrue (covers y.0 a) → y.0.len ≤ x.0.len) (q, v) rest
        (λ t. later_is_longer q x.0 a (All-contains (λ y. before q y.0 ≡ true) rest x (All-before q rest b) h.0) t h.1)
        h.2,
  )

  pub longest_is : (m : Pairs V) (a : Addr) → IsOrdered m → IsLongest m a (last_cover m a)
  longest_is [] a h = All-nil (λ y. covers y.0 a ≡ false)
  longest_is ((q, v) ∷ rest) a h = more q v rest a (covers q a) (last_cover rest a) refl h.0 (longest_is rest a h.1)

-- the value of a pair, if its prefix is p
abbrev pub value_at : {V : Type 0} → Prefix → Option (Prefix × V) → Option V
value_at p None = None
value_at p (Some x) = cond (same_prefix x.0 p) (Some x.1) None

module _ {V : Type 0} where
  -- after p, no prefix of at most p's length covers p's first address
  none_behind : (q p : Prefix) (rest : Pairs V) → q.base ≡ p.base → q.len ≡ p.len → IsBeforeAll q rest
      → last_cover (no_longer p.len rest) (record { 0 = p.base }) ≡ None
  none_behind q p [] b l h = refl
  none_behind q p ((x, v) ∷ rest) b l h =
      let others = none_behind q p rest b l h.1 in
      elim (leb_tells x.len p.len) [
        | inr longer ↦ rw longer.0 others
        | inl short ↦
            let behind = rank_of_before q x h.0 in
            rw (short.0, others, uncovered_of_range x (record { 0 = p.base }) (inl (let s = q.is_prefix.short in omega arith))) refl
      ]

  found_here : (q p : Prefix) (v : V) (rest : Pairs V) → same_prefix q p ≡ true → q.base ≡ p.base → q.len ≡ p.len → IsBeforeAll q rest
      → Some v ≡ value_at p (last_cover (no_longer p.len ((q, v) ∷ rest)) (record { 0 = p.base }))
  found_here q p v rest s b l h =
      let covers = covered_of_range q (record { 0 = p.base }) (omega arith) (omega (arith, size_pos q.len)) in
      elim (leb_tells q.len p.len) [
        | inr longer ↦ absurd (omega (arith, longer.1))
        | inl short ↦ rw (short.0, none_behind q p rest b l h, covers, s) refl
      ]

  -- another prefix than p in front adds nothing
  other_value : (q p : Prefix) (v : V) (c : Bool) (o : Option (Prefix × V)) → same_prefix q p ≡ false
      → value_at p (or_else o (cond c (Some (q, v)) None)) ≡ value_at p o
  other_value q p v true None n = rw n refl
  other_value q p v false None n = refl
  other_value q p v c (Some x) n = refl

  -- the value at p is the one of the last pair that covers p's first address among those that aren't longer than p
  pub get_of_last : (m : Pairs V) (p : Prefix) → IsOrdered m → get m p ≡ value_at p (last_cover (no_longer p.len m) (record { 0 = p.base }))
  get_of_last [] p h = refl
  get_of_last ((q, v) ∷ rest) p h = elim (same_tells q p) [
    | inl s ↦ rw s.0 (found_here q p v rest s.0 s.1 s.2 h.0)
    | inr o ↦
        let others = get_of_last rest p h.1 in
        let a : Addr = record { 0 = p.base } in
        rw o.0 (elim (leb_tells q.len p.len) [
          | inl short ↦ rw short.0 (others ∙ sym (other_value q p v (covers q a) (last_cover (no_longer p.len rest) a) o.0))
          | inr longer ↦ rw longer.0 others
        ])
  ]

  pub get_of_found : (m : Pairs V) (p : Prefix) (len base : ℕ) (o : Option (Prefix × V)) → IsOrdered m → len ≡ p.len → base ≡ p.base
      → last_cover (no_longer len m) (record { 0 = base }) ≡ o → get m p ≡ value_at p o
  get_of_found m p len base o h l b e =
      let found : last_cover (no_longer p.len m) (record { 0 = p.base }) ≡ o = rw (l, b) at e in
      get_of_last m p h ∙ ap (value_at p) found
