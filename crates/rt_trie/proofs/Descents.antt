-- A descent finds what the map has, and a write at its end changes the map accordingly.
use Rattle.std.proofs.Common.{◌≡◌, ℕ, zero, suc, ◌+◌, ◌<◌, ◌≤◌, Bool, true, false, cond, [], ◌∷◌, ◌++◌, length, Option}
use Rattle.std.proofs.Common.{Some, None, inl, inr, refl, sym, ap, ◌∙◌, arith, length-append}
use Rattle.std.specs.Prelude.{IfSome, IfNone, is_some}
use Rattle.std.proofs.Common.{leb}
use Rattle.std.specs.Borrow.{MutBor}
use Rattle.std.specs.Option.{ghost_name_of, option_copied_mut}
use borrow.Follows.Closed.{read_of}
use mathlib.Core.Path.{fun_ext}
use Rattle.std.proofs.lemmas.Bool.Decides.{leb_tells}
use Rattle.rt_cidr.specs.declared.prefixes.Prefix.{Prefix}
use Rattle.rt_trie.specs.declared.nodes.Link.{Link, Empty, Leaf, Fork', Full'}
use Rattle.rt_trie.specs.Map.{Pairs, same_prefix, get, put}
use Rattle.rt_trie.specs.Halves.{IsChild, middle, middle_at}
use Rattle.rt_trie.specs.inside.Lawful.{root, AreHalves, IsChildLink, IsFilled, IsLawfulTrie}
use Rattle.rt_trie.specs.inside.Blocks.{is_key}
use Rattle.rt_trie.specs.inside.Links.{own_pair, pairs, count}
use Rattle.rt_trie.specs.inside.Descent.{found, written, overwritten}
use Rattle.rt_trie.specs.TrieContents.{TrieContents}
use Rattle.rt_trie.specs.inside.Tree.{tree_of}
use Rattle.rt_trie.specs.TrieLends.{contents_with}
use Rattle.rt_trie.proofs.PrefixOrder.{same_tells}
use Rattle.rt_trie.proofs.NodePairs.{AreSides, own_other, upper_other, lower_other, rest_other, get-here, get-past, get-lower, get-upper}
use Rattle.rt_trie.proofs.LinkOrder.{if_some_map, sides_at, pairs_ordered}
use Rattle.rt_trie.proofs.Counts.{set_value, set_value-other, put-stored}

-- `d` steps reach past every node below
abbrev pub IsDeep : {V A : Type 0} → ℕ → Link V A → Type 0
IsDeep d link = IfSome (root link) (λ q. 33 ≤ q.len + d)

module _ {V : Type 0} where
  set_value-append : (xs ys : Pairs V) (p : Prefix) (w : V) → set_value (xs ++ ys) p w ≡ set_value xs p w ++ set_value ys p w
  set_value-append [] ys p w = refl
  set_value-append ((q, v) ∷ xs) ys p w = ap (λ m. (q, cond (same_prefix q p) w v) ∷ m) (set_value-append xs ys p w)

  -- a value that is replaced stays a value
  some_kept : (c s : Bool) (v : Option V) (w : V) → cond c (cond s (overwritten v w) v) v ≡ None → v ≡ None
  some_kept c s None w h = refl
  some_kept true true (Some y) w h = cc
  some_kept true false (Some y) w h = h
  some_kept false s (Some y) w h = h

  own_kept : (c s : Bool) (q : Prefix) (v : Option V) (w : V) → length (own_pair q (cond c (cond s (overwritten v w) v) v)) ≡ length (own_pair q v)
  own_kept true true q None w = refl
  own_kept true true q (Some y) w = refl
  own_kept true false q v w = refl
  own_kept false s q v w = refl

  -- a write at a node, by the position of the prefix
  own_here : (q p : Prefix) (v : Option V) (w : V) → same_prefix q p ≡ true → set_value (own_pair q v) p w ≡ own_pair q (overwritten v w)
  own_here q p None w e = refl
  own_here q p (Some y) w e = rw e refl

  own_there : (q p : Prefix) (v : Option V) (w : V) → same_prefix q p ≡ false → set_value (own_pair q v) p w ≡ own_pair q v
  own_there q p None w e = refl
  own_there q p (Some y) w e = rw e refl

  module _ (q : Prefix) (v : Option V) (xs ys : Pairs V) (s : AreSides q xs ys) (p : Prefix) (w : V) where
    set_here : p.len ≤ q.len → set_value (xs ++ ys) p w ≡ xs ++ ys
    set_here h = set_value-other (xs ++ ys) p w (rest_other q v xs ys s p h)

    set_own : q.len < p.len → set_value (own_pair q v) p w ≡ own_pair q v
    set_own h = set_value-other (own_pair q v) p w (own_other q v xs ys s p h)

    set_lower : p.base < middle q → set_value (xs ++ ys) p w ≡ set_value xs p w ++ ys
    set_lower h =
        set_value-append xs ys p w
        ∙ ap (λ m. set_value xs p w ++ m) (set_value-other ys p w (upper_other q v xs ys s p h))

    set_upper : middle q ≤ p.base → set_value (xs ++ ys) p w ≡ xs ++ set_value ys p w
    set_upper h =
        set_value-append xs ys p w
        ∙ ap (λ m. m ++ set_value ys p w) (set_value-other xs p w (lower_other q v xs ys s p h))

module _ {V A : Type 0} where
  -- a step passes the node, on either side
  deep_side : (d : ℕ) (q : Prefix) (upper : Bool) (link : Link V A) → 33 ≤ q.len + suc d → IsChildLink q upper link → IsDeep d link
  deep_side d q false link h c = if_some_map (root link) (IsChild q false) (λ x. 33 ≤ x.len + d) (λ x k. omega (arith, k.long)) c
  deep_side d q true link h c = if_some_map (root link) (IsChild q true) (λ x. 33 ≤ x.len + d) (λ x k. omega (arith, k.long)) c

  -- a descent finds the map's value
  pub found_get : (d : ℕ) (link : Link V A) (p : Prefix) → IsLawfulTrie link → IsDeep d link → found d link p ≡ get (pairs link) p
  found_get zero Empty p h deep = refl
  found_get zero (Leaf i j b) p h deep = let s = b.value.prefix.is_prefix.short in absurd (omega arith)
  found_get zero (Fork' i j x left right q) p h deep = let s = q.is_prefix.short in absurd (omega arith)
  found_get zero (Full' i j x left right q v) p h deep = let s = q.is_prefix.short in absurd (omega arith)
  found_get (suc d) Empty p h deep = refl
  found_get (suc d) (Leaf i j b) p h deep = rw (h.0.len_is, h.0.base_is) refl
  found_get (suc d) (Fork' i j x left right q) p h deep =
      let s = sides_at q left right h.0.0 h.0.1 h.0.2 in
      let l = found_get d left p h.0.1 (deep_side d q false left deep h.0.0.lower) in
      let r = found_get d right p h.0.2 (deep_side d q true right deep h.0.0.upper) in
      rw (h.0.3.len_is, h.0.3.base_is) (elim (leb_tells p.len q.len) [
        | inl le ↦ rw le.0 (sym (elim (same_tells q p) [
          | inl e ↦ get-here q None (pairs left) (pairs right) s p le.1 e.0
          | inr e ↦ get-past q None (pairs left) (pairs right) s p le.1 e.0
        ]))
        | inr gt ↦ elim (leb_tells (suc p.base) (middle q)) [
          | inl lo ↦ rw (gt.0, lo.0) (l ∙ sym (get-lower q None (pairs left) (pairs right) s p gt.1 lo.1))
          | inr hi ↦ rw (gt.0, hi.0) (r ∙ sym (get-upper q None (pairs left) (pairs right) s p gt.1 (omega arith)))
        ]
      ])
  found_get (suc d) (Full' i j x left right q v) p h deep =
      let s = sides_at q left right h.0.0 h.0.1 h.0.2 in
      let l = found_get d left p h.0.1 (deep_side d q false left deep h.0.0.lower) in
      let r = found_get d right p h.0.2 (deep_side d q true right deep h.0.0.upper) in
      rw (h.0.3.len_is, h.0.3.base_is) (elim (leb_tells p.len q.len) [
        | inl le ↦ elim (same_tells q p) [
          | inl e ↦ rw (le.0, e.0) (sym (get-here q v (pairs left) (pairs right) s p le.1 e.0))
          | inr e ↦ rw (le.0, e.0) (sym (get-past q v (pairs left) (pairs right) s p le.1 e.0))
        ]
        | inr gt ↦ elim (leb_tells (suc p.base) (middle q)) [
          | inl lo ↦ rw (gt.0, lo.0) (l ∙ sym (get-lower q v (pairs left) (pairs right) s p gt.1 lo.1))
          | inr hi ↦ rw (gt.0, hi.0) (r ∙ sym (get-upper q v (pairs left) (pairs right) s p gt.1 (omega arith)))
        ]
      ])

  -- a change that keeps the nodes, lawfulness and the number of pairs
  pub record IsKept (old new : Link V A) : Type 0 where
    pub root_is : root new ≡ root old
    pub count_is : count new ≡ count old
    pub tree_is : tree_of new ≡ tree_of old
    pub lawful : IsLawfulTrie new
    pub len_is : length (pairs new) ≡ length (pairs old)

  kept_same : (link : Link V A) → IsLawfulTrie link → IsKept link link
  kept_same link h = record { root_is = refl; count_is = refl; tree_is = refl; lawful = h; len_is = refl }

  kept_cond : (c : Bool) (old a b : Link V A) → IsKept old a → IsKept old b → IsKept old (cond c a b)
  kept_cond true old a b h k = h
  kept_cond false old a b h k = k

  kept_halves : (q : Prefix) (l r l' r' : Link V A) → AreHalves q l r → IsKept l l' → IsKept r r' → AreHalves q l' r'
  kept_halves q l r l' r' h i j = record { lower = rw i.root_is h.lower; upper = rw j.root_is h.upper }

  kept_filled : (l l' : Link V A) → IsKept l l' → IsFilled l → IsFilled l'
  kept_filled l l' i f = rw i.root_is f

  kept_fork : (len base : ℕ) (x : _) (q : Prefix) (l r l' r' : Link V A) → IsLawfulTrie (Fork' len base x l r q) → IsKept l l' → IsKept r r'
      → IsKept (Fork' len base x l r q) (Fork' len base x l' r' q)
  kept_fork len base x q l r l' r' h i j = record {
    root_is = refl;
    count_is = omega (arith, i.count_is, j.count_is);
    tree_is = rw (i.tree_is, j.tree_is) refl;
    lawful = ((kept_halves q l r l' r' h.0.0 i j, i.lawful, j.lawful, h.0.3), (kept_filled l l' i h.1.0, kept_filled r r' j h.1.1));
    len_is = omega (arith, i.len_is, j.len_is, length-append (pairs l) (pairs r), length-append (pairs l') (pairs r'));
  }

  kept_full : (len base : ℕ) (x : _) (q : Prefix) (v v' : Option V) (l r l' r' : Link V A) → IsLawfulTrie (Full' len base x l r q v) → (v' ≡ None → v ≡ None)
      → length (own_pair q v') ≡ length (own_pair q v) → IsKept l l' → IsKept r r' → IsKept (Full' len base x l r q v) (Full' len base x l' r' q v')
  kept_full len base x q v v' l r l' r' h n e i j = record {
    root_is = refl;
    count_is = omega (arith, i.count_is, j.count_is);
    tree_is = rw (i.tree_is, j.tree_is, valued v v' e) refl;
    lawful = ((kept_halves q l r l' r' h.0.0 i j, i.lawful, j.lawful, h.0.3), needed v v' n h.1);
    len_is = omega (
      arith,
      e,
      i.len_is,
      j.len_is,
      length-append (pairs l) (pairs r),
      length-append (pairs l') (pairs r'),
      length-append (own_pair q v) (pairs l ++ pairs r),
      length-append (own_pair q v') (pairs l' ++ pairs r'),
    );
  }
    where
      needed : (v v' : Option V) → (v' ≡ None → v ≡ None) → IfNone v (IsFilled l × IsFilled r) → IfNone v' (IsFilled l' × IsFilled r')
      needed v (Some y) n h = tt
      needed None None n h = (kept_filled l l' i h.0, kept_filled r r' j h.1)
      needed (Some y) None n h = absurd (let e : Some y ≡ None = n refl in cc)

      valued : (v v' : Option V) → length (own_pair q v') ≡ length (own_pair q v) → is_some v' ≡ is_some v
      valued None None e = refl
      valued (Some y) (Some z) e = refl
      valued None (Some z) e = absurd (omega (arith, e))
      valued (Some y) None e = absurd (omega (arith, e))

  -- a write keeps the link lawful, with the same nodes and the same number of pairs
  pub written_kept : (d : ℕ) (link : Link V A) (p : Prefix) (w : V) → IsLawfulTrie link → IsKept link (written d link p w)
  written_kept zero link p w h = kept_same link h
  written_kept (suc d) Empty p w h = kept_same Empty h
  written_kept (suc d) (Leaf i j b) p w h = record { root_is = refl; count_is = refl; tree_is = refl; lawful = h; len_is = refl }
  written_kept (suc d) (Fork' i j x left right q) p w h =
      let l = written_kept d left p w h.0.1 in
      let r = written_kept d right p w h.0.2 in
      let low = leb (suc p.base) (middle_at i j) in
      kept_fork i j x q left right _ _ h
      (kept_cond (leb p.len i) left left _ (kept_same left h.0.1) (kept_cond low left (written d left p w) left l (kept_same left h.0.1)))
      (kept_cond (leb p.len i) right right _ (kept_same right h.0.2) (kept_cond low right right (written d right p w) (kept_same right h.0.2) r))
  written_kept (suc d) (Full' i j x left right q v) p w h =
      let l = written_kept d left p w h.0.1 in
      let r = written_kept d right p w h.0.2 in
      let low = leb (suc p.base) (middle_at i j) in
      kept_full i j x q v _ left right _ _ h (some_kept (leb p.len i) (is_key i j p) v w) (own_kept (leb p.len i) (is_key i j p) q v w)
      (kept_cond (leb p.len i) left left _ (kept_same left h.0.1) (kept_cond low left (written d left p w) left l (kept_same left h.0.1)))
      (kept_cond (leb p.len i) right right _ (kept_same right h.0.2) (kept_cond low right right (written d right p w) (kept_same right h.0.2) r))

  -- a write changes the list at that prefix
  written_pairs : (d : ℕ) (link : Link V A) (p : Prefix) (w : V) → IsLawfulTrie link → IsDeep d link
      → pairs (written d link p w) ≡ set_value (pairs link) p w
  written_pairs zero Empty p w h deep = refl
  written_pairs zero (Leaf i j b) p w h deep = let s = b.value.prefix.is_prefix.short in absurd (omega arith)
  written_pairs zero (Fork' i j x left right q) p w h deep = let s = q.is_prefix.short in absurd (omega arith)
  written_pairs zero (Full' i j x left right q v) p w h deep = let s = q.is_prefix.short in absurd (omega arith)
  written_pairs (suc d) Empty p w h deep = refl
  written_pairs (suc d) (Leaf i j b) p w h deep = rw (h.0.len_is, h.0.base_is) refl
  written_pairs (suc d) (Fork' i j x left right q) p w h deep =
      let s = sides_at q left right h.0.0 h.0.1 h.0.2 in
      let l = written_pairs d left p w h.0.1 (deep_side d q false left deep h.0.0.lower) in
      let r = written_pairs d right p w h.0.2 (deep_side d q true right deep h.0.0.upper) in
      rw (h.0.3.len_is, h.0.3.base_is) (elim (leb_tells p.len q.len) [
        | inl le ↦ rw le.0 (sym (set_here q None (pairs left) (pairs right) s p w le.1))
        | inr gt ↦ elim (leb_tells (suc p.base) (middle q)) [
          | inl lo ↦ rw (gt.0, lo.0) (ap (λ m. m ++ pairs right) l ∙ sym (set_lower q None (pairs left) (pairs right) s p w lo.1))
          | inr hi ↦ rw (gt.0, hi.0) (ap (λ m. pairs left ++ m) r
              ∙ sym (set_upper q None (pairs left) (pairs right) s p w (omega arith)))
        ]
      ])
  written_pairs (suc d) (Full' i j x left right q v) p w h deep =
      let s = sides_at q left right h.0.0 h.0.1 h.0.2 in
      let l = written_pairs d left p w h.0.1 (deep_side d q false left deep h.0.0.lower) in
      let r = written_pairs d right p w h.0.2 (deep_side d q true right deep h.0.0.upper) in
      let split = set_value-append (own_pair q v) (pairs left ++ pairs right) p w in
      rw (h.0.3.len_is, h.0.3.base_is) (elim (leb_tells p.len q.len) [
        | inl le ↦
            let rest = set_here q v (pairs left) (pairs right) s p w le.1 in
            elim (same_tells q p) [
              | inl e ↦ rw (le.0, e.0) (sym (split ∙ ap (λ m. m ++ set_value (pairs left ++ pairs right) p w) (own_here q p v w e.0)
                  ∙ ap (λ m. own_pair q (overwritten v w) ++ m) rest))
              | inr e ↦ rw (le.0, e.0) (sym (split ∙ ap (λ m. m ++ set_value (pairs left ++ pairs right) p w) (own_there q p v w e.0)
                  ∙ ap (λ m. own_pair q v ++ m) rest))
            ]
        | inr gt ↦
            let mine = set_own q v (pairs left) (pairs right) s p w gt.1 in
            elim (leb_tells (suc p.base) (middle q)) [
              | inl lo ↦ rw (gt.0, lo.0) (ap (λ m. own_pair q v ++ (m ++ pairs right)) l
                  ∙ sym (split ∙ ap (λ m. m ++ set_value (pairs left ++ pairs right) p w) mine
                  ∙ ap (λ m. own_pair q v ++ m) (set_lower q v (pairs left) (pairs right) s p w lo.1)))
              | inr hi ↦ rw (gt.0, hi.0) (ap (λ m. own_pair q v ++ (pairs left ++ m)) r
                  ∙ sym (split ∙ ap (λ m. m ++ set_value (pairs left ++ pairs right) p w) mine
                  ∙ ap (λ m. own_pair q v ++ m) (set_upper q v (pairs left) (pairs right) s p w (omega arith))))
            ]
      ])

  -- 33 steps reach past every node
  all_deep : (link : Link V A) → IsDeep 33 link
  all_deep link = any (root link)
    where
      any : (o : Option Prefix) → IfSome o (λ q. 33 ≤ q.len + 33)
      any None = tt
      any (Some q) = omega arith

  pub found_is : (d : ℕ) (link : Link V A) (p : Prefix) → d ≡ 33 → IsLawfulTrie link → found d link p ≡ get (pairs link) p
  found_is d link p e h = found_get d link p h (rw e (all_deep link))

-- two functions of the value lent give the same result if they agree on each value that can be written
same_readings : {D E : Type 0} (o : Option (MutBor E)) (F G : E → D) (u v : D) → u ≡ v → ((r : MutBor E) → o ≡ Some r → (w : E) → F w ≡ G w)
    → read_of (ghost_name_of o) F u ≡ read_of (ghost_name_of o) G v
same_readings None F G u v e h = ap inr e
same_readings (Some r) F G u v e h = ap (λ f. inl (r.ghost_name, f)) (fun_ext (h r refl))

-- the contents of a link, as callers of its trie see them
abbrev pub held : {V A : Type 0} → Link V A → TrieContents V
held link = record { pairs = pairs link; nodes = count link; tree = tree_of link }

module _ {V A : Type 0} where
  -- a write at a stored prefix inserts the value there
  written_is : (d : ℕ) (link : Link V A) (p : Prefix) (w v : V) → d ≡ 33 → IsLawfulTrie link → get (pairs link) p ≡ Some v
      → held (written d link p w) ≡ contents_with (held link) p w
  written_is d link p w v e h at =
      let same : pairs (written d link p w) ≡ put (pairs link) p w =
      written_pairs d link p w h (rw e (all_deep link)) ∙ sym (put-stored (pairs link) p w v (pairs_ordered link h.0) at) in
      let kept = written_kept d link p w h in
      let many : count (written d link p w) ≡ count link = kept.count_is in
      let tree : tree_of (written d link p w) ≡ tree_of link = kept.tree_is in
      rw (same, many, tree) refl

  -- hence what is lent of the link is lent of its contents
  pub lent : (d : ℕ) (link : Link V A) (p : Prefix) (o : Option (MutBor V)) (t : TrieContents V) → d ≡ 33 → IsLawfulTrie link → held link ≡ t
      → option_copied_mut o ≡ found d link p
      → read_of (ghost_name_of o) (λ w. held (written d link p w)) (held link) ≡ read_of (ghost_name_of o) (λ w. contents_with t p w) t
  lent d link p o t e h view is =
      same_readings o (λ w. held (written d link p w)) (λ w. contents_with t p w) (held link) t view (λ r i w.
      written_is d link p w r.now e h (sym (sym (ap option_copied_mut i) ∙ is ∙ found_is d link p e h))
      ∙ ap (λ x. contents_with x p w) view)
