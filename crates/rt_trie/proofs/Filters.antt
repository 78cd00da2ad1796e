-- The effect of a filter on concatenated lists, and on links.
use Rattle.std.proofs.Common.{◌≡◌, ℕ, Bool, true, false, [], ◌∷◌, ◌++◌, ◌+◌, length, Option, None, inl, inr, refl, sym, subst, ap, ◌∙◌, arith, length-append}
use Rattle.std.proofs.lemmas.Bool.{both_ways}
use Rattle.rt_cidr.specs.declared.prefixes.Prefix.{Prefix}
use Rattle.std.specs.Prelude.{Box}
use Rattle.std.specs.Box.{with_value}
use Rattle.rt_trie.specs.declared.nodes.Link.{Link, Empty, Leaf}
use Rattle.rt_trie.specs.declared.nodes.Link.TheVariants.{Full}
use Rattle.rt_trie.specs.declared.nodes.LeafNode.{LeafNode}
use Rattle.rt_trie.specs.declared.nodes.FullNode.{FullNode}
use Rattle.rt_trie.specs.Map.{Pairs}
use Rattle.rt_trie.specs.inside.Links.{own_pair, pairs, IsNode}
use Rattle.rt_trie.specs.inside.Lawful.{root, AreHalves, IsLawfulBelow, IsLawfulTrie}
use Rattle.rt_trie.specs.inside.Changes.{IsSpliced, StaysChild}
use Rattle.rt_trie.specs.Retained.{with_pair, IsRetained}
use Rattle.rt_trie.specs.inside.Retained.{IsRetainedLink}
use Rattle.rt_trie.proofs.LinkOrder.{IsView, of_leaf, of_full, key_of_leaf, key_of_full}
use Rattle.rt_trie.proofs.Insertions.{made_full_below}

-- appending a list to the remaining pairs appends it to the whole
with_pair-append : {V : Type 0} (b : Bool) (p : Prefix) (v : V) (xs ys : Pairs V) → with_pair b p v xs ++ ys ≡ with_pair b p v (xs ++ ys)
with_pair-append true p v xs ys = refl
with_pair-append false p v xs ys = refl

module _ {V S : Type 0} (done : S → Bool) (judges : S → Prefix → V → S → V → Bool → Type 0) where
  -- of the empty list nothing remains
  pub retained_none : (s : S) → IsRetained done judges s s [] []
  retained_none s = (refl, refl)

  -- a filter that is done leaves everything unchanged
  pub retained_done : (s : S) (xs : Pairs V) → done s ≡ true → IsRetained done judges s s xs xs
  retained_done s [] e = (refl, refl)
  retained_done s ((p, v) ∷ xs) e = inl (e, refl, refl)

  -- a filter that is done has no other result
  done_leaves : (s t : S) (xs new : Pairs V) → done s ≡ true → IsRetained done judges s t xs new → (t ≡ s) × (new ≡ xs)
  done_leaves s t [] new e h = h
  done_leaves s t ((p, v) ∷ xs) new e h = elim h [ inl i ↦ (i.1, i.2) | inr i ↦ absurd (both_ways (done s) i.0 e) ]

  -- a single pair that it was shown
  pub retained_one : (s t : S) (p : Prefix) (v w : V) (stays : Bool) → done s ≡ false → judges s p v t w stays
      → IsRetained done judges s t ((p, v) ∷ []) (with_pair stays p w [])
  retained_one s t p v w stays wanted judged = inr (wanted, t, [], record { made = w; stays = stays; judged = judged; new_is = refl }, (refl, refl))

  -- one list after another
  pub retained_append : (s m t : S) (xs ys ls rs : Pairs V) → IsRetained done judges s m xs ls
      → IsRetained done judges m t ys rs → IsRetained done judges s t (xs ++ ys) (ls ++ rs)
  retained_append s m t [] ys ls rs h k = rw h.1 (subst (λ z. IsRetained done judges z t ys rs) h.0 k)
  retained_append s m t ((p, v) ∷ xs) ys ls rs h k = elim h [
    | inl i ↦
        let rest = done_leaves s t ys rs i.0 (subst (λ z. IsRetained done judges z t ys rs) i.1 k) in
        inl (i.0, rest.0, rw (i.2, rest.1) refl)
    | inr i ↦
        let j = i.3 in
        inr (
          i.0,
          i.1,
          i.2 ++ rs,
          record {
            made = j.made;
            stays = j.stays;
            judged = j.judged;
            new_is = ap (λ z. z ++ rs) j.new_is ∙ with_pair-append j.stays p j.made i.2 rs;
          },
          retained_append i.1 m t xs ys i.2 rs i.4 k,
        )
  ]

  -- a node whose own value and sides were shown to the filter, before it is removed if it isn't needed
  pub record IsHalfRetained {A : Type 0} (s t : S) (old mid : Link V A) : Type 0 where
    pub retained : IsRetained done judges s t (pairs old) (pairs mid)
    pub below : IsLawfulBelow mid
    pub root_is : root mid ≡ root old

  module _ {A : Type 0} where
    -- a link that stays as it is
    pub link_same : (s : S) (link : Link V A) → IsLawfulTrie link → IsRetained done judges s s (pairs link) (pairs link) → IsRetainedLink done judges s s link link
    link_same s link h e = record { retained = e; lawful = h; stays = λ parent upper k. k }

    -- a node's pairs are its own and those of its sides
    node_retained : (s a b t : S) (old mid : Link V A) (q : Prefix) (v w : Option V) (l r m n : Link V A) → IsNode old q v l r → IsNode mid q w m n
        → IsRetained done judges s a (own_pair q v) (own_pair q w) → IsRetainedLink done judges a b l m → IsRetainedLink done judges b t r n
        → IsRetained done judges s t (pairs old) (pairs mid)
    node_retained s a b t old mid q v w l r m n x y own left right =
        rw (x.pairs_are, y.pairs_are)
        (retained_append s a t (own_pair q v) (pairs l ++ pairs r) (own_pair q w) (pairs m ++ pairs n) own
        (retained_append a b t (pairs l) (pairs r) (pairs m) (pairs n) left.retained right.retained))

    -- sides that were retained are still in their halves
    still_halves : (a b t : S) (old : Link V A) (q : Prefix) (v : Option V) (l r m n : Link V A) → IsNode old q v l r
        → IsRetainedLink done judges a b l m → IsRetainedLink done judges b t r n → AreHalves q m n
    still_halves a b t old q v l r m n x left right =
        record { lower = left.stays q false x.halves.lower; upper = right.stays q true x.halves.upper }

    pub half_fork : (s b t : S) (old : Link V A) (q : Prefix) (l r m n : Link V A) (make : Link V A → Link V A → Link V A) → IsView old q None l r make
        → IsRetainedLink done judges s b l m → IsRetainedLink done judges b t r n → IsHalfRetained s t old (make m n)
    half_fork s b t old q l r m n make x left right =
        let u = x.again m n (still_halves s b t old q None l r m n x.node left right) left.lawful right.lawful in
        record {
          retained = node_retained s s b t old (make m n) q None None l r m n x.node u.0 (retained_none s) left right;
          below = u.1;
          root_is = u.0.root_is ∙ sym x.node.root_is;
        }

    pub half_full : {len base : ℕ} (s a b t : S) (f : Box (FullNode V A) A) (x : FullNode V A) (old : Link V A) (w : Option V) (m n : Link V A)
        → old ≡ Full len base f → x ≡ f.value → IsLawfulTrie old → IsRetained done judges s a (own_pair x.prefix x.value) (own_pair x.prefix w)
        → IsRetainedLink done judges a b x.left m → IsRetainedLink done judges b t x.right n
        → IsHalfRetained s t old (Full len base (with_value f (record { prefix = x.prefix; value = w; left = m; right = n })))
    half_full {len} {base} s a b t f x old w m n e g h own left right =
        let o = of_full f x old e g h.0 in
        let new = with_value f (record { prefix = x.prefix; value = w; left = m; right = n }) in
        let u = made_full_below len base new x.prefix w m n (key_of_full f x old e g h.0) refl refl refl refl
        (still_halves a b t old x.prefix x.value x.left x.right m n o left right) left.lawful right.lawful in
        record {
          retained = node_retained s a b t old (Full len base new) x.prefix x.value w x.left x.right m n o u.0 own left right;
          below = u.1;
          root_is = u.0.root_is ∙ sym o.root_is;
        }

    -- a node whose sides were retained is retained as a whole
    pub retained_of : (s t : S) (old mid new : Link V A) → IsHalfRetained s t old mid → IsSpliced mid new → IsRetainedLink done judges s t old new
    retained_of s t old mid new h k = record {
      retained = rw k.pairs_are h.retained;
      lawful = k.lawful;
      stays = λ parent upper i. k.stays parent upper (rw h.root_is i);
    }

    -- a leaf's pair is shown to the filter
    pub leaf_goes : {len base : ℕ} (s t : S) (b : Box (LeafNode V) A) (old : Link V A) (w : V) → old ≡ Leaf len base b → done s ≡ false
        → judges s b.value.prefix b.value.value t w false → IsRetainedLink done judges s t old Empty
    leaf_goes s t b old w e wanted judged =
        rw e (record { retained = retained_one s t b.value.prefix b.value.value w false wanted judged; lawful = (tt, tt); stays = λ parent upper k. tt })

    pub leaf_stays : {len base : ℕ} (s t : S) (b : Box (LeafNode V) A) (x : LeafNode V) (old : Link V A) (w : V)
        → old ≡ Leaf len base b → x ≡ b.value → IsLawfulTrie old
        → done s ≡ false → judges s b.value.prefix b.value.value t w true
        → IsRetainedLink done judges s t old (Leaf len base (with_value b (record { prefix = x.prefix; value = w })))
    leaf_stays {len} {base} s t b x old w e g h wanted judged =
        let key = key_of_leaf b x old e g h.0 in
        let stays : StaysChild old (Leaf len base (with_value b (record { prefix = x.prefix; value = w }))) = rw (e, g) (λ parent upper k. k) in
        record {
          retained = rw (of_leaf b x old e g)
              (rw g (retained_one s t b.value.prefix b.value.value w true wanted judged));
          lawful = (key, tt);
          stays = stays;
        }

-- the number of pairs of a node: its own, plus those of its sides
pub node_length : {V A : Type 0} (link : Link V A) (q : Prefix) (v : Option V) (l r : Link V A) → IsNode link q v l r
    → length (pairs link) ≡ length (own_pair q v) + length (pairs l) + length (pairs r)
node_length link q v l r n =
    omega (arith, ap length n.pairs_are, length-append (own_pair q v) (pairs l ++ pairs r), length-append (pairs l) (pairs r))
