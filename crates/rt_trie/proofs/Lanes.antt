-- Look-ups that proceed in turn: the effect of one step in one lane on all of them.
use Rattle.std.proofs.Common.{◌≡◌, ◌≢◌, ℕ, zero, suc, ◌+◌, ◌<◌, ◌≤◌, ◌⊎◌, List, [], ◌∷◌, Option, Some, None, length}
use Rattle.std.proofs.Common.{set, get_or, inl, inr, refl, sym, ap, ◌∙◌, arith, get_or-set_same, get_or-set_other}
use Rattle.std.proofs.Common.{length-set}
use Rattle.std.specs.Borrow.{Bor}
use Rattle.std.proofs.lemmas.Bool.{cases_lt}
use Rattle.std.proofs.lemmas.Bool.Decides.{eqb_tells}
use Rattle.rt_cidr.specs.declared.prefixes.Prefix.{Prefix}
use Rattle.rt_cidr.specs.declared.address.Addr.{Addr}
use Rattle.rt_trie.specs.declared.nodes.Link.{Link, Empty}
use Rattle.rt_trie.specs.Map.{pair_copied, address_at, answer_at}
use Rattle.rt_trie.specs.inside.Links.{pairs, count, or_else, last_cover}
use Rattle.rt_trie.specs.inside.Lawful.{IsLawfulBelow}
use Rattle.rt_trie.proofs.JoinedPairs.{or_none}

-- a read within the list doesn't depend on the default value
pub read_at : {X : Type 0} (xs : List X) (k : ℕ) (d e : X) → k < length xs → get_or xs k d ≡ get_or xs k e
read_at [] k d e h = absurd (omega arith)
read_at (x ∷ xs) zero d e h = refl
read_at (x ∷ xs) (suc k) d e h = read_at xs k d e (omega arith)

same_or : (j k : ℕ) → (j ≡ k) ⊎ (j ≢ k)
same_or j k = elim (eqb_tells j k) [ inl e ↦ inl e.1 | inr n ↦ inr n.1 ]

-- lane j is among the first `going` lanes of the order
abbrev pub IsListed : List ℕ → ℕ → ℕ → Type 0
IsListed order going j = (i : ℕ) × (i < going) × (get_or order i 0 ≡ j)

-- if the last listed lane replaces another, all but that other are still listed
pub listed_without : (order : List ℕ) (going k j : ℕ) → going < length order → k ≤ going → IsListed order (going + 1) j → j ≢ get_or order k 0
    → IsListed (set order k (get_or order going 0)) going j
listed_without order going k j h l w n = elim (same_or w.0 going) [
  | inl e ↦
      let there : k ≢ going = λ f. n (sym w.2 ∙ ap (λ i. get_or order i 0) (e ∙ sym f)) in
      (k, omega (arith, there), get_or-set_same order k (get_or order going 0) 0 (omega arith) ∙ ap (λ i. get_or order i 0) (sym e) ∙ w.2)
  | inr d ↦
      let other : w.0 ≢ k = λ f. n (sym w.2 ∙ ap (λ i. get_or order i 0) f) in
      (w.0, omega (arith, w.1, d), get_or-set_other order k w.0 (get_or order going 0) 0 other ∙ w.2)
]

-- `or_else` is idempotent in its first argument
or_again : {X : Type 0} (x y : Option X) → or_else x (or_else x y) ≡ or_else x y
or_again None y = refl
or_again (Some z) y = refl

module _ {V A : Type 0} where
  -- the link at which lane j continues, or ended
  abbrev pub link_at : List (Bor (Link V A)) → ℕ → Link V A
  link_at [] j = Empty
  link_at (b ∷ lanes) zero = b.now
  link_at (b ∷ lanes) (suc j) = link_at lanes j

  -- it is the link that is read there
  pub link_read : (xs : List (Bor (Link V A))) (k : ℕ) (d : Bor (Link V A)) → k < length xs → link_at xs k ≡ (get_or xs k d).now
  link_read [] k d h = absurd (omega arith)
  link_read (x ∷ xs) zero d h = refl
  link_read (x ∷ xs) (suc k) d h = link_read xs k d (omega arith)

  link_set_same : (xs : List (Bor (Link V A))) (k : ℕ) (x : Bor (Link V A)) → k < length xs → link_at (set xs k x) k ≡ x.now
  link_set_same [] k x h = absurd (omega arith)
  link_set_same (y ∷ ys) zero x h = refl
  link_set_same (y ∷ ys) (suc k) x h = link_set_same ys k x (omega arith)

  link_set_other : (xs : List (Bor (Link V A))) (k n : ℕ) (x : Bor (Link V A)) → n ≢ k → link_at (set xs k x) n ≡ link_at xs n
  link_set_other [] k n x h = refl
  link_set_other (y ∷ ys) zero zero x h = absurd (h refl)
  link_set_other (y ∷ ys) zero (suc n) x h = refl
  link_set_other (y ∷ ys) (suc k) zero x h = refl
  link_set_other (y ∷ ys) (suc k) (suc n) x h = link_set_other ys k n x (λ e. h (ap suc e))

  -- the links of the first lanes are lawful
  abbrev pub AreLawful : List (Bor (Link V A)) → ℕ → Type 0
  AreLawful lanes size = (j : ℕ) → j < size → IsLawfulBelow (link_at lanes j)

  -- an upper bound on the nodes that the first lanes have still to visit
  abbrev pub work_of : List (Bor (Link V A)) → ℕ → ℕ
  work_of lanes zero = 0
  work_of lanes (suc size) = count (link_at lanes size) + work_of lanes size

  -- the final answer of lane j, whose answer so far is at start + j
  abbrev pub lane_sought : List (Bor (Link V A)) → List Addr → List (Option (Prefix × Bor V)) → ℕ → ℕ → Option (Prefix × V)
  lane_sought lanes addresses answers start j =
      or_else (last_cover (pairs (link_at lanes j)) (address_at addresses (start + j))) (answer_at answers (start + j))

  -- the final answer of a lane, in terms of what is read
  pub as_read : (lanes : List (Bor (Link V A))) (us : List Addr) (answers : List (Option (Prefix × Bor V))) (start lane : ℕ) (d : Bor (Link V A))
      (e : Option (Prefix × Bor V)) → lane < length lanes → start + lane < length answers
      → or_else (last_cover (pairs (get_or lanes lane d).now) (address_at us (start + lane))) (pair_copied (get_or answers (start + lane) e))
      ≡ lane_sought lanes us answers start lane
  as_read lanes us answers start lane d e h k = rw (link_read lanes lane d h, read_at answers (start + lane) None e k) refl

  work-below : (xs : List (Bor (Link V A))) (k n : ℕ) (x : Bor (Link V A)) → n ≤ k → work_of (set xs k x) n ≡ work_of xs n
  work-below xs k zero x h = refl
  work-below xs k (suc n) x h =
      let ne : n ≢ k = omega arith in
      let e : link_at (set xs k x) n ≡ link_at xs n = link_set_other xs k n x ne in
      omega (arith, ap count e, work-below xs k n x (omega arith))

  -- how a step in one lane changes the total work
  pub work-set : (xs : List (Bor (Link V A))) (k n : ℕ) (x : Bor (Link V A)) → k < n → k < length xs
      → work_of (set xs k x) n + count (link_at xs k) ≡ work_of xs n + count x.now
  work-set xs k zero x h l = absurd (omega arith)
  work-set xs k (suc n) x h l = elim (cases_lt k n) [
    | inl lt ↦
        let ne : n ≢ k = omega arith in
        let e : link_at (set xs k x) n ≡ link_at xs n = link_set_other xs k n x ne in
        omega (arith, ap count e, work-set xs k n x lt l)
    | inr ge ↦
        let i : k ≡ n = omega arith in
        let e : link_at (set xs k x) k ≡ x.now = link_set_same xs k x l in
        omega (arith, ap count e, work-below xs k n x ge, ap (λ m. count (link_at (set xs k x) m)) i, ap (λ m. count (link_at xs m)) i)
  ]

  -- the lanes, the first `going` of which in this order still proceed: each lane's final answer is the one below the
  -- root, and the answer of a lane that isn't listed is final
  pub record AreOnTheWay (root : Link V A) (us : List Addr) (start size : ℕ) (lanes : List (Bor (Link V A))) (order : List ℕ) (going : ℕ)
      (answers : List (Option (Prefix × Bor V))) : Type 0 where
    pub lawful : AreLawful lanes size
    pub found : (j : ℕ) → j < size → lane_sought lanes us answers start j ≡ last_cover (pairs root) (address_at us (start + j))
    pub ended : (j : ℕ) → j < size → IsListed order going j ⊎ (answer_at answers (start + j) ≡ last_cover (pairs root) (address_at us (start + j)))
    pub listed : (i : ℕ) → i < going → get_or order i 0 < size
    pub going_within : going ≤ size
    pub lanes_long : size ≤ length lanes
    pub order_long : size ≤ length order
    pub answers_long : start + size ≤ length answers

  -- `n` lanes at the same link
  abbrev pub copies : ℕ → Bor (Link V A) → List (Bor (Link V A))
  copies zero link = []
  copies (suc n) link = link ∷ copies n link

  pub link_copies : (n j : ℕ) (link : Bor (Link V A)) → j < n → link_at (copies n link) j ≡ link.now
  link_copies zero j link h = absurd (omega arith)
  link_copies (suc n) zero link h = refl
  link_copies (suc n) (suc j) link h = link_copies n j link (omega arith)

  -- the start of the lanes
  pub set_out : (root : Bor (Link V A)) (us : List Addr) (start size most : ℕ) (order : List ℕ) (answers : List (Option (Prefix × Bor V)))
      → IsLawfulBelow root.now → size ≤ most → size ≤ length (copies most root) → size ≤ length order → start + size ≤ length answers
      → ((j : ℕ) → j < size → get_or order j 0 ≡ j) → ((j : ℕ) → j < size → answer_at answers (start + j) ≡ None)
      → AreOnTheWay root.now us start size (copies most root) order size answers
  set_out root us start size most order answers lawful few lanes_long order_long answers_long listed none = record {
    lawful = λ j h. rw (link_copies most j root (omega arith)) lawful;
    found = λ j h. rw (link_copies most j root (omega arith), none j h) (or_none (last_cover (pairs root.now) (address_at us (start + j))));
    ended = λ j h. inl (j, h, listed j h);
    listed = λ i h. omega (arith, listed i h);
    going_within = omega arith;
    lanes_long = lanes_long;
    order_long = order_long;
    answers_long = answers_long;
  }

  module _ (root : Link V A) (us : List Addr) (start size : ℕ) (lanes : List (Bor (Link V A))) (order : List ℕ) (going k lane : ℕ)
      (answers : List (Option (Prefix × Bor V))) (w : AreOnTheWay root us start size lanes order going answers)
      (first : k < going) (at : get_or order k 0 ≡ lane) where
    pub in_size : lane < size
    in_size = omega (arith, w.listed k first, at)

    pub in_lanes : lane < length lanes
    in_lanes = let s = in_size in omega (arith, w.lanes_long)

    pub in_answers : start + lane < length answers
    in_answers = let s = in_size in omega (arith, w.answers_long)

    -- a step to a link below the lane's reduces the work
    pub gone_less : (below d : Bor (Link V A)) → count below.now < count (get_or lanes lane d).now
        → work_of (set lanes lane below) size + going < work_of lanes size + going
    gone_less below d less =
        let s = in_size in
        let l = w.lanes_long in
        omega (arith, less, work-set lanes lane size below s (omega arith), ap count (link_read lanes lane d (omega arith)))

    module _ (best : Option (Prefix × Bor V)) where
      changed : answer_at (set answers (start + lane) best) (start + lane) ≡ pair_copied best
      changed = let s = in_size in let l = w.answers_long in ap pair_copied (get_or-set_same answers (start + lane) best None (omega arith))

      kept : (i : ℕ) → i ≢ start + lane → answer_at (set answers (start + lane) best) i ≡ answer_at answers i
      kept i n = ap pair_copied (get_or-set_other answers (start + lane) i best None n)

      -- a step from the lane's link to one below it
      pub gone_on : (below : Bor (Link V A)) → IsLawfulBelow below.now
          → or_else (last_cover (pairs below.now) (address_at us (start + lane))) (pair_copied best) ≡ lane_sought lanes us answers start lane
          → AreOnTheWay root us start size (set lanes lane below) order going (set answers (start + lane) best)
      gone_on below lawful same =
          let s = in_size in
          let l = w.lanes_long in
          let here : link_at (set lanes lane below) lane ≡ below.now = link_set_same lanes lane below (omega arith) in
          let other : (j : ℕ) → j ≢ lane → link_at (set lanes lane below) j ≡ link_at lanes j = λ j n. link_set_other lanes lane j below n in
          record {
            lawful = λ j jl. elim (same_or j lane) [
              | inl e ↦ rw (e, here) lawful
              | inr n ↦ rw (other j n) (w.lawful j jl)
            ];
            found = λ j jl. elim (same_or j lane) [
              | inl e ↦ rw (e, here, changed) (same ∙ w.found lane s)
              | inr n ↦ rw (other j n, kept (start + j) (λ e. n (omega arith))) (w.found j jl)
            ];
            ended = λ j jl. elim (same_or j lane) [
              | inl e ↦ inl (k, first, at ∙ sym e)
              | inr n ↦ elim (w.ended j jl) [
                | inl i ↦ inl i
                | inr d ↦ inr (kept (start + j) (λ e. n (omega arith)) ∙ d)
              ]
            ];
            listed = w.listed;
            going_within = w.going_within;
            lanes_long = omega (arith, length-set lanes lane below);
            order_long = w.order_long;
            answers_long = omega (arith, w.answers_long, length-set answers (start + lane) best);
          }

      -- a step with which the lane ends
      pub ended_here : (left : ℕ) → left + 1 ≡ going → pair_copied best ≡ lane_sought lanes us answers start lane
          → AreOnTheWay root us start size lanes (set order k (get_or order left 0)) left (set answers (start + lane) best)
      ended_here left is same =
          let s = in_size in
          let g = w.going_within in
          let o = w.order_long in
          record {
            lawful = w.lawful;
            found = λ j jl. elim (same_or j lane) [
              | inl e ↦ rw (e, changed, same) (or_again (last_cover (pairs (link_at lanes lane))
                  (address_at us (start + lane))) (answer_at answers (start + lane)) ∙ w.found lane s)
              | inr n ↦ rw (kept (start + j) (λ e. n (omega arith))) (w.found j jl)
            ];
            ended = λ j jl. elim (same_or j lane) [
              | inl e ↦ inr (rw (e, changed) (same ∙ w.found lane s))
              | inr n ↦ elim (w.ended j jl) [
                | inl i ↦ inl (listed_without order left k j (omega arith) (omega arith) (rw is i) (λ e. n (e ∙ at)))
                | inr d ↦ inr (kept (start + j) (λ e. n (omega arith)) ∙ d)
              ]
            ];
            listed = λ i il. elim (same_or i k) [
              | inl e ↦ omega (
                arith,
                ap (λ m. get_or (set order k (get_or order left 0)) m 0) e,
                get_or-set_same order k (get_or order left 0) 0 (omega arith),
                w.listed left (omega arith),
              )
              | inr n ↦ omega (arith, get_or-set_other order k i (get_or order left 0) 0 n, w.listed i (omega arith))
            ];
            going_within = omega arith;
            lanes_long = w.lanes_long;
            order_long = omega (arith, length-set order k (get_or order left 0));
            answers_long = omega (arith, w.answers_long, length-set answers (start + lane) best);
          }
