-- The same ranges have only one list of counts.
use Rattle.std.proofs.Common.{◌≡◌, ℕ, suc, get_or, ◌+◌, ◌<◌, ◌==◌, ◌&&◌, ◌⊎◌, inl, inr, Bool, true, false, if◌then◌else◌, List, [], ◌∷◌, Option, refl, sym, ap, ◌∙◌, arith}
use Rattle.std.specs.List.{All, AllPairs, sum_by}
use Rattle.std.proofs.lemmas.Bool.Decides.{nat_tests}
use Rattle.std.proofs.lemmas.List.Elements.{All-cons, All-head, All-tail, All-nil}
use Rattle.std.proofs.lemmas.List.Sums.{sum_by-cons}
use Rattle.rt_rib.specs.declared.routes.Hop.{Hop}
use Rattle.rt_print.specs.declared.change_counts.ChangeCount.{ChangeCount}
use Rattle.rt_print.specs.ChangeCounts.{HopTest, is_counted, hop_position, IsBefore, ranges_by, addresses_by, HaveOneCountList}
use Rattle.rt_print.proofs.ChangeMaps.{one_position, part}

-- the test of the next hops of a count
abbrev pair : ChangeCount → HopTest
pair c old new = (hop_position old == hop_position c.old) && (hop_position new == hop_position c.new)

pair_self : (c : ChangeCount) → is_counted (pair c) c ≡ true
pair_self c = grind (arith, nat_tests)

pair_later : (c d : ChangeCount) → IsBefore c d → is_counted (pair c) d ≡ false
pair_later c d before = grind (arith, nat_tests)

later : (a b c : ChangeCount) → IsBefore a b → IsBefore b c → IsBefore a c
later a b c first second = grind arith

all_later : (a b : ChangeCount) (cs : List ChangeCount) → IsBefore a b → All (IsBefore b) cs → All (IsBefore a) cs
all_later a b cs before all k d here = later a b (get_or cs k d) before (all k d here)

-- the first count is before the others, and these are in order
first_rises : (c : ChangeCount) (cs : List ChangeCount) → AllPairs IsBefore (c ∷ cs) → All (IsBefore c) cs
first_rises c cs rising k d here = rising 0 (suc k) d (omega arith) (omega (arith, here))

rest_rises : (c : ChangeCount) (cs : List ChangeCount) → AllPairs IsBefore (c ∷ cs) → AllPairs IsBefore cs
rest_rises c cs rising i j d before here = rising (suc i) (suc j) d (omega (arith, before)) (omega (arith, here))

module _ (number : ChangeCount → ℕ) where
  -- the sum of the first count, if it passes, and of the others
  first_part : (test : HopTest) (c : ChangeCount) (cs : List ChangeCount) → sum_by (part number test) (c ∷ cs) ≡ part number test c + sum_by (part number test) cs
  first_part test c cs = sum_by-cons (part number test) c cs

  -- no later count has the next hops of a count
  none_later : (c : ChangeCount) (cs : List ChangeCount) → All (IsBefore c) cs → sum_by (part number (pair c)) cs ≡ 0
  none_later c [] all = refl
  none_later c (d ∷ ds) all =
      let rest = none_later c ds (All-tail (IsBefore c) d ds all) in
      let none : part number (pair c) d ≡ 0 = ap (λ (b : Bool). if b then number d else 0) (pair_later c d (All-head (IsBefore c) d ds all)) in
      let first = first_part (pair c) d ds in
      omega (arith, rest, none, first)

  -- hence the sum for the next hops of the first count is its number
  only_first : (c : ChangeCount) (cs : List ChangeCount) → All (IsBefore c) cs → sum_by (part number (pair c)) (c ∷ cs) ≡ number c
  only_first c cs all =
      let rest = none_later c cs all in
      let one : part number (pair c) c ≡ number c = ap (λ (b : Bool). if b then number c else 0) (pair_self c) in
      let first = first_part (pair c) c cs in
      omega (arith, rest, one, first)

-- a first count is not before all counts of a list with the same sums
not_before : (c : ChangeCount) (cs ds : List ChangeCount) → 0 < c.ranges → All (IsBefore c) cs → All (IsBefore c) ds → ranges_by (pair c) (c ∷ cs) ≡ ranges_by (pair c) ds → ⊥
not_before c cs ds some all later same =
    let one = only_first (λ (b : ChangeCount). b.ranges) c cs all in
    let none = none_later (λ (b : ChangeCount). b.ranges) c ds later in
    omega (arith, some, one, none, same)

-- the order of two counts
compared : (c d : ChangeCount) → IsBefore c d ⊎ (IsBefore d c ⊎ ((hop_position c.old ≡ hop_position d.old) × (hop_position c.new ≡ hop_position d.new)))
compared c d = grind arith

abbrev HasRange : ChangeCount → Type 0
HasRange c = 0 < c.ranges

-- equal counts, by their parts
abbrev made : Option Hop → Option Hop → ℕ → ℕ → ChangeCount
made old new ranges addresses = record { old = old; new = new; ranges = ranges; addresses = addresses }

same_count : (c d : ChangeCount) → c.old ≡ d.old → c.new ≡ d.new → c.ranges ≡ d.ranges → c.addresses ≡ d.addresses → c ≡ d
same_count c d old new ranges addresses =
    ap (λ (h : Option Hop). made h c.new c.ranges c.addresses) old ∙ (ap (λ (h : Option Hop). made d.old h c.ranges c.addresses) new
    ∙ (ap (λ (n : ℕ). made d.old d.new n c.addresses) ranges ∙ ap (made d.old d.new d.ranges) addresses))

-- first counts with the same next hops are the same
pair_of : (number : ChangeCount → ℕ) (c : ChangeCount) (cs : List ChangeCount) (d : ChangeCount) (ds : List ChangeCount) → All (IsBefore c) cs → All (IsBefore d) ds
    → c.old ≡ d.old → c.new ≡ d.new → sum_by (part number (pair c)) (c ∷ cs) ≡ sum_by (part number (pair c)) (d ∷ ds) → number c ≡ number d
pair_of number c cs d ds all each old new same =
    let one = only_first number c cs all in
    let test : pair c ≡ pair d = ap (λ (h : Option Hop). λ a b. (hop_position a == hop_position h) && (hop_position b == hop_position c.new)) old
    ∙ ap (λ (h : Option Hop). λ a b. (hop_position a == hop_position d.old) && (hop_position b == hop_position h)) new in
    let other = only_first number d ds each in
    sym one ∙ (same ∙ (ap (λ (t : HopTest). sum_by (part number t) (d ∷ ds)) test ∙ other))

one_pair : (c : ChangeCount) (cs : List ChangeCount) (d : ChangeCount) (ds : List ChangeCount) → All (IsBefore c) cs → All (IsBefore d) ds → c.old ≡ d.old → c.new ≡ d.new
    → ((test : HopTest) → ranges_by test (c ∷ cs) ≡ ranges_by test (d ∷ ds)) → ((test : HopTest) → addresses_by test (c ∷ cs) ≡ addresses_by test (d ∷ ds)) → c ≡ d
one_pair c cs d ds all each old new ranges addresses =
    same_count c d old new (pair_of (λ (b : ChangeCount). b.ranges) c cs d ds all each old new (ranges (pair c)))
    (pair_of (λ (b : ChangeCount). b.addresses) c cs d ds all each old new (addresses (pair c)))

-- without them the others have the same sums
rest_same : (number : ChangeCount → ℕ) (c : ChangeCount) (cs ds : List ChangeCount) (test : HopTest)
    → sum_by (part number test) (c ∷ cs) ≡ sum_by (part number test) (c ∷ ds) → sum_by (part number test) cs ≡ sum_by (part number test) ds
rest_same number c cs ds test same =
    let one = first_part number test c cs in
    let other = first_part number test c ds in
    omega (arith, one, other, same)

same_tails : (c : ChangeCount) (cs : List ChangeCount) (d : ChangeCount) (ds : List ChangeCount) → c ≡ d
    → ((test : HopTest) → ranges_by test (c ∷ cs) ≡ ranges_by test (d ∷ ds)) → ((test : HopTest) → addresses_by test (c ∷ cs) ≡ addresses_by test (d ∷ ds))
    → (((test : HopTest) → ranges_by test cs ≡ ranges_by test ds) → ((test : HopTest) → addresses_by test cs ≡ addresses_by test ds) → cs ≡ ds)
    → c ∷ cs ≡ d ∷ ds
same_tails c cs d ds same ranges addresses tails =
    let both = tails (λ test. rest_same (λ (b : ChangeCount). b.ranges) c cs ds test (ranges test ∙ ap (λ (b : ChangeCount). ranges_by test (b ∷ ds)) (sym same)))
    (λ test. rest_same (λ (b : ChangeCount). b.addresses) c cs ds test (addresses test ∙ ap (λ (b : ChangeCount). addresses_by test (b ∷ ds)) (sym same))) in
    ap (λ (list : List ChangeCount). c ∷ list) both ∙ ap (λ (b : ChangeCount). b ∷ ds) same

-- lists in order with the same sums are the same
same_lists : (one other : List ChangeCount) → AllPairs IsBefore one → AllPairs IsBefore other → All HasRange one
    → All HasRange other → ((test : HopTest) → ranges_by test one ≡ ranges_by test other)
    → ((test : HopTest) → addresses_by test one ≡ addresses_by test other) → one ≡ other
same_lists [] [] rising rises some any ranges addresses = refl
same_lists [] (d ∷ ds) rising rises some any ranges addresses =
    absurd (not_before d ds [] (All-head HasRange d ds any) (first_rises d ds rises) (All-nil (IsBefore d)) (sym (ranges (pair d))))
same_lists (c ∷ cs) [] rising rises some any ranges addresses =
    absurd (not_before c cs [] (All-head HasRange c cs some) (first_rises c cs rising) (All-nil (IsBefore c)) (ranges (pair c)))
same_lists (c ∷ cs) (d ∷ ds) rising rises some any ranges addresses =
    at (compared c d) (λ ranges addresses. same_lists cs ds (rest_rises c cs rising) (rest_rises d ds rises) (All-tail HasRange c cs some) (All-tail HasRange d ds any) ranges addresses)
  where
    at : IsBefore c d ⊎ (IsBefore d c ⊎ ((hop_position c.old ≡ hop_position d.old) × (hop_position c.new ≡ hop_position d.new)))
        → (((test : HopTest) → ranges_by test cs ≡ ranges_by test ds) → ((test : HopTest) → addresses_by test cs ≡ addresses_by test ds) → cs ≡ ds)
        → c ∷ cs ≡ d ∷ ds
    at (inl before) tails =
        absurd (not_before c cs (d ∷ ds) (All-head HasRange c cs some) (first_rises c cs rising)
        (All-cons (IsBefore c) d ds before (all_later c d ds before (first_rises d ds rises))) (ranges (pair c)))
    at (inr (inl before)) tails =
        absurd (not_before d ds (c ∷ cs) (All-head HasRange d ds any) (first_rises d ds rises)
        (All-cons (IsBefore d) c cs before (all_later d c cs before (first_rises c cs rising))) (sym (ranges (pair d))))
    at (inr (inr (old, new))) tails =
        let olds : c.old ≡ d.old = one_position c.old d.old old in
        let news : c.new ≡ d.new = one_position c.new d.new new in
        let same = one_pair c cs d ds (first_rises c cs rising) (first_rises d ds rises) olds news ranges addresses in
        same_tails c cs d ds same ranges addresses tails

pub have_one_count_list : HaveOneCountList
have_one_count_list list one other is is' =
    same_lists one other is.rising is'.rising is.some is'.some (λ test. is.ranges test ∙ sym (is'.ranges test)) (λ test. is.addresses test ∙ sym (is'.addresses test))
