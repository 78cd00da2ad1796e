-- The counts of ranges in a map by the positions of their next hops: one more range, and the order of the counts.
use Rattle.std.proofs.Common.{◌≡◌, ℕ, ◌+◌, ◌<◌, ◌≤◌, ◌⊎◌, Bool, true, false, if◌then◌else◌, List, [], ◌∷◌, length, get_or, Option, Some, None, option_map, Ordering, Less, Equal, Greater, unwrap_or, take, refl, sym, ap, subst, ◌∙◌, arith}
use Rattle.std.specs.List.{All, AllPairs, sum_by}
use Rattle.std.specs.List.Sorted.{IsStrictlySortedBy}
use Rattle.std.specs.Map.{values_of, keys_of, lookup}
use Rattle.std.specs.BTreeMap.{is_at, insert_entry}
use Rattle.std.specs.Cmp.{IsTotalOrder}
use Rattle.std.specs.Ordering.{nat_cmp, ordering_then}
use Rattle.std.proofs.lemmas.Bool.Decides.{nat_tests}
use Rattle.std.proofs.lemmas.Cmp.{nat_cmp_total, on_total, then_total}
use Rattle.std.proofs.lemmas.List.{get_or-map, get_or_default}
use Rattle.std.proofs.lemmas.List.Elements.{All-cons, All-head, All-tail}
use Rattle.std.proofs.lemmas.List.Sums.{sum_by_more, sum_by_more_le_part}
use Rattle.std.proofs.lemmas.Map.Entries.{sum_by-insert_entry, sum_by-remove_entry, length-values_of, length-keys_of}
use Rattle.std.proofs.lemmas.Map.Keys.{Less-from_sorted}
use Rattle.std.proofs.lemmas.Map.Views.{All-values-insert_entry}
use Rattle.rt_rib.specs.declared.routes.Hop.{Hop}
use Rattle.rt_rib.specs.declared.routes.Hop.TheVariants.{Via, Discard}
use Rattle.rt_diff.specs.declared.comparison.Difference.{Difference}
use Rattle.rt_print.specs.declared.change_counts.ChangeCount.{ChangeCount}
use Rattle.rt_print.specs.ChangeCounts.{hop_of, HopTest, passes, is_counted, range_size, hop_position, IsBefore}
use Rattle.rt_print.specs.inside.ChangeMaps.{Entries, IsKeyed, AreKeyed, CountsOneMore}

-- the order of the keys
abbrev pub key_cmp : ℕ × ℕ → ℕ × ℕ → Ordering
key_cmp x y = ordering_then (nat_cmp x.0 y.0) (nat_cmp x.1 y.1)

key_cmp_total : IsTotalOrder key_cmp
key_cmp_total = then_total (on_total (λ p. p.0) nat_cmp_total) (on_total (λ p. p.1) nat_cmp_total)

-- a next hop has a position of its own
pub one_position : (a b : Option Hop) → hop_position a ≡ hop_position b → a ≡ b
one_position None None is = refl
one_position None (Some Discard) is = absurd (omega (arith, is))
one_position None (Some (Via y)) is = absurd (omega (arith, is))
one_position (Some Discard) None is = absurd (omega (arith, is))
one_position (Some Discard) (Some Discard) is = refl
one_position (Some Discard) (Some (Via y)) is = absurd (omega (arith, is))
one_position (Some (Via x)) None is = absurd (omega (arith, is))
one_position (Some (Via x)) (Some Discard) is = absurd (omega (arith, is))
one_position (Some (Via x)) (Some (Via y)) is = let same : x.0 ≡ y.0 = omega (arith, is) in ap (λ n. Some (Via (record { 0 = n }))) same

-- equal keys, and a lower one
equal_keys : (x y : ℕ × ℕ) → key_cmp x y ≡ Equal → (x.0 ≡ y.0) × (x.1 ≡ y.1)
equal_keys x y is = grind (arith, nat_tests)

less_keys : (x y : ℕ × ℕ) → key_cmp x y ≡ Less → (x.0 < y.0) ⊎ ((x.0 ≡ y.0) × (x.1 < y.1))
less_keys x y is = grind (arith, nat_tests)

-- the count that a look-up finds has the next hops of the key
found_hops : (es : Entries) (k : ℕ × ℕ) (c : ChangeCount) → AreKeyed es → lookup (is_at (key_cmp k)) es ≡ Some c
    → (k.0 ≡ hop_position c.old) × (k.1 ≡ hop_position c.new)
found_hops [] k c keyed is = absurd cc
found_hops (e ∷ es) k c keyed is =
    at (key_cmp k e.0) refl (All-head IsKeyed e es keyed) is (λ found. found_hops es k c (All-tail IsKeyed e es keyed) found)
  where
    at : (o : Ordering) → key_cmp k e.0 ≡ o → IsKeyed e → lookup (is_at (key_cmp k)) (e ∷ es) ≡ Some c
        → (lookup (is_at (key_cmp k)) es ≡ Some c → (k.0 ≡ hop_position c.old) × (k.1 ≡ hop_position c.new))
        → (k.0 ≡ hop_position c.old) × (k.1 ≡ hop_position c.new)
    at Less o here is later = later (rw o at is)
    at Greater o here is later = later (rw o at is)
    at Equal o here is later =
        let same = equal_keys k e.0 o in
        let found : Some e.1 ≡ Some c = rw o at is in
        let value : e.1 ≡ c = grind (arith, found) in
        subst (λ (c : ChangeCount). (k.0 ≡ hop_position c.old) × (k.1 ≡ hop_position c.new)) value (same.0 ∙ here.0, same.1 ∙ here.1)

-- an inserted entry keeps what holds of all entries
module _ (P : (ℕ × ℕ) × ChangeCount → Type 0) (k : ℕ × ℕ) (c : ChangeCount) (here : P (k, c)) (moved : (e : (ℕ × ℕ) × ChangeCount) → key_cmp k e.0 ≡ Equal → P (e.0, c)) where
  all_inserted : (es : Entries) → All P es → All P (insert_entry key_cmp es k c)
  all_inserted [] all = All-cons P (k, c) [] here all
  all_inserted (e ∷ es) all = at (key_cmp k e.0) refl all (all_inserted es (All-tail P e es all))
    where
      at : (o : Ordering) → key_cmp k e.0 ≡ o → All P (e ∷ es) → All P (insert_entry key_cmp es k c) → All P (insert_entry key_cmp (e ∷ es) k c)
      at Less o all later = rw o (All-cons P (k, c) (e ∷ es) here all)
      at Equal o all later = rw o (All-cons P (e.0, c) es (moved e o) (All-tail P e es all))
      at Greater o all later = rw o (All-cons P e (insert_entry key_cmp es k c) (All-head P e es all) later)

-- the sum of a number of each count, after an entry was inserted
sum_more : (f : ChangeCount → ℕ) (es : Entries) (k : ℕ × ℕ) (c : ChangeCount) (found : Option ChangeCount) (more : ℕ) → IsStrictlySortedBy key_cmp (keys_of es)
    → lookup (is_at (key_cmp k)) es ≡ found → f c ≡ unwrap_or (option_map f found) 0 + more
    → sum_by f (values_of (insert_entry key_cmp es k c)) ≡ sum_by f (values_of es) + more
sum_more f es k c found more sorted is one =
    let sum = sum_by-insert_entry f key_cmp_total es k c sorted in
    omega (arith, one, rw is at sum)

-- a sum under a test
if_sum : (passes : Bool) (n m one : ℕ) → n ≡ m + one → (if passes then n else 0) ≡ (if passes then m else 0) + (if passes then one else 0)
if_sum true n m one is = is
if_sum false n m one is = refl

none_sum : (passes : Bool) (n one : ℕ) → n ≡ 0 + one → (if passes then n else 0) ≡ 0 + (if passes then one else 0)
none_sum true n one is = is
none_sum false n one is = refl

-- one more range is counted
module _ (es more : Entries) (d : Difference) (c : ChangeCount) (k : ℕ × ℕ) (found : Option ChangeCount) (keyed : AreKeyed es) (sorted : IsStrictlySortedBy key_cmp (keys_of es))
    (key : IsKeyed (k, c)) (old : c.old ≡ hop_of d.old) (new : c.new ≡ hop_of d.new) (is : lookup (is_at (key_cmp k)) es ≡ found)
    (ranges : c.ranges ≡ unwrap_or (option_map (λ (b : ChangeCount). b.ranges) found) 0 + 1)
    (addresses : c.addresses ≡ unwrap_or (option_map (λ (b : ChangeCount). b.addresses) found) 0 + range_size d)
    (inserted : more ≡ insert_entry key_cmp es k c) where
  -- a number of the found count, if the test passes
  by_test : (number : ChangeCount → ℕ) (one : ℕ) (test : HopTest) → (b : Option ChangeCount) → found ≡ b → number c ≡ unwrap_or (option_map number b) 0 + one
      → (if test c.old c.new then number c else 0) ≡ unwrap_or (option_map (λ (b : ChangeCount). if test b.old b.new then number b else 0) b) 0 + (if passes test d then one else 0)
  by_test number one test None none sum = rw (← old, ← new) (none_sum (test c.old c.new) (number c) one sum)
  by_test number one test (Some b) some sum =
      let hops = found_hops es k b keyed (is ∙ some) in
      let same-old : b.old ≡ c.old = one_position b.old c.old (sym hops.0 ∙ key.0) in
      let same-new : b.new ≡ c.new = one_position b.new c.new (sym hops.1 ∙ key.1) in
      let same : test b.old b.new ≡ test c.old c.new = ap (λ (h : Option Hop). test h b.new) same-old ∙ ap (test c.old) same-new in
      rw (← old, ← new, same) (if_sum (test c.old c.new) (number c) (number b) one sum)

  pub counts_one_more : CountsOneMore d es more
  counts_one_more = rw inserted (record {
    keyed = all_inserted IsKeyed k c key (λ e o. let same = equal_keys _ _ o in (sym same.0 ∙ key.0, sym same.1 ∙ key.1)) es keyed;
    ranges = λ test. sum_more _ es k c found _ sorted is (by_test (λ (b : ChangeCount). b.ranges) 1 test found refl ranges);
    addresses = λ test. sum_more _ es k c found _ sorted is (by_test (λ (b : ChangeCount). b.addresses) (range_size d) test found refl addresses);
    all_ranges = sum_more _ es k c found 1 sorted is ranges;
    all_addresses = sum_more _ es k c found (range_size d) sorted is addresses;
    some = λ all. let positive : 0 < c.ranges = omega (arith, ranges) in All-values-insert_entry key_cmp k c (λ (b : ChangeCount). 0 < b.ranges) es all positive;
  })

-- a found count is among the sums
pub found_below : (f : ChangeCount → ℕ) (test : ℕ × ℕ → Bool) (es : Entries) → unwrap_or (option_map f (lookup test es)) 0 ≤ sum_by f (values_of es)
found_below f test es = let sum = sum_by-remove_entry f test es in omega (arith, sum)

-- the counts are in order
rises : (e f : (ℕ × ℕ) × ChangeCount) → IsKeyed e → IsKeyed f → key_cmp e.0 f.0 ≡ Less → IsBefore e.1 f.1
rises e f one other less = rw (← one.0, ← one.1, ← other.0, ← other.1) (less_keys e.0 f.0 less)

pub counts_rise : (es : Entries) → AreKeyed es → IsStrictlySortedBy key_cmp (keys_of es) → AllPairs IsBefore (values_of es)
counts_rise es keyed sorted i j d before below =
    let none : (ℕ × ℕ) × ChangeCount = ((0, 0), d) in
    let later : j < length es = omega (arith, below, length-values_of es) in
    let earlier : i < length es = omega (arith, before, later) in
    let less = Less-from_sorted key_cmp (keys_of es) i j (0, 0) sorted before (omega (arith, later, length-keys_of es)) in
    rw (get_or-map (λ (e : (ℕ × ℕ) × ChangeCount). e.1) es i none d earlier, get_or-map (λ (e : (ℕ × ℕ) × ChangeCount). e.1) es j none d later)
    (rises (get_or es i none) (get_or es j none) (keyed i none earlier) (keyed j none later)
    (rw (get_or-map (λ (e : (ℕ × ℕ) × ChangeCount). e.0) es i none (0, 0) earlier, get_or-map (λ (e : (ℕ × ℕ) × ChangeCount). e.0) es j none (0, 0) later) at less))

-- the count after the end of a list
abbrev pub no_count : ChangeCount
no_count = record { old = None; new = None; ranges = 0; addresses = 0 }

-- a number of the counts that pass a test, and that of one more count, fit
part_below : (passes : Bool) (n : ℕ) → (if passes then n else 0) ≤ n
part_below true n = omega arith
part_below false n = omega arith

module _ (number : ChangeCount → ℕ) (test : HopTest) where
  abbrev pub part : ChangeCount → ℕ
  part c = if is_counted test c then number c else 0

  pub part_fits : (counts : List ChangeCount) (i : ℕ) → i < length counts → sum_by part (take i counts) + number (get_or counts i no_count) ≤ sum_by number counts
  part_fits counts i here = sum_by_more_le_part part number counts i no_count here (λ b. part_below (is_counted test b) (number b))

  -- the sum with one more count, if it passes or if it doesn't
  pub part_more : (counts : List ChangeCount) (i sum : ℕ) → i < length counts → is_counted test (get_or counts i no_count) ≡ true → sum ≡ sum_by part (take i counts)
      → sum + number (get_or counts i no_count) ≡ sum_by part (take (i + 1) counts)
  part_more counts i sum here passes is =
      let more = sum_by_more part counts i no_count here in
      omega (arith, is, rw passes at more)

  pub part_same : (counts : List ChangeCount) (i sum : ℕ) → i < length counts → is_counted test (get_or counts i no_count) ≡ false → sum ≡ sum_by part (take i counts)
      → sum ≡ sum_by part (take (i + 1) counts)
  part_same counts i sum here fails is =
      let more = sum_by_more part counts i no_count here in
      omega (arith, is, rw fails at more)

-- the count at a position, as the printers of lists take it
pub count_at : (counts : List ChangeCount) (i : ℕ) → i < length counts → get_or counts i no_count ≡ get_or counts i (get_or counts i no_count)
count_at counts i here = get_or_default counts i no_count (get_or counts i no_count) here
