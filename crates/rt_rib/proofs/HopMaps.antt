-- Counts by next hop in a map by the next hops' positions: one more route; and the counts of all best routes of a table.
use Rattle.std.proofs.Common.{◌≡◌, ℕ, ◌+◌, ◌<◌, Bool, true, false, if◌then◌else◌, List, [], ◌∷◌, length, Option, Some, None, option_map, Ordering, Less, Equal, Greater, unwrap_or, inl, inr, refl, sym, ap, subst, ◌∙◌, arith}
use Rattle.std.specs.List.{All, AllPairs, Contains, sum_by}
use Rattle.std.specs.List.Sorted.{IsStrictlySortedBy}
use Rattle.std.specs.Map.{values_of, keys_of, lookup}
use Rattle.std.specs.BTreeMap.{is_at, insert_entry}
use Rattle.std.specs.Ordering.{nat_cmp}
use Rattle.std.proofs.lemmas.Bool.{cases_Bool, cond-true, cond-false, false_from_ne_true, eqb-true, eq-eqb}
use Rattle.std.proofs.lemmas.Cmp.{nat_cmp_total}
use Rattle.std.proofs.lemmas.List.{get_or-map}
use Rattle.std.proofs.lemmas.List.Elements.{All-cons, All-head, All-tail, All-contains}
use Rattle.std.proofs.lemmas.List.Sums.{sum_by-cons}
use Rattle.std.proofs.lemmas.Map.Entries.{sum_by-insert_entry, length-values_of, length-keys_of}
use Rattle.std.proofs.lemmas.Map.Keys.{below_from_sorted}
use Rattle.std.proofs.lemmas.Map.Lookups.{exact_unsigned}
use Rattle.std.proofs.lemmas.Map.Views.{All-values-insert_entry, Contains-from_lookup, tells_apart}
use Rattle.rt_rib.specs.declared.routes.Hop.{Hop}
use Rattle.rt_rib.specs.declared.routes.Hop.TheVariants.{Via, Discard}
use Rattle.rt_rib.specs.declared.routes.Route.{Route}
use Rattle.rt_rib.specs.declared.hop_counts.HopCount.{HopCount}
use Rattle.rt_rib.specs.HopCounts.{uses_of, hop_position, AreHopCounts}
use Rattle.rt_rib.specs.Selection.{same_hop}
use Rattle.rt_rib.specs.inside.HopMaps.{Entries, IsKeyed, AreKeyed, routes_with, CountsOneMore}
use Rattle.rt_rib.proofs.Lists.{AllPairs-head, AllPairs-tail}
use Rattle.rt_rib.proofs.Sets.{Contains-head, Contains-tail, Contains-cases, Contains-none}

-- a next hop has a position of its own
one_position : (a b : Hop) → hop_position a ≡ hop_position b → a ≡ b
one_position Discard Discard is = refl
one_position Discard (Via y) is = absurd (omega (arith, is))
one_position (Via x) Discard is = absurd (omega (arith, is))
one_position (Via x) (Via y) is = let same : x.0 ≡ y.0 = omega (arith, is) in ap (λ n. Via (record { 0 = n })) same

-- next hops that are the same are equal
same_hop-true : (a b : Hop) → same_hop a b ≡ true → a ≡ b
same_hop-true (Via x) (Via y) is = ap (λ n. Via (record { 0 = n })) (eqb-true x.0 y.0 is)
same_hop-true (Via x) Discard is = absurd cc
same_hop-true Discard (Via y) is = absurd cc
same_hop-true Discard Discard is = refl

same_hop-itself : (a : Hop) → same_hop a a ≡ true
same_hop-itself (Via x) = eq-eqb x.0 x.0 refl
same_hop-itself Discard = refl

-- next hops at other positions are not the same
other_hop : (a b : Hop) → ¬ (hop_position a ≡ hop_position b) → same_hop a b ≡ false
other_hop a b apart = false_from_ne_true (same_hop a b) (λ same. apart (ap hop_position (same_hop-true a b same)))

-- the count that a look-up finds has the next hop of the key
found_hop : (es : Entries) (k : ℕ) (c : HopCount) → AreKeyed es → lookup (is_at (nat_cmp k)) es ≡ Some c → k ≡ hop_position c.hop
found_hop es k c keyed is = All-contains IsKeyed es (k, c) keyed (Contains-from_lookup (tells_apart exact_unsigned) k c es is)

-- an inserted entry keeps what holds of all entries
module _ (P : ℕ × HopCount → Type 0) (k : ℕ) (c : HopCount) (here : P (k, c)) where
  all_inserted : (es : Entries) → All P es → All P (insert_entry nat_cmp es k c)
  all_inserted [] all = All-cons P (k, c) [] here all
  all_inserted (e ∷ es) all = at (nat_cmp k e.0) refl all (all_inserted es (All-tail P e es all))
    where
      at : (o : Ordering) → nat_cmp k e.0 ≡ o → All P (e ∷ es) → All P (insert_entry nat_cmp es k c) → All P (insert_entry nat_cmp (e ∷ es) k c)
      at Less o all later = rw o (All-cons P (k, c) (e ∷ es) here all)
      at Equal o all later =
          let moved : P (e.0, c) = subst (λ (n : ℕ). P (n, c)) (exact_unsigned k e.0 o) here in
          rw o (All-cons P (e.0, c) es moved (All-tail P e es all))
      at Greater o all later = rw o (All-cons P e (insert_entry nat_cmp es k c) (All-head P e es all) later)

-- the sum of a number of each count, after an entry was inserted
sum_more : (f : HopCount → ℕ) (es : Entries) (k : ℕ) (c : HopCount) (found : Option HopCount) (more : ℕ) → IsStrictlySortedBy nat_cmp (keys_of es)
    → lookup (is_at (nat_cmp k)) es ≡ found → f c ≡ unwrap_or (option_map f found) 0 + more
    → sum_by f (values_of (insert_entry nat_cmp es k c)) ≡ sum_by f (values_of es) + more
sum_more f es k c found more sorted is one =
    let sum = sum_by-insert_entry f nat_cmp_total es k c sorted in
    omega (arith, one, rw is at sum)

-- a sum under a test
if_sum : (passes : Bool) (n m : ℕ) → n ≡ m + 1 → (if passes then n else 0) ≡ (if passes then m else 0) + (if passes then 1 else 0)
if_sum true n m is = is
if_sum false n m is = refl

none_sum : (passes : Bool) (n : ℕ) → n ≡ 0 + 1 → (if passes then n else 0) ≡ 0 + (if passes then 1 else 0)
none_sum true n is = is
none_sum false n is = refl

-- the routes of a count, if it has this next hop
abbrev pub part : Hop → HopCount → ℕ
part hop c = if same_hop c.hop hop then c.routes else 0

-- one more route is counted
module _ (es more : Entries) (c : HopCount) (k : ℕ) (found : Option HopCount) (keyed : AreKeyed es) (sorted : IsStrictlySortedBy nat_cmp (keys_of es))
    (key : IsKeyed (k, c)) (is : lookup (is_at (nat_cmp k)) es ≡ found)
    (routes : c.routes ≡ unwrap_or (option_map (λ (b : HopCount). b.routes) found) 0 + 1)
    (inserted : more ≡ insert_entry nat_cmp es k c) where
  -- the routes of the found count, if it has this next hop
  by_found : (h : Hop) (b : Option HopCount) → found ≡ b → c.routes ≡ unwrap_or (option_map (λ (b : HopCount). b.routes) b) 0 + 1
      → part h c ≡ unwrap_or (option_map (part h) b) 0 + (if same_hop c.hop h then 1 else 0)
  by_found h None none sum = none_sum (same_hop c.hop h) c.routes sum
  by_found h (Some b) some sum =
      let same : b.hop ≡ c.hop = one_position b.hop c.hop (sym (found_hop es k b keyed (is ∙ some)) ∙ key) in
      rw same (if_sum (same_hop c.hop h) c.routes b.routes sum)

  pub counts_one_more : CountsOneMore c.hop es more
  counts_one_more = rw inserted (record {
    keyed = all_inserted IsKeyed k c key es keyed;
    routes = λ h. sum_more (part h) es k c found _ sorted is (by_found h found refl routes);
    all = sum_more _ es k c found 1 sorted is routes;
    some = λ all. let positive : 0 < c.routes = omega (arith, routes) in All-values-insert_entry nat_cmp k c (λ (b : HopCount). 0 < b.routes) es all positive;
  })

-- the count comes before the other one
abbrev pub IsBefore : HopCount → HopCount → Type 0
IsBefore c d = hop_position c.hop < hop_position d.hop

-- counts in a map are in order
counts_rise : (es : Entries) → AreKeyed es → IsStrictlySortedBy nat_cmp (keys_of es) → AllPairs IsBefore (values_of es)
counts_rise es keyed sorted i j d before below =
    let none : ℕ × HopCount = (0, d) in
    let later : j < length es = omega (arith, below, length-values_of es) in
    let earlier : i < length es = omega (arith, before, later) in
    let less = below_from_sorted (keys_of es) i j 0 sorted before (omega (arith, later, length-keys_of es)) in
    rw (get_or-map (λ (e : ℕ × HopCount). e.1) es i none d earlier, get_or-map (λ (e : ℕ × HopCount). e.1) es j none d later)
    (rw (← keyed i none earlier, ← keyed j none later)
    (rw (get_or-map (λ (e : ℕ × HopCount). e.0) es i none 0 earlier, get_or-map (λ (e : ℕ × HopCount). e.0) es j none 0 later) at less))

-- later counts have no routes with the next hop of a count
none_later : (c : HopCount) (cs : List HopCount) → All (IsBefore c) cs → routes_with c.hop cs ≡ 0
none_later c [] all = refl
none_later c (d ∷ ds) all =
    let rest = none_later c ds (All-tail (IsBefore c) d ds all) in
    let before : hop_position c.hop < hop_position d.hop = All-head (IsBefore c) d ds all in
    let none : part c.hop d ≡ 0 = cond-false (same_hop d.hop c.hop) d.routes 0 (other_hop d.hop c.hop (λ same. omega (arith, same, before))) in
    omega (arith, rest, none, sum_by-cons (part c.hop) d ds)

-- a count has all routes with its next hop
one_count : (cs : List HopCount) (c : HopCount) → AllPairs IsBefore cs → Contains cs c → routes_with c.hop cs ≡ c.routes
one_count [] c rising there = absurd (Contains-none c there)
one_count (d ∷ ds) c rising there =
    let first = AllPairs-head IsBefore d ds rising in
    elim (Contains-cases d ds c there) [
      | inl here ↦
          let none = none_later d ds first in
          let own : part d.hop d ≡ d.routes = cond-true (same_hop d.hop d.hop) d.routes 0 (same_hop-itself d.hop) in
          subst (λ (x : HopCount). routes_with x.hop (d ∷ ds) ≡ x.routes) here (omega (arith, none, own, sum_by-cons (part d.hop) d ds))
      | inr later ↦
          let before : hop_position d.hop < hop_position c.hop = All-contains (IsBefore d) ds c first later in
          let none : part c.hop d ≡ 0 = cond-false (same_hop d.hop c.hop) d.routes 0 (other_hop d.hop c.hop (λ same. omega (arith, same, before))) in
          let rest = one_count ds c (AllPairs-tail IsBefore d ds rising) later in
          omega (arith, none, rest, sum_by-cons (part c.hop) d ds)
    ]

-- if there are routes with a next hop, there is a count of it
some_count : (cs : List HopCount) (hop : Hop) → 0 < routes_with hop cs → (c : HopCount) × Contains cs c × (c.hop ≡ hop)
some_count [] hop some = absurd (omega (arith, some))
some_count (d ∷ ds) hop some = elim (cases_Bool (same_hop d.hop hop)) [
  | inl one ↦ (d, Contains-head d ds, same_hop-true d.hop hop one)
  | inr other ↦
      let none : part hop d ≡ 0 = cond-false (same_hop d.hop hop) d.routes 0 other in
      let rest = some_count ds hop (omega (arith, some, none, sum_by-cons (part hop) d ds)) in
      (rest.0, Contains-tail d ds rest.0 rest.1, rest.2)
]

-- the counts of a map are those of the table, if each next hop has as many routes in both
pub are_counts : (table : List Route) (es : Entries) → AreKeyed es → IsStrictlySortedBy nat_cmp (keys_of es)
    → All (λ (c : HopCount). 0 < c.routes) (values_of es) → ((hop : Hop) → routes_with hop (values_of es) ≡ uses_of hop table)
    → AreHopCounts table (values_of es)
are_counts table es keyed sorted some same =
    let cs = values_of es in
    let rising = counts_rise es keyed sorted in
    record {
      ordered = rising;
      exactly = λ c. (
        (λ there. record {
          some = All-contains (λ (c : HopCount). 0 < c.routes) cs c some there;
          counted = sym (one_count cs c rising there) ∙ same c.hop;
        }),
        (λ h.
            let is : c.routes ≡ routes_with c.hop cs = h.counted ∙ sym (same c.hop) in
            let found = some_count cs c.hop (omega (arith, is, h.some)) in
            let routes : found.0.routes ≡ c.routes = sym (one_count cs found.0 rising found.1) ∙ ap (λ (hop : Hop). routes_with hop cs) found.2 ∙ sym is in
            subst (Contains cs) (λ i. record { hop = found.2 i; routes = routes i }) found.1),
      );
    }
