-- The result of a look-up, in terms of the elements of the set.
use Rattle.std.proofs.Common.{◌≡◌, ◌≤◌, Bool, true, false, not, leb, inl, inr, List, [], ◌∷◌, get_or, Some, None, ap, ◌∙◌, sym, subst, arith}
use Rattle.std.proofs.lemmas.Bool.{cases_Bool, cond-true, cond-false, both_ways, false_from_ne_true, and_parts, and_from, not-true, not_from_false}
use Rattle.std.proofs.lemmas.Bool.{leb-true, le-leb}
use Rattle.std.specs.Prelude.{◌&&◌}
use Rattle.std.proofs.lemmas.List.Elements.{All-contains, Contains-get_or}
use Rattle.std.specs.List.{AllPairs, Contains, find, list_all}
use Rattle.rt_cidr.specs.declared.address.Addr.{Addr}
use Rattle.rt_cidr.specs.Prefix.{covers}
use Rattle.rt_rib.specs.declared.routes.Route.{Route}
use Rattle.rt_rib.specs.Table.{is_better, is_of, IsTable}
use Rattle.rt_rib.specs.LookUp.{matching, longest_of, best, look_up, beats}
use Rattle.rt_rib.specs.Laws.{IsBestMatch, LookUpFindsBest}
use Rattle.rt_rib.proofs.Lists.{AllPairs-head, AllPairs-tail, filter-none, list_all-from}
use Rattle.rt_rib.proofs.Order.{below_then-true, below_then-false, below_then-less, below_then-same, below_then-trans, is_better-trans, is_better-itself, better-over, even}
use Rattle.rt_rib.proofs.Order.{is_of-from}
use Rattle.rt_rib.proofs.Tables.{Apart, Apart-flip}
use Rattle.rt_rib.proofs.Sets.{Contains-head, Contains-tail, Contains-cases, Contains-none, filter-keeps, filter-from}
use Rattle.rt_rib.proofs.Covering.{base_at, covers-base}

-- an element of a list satisfies a test that all elements satisfy
pub list_all-contained : {X : Type 0} (p : X → Bool) (xs : List X) (x : X) → list_all p xs ≡ true → Contains xs x → p x ≡ true
list_all-contained p [] x e c = absurd (Contains-none x c)
list_all-contained p (y ∷ xs) x e c =
    let parts = and_parts (p y) (list_all p xs) e in
    elim (Contains-cases y xs x c) [ inl here ↦ ap p (sym here) ∙ parts.0 | inr later ↦ list_all-contained p xs x parts.1 later ]

-- the converse: if every element satisfies a test, all do
pub list_all-from_contained : {X : Type 0} (p : X → Bool) (xs : List X) → ((x : X) → Contains xs x → p x ≡ true) → list_all p xs ≡ true
list_all-from_contained p xs h = list_all-from p xs (λ k d l. h (get_or xs k d) (Contains-get_or xs k d l))

-- if some element satisfies a test, `find` returns one that does
find-some : {X : Type 0} (p : X → Bool) (xs : List X) (x : X) → Contains xs x → p x ≡ true → (y : X) × (find p xs ≡ Some y) × Contains xs y × (p y ≡ true)
find-some p [] x c e = absurd (Contains-none x c)
find-some p (z ∷ xs) x c e = elim (cases_Bool (p z)) [
  | inl passes ↦ (z, cond-true (p z) (Some z) (find p xs) passes, Contains-head z xs, passes)
  | inr fails ↦ elim (Contains-cases z xs x c) [
    | inl here ↦ absurd (both_ways (p z) fails (ap p here ∙ e))
    | inr later ↦
        let rest = find-some p xs x later e in
        (rest.0, cond-false (p z) (Some z) (find p xs) fails ∙ rest.1, Contains-tail z xs rest.0 rest.2, rest.3)
  ]
]

-- the element that `find` returns is in the list and satisfies the test
find-from : {X : Type 0} (p : X → Bool) (xs : List X) (y : X) → find p xs ≡ Some y → Contains xs y × (p y ≡ true)
find-from p [] y e = cc
find-from p (z ∷ xs) y e = elim (cases_Bool (p z)) [
  | inl passes ↦
      let found : Some z ≡ Some y = sym (cond-true (p z) (Some z) (find p xs) passes) ∙ e in
      let same : z ≡ y = cc in
      (subst (Contains (z ∷ xs)) same (Contains-head z xs), subst (λ x. p x ≡ true) same passes)
  | inr fails ↦
      let rest = find-from p xs y (sym (cond-false (p z) (Some z) (find p xs) fails) ∙ e) in
      (Contains-tail z xs y rest.0, rest.1)
]

-- a table contains only one route of a feed to a prefix
pub one_of : (t : List Route) → AllPairs Apart t → (r s : Route) → Contains t r → Contains t s → is_of r.feed r.prefix s ≡ true → s ≡ r
one_of [] h r s c d e = absurd (Contains-none r c)
one_of (x ∷ t) h r s c d e =
    elim (Contains-cases x t r c) [
      | inl first ↦ elim (Contains-cases x t s d) [
        | inl also ↦ sym also ∙ first
        | inr later ↦
            let apart : Apart r s = subst (λ z. Apart z s) first (All-contains (Apart x) t s (AllPairs-head Apart x t h) later) in
            absurd (both_ways (is_of r.feed r.prefix s) (Apart-flip r s apart) e)
      ]
      | inr behind ↦ elim (Contains-cases x t s d) [
        | inl also ↦
            let apart : Apart s r = subst (λ z. Apart z r) also (All-contains (Apart x) t r (AllPairs-head Apart x t h) behind) in
            absurd (both_ways (is_of r.feed r.prefix s) apart e)
        | inr later ↦ one_of t (AllPairs-tail Apart x t h) r s behind later e
      ]
    ]

-- if r beats u and s doesn't, then r beats s
beats-over : (r s u : Route) → beats r u ≡ true → beats s u ≡ false → beats r s ≡ true
beats-over r s u x y =
    elim (below_then-true u.prefix.len r.prefix.len (is_better r u) x) [
      | inl more ↦ elim (below_then-false u.prefix.len s.prefix.len (is_better s u) y) [
        | inl less ↦ below_then-less s.prefix.len r.prefix.len (is_better r s) (omega arith)
        | inr same ↦ let e = same.0 in below_then-less s.prefix.len r.prefix.len (is_better r s) (omega arith)
      ]
      | inr also ↦ elim (below_then-false u.prefix.len s.prefix.len (is_better s u) y) [
        | inl less ↦ let e = also.0 in below_then-less s.prefix.len r.prefix.len (is_better r s) (omega arith)
        | inr same ↦
            let e = also.0 in
            let f = same.0 in
            below_then-same s.prefix.len r.prefix.len (is_better r s) (omega arith) (better-over r s u also.1 same.1)
      ]
    ]

-- no route beats itself
pub beats-itself : (r : Route) → beats r r ≡ false
beats-itself r = false_from_ne_true (beats r r) (λ e. elim (below_then-true r.prefix.len r.prefix.len (is_better r r) e) [
  | inl less ↦ omega arith
  | inr same ↦ both_ways (is_better r r) (is_better-itself r) same.1
])

-- `beats` is transitive
pub beats-trans : (r s u : Route) → beats r s ≡ true → beats s u ≡ true → beats r u ≡ true
beats-trans r s u x y =
    below_then-trans u.prefix.len s.prefix.len r.prefix.len (is_better s u) (is_better r s) (is_better r u) (λ p q. is_better-trans r s u q p) y x

-- a route that covers the address, out of this one and those of the list, that none of them beats
record IsTop (addr : Addr) (first : Route) (rest : List Route) : Type 0 where
  top : Route
  contained : Contains (first ∷ rest) top
  covering : covers top.prefix addr ≡ true
  unbeaten : (s : Route) → Contains (first ∷ rest) s → covers s.prefix addr ≡ true → beats s top ≡ false

-- there is one if the first route covers the address
find_top : (addr : Addr) (first : Route) (rest : List Route) → covers first.prefix addr ≡ true → IsTop addr first rest
find_top addr first [] c = record {
  top = first;
  contained = Contains-head first [];
  covering = c;
  unbeaten = λ s d e. elim (Contains-cases first [] s d) [
    | inl here ↦ subst (λ z. beats z first ≡ false) here (beats-itself first)
    | inr none ↦ absurd (Contains-none s none)
  ];
}
find_top addr first (x ∷ rest) c = elim (cases_Bool (covers x.prefix addr && beats x first)) [
  | inl wins ↦
      let parts = and_parts (covers x.prefix addr) (beats x first) wins in
      let h = find_top addr x rest parts.0 in
      record {
        top = h.top;
        contained = Contains-tail first (x ∷ rest) h.top h.contained;
        covering = h.covering;
        unbeaten = λ s d e. elim (Contains-cases first (x ∷ rest) s d) [
          | inl here ↦ subst (λ z. beats z h.top ≡ false) here (false_from_ne_true (beats first h.top) (λ over.
              both_ways (beats x h.top) (h.unbeaten x (Contains-head x rest) parts.0) (beats-trans x first h.top parts.1 over)))
          | inr later ↦ h.unbeaten s later e
        ];
      }
  | inr loses ↦
      let h = find_top addr first rest c in
      record {
        top = h.top;
        contained = elim (Contains-cases first rest h.top h.contained) [
          | inl here ↦ subst (Contains (first ∷ x ∷ rest)) here (Contains-head first (x ∷ rest))
          | inr later ↦ Contains-tail first (x ∷ rest) h.top (Contains-tail x rest h.top later)
        ];
        covering = h.covering;
        unbeaten = λ s d e. elim (Contains-cases first (x ∷ rest) s d) [
          | inl here ↦ h.unbeaten s (subst (Contains (first ∷ rest)) here (Contains-head first rest)) e
          | inr later ↦ elim (Contains-cases x rest s later) [
            | inl same ↦ false_from_ne_true (beats s h.top) (λ over.
                let covered : covers x.prefix addr ≡ true = ap (λ z. covers z.prefix addr) same ∙ e in
                let more : beats x first ≡ true = ap (λ z. beats z first) same
                ∙ beats-over s first h.top over (h.unbeaten first (Contains-head first rest) c) in
                both_ways (covers x.prefix addr && beats x first) loses (and_from (covers x.prefix addr) (beats x first) covered more))
            | inr behind ↦ h.unbeaten s (Contains-tail first rest s behind) e
          ]
        ];
      }
]

module _ (addr : Addr) (t : List Route) (table : IsTable t) where
  -- true if the prefix covers the address
  abbrev covering : Route → Bool
  covering s = covers s.prefix addr

  -- true if no match is longer
  abbrev is_long : Route → Bool
  is_long s = list_all (λ u. leb u.prefix.len s.prefix.len) (matching addr t)

  -- true if none of the longest matches is better
  abbrev is_best : Route → Bool
  is_best s = list_all (λ u. not (is_better u s)) (longest_of (matching addr t))

  -- a longest match covers the address, and is as long as any other that does
  known : (s : Route) → Contains (longest_of (matching addr t)) s
      → Contains t s × (covering s ≡ true) × ((u : Route) → Contains t u → covering u ≡ true → u.prefix.len ≤ s.prefix.len)
  known s c =
      let long = filter-from is_long (matching addr t) s c in
      let match = filter-from covering t s long.0 in (
        match.0,
        match.1,
        λ u d e. leb-true u.prefix.len s.prefix.len
            (list_all-contained (λ v. leb v.prefix.len s.prefix.len) (matching addr t) u long.1 (filter-keeps covering t u d e)),
      )

  -- the converse
  is_longest : (s : Route) → Contains t s → covering s ≡ true → ((u : Route) → Contains t u → covering u ≡ true → u.prefix.len ≤ s.prefix.len)
      → Contains (longest_of (matching addr t)) s
  is_longest s c e most =
      filter-keeps is_long (matching addr t) s (filter-keeps covering t s c e)
      (list_all-from_contained (λ u. leb u.prefix.len s.prefix.len) (matching addr t) (λ u d.
      let match = filter-from covering t u d in le-leb u.prefix.len s.prefix.len (most u match.0 match.1)))

  sound : (r : Route) → look_up addr t ≡ Some r → IsBestMatch addr t r
  unfolding look_up
  sound r e =
      let found = find-from is_best (longest_of (matching addr t)) r e in
      let facts = known r found.0 in
      record {
        contained = facts.0;
        covering = facts.1;
        longest = facts.2;
        best = λ s c d same.
            not-true (is_better s r) (list_all-contained (λ u. not (is_better u r)) (longest_of (matching addr t)) s found.1
            (is_longest s c d (λ u k l. let most = facts.2 u k l in omega arith)));
      }

  complete : (r : Route) → IsBestMatch addr t r → look_up addr t ≡ Some r
  unfolding look_up
  complete r h =
      let there = is_longest r h.contained h.covering h.longest in
      let wins : is_best r ≡ true =
      list_all-from_contained (λ u. not (is_better u r)) (longest_of (matching addr t)) (λ s c.
      let facts = known s c in
      let low = h.longest s facts.0 facts.1 in
      let high = facts.2 r h.contained h.covering in
      not_from_false (is_better s r) (h.best s facts.0 facts.1 (omega arith))) in
      let found = find-some is_best (longest_of (matching addr t)) r there wins in
      let s = found.0 in
      let facts = known s found.2 in
      let low = h.longest s facts.0 facts.1 in
      let high = facts.2 r h.contained h.covering in
      let len : s.prefix.len ≡ r.prefix.len = omega arith in
      let base = covers-base s.prefix addr facts.1 ∙ ap (base_at addr) len in
      let own = covers-base r.prefix addr h.covering in
      let worse = not-true (is_better r s) (list_all-contained (λ u. not (is_better u s)) (longest_of (matching addr t)) r found.3 there) in
      let feed = even r s worse (h.best s facts.0 facts.1 len) in
      found.1 ∙ ap Some (one_of t table.single r s h.contained facts.0 (is_of-from r.feed r.prefix s feed (base ∙ sym own) len))

-- if a prefix covers the address, there is a best match
covered_best : (addr : Addr) (t : List Route) (s : Route) → Contains t s → covers s.prefix addr ≡ true → (r : Route) × IsBestMatch addr t r
covered_best addr t s c e =
    let h = find_top addr s t e in
    let there : Contains t h.top = elim (Contains-cases s t h.top h.contained) [ inl here ↦ subst (Contains t) here c | inr later ↦ later ] in (
      h.top,
      record {
        contained = there;
        covering = h.covering;
        longest = λ u d f. elim (below_then-false h.top.prefix.len u.prefix.len (is_better u h.top) (h.unbeaten u (Contains-tail s t u d) f)) [
          | inl less ↦ omega arith
          | inr same ↦ let len = same.0 in omega arith
        ];
        best = λ u d f len. elim (below_then-false h.top.prefix.len u.prefix.len (is_better u h.top) (h.unbeaten u (Contains-tail s t u d) f)) [
          | inl less ↦ absurd (omega arith)
          | inr same ↦ same.1
        ];
      },
    )

pub look_up_finds_best : LookUpFindsBest
unfolding look_up
look_up_finds_best addr t table = (
  (λ r. (sound addr t table r, complete addr t table r)),
  (
    (λ e s c. false_from_ne_true (covers s.prefix addr) (λ covered.
        let b = covered_best addr t s c covered in
        let found : best (longest_of (matching addr t)) ≡ Some b.0 = complete addr t table b.0 b.1 in
        absurd (some_none (sym e ∙ found)))),
    (λ none. ap (λ m. best (longest_of m)) (filter-none (λ s. covers s.prefix addr) t (λ k d l. none (get_or t k d) (Contains-get_or t k d l)))),
  ),
) where
  -- something is not nothing
  some_none : {X : Type 0} {x : X} → None ≡ Some x → ⊥
  some_none e = cc
