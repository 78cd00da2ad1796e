-- Dump order is strict and, up to feed and prefix, total.
use Rattle.std.specs.Prelude.{List, Option, Some, None, is_some}
use Rattle.std.proofs.Common.{◌≡◌, refl, ap, ◌∙◌, ℕ, ◌<◌, Bool, true, false, eqb, ltb, ◌&&◌, ◌⊎◌, inl, inr, sym, arith}
use Rattle.std.proofs.lemmas.Bool.{ltb-true, ltb-false, eqb-true, eqb-false, lt-ltb, le-ltb, eq-eqb, or_cases, or_parts, or_left, or_right, or_from}
use Rattle.std.proofs.lemmas.Bool.{and_parts, and_cases, and_from, and_right, both_ways, cases_order, cases_Bool, cond-true, cond-false}
use Rattle.rt_cidr.specs.declared.prefixes.Prefix.{Prefix}
use Rattle.rt_cidr.specs.Prefix.{same_prefix}
use Rattle.rt_rib.specs.declared.routes.Route.{Route}
use Rattle.rt_rib.specs.declared.offers.Offer.{Offer}
use Rattle.rt_rib.specs.declared.routes.Reason.{Reason}
use Rattle.rt_rib.specs.Maps.{outranks, is_from}
use Rattle.rt_rib.specs.Table.{is_better, precedes, is_of}
use Rattle.rt_rib.specs.Order.{Step, policy, below_then, offer_of, wins, loses_by, won_by}

-- the cases in which `below_then` is true
pub below_then-true : (a b : ℕ) (rest : Bool) → below_then a b rest ≡ true → (a < b) ⊎ ((a ≡ b) × (rest ≡ true))
below_then-true a b rest e =
    elim (or_cases (ltb a b) (eqb a b && rest) e) [
      | inl less ↦ inl (ltb-true a b less)
      | inr same ↦ let parts = and_parts (eqb a b) rest same in inr (eqb-true a b parts.0, parts.1)
    ]

-- the cases in which `below_then` is false
pub below_then-false : (a b : ℕ) (rest : Bool) → below_then a b rest ≡ false → (b < a) ⊎ ((a ≡ b) × (rest ≡ false))
below_then-false a b rest e =
    let parts = or_parts (ltb a b) (eqb a b && rest) e in
    elim (and_cases (eqb a b) rest parts.1) [
      | inl other ↦ let differ : a ≡ b → ⊥ = eqb-false a b other in let above = ltb-false a b parts.0 in inl (omega arith)
      | inr fails ↦ elim (cases_order a b) [
        | inl same ↦ inr (same, fails)
        | inr (inl less) ↦ absurd (both_ways _ parts.0 (lt-ltb a b less))
        | inr (inr more) ↦ inl more
      ]
    ]

-- it is true if the first is below the second
pub below_then-less : (a b : ℕ) (rest : Bool) → a < b → below_then a b rest ≡ true
below_then-less a b rest h = or_left (ltb a b) (eqb a b && rest) (lt-ltb a b h)

-- it is true if the two are equal and the rest is true
pub below_then-same : (a b : ℕ) (rest : Bool) → a ≡ b → rest ≡ true → below_then a b rest ≡ true
below_then-same a b rest h r = or_right (ltb a b) (eqb a b && rest) (and_from (eqb a b) rest (eq-eqb a b h) r)

-- it is transitive if the rest is
pub below_then-trans : (a b c : ℕ) (p q r : Bool) → (p ≡ true → q ≡ true → r ≡ true) → below_then a b p ≡ true → below_then b c q ≡ true
    → below_then a c r ≡ true
below_then-trans a b c p q r rest x y =
    elim (below_then-true a b p x) [
      | inl less ↦ elim (below_then-true b c q y)
          [ inl more ↦ below_then-less a c r (omega arith) | inr same ↦ let s = same.0 in below_then-less a c r (omega arith) ]
      | inr e ↦ elim (below_then-true b c q y) [
        | inl more ↦ let s = e.0 in below_then-less a c r (omega arith)
        | inr same ↦ let s = e.0 in let t = same.0 in below_then-same a c r (omega arith) (rest e.1 same.1)
      ]
    ]

-- it is false of a number and itself if the rest is
pub below_then-itself : (a : ℕ) (rest : Bool) → rest ≡ false → below_then a a rest ≡ false
below_then-itself a rest r = or_from (ltb a a) (eqb a a && rest) (le-ltb a a (omega arith)) (and_right (eqb a a) rest r)

-- if two numbers differ and one isn't below the other, it is above the other
below-other : (f g : ℕ) → below_then g f false ≡ false → (g ≡ f → ⊥) → below_then f g false ≡ true
below-other f g e other =
    elim (below_then-false g f false e) [ inl less ↦ below_then-less f g false less | inr same ↦ absurd (other same.0) ]

-- `outranks` is transitive
pub outranks-trans : (a b c : Offer) → outranks a b ≡ true → outranks b c ≡ true → outranks a c ≡ true
outranks-trans a b c =
    below_then-trans a.pref b.pref c.pref (below_then a.feed b.feed false) (below_then b.feed c.feed false) (below_then a.feed c.feed false)
    (below_then-trans a.feed b.feed c.feed false false false (λ x y. x))

-- if two offers are of different feeds and one doesn't outrank the other, the other outranks it
outranks-unlike : (a b : Offer) → outranks b a ≡ false → (b.feed ≡ a.feed → ⊥) → outranks a b ≡ true
outranks-unlike a b e other =
    elim (below_then-false b.pref a.pref (below_then b.feed a.feed false) e) [
      | inl less ↦ below_then-less a.pref b.pref (below_then a.feed b.feed false) less
      | inr same ↦ below_then-same a.pref b.pref (below_then a.feed b.feed false) (sym same.0) (below-other a.feed b.feed same.1 other)
    ]

-- one of two offers of different feeds outranks the other
pub outranks-other : (a b : Offer) → outranks b a ≡ false → is_from a.feed b ≡ false → outranks a b ≡ true
outranks-other a b e other = outranks-unlike a b e (λ f. both_ways (is_from a.feed b) other (eq-eqb b.feed a.feed f))

-- `is_better` is transitive
pub is_better-trans : (r s t : Route) → is_better r s ≡ true → is_better s t ≡ true → is_better r t ≡ true
is_better-trans r s t = outranks-trans (offer_of r) (offer_of s) (offer_of t)

-- if two routes are of different feeds and one isn't better than the other, the other is better
pub is_better-other : (r s : Route) → is_better s r ≡ false → (s.feed ≡ r.feed → ⊥) → is_better r s ≡ true
is_better-other r s = outranks-unlike (offer_of r) (offer_of s)

-- if neither of two routes is better, they have the same preference and feed
pub even : (r s : Route) → is_better r s ≡ false → is_better s r ≡ false → s.feed ≡ r.feed
even r s a b =
    elim (below_then-false r.pref s.pref (below_then r.feed s.feed false) a) [
      | inl less ↦ elim (below_then-false s.pref r.pref (below_then s.feed r.feed false) b)
          [ inl more ↦ omega arith | inr same ↦ let e = same.0 in omega arith ]
      | inr same ↦ elim (below_then-false s.pref r.pref (below_then s.feed r.feed false) b) [
        | inl more ↦ let e = same.0 in omega arith
        | inr also ↦ elim (below_then-false r.feed s.feed false same.1) [
          | inl low ↦ elim (below_then-false s.feed r.feed false also.1) [ inl high ↦ omega arith | inr equal ↦ equal.0 ]
          | inr equal ↦ sym equal.0
        ]
      ]
    ]

-- if r is below u and s isn't, then r is below s, where the numbers come first and the rest decides between equal ones
below_then-over : (a b c : ℕ) (p q r : Bool) → (p ≡ true → q ≡ false → r ≡ true) → below_then a c p ≡ true → below_then b c q ≡ false
    → below_then a b r ≡ true
below_then-over a b c p q r rest x y =
    elim (below_then-true a c p x) [
      | inl less ↦ elim (below_then-false b c q y)
          [ inl more ↦ below_then-less a b r (omega arith) | inr same ↦ let e = same.0 in below_then-less a b r (omega arith) ]
      | inr also ↦ elim (below_then-false b c q y) [
        | inl more ↦ let e = also.0 in below_then-less a b r (omega arith)
        | inr same ↦ let e = also.0 in let f = same.0 in below_then-same a b r (omega arith) (rest also.1 same.1)
      ]
    ]

-- if r is better than u and s isn't, then r is better than s
pub better-over : (r s u : Route) → is_better r u ≡ true → is_better s u ≡ false → is_better r s ≡ true
better-over r s u =
    below_then-over r.pref s.pref u.pref (below_then r.feed u.feed false) (below_then s.feed u.feed false) (below_then r.feed s.feed false)
    (below_then-over r.feed s.feed u.feed false false false (λ x y. x))

-- `precedes` is transitive
pub precedes-trans : (r s t : Route) → precedes r s ≡ true → precedes s t ≡ true → precedes r t ≡ true
precedes-trans r s t =
    below_then-trans r.prefix.base s.prefix.base t.prefix.base
    (below_then r.prefix.len s.prefix.len (is_better r s)) (below_then s.prefix.len t.prefix.len (is_better s t))
    (below_then r.prefix.len t.prefix.len (is_better r t))
    (below_then-trans r.prefix.len s.prefix.len t.prefix.len (is_better r s) (is_better s t) (is_better r t) (is_better-trans r s t))

-- there is a reason why the first wins if and only if it wins
pub is_some-won_by : (steps : List Step) → is_some (won_by steps) ≡ wins steps
is_some-won_by steps = elim (cases_Bool (wins steps)) [
  | inl won ↦ ap is_some (cond-true (wins steps) (Some (loses_by steps)) None won) ∙ sym won
  | inr lost ↦ ap is_some (cond-false (wins steps) (Some (loses_by steps)) None lost) ∙ sym lost
]

-- an offer outranks another if and only if the comparison gives a reason
pub outranks-by : (a b : Offer) (reason : Option Reason) (given : Bool) → reason ≡ won_by (policy a b) → given ≡ is_some reason → outranks a b ≡ given
outranks-by a b reason given won some = sym (some ∙ ap is_some won ∙ is_some-won_by (policy a b))

-- a feed's route to a prefix has that feed, base and length
pub is_of-parts : (feed : ℕ) (p : Prefix) (r : Route) → is_of feed p r ≡ true → (r.feed ≡ feed) × (r.prefix.base ≡ p.base) × (r.prefix.len ≡ p.len)
is_of-parts feed p r e =
    let parts = and_parts (eqb r.feed feed) (same_prefix r.prefix p) e in
    let both = and_parts (eqb r.prefix.base p.base) (eqb r.prefix.len p.len) parts.1 in
    (eqb-true r.feed feed parts.0, eqb-true r.prefix.base p.base both.0, eqb-true r.prefix.len p.len both.1)

-- a route with this feed, base and length is the feed's route to the prefix
pub is_of-from : (feed : ℕ) (p : Prefix) (r : Route) → r.feed ≡ feed → r.prefix.base ≡ p.base → r.prefix.len ≡ p.len → is_of feed p r ≡ true
is_of-from feed p r f b l =
    and_from (eqb r.feed feed) (same_prefix r.prefix p) (eq-eqb r.feed feed f)
    (and_from (eqb r.prefix.base p.base) (eqb r.prefix.len p.len) (eq-eqb r.prefix.base p.base b) (eq-eqb r.prefix.len p.len l))

-- if two routes differ in feed or prefix and one isn't after the other, it is before the other
pub precedes-other : (r s : Route) → precedes s r ≡ false → is_of r.feed r.prefix s ≡ false → precedes r s ≡ true
precedes-other r s e other =
    elim (below_then-false s.prefix.base r.prefix.base (below_then s.prefix.len r.prefix.len (is_better s r)) e) [
      | inl less ↦ below_then-less r.prefix.base s.prefix.base (below_then r.prefix.len s.prefix.len (is_better r s)) less
      | inr base ↦
          let b : r.prefix.base ≡ s.prefix.base = sym base.0 in
          below_then-same r.prefix.base s.prefix.base (below_then r.prefix.len s.prefix.len (is_better r s)) b
          (elim (below_then-false s.prefix.len r.prefix.len (is_better s r) base.1) [
            | inl less ↦ below_then-less r.prefix.len s.prefix.len (is_better r s) less
            | inr len ↦
                below_then-same r.prefix.len s.prefix.len (is_better r s) (sym len.0)
                (is_better-other r s len.1
                (λ f. both_ways (is_of r.feed r.prefix s) other (is_of-from r.feed r.prefix s f base.0 len.0)))
          ])
    ]

-- no route is better than itself
pub is_better-itself : (r : Route) → is_better r r ≡ false
is_better-itself r = below_then-itself r.pref (below_then r.feed r.feed false) (below_then-itself r.feed false refl)

-- no route precedes itself
pub precedes-itself : (r : Route) → precedes r r ≡ false
precedes-itself r =
    below_then-itself r.prefix.base (below_then r.prefix.len r.prefix.len (is_better r r))
    (below_then-itself r.prefix.len (is_better r r) (is_better-itself r))
