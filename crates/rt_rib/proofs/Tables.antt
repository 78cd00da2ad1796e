-- Inserting a route into a table, or removing one, gives a table.
use Rattle.std.proofs.Common.{◌≡◌, ℕ, true, false, not, eqb, List, [], ◌∷◌, sym, arith}
use Rattle.std.proofs.lemmas.Bool.{not-true, both_ways, false_from_ne_true}
use Rattle.std.proofs.lemmas.List.Elements.{All-cons, All-filter, All-weaker, filter_passes}
use Rattle.std.proofs.lemmas.List.Kept.{AllPairs-cons, AllPairs-filter}
use Rattle.std.specs.List.{All, AllPairs, filter}
use Rattle.rt_cidr.specs.declared.prefixes.Prefix.{Prefix}
use Rattle.rt_rib.specs.declared.routes.Route.{Route}
use Rattle.rt_rib.specs.Table.{precedes, is_of, has, put_in, take_out, purge, IsTable}
use Rattle.rt_rib.proofs.Lists.{AllPairs-append, AllPairs-split, AllPairs-put, All-join, list_any-none, list_any-from_none}
use Rattle.rt_rib.proofs.Order.{precedes-trans, precedes-other, is_of-parts, is_of-from}

-- the first precedes the second
abbrev pub Ordered : Route → Route → Type 0
Ordered r s = precedes r s ≡ true

-- the two routes differ in feed or prefix
abbrev pub Apart : Route → Route → Type 0
Apart r s = is_of s.feed s.prefix r ≡ false

-- the relation is symmetric
pub Apart-flip : (r s : Route) → Apart r s → Apart s r
Apart-flip r s e =
    false_from_ne_true (is_of r.feed r.prefix s) (λ same.
    let parts = is_of-parts r.feed r.prefix s same in
    both_ways (is_of s.feed s.prefix r) e (is_of-from s.feed s.prefix r (sym parts.0) (sym parts.1) (sym parts.2)))

module _ (r : Route) (t : List Route) (fresh : has r.feed r.prefix t ≡ false) where
  -- no route of the table is the new route's feed's to the prefix
  others : All (λ s. is_of r.feed r.prefix s ≡ false) t
  others = list_any-none (is_of r.feed r.prefix) t fresh

  -- the routes that don't precede it
  abbrev after_it : List Route
  after_it = filter (λ s. not (precedes s r)) t

  -- the routes that precede it
  abbrev before_it : List Route
  before_it = filter (λ s. precedes s r) t

  -- it precedes those that don't precede it, so the order is kept
  ordered_put_in : AllPairs Ordered t → AllPairs Ordered (put_in r t)
  ordered_put_in =
      AllPairs-put precedes precedes-trans r t
      (All-weaker (λ s. is_of r.feed r.prefix s ≡ false) (λ s. precedes s r ≡ false → precedes r s ≡ true)
      (λ s other late. precedes-other r s late other) t others)

  -- the routes before it differ from those after in feed or prefix
  apart_across : AllPairs Apart t → All (λ s. All (Apart s) (r ∷ after_it)) before_it
  apart_across h =
      All-join (λ s. is_of r.feed r.prefix s ≡ false) (λ s. All (Apart s) after_it) (λ s. All (Apart s) (r ∷ after_it))
      (λ s e rest. All-cons (Apart s) r after_it e rest) before_it
      (All-filter (λ s. precedes s r) (λ s. is_of r.feed r.prefix s ≡ false) t others)
      (AllPairs-split Apart Apart-flip (λ s. precedes s r) t h)

  -- hence no two have the same feed and prefix
  single_put_in : AllPairs Apart t → AllPairs Apart (put_in r t)
  single_put_in h =
      AllPairs-append Apart before_it (r ∷ after_it) (AllPairs-filter Apart (λ s. precedes s r) t h)
      (AllPairs-cons Apart r after_it
      (All-weaker (λ s. is_of r.feed r.prefix s ≡ false) (Apart r) (λ s. Apart-flip s r) after_it
      (All-filter (λ s. not (precedes s r)) (λ s. is_of r.feed r.prefix s ≡ false) t others))
      (AllPairs-filter Apart (λ s. not (precedes s r)) t h))
      (apart_across h)

  -- inserting a route of a feed that has none to its prefix gives a table
  pub IsTable-put_in : IsTable t → IsTable (put_in r t)
  IsTable-put_in h = record { ordered = ordered_put_in h.ordered; single = single_put_in h.single }

-- removing a route gives a table
pub IsTable-take_out : (feed : ℕ) (p : Prefix) (t : List Route) → IsTable t → IsTable (take_out feed p t)
IsTable-take_out feed p t h = record {
  ordered = AllPairs-filter Ordered (λ r. not (is_of feed p r)) t h.ordered;
  single = AllPairs-filter Apart (λ r. not (is_of feed p r)) t h.single;
}

-- removing a feed's routes gives a table
pub IsTable-purge : (feed : ℕ) (t : List Route) → IsTable t → IsTable (purge feed t)
IsTable-purge feed t h = record {
  ordered = AllPairs-filter Ordered (λ r. not (eqb r.feed feed)) t h.ordered;
  single = AllPairs-filter Apart (λ r. not (eqb r.feed feed)) t h.single;
}

-- after a removal, the feed has no route to the prefix
pub has-take_out : (feed : ℕ) (p : Prefix) (t : List Route) → has feed p (take_out feed p t) ≡ false
has-take_out feed p t =
    list_any-from_none (is_of feed p) (take_out feed p t)
    (All-weaker (λ r. not (is_of feed p r) ≡ true) (λ r. is_of feed p r ≡ false) (λ r. not-true (is_of feed p r)) (take_out feed p t)
    (filter_passes (λ r. not (is_of feed p r)) t))

-- the empty list is a table
pub IsTable-nil : IsTable []
IsTable-nil = record { ordered = λ i j d l m. absurd (omega arith); single = λ i j d l m. absurd (omega arith) }
