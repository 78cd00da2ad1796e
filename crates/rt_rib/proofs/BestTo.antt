-- The best route to a prefix, in terms of a map: that of the first offer there. A command other than a purge changes no
-- best route to another prefix.
use Rattle.std.proofs.Common.{◌≡◌, ◌≢◌, ℕ, ◌<◌, Bool, true, false, not, eqb, leb, ◌↔◌, inl, inr, List, [], ◌∷◌, length, get_or, Option, Some, None, refl, ap, ◌∙◌, sym, subst, arith, map}
use Rattle.std.specs.Prelude.{if◌then◌else◌, slice_get}
use Rattle.std.specs.Option.{option_map}
use Rattle.std.specs.List.{Contains, filter, list_all}
use Rattle.std.proofs.lemmas.Bool.{cond-true, both_ways, false_from_ne_true, and_parts, not_from_false, eqb-true}
use Rattle.rt_cidr.specs.declared.prefixes.Prefix.{Prefix}
use Rattle.rt_cidr.specs.Prefix.{same_prefix}
use Rattle.rt_cidr.proofs.Promised.{prefix_by_parts}
use Rattle.rt_trie.specs.Map.{get}
use Rattle.rt_rib.specs.declared.routes.Route.{Route}
use Rattle.rt_rib.specs.declared.offers.Offer.{Offer}
use Rattle.rt_rib.specs.declared.commands.Cmd.{Cmd}
use Rattle.rt_rib.specs.declared.commands.Cmd.TheVariants.{Withdraw}
use Rattle.rt_rib.specs.declared.changes.BestChange.{BestChange}
use Rattle.rt_rib.specs.LookUp.{best}
use Rattle.rt_rib.specs.Maps.{IsRanked, Map, route_by, routes_of, IsMap}
use Rattle.rt_rib.specs.Sequential.{table_after, add_of, replace_of, changed_prefix}
use Rattle.rt_rib.specs.Table.{is_better, is_of, has, count_of, put_in, take_out, IsTable}
use Rattle.rt_rib.specs.Changes.{best_to, IsBestChange, AreBestChanges}
use Rattle.rt_rib.specs.inside.Maps.{offers_in, offers_at}
use Rattle.rt_rib.proofs.Best.{list_all-from_contained}
use Rattle.rt_rib.proofs.BestRoutes.{IsTable-passing}
use Rattle.rt_rib.proofs.CommandCases.{each_command}
use Rattle.rt_rib.proofs.Journals.{IsTable-after}
use Rattle.rt_rib.proofs.MapLookUps.{first_best}
use Rattle.rt_rib.proofs.MapRoutes.{Contains-from_map, one_or_other, same_prefix-itself}
use Rattle.rt_rib.proofs.Selections.{routes_at}
use Rattle.rt_rib.proofs.Sets.{Contains-head, Contains-cases, Contains-none, filter-keeps, filter-from, put_in_adds, take_out_leaves_others, one_table_of_set}

-- the best of the routes of ranked offers is that of the first
pub best_ranked : (p : Prefix) (offers : List Offer) → IsRanked offers → best (map (route_by p) offers) ≡ option_map (route_by p) (slice_get offers 0)
best_ranked p [] h = refl
best_ranked p (o ∷ rest) h =
    let all = map (route_by p) (o ∷ rest) in
    let wins = λ (r : Route). list_all (λ (s : Route). not (is_better s r)) all in
    let first : wins (route_by p o) ≡ true =
    list_all-from_contained (λ (s : Route). not (is_better s (route_by p o))) all (λ s c.
    let from = Contains-from_map (route_by p) (o ∷ rest) s c in
    subst (λ z. not (is_better z (route_by p o)) ≡ true) from.2
    (not_from_false (is_better (route_by p from.0) (route_by p o)) (first_best p o rest from.0 h from.1))) in
    cond-true (wins (route_by p o)) (Some (route_by p o)) _ first

-- no offers are ranked
IsRanked-nil : IsRanked []
IsRanked-nil = record { ordered = λ i j d l m. absurd (omega arith); single = λ i j d l m. absurd (omega arith) }

module _ (m : Map) (h : IsMap m) (p : Prefix) where
  -- the offers at each prefix are ranked
  pub ranked_at : IsRanked (offers_at m p)
  ranked_at = by_value (get m p) refl where
    -- by what is found
    by_value : (o : Option (List Offer)) → get m p ≡ o → IsRanked (offers_in o)
    by_value None e = IsRanked-nil
    by_value (Some offers) e = (h.each p offers e).ranked

  -- the best route is that of the first offer
  pub best_at_map : best_to p (routes_of m) ≡ option_map (route_by p) (slice_get (offers_at m p) 0)
  unfolding best_to
  best_at_map = ap best (routes_at p m h.ordered) ∙ best_ranked p (offers_at m p) ranked_at

  -- nothing is stored there
  pub best_none : None ≡ get m p → None ≡ best_to p (routes_of m)
  best_none e = sym (best_at_map ∙ ap (λ o. option_map (route_by p) (slice_get (offers_in o) 0)) (sym e))

  -- offers are stored there, as the code reads the first
  pub best_some : (offers slice : List Offer) (d : Offer) → Some offers ≡ get m p → slice ≡ offers → 0 < length slice
      → Some (route_by p (get_or slice 0 d)) ≡ best_to p (routes_of m)
  best_some offers [] d e same some = absurd (omega arith)
  best_some offers (o ∷ rest) d e same some =
      sym (best_at_map ∙ ap (λ x. option_map (route_by p) (slice_get (offers_in x) 0)) (sym e)
      ∙ ap (λ x. option_map (route_by p) (slice_get x 0)) (sym same))

-- both contain the same of the routes to other prefixes
abbrev KeepsOthers : Prefix → List Route → List Route → Type 0
KeepsOthers p t u = (x : Route) → same_prefix x.prefix p ≡ false → Contains t x ↔ Contains u x

module _ (p : Prefix) (t : List Route) where
  itself : KeepsOthers p t t
  itself x other = ((λ c. c), (λ c. c))

  of_two : (b : Bool) (u v : List Route) → KeepsOthers p t u → KeepsOthers p t v → KeepsOthers p t (if b then u else v)
  of_two true u v one other = one
  of_two false u v one other = other

  and_then : (u v : List Route) → KeepsOthers p t u → KeepsOthers p u v → KeepsOthers p t v
  and_then u v one two x other = ((λ c. (two x other).0 ((one x other).0 c)), (λ c. (one x other).1 ((two x other).1 c)))

-- an insertion keeps them
put_others : (r : Route) (t : List Route) → KeepsOthers r.prefix t (put_in r t)
put_others r t x other = (
  (λ c. (put_in_adds r x t).1 (inl c)),
  (λ c. elim ((put_in_adds r x t).0 c) [
    | inl there ↦ there
    | inr is ↦ absurd (both_ways (same_prefix x.prefix r.prefix) other
        (subst (λ (y : Route). same_prefix y.prefix r.prefix ≡ true) is (same_prefix-itself r.prefix)))
  ]),
)

-- a removal keeps them
taken_others : (feed : ℕ) (p : Prefix) (t : List Route) → KeepsOthers p t (take_out feed p t)
taken_others feed p t x other =
    let another : is_of feed p x ≡ false =
    false_from_ne_true (is_of feed p x) (λ mine.
    both_ways (same_prefix x.prefix p) other (and_parts (eqb x.feed feed) (same_prefix x.prefix p) mine).1) in
    ((λ c. (take_out_leaves_others feed p x t).1 (c, another)), (λ c. ((take_out_leaves_others feed p x t).0 c).0))

-- a command keeps the routes to prefixes other than its own
abbrev CommandKeeps : ℕ → List Route → ℕ → Cmd → Type 0
CommandKeeps limit t feed cmd = (p : Prefix) → changed_prefix cmd ≡ Some p → KeepsOthers p t (table_after limit t feed cmd)

pub some_is : {X : Type 0} (x y : X) → Some x ≡ Some y → x ≡ y
some_is x y e = cc

none_some : {X : Type 0} (x : X) → None ≡ Some x → ⊥
none_some x e = cc

command_keeps : (limit : ℕ) (t : List Route) (feed : ℕ) (cmd : Cmd) → CommandKeeps limit t feed cmd
unfolding table_after
command_keeps limit t =
    each_command (λ feed cmd. CommandKeeps limit t feed cmd)
    (λ r p e.
    subst (λ q. KeepsOthers q t (table_after limit t r.feed (add_of r))) (some_is r.prefix p e)
    (of_two r.prefix t (has r.feed r.prefix t) t (if leb limit (count_of r.feed t) then t else put_in r t) (itself r.prefix t)
    (of_two r.prefix t (leb limit (count_of r.feed t)) t (put_in r t) (itself r.prefix t) (put_others r t))))
    (λ r p e.
    subst (λ q. KeepsOthers q t (table_after limit t r.feed (replace_of r))) (some_is r.prefix p e)
    (of_two r.prefix t (has r.feed r.prefix t) (put_in r (take_out r.feed r.prefix t)) t
    (and_then r.prefix t (take_out r.feed r.prefix t) (put_in r (take_out r.feed r.prefix t)) (taken_others r.feed r.prefix t) (put_others r (take_out r.feed r.prefix t))) (itself r.prefix t)))
    (λ feed prefix p e.
    subst (λ q. KeepsOthers q t (table_after limit t feed (Withdraw prefix))) (some_is prefix p e)
    (of_two prefix t (has feed prefix t) (take_out feed prefix t) t (taken_others feed prefix t) (itself prefix t)))
    (λ feed addr p e. absurd (none_some p e))
    (λ feed p e. absurd (none_some p e))
    (λ feed p e. absurd (none_some p e))

-- the best route to another prefix is the same in two tables that differ in one prefix
same_best : (p q : Prefix) (t u : List Route) → IsTable t → IsTable u → KeepsOthers p t u → same_prefix q p ≡ false → best_to q t ≡ best_to q u
unfolding best_to
same_best p q t u of_t of_u keeps other =
    let to_q = λ (x : Route). same_prefix x.prefix q in
    let apart : (x : Route) → to_q x ≡ true → same_prefix x.prefix p ≡ false =
    λ x here.
    let parts = and_parts (eqb x.prefix.base q.base) (eqb x.prefix.len q.len) here in
    subst (λ z. same_prefix z p ≡ false)
    (sym (prefix_by_parts x.prefix q (eqb-true x.prefix.base q.base parts.0) (eqb-true x.prefix.len q.len parts.1))) other in
    ap best (one_table_of_set (filter to_q t) (filter to_q u) (IsTable-passing (λ z. same_prefix z q) t of_t) (IsTable-passing (λ z. same_prefix z q) u of_u)
    (λ x. (
      (λ c. let from = filter-from to_q t x c in filter-keeps to_q u x ((keeps x (apart x from.1)).0 from.0) from.1),
      (λ c. let from = filter-from to_q u x c in filter-keeps to_q t x ((keeps x (apart x from.1)).1 from.0) from.1),
    )))

-- no best route differs between a table and itself
pub nothing_changed : (t : List Route) → AreBestChanges t t []
nothing_changed t = record {
  exactly = λ c. ((λ there. absurd (Contains-none c there)), (λ h. absurd (h.differ (h.before ∙ sym h.after))));
  ordered = λ i j d l m. absurd (omega arith);
}

-- what a command changes is the best route to its prefix, unless that is the same before and after
module _ (limit feed : ℕ) (cmd : Cmd) (t : List Route) (of_t : IsTable t) (p : Prefix) (is : changed_prefix cmd ≡ Some p) (before after : Option Route)
    (first : before ≡ best_to p t) (last : after ≡ best_to p (table_after limit t feed cmd)) where
  abbrev next : List Route
  next = table_after limit t feed cmd

  -- other prefixes have the same best route
  others : (q : Prefix) → same_prefix q p ≡ false → best_to q t ≡ best_to q next
  others q = same_best p q t next of_t (IsTable-after limit t feed cmd of_t) (command_keeps limit t feed cmd p is)

  -- so a change is of this prefix
  own : (c : BestChange) → IsBestChange t next c → (c.prefix ≡ p) × (c.before ≡ before) × (c.after ≡ after)
  own c h = elim (one_or_other c.prefix p) [
    | inl same ↦ (
      same,
      h.before ∙ ap (λ q. best_to q t) same ∙ sym first,
      h.after ∙ ap (λ q. best_to q next) same ∙ sym last,
    )
    | inr other ↦ absurd (h.differ (h.before ∙ others c.prefix other ∙ sym h.after))
  ]

  pub no_change : before ≡ after → AreBestChanges t next []
  no_change same = record {
    exactly = λ c. (
      (λ there. absurd (Contains-none c there)),
      (λ h. let is = own c h in absurd (h.differ (is.1 ∙ same ∙ sym is.2))),
    );
    ordered = λ i j d l m. absurd (omega arith);
  }

  pub one_change : before ≢ after → AreBestChanges t next (record { prefix = p; before = before; after = after } ∷ [])
  one_change differ =
      let change : BestChange = record { prefix = p; before = before; after = after } in
      let is_change : IsBestChange t next change = record { before = first; after = last; differ = differ } in
      record {
        exactly = λ c. (
          (λ there. elim (Contains-cases change [] c there) [
            | inl here ↦ subst (λ x. IsBestChange t next x) here is_change
            | inr none ↦ absurd (Contains-none c none)
          ]),
          (λ h.
              let is = own c h in
              let same : change ≡ c = λ i. record { prefix = sym is.0 i; before = sym is.1 i; after = sym is.2 i } in
              subst (λ x. Contains (change ∷ []) x) same (Contains-head change [])),
        );
        ordered = λ i j d l m. absurd (omega arith);
      }
