-- The union of tables: its elements, and that it is a table.
use Rattle.std.proofs.Common.{◌≡◌, false, ◌⊎◌, inl, inr, List, [], ◌∷◌, sym, subst}
use Rattle.std.proofs.lemmas.Bool.{false_from_ne_true}
use Rattle.std.proofs.lemmas.List.Elements.{All-contains, All-head, All-tail, Contains-append_left, Contains-append_right, Contains-append_cases}
use Rattle.std.specs.Prelude.{◌↔◌, fold}
use Rattle.std.specs.List.{All, AllPairs, Contains, flat_map}
use Rattle.rt_rib.specs.declared.routes.Route.{Route}
use Rattle.rt_rib.specs.Table.{is_of, has, put_in, IsTable}
use Rattle.rt_rib.proofs.Lists.{AllPairs-head, AllPairs-tail, AllPairs-append, list_any-from_none}
use Rattle.rt_rib.proofs.Order.{is_of-parts}
use Rattle.rt_rib.proofs.Sets.{Contains-head, Contains-tail, Contains-cases, Contains-none, put_in_adds, one_table_of_set}
use Rattle.rt_rib.proofs.Tables.{Apart, Apart-flip, IsTable-put_in, IsTable-nil}
use Rattle.rt_tables.proofs.Lists.{All-from_contained}
use Rattle.rt_tables.specs.Unions.{union_of, HaveNoFeedInCommon, AreOfDifferentFeeds}
use Rattle.rt_tables.specs.Laws.{AnyContains, UnionHasTheirRoutes, UnionIsTable, OneUnion}

-- the table after the insertion of each of these routes
abbrev pub put_all : List Route → List Route → List Route
put_all table routes = fold (λ table r. put_in r table) table routes

-- it contains its old routes and the new ones
put_all_adds : (routes table : List Route) (x : Route) → Contains (put_all table routes) x ↔ (Contains table x ⊎ Contains routes x)
put_all_adds [] table x = ((λ c. inl c), (λ c. elim c [ inl old ↦ old | inr none ↦ absurd (Contains-none x none) ]))
put_all_adds (r ∷ routes) table x =
    let rest = put_all_adds routes (put_in r table) x in
    let one = put_in_adds r x table in (
      (λ c. elim (rest.0 c) [
        | inl put ↦ elim (one.0 put)
            [ inl old ↦ inl old | inr same ↦ inr (subst (λ z. Contains (z ∷ routes) x) (sym same) (Contains-head x routes)) ]
        | inr later ↦ inr (Contains-tail r routes x later)
      ]),
      (λ c. elim c [
        | inl old ↦ rest.1 (inl (one.1 (inl old)))
        | inr new ↦ elim (Contains-cases r routes x new) [ inl same ↦ rest.1 (inl (one.1 (inr same))) | inr later ↦ rest.1 (inr later) ]
      ]),
    )

-- it is a table if no two of the routes, old and new, are of the same feed and prefix
IsTable-put_all : (routes table : List Route) → IsTable table → AllPairs Apart routes
    → ((r s : Route) → Contains routes r → Contains table s → Apart r s) → IsTable (put_all table routes)
IsTable-put_all [] table h apart across = h
IsTable-put_all (r ∷ routes) table h apart across =
    let fresh : has r.feed r.prefix table ≡ false =
    list_any-from_none (is_of r.feed r.prefix) table
    (All-from_contained (λ s. is_of r.feed r.prefix s ≡ false) table (λ s c. Apart-flip r s (across r s (Contains-head r routes) c))) in
    IsTable-put_all routes (put_in r table) (IsTable-put_in r table fresh h) (AllPairs-tail Apart r routes apart)
    (λ x s c d. elim ((put_in_adds r s table).0 d) [
      | inl old ↦ across x s (Contains-tail r routes x c) old
      | inr same ↦ subst (Apart x) same (Apart-flip r x (All-contains (Apart r) routes x (AllPairs-head Apart r routes apart) c))
    ])

-- the routes of these tables, one after the other
abbrev pub all_of : List (List Route) → List Route
all_of tables = flat_map (λ t. t) tables

all_contains : (tables : List (List Route)) (r : Route) → Contains (all_of tables) r ↔ AnyContains tables r
all_contains [] r = ((λ c. absurd (Contains-none r c)), (λ c. absurd (Contains-none c.0 c.1)))
all_contains (t ∷ tables) r =
    let rest = all_contains tables r in (
      (λ c. elim (Contains-append_cases t (all_of tables) r c) [
        | inl first ↦ (t, Contains-head t tables, first)
        | inr later ↦ let u = rest.0 later in (u.0, Contains-tail t tables u.0 u.1, u.2)
      ]),
      (λ c. elim (Contains-cases t tables c.0 c.1) [
        | inl first ↦ Contains-append_left t (all_of tables) r (subst (λ u. Contains u r) (sym first) c.2)
        | inr later ↦ Contains-append_right t (all_of tables) r (rest.1 (c.0, later, c.2))
      ]),
    )

-- routes of different feeds are apart
pub apart_by_feed : (r s : Route) → (r.feed ≡ s.feed → ⊥) → Apart r s
apart_by_feed r s other = false_from_ne_true (is_of s.feed s.prefix r) (λ same. other (is_of-parts s.feed s.prefix r same).0)

all_apart : (tables : List (List Route)) → All IsTable tables → AreOfDifferentFeeds tables → AllPairs Apart (all_of tables)
all_apart [] each differ = IsTable-nil.single
all_apart (t ∷ tables) each differ =
    AllPairs-append Apart t (all_of tables) (All-head IsTable t tables each).single
    (all_apart tables (All-tail IsTable t tables each) (AllPairs-tail HaveNoFeedInCommon t tables differ))
    (All-from_contained (λ r. All (Apart r) (all_of tables)) t (λ r c.
    All-from_contained (Apart r) (all_of tables) (λ s d.
    let u = (all_contains tables s).0 d in
    apart_by_feed r s (All-contains (HaveNoFeedInCommon t) tables u.0 (AllPairs-head HaveNoFeedInCommon t tables differ) u.1 r s c u.2))))

pub union_has_their_routes : UnionHasTheirRoutes
unfolding union_of
union_has_their_routes tables r =
    let put = put_all_adds (all_of tables) [] r in
    let all = all_contains tables r in (
      (λ c. elim (put.0 c) [ inl none ↦ absurd (Contains-none r none) | inr there ↦ all.0 there ]),
      (λ c. put.1 (inr (all.1 c))),
    )

pub union_is_table : UnionIsTable
unfolding union_of
union_is_table tables each differ =
    IsTable-put_all (all_of tables) [] IsTable-nil (all_apart tables each differ) (λ r s c d. absurd (Contains-none s d))

pub one_union : OneUnion
one_union tables table each differ is same =
    one_table_of_set table (union_of tables) is (union_is_table tables each differ) (λ r.
    let union = union_has_their_routes tables r in ((λ c. union.1 ((same r).0 c)), (λ c. (same r).1 (union.0 c))))
