-- The tables of a list in two halves: what is merged of both.
use Rattle.std.proofs.Common.{◌≡◌, ℕ, ◌+◌, ◌<◌, true, false, inl, inr, List, [], ◌∷◌, ◌++◌, length, get_or, map, take, drop, refl, ap, ◌∙◌, sym, subst, arith}
use Rattle.std.proofs.lemmas.Bool.{cases_Bool}
use Rattle.std.proofs.lemmas.List.{map-append, take_more, take-append-drop}
use Rattle.std.proofs.lemmas.List.Elements.{All-head}
use Rattle.rt_cidr.specs.declared.address.Addr.{Addr}
use Rattle.rt_rib.specs.declared.routes.Route.{Route}
use Rattle.rt_rib.specs.declared.selection.Selection.{Selection}
use Rattle.rt_rib.specs.Book.{TableContents}
use Rattle.rt_rib.specs.LookUp.{beats, look_up_all, best_routes}
use Rattle.rt_rib.specs.Selection.{selected}
use Rattle.rt_rib.specs.Table.{precedes, IsTable}
use Rattle.rt_tables.specs.Unions.{union_of}
use Rattle.rt_tables.specs.inside.Merging.{merged, AreInDumpOrder}
use Rattle.rt_tables.specs.inside.Tables.{AreTables, IsBeforeFilters}
use Rattle.rt_tables.proofs.Answering.{look_up_all_two}
use Rattle.rt_tables.proofs.Merging.{merged_union}
use Rattle.rt_tables.proofs.Pairs.{two, first_table, second_table, two_union, front_tables, back_tables, union_tables, union_append, union_of_one}
use Rattle.rt_tables.proofs.Selecting.{selected_tables, selected_of_two, best_selected_of_two}

-- the routes of each table
abbrev pub routes_of_each : List TableContents → List (List Route)
routes_of_each tables = map (λ t. t.routes) tables

-- without tables nothing is found
pub no_matches : (addr : Addr) → [] ≡ look_up_all addr (union_of [])
unfolding look_up_all union_of
no_matches addr = refl

pub none_selected : (asked : Selection) → [] ≡ selected asked (union_of [])
unfolding union_of
none_selected asked = elim (cases_Bool asked.only_best) [ inl best ↦ rw best refl | inr all ↦ rw all refl ]

-- the only table is the union
pub union_of_only : (tables : List TableContents) (t : TableContents) → AreTables (routes_of_each tables) → length tables ≡ 1
    → t ≡ get_or tables 0 t → t.routes ≡ union_of (routes_of_each tables)
union_of_only [] t h one is = absurd (omega arith)
union_of_only (x ∷ []) t h one is = ap (λ (t : TableContents). t.routes) is ∙ sym (union_of_one x.routes (All-head IsTable x.routes [] h.each))
union_of_only (x ∷ y ∷ tables) t h one is = absurd (omega arith)

-- one more table
pub next_table : (tables : List TableContents) (i : ℕ) (t : TableContents) → i < length tables → t ≡ get_or tables i t
    → routes_of_each (take (i + 1) tables) ≡ routes_of_each (take i tables) ++ t.routes ∷ []
next_table tables i t h is =
    ap routes_of_each (take_more tables i t h) ∙ map-append (λ (t : TableContents). t.routes) (take i tables) (get_or tables i t ∷ [])
    ∙ ap (λ (x : TableContents). routes_of_each (take i tables) ++ x.routes ∷ []) (sym is)

module _ (tables : List TableContents) (mid : ℕ) (h : AreTables (routes_of_each tables)) where
  abbrev front : List (List Route)
  front = routes_of_each (take mid tables)

  abbrev back : List (List Route)
  back = routes_of_each (drop mid tables)

  -- the two halves are all tables
  whole : front ++ back ≡ routes_of_each tables
  whole = sym (map-append (λ (t : TableContents). t.routes) (take mid tables) (drop mid tables)) ∙ ap routes_of_each (take-append-drop mid tables)

  both : AreTables (front ++ back)
  both = subst AreTables (sym whole) h

  pub front_half : AreTables front
  front_half = front_tables front back both

  pub back_half : AreTables back
  back_half = back_tables front back both

  halves : AreTables (two (union_of front) (union_of back))
  halves = union_tables front back both

  all_routes : union_of (two (union_of front) (union_of back)) ≡ union_of (routes_of_each tables)
  all_routes = sym (union_append front back both) ∙ ap union_of whole

  -- the matches of both halves, merged
  pub matches_halves : (addr : Addr) → merged beats (look_up_all addr (union_of front)) (look_up_all addr (union_of back))
      ≡ look_up_all addr (union_of (routes_of_each tables))
  matches_halves addr = look_up_all_two addr (union_of front) (union_of back) halves ∙ ap (look_up_all addr) all_routes

  module _ (asked : Selection) where
    -- the selected routes of each half
    abbrev chosen_front : List Route
    chosen_front = selected asked (union_of front)

    abbrev chosen_back : List Route
    chosen_back = selected asked (union_of back)

    chosen : AreTables (two chosen_front chosen_back)
    chosen = selected_tables asked (union_of front) (union_of back) halves

    -- both are in dump order
    pub chosen_in_order : AreInDumpOrder chosen_front × AreInDumpOrder chosen_back
    chosen_in_order = ((first_table chosen_front chosen_back chosen).ordered, (second_table chosen_front chosen_back chosen).ordered)

    selected_union : merged precedes chosen_front chosen_back ≡ union_of (two chosen_front chosen_back)
    selected_union = merged_union chosen_front chosen_back chosen

    -- the selected routes of both halves, merged, are a table
    pub selected_table : IsTable (merged precedes chosen_front chosen_back)
    selected_table = subst IsTable (sym selected_union) (two_union chosen_front chosen_back chosen)

    -- they are the selected routes of all tables
    pub selected_halves : asked.only_best ≡ false → merged precedes chosen_front chosen_back ≡ selected asked (union_of (routes_of_each tables))
    selected_halves every =
        selected_union ∙ selected_of_two asked (union_of front) (union_of back) halves every ∙ ap (selected asked) all_routes

    -- or the best of them are
    pub best_halves : IsBeforeFilters asked → asked.only_best ≡ true
        → best_routes (merged precedes chosen_front chosen_back) ≡ selected asked (union_of (routes_of_each tables))
    best_halves before best =
        ap best_routes selected_union ∙ best_selected_of_two asked (union_of front) (union_of back) halves before best ∙ ap (selected asked) all_routes
