-- How far the best of several tables' answers holds.
use Rattle.std.proofs.Common.{◌≡◌, ℕ, ◌+◌, ◌<◌, List, [], ◌∷◌, ◌++◌, length, take, drop, min, set, get_or, Option, ap, ◌∙◌, sym, subst, arith}
use Rattle.std.proofs.lemmas.List.{take_more, take-append-drop, set-get_or}
use Rattle.rt_cidr.specs.declared.address.Addr.{Addr}
use Rattle.rt_rib.specs.declared.routes.Route.{Route}
use Rattle.rt_rib.specs.Book.{TableContents}
use Rattle.rt_rib.specs.LookUp.{look_up}
use Rattle.rt_tables.specs.Unions.{union_of}
use Rattle.rt_tables.specs.inside.Answers.{better_of, HoldsFromTo}
use Rattle.rt_tables.specs.inside.Tables.{AreTables}
use Rattle.rt_tables.proofs.Answering.{look_up_more}
use Rattle.rt_tables.proofs.Halves.{routes_of_each, next_table}
use Rattle.rt_tables.proofs.Pairs.{front_tables}

module _ (cursors tables : List (List Route)) (k : ℕ) (table : List Route) (same : cursors ≡ tables) (is : table ≡ get_or cursors k table) where
  -- the better of the answers of some tables and of the next one holds up to where the first of both ends
  pub holds_with_next : (best found better : Option Route) (first last end least : Addr) → AreTables tables → k < length tables
      → HoldsFromTo (union_of (take k tables)) first last best → HoldsFromTo (get_or cursors k table) first end found → better ≡ better_of best found
      → least.0 ≡ min last.0 end.0 → HoldsFromTo (union_of (take (k + 1) tables)) first least better
  holds_with_next best found better first last end least are within holds next chosen nearest b from to =
      let at : table ≡ get_or tables k table = is ∙ ap (λ (l : List (List Route)). get_or l k table) same in
      let more : take (k + 1) tables ≡ take k tables ++ table ∷ [] =
      take_more tables k table within ∙ ap (λ (t : List Route). take k tables ++ t ∷ []) (sym at) in
      let some : AreTables (take k tables ++ table ∷ []) =
      subst AreTables more (front_tables (take (k + 1) tables) (drop (k + 1) tables) (subst AreTables (sym (take-append-drop (k + 1) tables)) are)) in
      ap (λ (ts : List (List Route)). look_up b (union_of ts)) more ∙ look_up_more b (take k tables) table some
      ∙ ap (λ (a : Option Route). better_of a (look_up b table)) (holds b from (omega (arith, to, nearest)))
      ∙ ap (λ (t : List Route). better_of best (look_up b t)) is ∙ ap (better_of best) (next b from (omega (arith, to, nearest))) ∙ sym chosen

  -- a cursor that was asked still has the routes of its table
  pub cursors_stay : (new : List Route) → new ≡ get_or cursors k table → set cursors k new ≡ tables
  cursors_stay new kept = ap (set cursors k) kept ∙ set-get_or cursors k table ∙ same

-- the cursors of some tables and of the next one
pub cursors_more : (tables : List TableContents) (i : ℕ) (t : TableContents) (old new : List (List Route)) (cursor : List Route) → i < length tables
    → t ≡ get_or tables i t → old ≡ routes_of_each (take i tables) → new ≡ old ++ cursor ∷ [] → cursor ≡ t.routes
    → new ≡ routes_of_each (take (i + 1) tables)
cursors_more tables i t old new cursor within is before pushed same =
    pushed ∙ ap (λ (l : List (List Route)). l ++ cursor ∷ []) before ∙ ap (λ (r : List Route). routes_of_each (take i tables) ++ r ∷ []) same
    ∙ sym (next_table tables i t within is)
