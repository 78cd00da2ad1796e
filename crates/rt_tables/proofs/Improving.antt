-- Answers to look-ups, improved by one table after the other.
use Rattle.std.proofs.Common.{◌≡◌, ℕ, ◌<◌, List, [], ◌∷◌, ◌++◌, length, map, get_or, Option, None, refl, ap, ◌∙◌, sym, arith}
use Rattle.std.proofs.lemmas.List.{ext_get_or, get_or-map, length-map}
use Rattle.std.proofs.lemmas.List.Elements.{All-nil}
use Rattle.rt_cidr.specs.declared.address.Addr.{Addr}
use Rattle.rt_rib.specs.Chunks.{answered}
use Rattle.rt_rib.specs.declared.routes.Route.{Route}
use Rattle.rt_rib.specs.LookUp.{look_up}
use Rattle.rt_rib.specs.Table.{IsTable}
use Rattle.rt_rib.proofs.Best.{look_up_finds_best}
use Rattle.rt_rib.proofs.Sets.{Contains-none}
use Rattle.rt_tables.specs.Unions.{union_of, HaveNoFeedInCommon}
use Rattle.rt_tables.specs.inside.Answers.{better_of, route_at}
use Rattle.rt_tables.specs.inside.Tables.{AreTables}
use Rattle.rt_tables.proofs.Answering.{look_up_more}
use Rattle.rt_tables.proofs.Lists.{AllPairs-nil}
use Rattle.rt_tables.proofs.Unions.{union_has_their_routes, union_is_table}

-- the answers of some tables, as one
abbrev pub answers_of : List Addr → List (List Route) → List (Option Route)
answers_of addresses tables = map (λ addr. look_up addr (union_of tables)) addresses

-- without tables there is no answer
pub no_answer : (addr : Addr) → look_up addr (union_of []) ≡ None
no_answer addr =
    (look_up_finds_best addr (union_of []) (union_is_table [] (All-nil IsTable) (AllPairs-nil HaveNoFeedInCommon))).1.1
    (λ s c. absurd (let t = (union_has_their_routes [] s).0 c in Contains-none t.0 t.1))

pub no_answers : (addresses : List Addr) (answers : List (Option Route)) → length answers ≡ length addresses
    → ((k : ℕ) → k < length answers → route_at answers k ≡ None) → answers ≡ answers_of addresses []
no_answers addresses answers long none =
    let answer = λ (addr : Addr). look_up addr (union_of []) in
    ext_get_or None answers (map answer addresses) (long ∙ sym (length-map addresses answer)) (λ k l.
    let first : Addr = record { 0 = 0 } in
    none k l ∙ sym (no_answer (get_or addresses k first)) ∙ sym (get_or-map answer addresses k first None (omega (arith, long))))

-- improved by a further table, they are those of the tables with this one
pub answers_more : (addresses : List Addr) (tables : List (List Route)) (table : List Route) → AreTables (tables ++ table ∷ [])
    → answered (λ addr earlier. better_of earlier (look_up addr table)) addresses (answers_of addresses tables) ≡ answers_of addresses (tables ++ table ∷ [])
answers_more [] tables table h = refl
answers_more (addr ∷ addresses) tables table h =
    ap (λ l. better_of (look_up addr (union_of tables)) (look_up addr table) ∷ l) (answers_more addresses tables table h)
    ∙ ap (λ a. a ∷ answers_of addresses (tables ++ table ∷ [])) (sym (look_up_more addr tables table h))
