-- The number of routes of a union.
use Rattle.std.proofs.Common.{◌≡◌, ◌+◌, Bool, not, inl, inr, List, [], ◌∷◌, length, sum_by, refl, ap, ◌∙◌, sym, arith, length-append}
use Rattle.std.proofs.lemmas.Bool.{cases_Bool}
use Rattle.std.proofs.lemmas.List.Concat.{length-flat_map}
use Rattle.std.proofs.lemmas.List.Folds.{flat_map-map}
use Rattle.std.specs.List.{filter}
use Rattle.rt_rib.specs.declared.routes.Route.{Route}
use Rattle.rt_rib.specs.Book.{TableContents}
use Rattle.rt_rib.specs.Table.{precedes, put_in}
use Rattle.rt_tables.specs.Unions.{union_of}
use Rattle.rt_tables.proofs.Halves.{routes_of_each}
use Rattle.rt_tables.proofs.Unions.{put_all, all_of}

-- the elements that pass a test and those that don't
filtered_length : {X : Type 0} (p : X → Bool) (xs : List X) → length (filter p xs) + length (filter (λ x. not (p x)) xs) ≡ length xs
filtered_length p [] = refl
filtered_length p (x ∷ xs) =
    let rest = filtered_length p xs in elim (cases_Bool (p x)) [ inl passes ↦ rw passes (omega (arith, rest)) | inr fails ↦ rw fails (omega (arith, rest)) ]

put_in_length : (r : Route) (table : List Route) → length (put_in r table) ≡ length table + 1
put_in_length r table =
    let before = filter (λ s. precedes s r) table in
    let after = filter (λ s. not (precedes s r)) table in
    omega (arith, length-append before (r ∷ after), filtered_length (λ s. precedes s r) table)

put_all_length : (routes table : List Route) → length (put_all table routes) ≡ length table + length routes
put_all_length [] table = omega arith
put_all_length (r ∷ routes) table = omega (arith, put_all_length routes (put_in r table), put_in_length r table)

all_length : (tables : List TableContents) → length (all_of (routes_of_each tables)) ≡ sum_by (λ t. length t.routes) tables
all_length tables =
    ap length (flat_map-map (λ (t : List Route). t) (λ (t : TableContents). t.routes) tables) ∙ length-flat_map (λ (t : TableContents). t.routes) tables

-- the union has as many routes as its tables together
pub union_length : (tables : List TableContents) → sum_by (λ t. length t.routes) tables ≡ length (union_of (routes_of_each tables))
unfolding union_of
union_length tables =
    let all = all_of (routes_of_each tables) in
    let none : length all ≡ 0 + length all = omega arith in sym (put_all_length all [] ∙ sym none ∙ all_length tables)
