-- A step that shows the current table, or one table more, keeps the invariant on what is shown.
use Rattle.std.proofs.Common.{◌≡◌, ℕ, ◌≢◌, List, [], ◌∷◌, ◌++◌, refl, sym, subst, ap, ◌∙◌, ⊎_elim}
use Rattle.std.proofs.lemmas.List.{append-nil, append_assoc}
use mathlib.Core.Option.{some}
use lib.ListN.{get_elem?}
use Rattle.std.proofs.Math.ListN.{set}
use Rattle.atomic_table.proofs.Lists.{at_set, at_snoc}
use Rattle.rt_rib.specs.declared.routes.Route.{Route}
use Rattle.fib_readers.specs.Readers.{BeginWith, EndIn}
use Rattle.fib_readers.specs.inside.Published.{IsPublished}

-- each list begins with itself
begin_same : (tables : List (List Route)) → BeginWith tables tables
begin_same tables = ([], sym (append-nil tables))

-- each list with one more table begins with the same tables as before
begin_more : (tables seen : List (List Route)) (table : List Route) → BeginWith tables seen → BeginWith (tables ++ table ∷ []) seen
begin_more tables seen table begins =
    (begins.0 ++ table ∷ [], ap (λ (ts : List (List Route)). ts ++ table ∷ []) begins.1 ∙ append_assoc seen begins.0 (table ∷ []))

-- a party that has seen nothing yet
pub admitted : (table : List Route) (views : List (List (List Route))) → IsPublished table views → IsPublished table (views ++ [] ∷ [])
admitted table views is = (
  is.0,
  is.1,
  λ seat seen there.
      ⊎_elim (is.2 seat seen) (λ (e : [] ≡ seen). subst (λ (s : List (List Route)). BeginWith is.0 s) e (is.0, refl)) (at_snoc views [] seen seat there),
)

-- the first table, when no party has seen anything yet
pub first_shown : (table : List Route) → IsPublished table ([] ∷ [])
first_shown table = (
  table ∷ [],
  ([], refl),
  λ seat seen there.
      ⊎_elim (λ (e : get_elem? [] seat ≡ some seen). absurd (let none : get_elem? [] seat ≡ some seen = e in cc))
      (λ (e : [] ≡ seen). subst (λ (s : List (List Route)). BeginWith (table ∷ []) s) e (table ∷ [], refl)) (at_snoc [] [] seen seat there),
)

module _ (seat : ℕ) (seen : List (List Route)) (table : List Route) (views : List (List (List Route))) (is : IsPublished table views)
    (there : get_elem? views seat ≡ some seen) where
  -- a party that looks at the current table
  pub looked : IsPublished table (set views seat is.0) × BeginWith is.0 seen × EndIn is.0 table
  looked = (
    (
      is.0,
      is.1,
      λ j u at. ⊎_elim (λ (t : (j ≡ seat) × (is.0 ≡ u)). subst (λ (s : List (List Route)). BeginWith is.0 s) t.1 (begin_same is.0))
          (λ (t : (j ≢ seat) × (get_elem? views j ≡ some u)). is.2 j u t.1) (at_set views seat j is.0 u at),
    ),
    is.2 seat seen there,
    is.1,
  )

  -- a party that shows another table
  pub shown : (next : List Route) → IsPublished next (set views seat (is.0 ++ next ∷ [])) × BeginWith (is.0 ++ next ∷ []) seen × EndIn (is.0 ++ next ∷ []) next
  shown next =
      let all : List (List Route) = is.0 ++ next ∷ [] in (
        (
          all,
          (is.0, refl),
          λ j u at. ⊎_elim (λ (t : (j ≡ seat) × (all ≡ u)). subst (λ (s : List (List Route)). BeginWith all s) t.1 (begin_same all))
              (λ (t : (j ≢ seat) × (get_elem? views j ≡ some u)). begin_more is.0 u next (is.2 j u t.1)) (at_set views seat j all u at),
        ),
        begin_more is.0 seen next (is.2 seat seen there),
        (is.0, refl),
      )
