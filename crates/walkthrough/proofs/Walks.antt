-- Ways of a walk.
use Rattle.std.proofs.Common.{◌≡◌, ℕ, List, [], ◌∷◌, ◌++◌, Option, Some, None, sym, ap, ◌∙◌, subst}
use Rattle.ya_core.specs.declared.process.Process.{Process}
use Rattle.ya_core.specs.declared.process.Process.TheVariants.{Idle, Entering, Inside, Leaving}
use Rattle.ya_core.specs.declared.word.Access.{Access}
use Rattle.ya_core.specs.declared.word.Access.TheVariants.{Load, Store}
use Rattle.ya_core.specs.declared.walker.Op.{Op}
use Rattle.ya_core.specs.declared.walker.Op.TheVariants as op
use Rattle.ya_core.specs.WalkerModel.{Walk, walk_after, due, op_of, op_of_due, FitsAccess, FitsDue, MayBeTold, WalkLeadsTo}
use Rattle.walkthrough.specs.Walk.{Leads}

-- a value that fits is one that the due load may find
fits_access : (access : Option Access) (value : ℕ) → FitsAccess access value → MayBeTold access value
fits_access None value fits = absurd fits
fits_access (Some (Load word)) value fits = fits
fits_access (Some (Store word stored)) value fits = tt

pub may_see : (w : Walk) (value : ℕ) → FitsDue w value → MayBeTold (due w) value
may_see w value fits = fits_access (due w) value fits

-- any value may follow a store
abbrev IsStore : Op → Type 0
IsStore (op.Store number value) = Unit {0}
IsStore _ = ⊥

store_at : (levels : ℕ) (process : Process) (access : Option Access) (value : ℕ) → IsStore (op_of_due levels process access)
    → MayBeTold access value
store_at levels Idle None value h = absurd h
store_at levels (Entering level point) None value h = absurd h
store_at levels Inside None value h = absurd h
store_at levels (Leaving level point) None value h = absurd h
store_at levels process (Some (Load word)) value h = absurd h
store_at levels process (Some (Store word stored)) value h = tt

pub may_do : (w : Walk) (number stored value : ℕ) → op_of w ≡ op.Store number stored → MayBeTold (due w) value
may_do w number stored value is = store_at w.levels w.process (due w) value (subst IsStore (sym is) tt)

-- a way goes on by one more access
longer : (start w v : Walk) (values : List ℕ) (value : ℕ) → WalkLeadsTo start values w → MayBeTold (due w) value
    → v ≡ walk_after w value → WalkLeadsTo start (values ++ value ∷ []) v
longer start w v [] value same told goes =
    (subst (λ (x : Walk). MayBeTold (due x) value) same told, goes ∙ ap (λ (x : Walk). walk_after x value) same)
longer start w v (first ∷ values) value way told goes =
    (way.0, longer (walk_after start first) w v values value way.1 told goes)

pub goes_on : (start w v : Walk) (value : ℕ) → Leads start w → MayBeTold (due w) value → v ≡ walk_after w value → Leads start v
goes_on start w v value way told goes = (way.0 ++ value ∷ [], longer start w v way.0 value way.1 told goes)

-- in its tree
stays_in : (start w : Walk) (values : List ℕ) → WalkLeadsTo start values w → w.levels ≡ start.levels
stays_in start w [] same = ap (λ (x : Walk). x.levels) same
stays_in start w (value ∷ values) way = stays_in (walk_after start value) w values way.1

pub one_tree : (start w : Walk) → Leads start w → w.levels ≡ start.levels
one_tree start w way = stays_in start w way.0 way.1
