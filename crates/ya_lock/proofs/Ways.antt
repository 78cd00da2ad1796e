-- Ways: walks that lead from one to another by values that their accesses may find.
use Rattle.std.proofs.Common.{◌≡◌, ℕ, Bool, true, false, List, [], ◌∷◌, ◌++◌, refl, sym, ap, ◌∙◌, subst}
use Rattle.ya_core.specs.declared.process.Process.{Process}
use Rattle.ya_core.specs.declared.process.Process.TheVariants.{Idle, Entering, Inside, Leaving}
use Rattle.ya_core.specs.declared.word.Access.{Access}
use Rattle.ya_core.specs.declared.word.Access.TheVariants.{Load, Store}
use Rattle.ya_core.specs.declared.walker.Op.{Op}
use Rattle.ya_core.specs.declared.walker.Op.TheVariants as op
use Rattle.ya_core.specs.Steps.{entry_access, exit_access}
use Rattle.ya_core.specs.WalkerModel.{Walk, walk, walk_after, due, op_of, op_of_access, MayBeTold, WalkLeadsTo}
use Rattle.ya_lock.specs.Lock.{WalksTo}

-- one access leads to the walk after it
pub walks_once : (w v : Walk) (value : ℕ) → MayBeTold (due w) value → v ≡ walk_after w value → WalksTo w v
walks_once w v value told goes = (value ∷ [], (told, goes))

-- one way after another is a way
joined : (w v u : Walk) (values more : List ℕ) → WalkLeadsTo w values v → WalkLeadsTo v more u
    → WalkLeadsTo w (values ++ more) u
joined w v u [] more same rest = subst (λ (x : Walk). WalkLeadsTo x more u) same rest
joined w v u (value ∷ values) more first rest =
    (first.0, joined (walk_after w value) v u values more first.1 rest)

pub walks_on : (w v u : Walk) → WalksTo w v → WalksTo v u → WalksTo w u
walks_on w v u first rest = (first.0 ++ rest.0, joined w v u first.0 rest.0 first.1 rest.1)

-- it stays in its tree, at its place
stays_in : (w v : Walk) (values : List ℕ) → WalkLeadsTo w values v → (v.levels ≡ w.levels) × (v.place ≡ w.place)
stays_in w v [] same = (ap (λ (x : Walk). x.levels) same, ap (λ (x : Walk). x.place) same)
stays_in w v (value ∷ values) way = stays_in (walk_after w value) v values way.1

-- no access is requested, since the process is inside, or idle
abbrev IsInsideOp : Op → Type 0
IsInsideOp op.Inside = Unit {0}
IsInsideOp _ = ⊥

abbrev IsIdleOp : Op → Type 0
IsIdleOp op.Idle = Unit {0}
IsIdleOp _ = ⊥

not_inside : (levels : ℕ) (access : Access) → IsInsideOp (op_of_access levels access) → ⊥
not_inside levels (Load word) h = h
not_inside levels (Store word value) h = h

not_idle : (levels : ℕ) (access : Access) → IsIdleOp (op_of_access levels access) → ⊥
not_idle levels (Load word) h = h
not_idle levels (Store word value) h = h

-- a walk without a request because it is inside has no exit begun
inside_at : (levels place : ℕ) (process : Process) (begun : Bool) (remote : ℕ)
    → IsInsideOp (op_of (walk levels place process begun remote))
    → walk levels place process begun remote ≡ walk levels place Inside false remote
inside_at levels place Inside false remote h = refl
inside_at levels place Inside true remote h = absurd h
inside_at levels place Idle false remote h = absurd h
inside_at levels place Idle true remote h = absurd h
inside_at levels place (Entering level point) begun remote h = absurd (not_inside levels (entry_access level place point) h)
inside_at levels place (Leaving level point) begun remote h = absurd (not_inside levels (exit_access level place point) h)

pub is_inside_walk : (w : Walk) → op_of w ≡ op.Inside → w ≡ walk w.levels w.place Inside false w.remote
is_inside_walk w rests = inside_at w.levels w.place w.process w.begun w.remote (subst IsInsideOp (sym rests) tt)

-- and one because it is idle has no entry begun
idle_at : (levels place : ℕ) (process : Process) (begun : Bool) (remote : ℕ)
    → IsIdleOp (op_of (walk levels place process begun remote))
    → walk levels place process begun remote ≡ walk levels place Idle false remote
idle_at levels place Idle false remote h = refl
idle_at levels place Idle true remote h = absurd h
idle_at levels place Inside false remote h = absurd h
idle_at levels place Inside true remote h = absurd h
idle_at levels place (Entering level point) begun remote h = absurd (not_idle levels (entry_access level place point) h)
idle_at levels place (Leaving level point) begun remote h = absurd (not_idle levels (exit_access level place point) h)

-- so a way ends with the walk of its place, inside or idle, that has made so many remote accesses
pub comes_inside : (start from to : Walk) (remote : ℕ) → from ≡ start → WalksTo from to → op_of to ≡ op.Inside
    → remote ≡ to.remote → WalksTo start (walk start.levels start.place Inside false remote)
comes_inside start from to remote begins way rests made =
    let own = subst (λ (w : Walk). WalksTo w to) begins way in let kept = stays_in start to own.0 own.1 in
    subst (λ (w : Walk). WalksTo start w)
    (is_inside_walk to rests ∙ (λ i. walk (kept.0 i) (kept.1 i) Inside false (sym made i))) own

pub comes_idle : (start from to : Walk) (remote : ℕ) → from ≡ start → WalksTo from to → op_of to ≡ op.Idle
    → remote ≡ to.remote → WalksTo start (walk start.levels start.place Idle false remote)
comes_idle start from to remote begins way rests made =
    let own = subst (λ (w : Walk). WalksTo w to) begins way in let kept = stays_in start to own.0 own.1 in
    let idle = idle_at to.levels to.place to.process to.begun to.remote (subst IsIdleOp (sym rests) tt) in
    subst (λ (w : Walk). WalksTo start w) (idle ∙ (λ i. walk (kept.0 i) (kept.1 i) Idle false (sym made i))) own
