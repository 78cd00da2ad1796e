-- The due accesses, and the processes after them.
use Rattle.std.proofs.Common.{arith, ◌≡◌, ◌≢◌, refl, ℕ, ◌+◌, ◌<◌, ◌==◌, Bool, true, false, inl, inr, sym, ap, ◌∙◌, subst}
use Rattle.std.specs.Prelude as std
use Rattle.std.specs.Prelude.{if◌then◌else◌, nat_lt, IsTrue}
use Rattle.std.proofs.lemmas.Bool.{false≢true, ltb-true}
use Rattle.atomic_table.specs.Table.{Me}
use Rattle.ya_core.specs.declared.word.Access.{Access}
use Rattle.ya_core.specs.declared.word.Access.TheVariants.{Load, Store}
use Rattle.ya_core.specs.declared.process.Process.{Process}
use Rattle.ya_core.specs.declared.process.Process.TheVariants.{Idle, Entering, Inside, Leaving}
use Rattle.ya_core.specs.declared.process.EntryPoint.{EntryPoint}
use Rattle.ya_core.specs.declared.process.EntryPoint.TheVariants.{E1, E2, E5, E6, E7, E8, E9, E10}
use Rattle.ya_core.specs.declared.process.ExitPoint.{ExitPoint}
use Rattle.ya_core.specs.declared.walker.Op.{Op}
use Rattle.ya_core.specs.declared.walker.Op.TheVariants as op
use Rattle.ya_core.specs.Steps.{entry_access, exit_access, entry_next, next_of, after_entry}
use Rattle.ya_core.specs.WalkerModel.{Walk, walk, walk_after, op_of, op_of_access, is_waiting}
use Rattle.ya_core.specs.inside.Ahead.{points_of, points_ahead, ComesNearer}
use Rattle.ya_lock.specs.declared.rule.View.{View}
use Rattle.ya_lock.specs.Rule.{Quiet, Vain, free, bell_after}
use Rattle.ya_lock.specs.inside.Lock.{HasWon, HasPassed, HasLooked, IsAtFoot, OnWay, SeatOf, is_to_ring, is_vain}

-- the request is an access
abbrev IsAccess : Op → Type 0
IsAccess op.Idle = ⊥
IsAccess op.Inside = ⊥
IsAccess _ = Unit {0}

is_access : (levels : ℕ) (access : Access) → IsAccess (op_of_access levels access)
is_access levels (Load word) = tt
is_access levels (Store word value) = tt

-- if an access is requested, one is due
is_due : (w : Walk) → IsAccess (op_of w) → (op_of w ≢ op.Idle) × (op_of w ≢ op.Inside)
is_due w h = (λ e. subst IsAccess e h, λ e. subst IsAccess e h)

-- the same for a process that requests an access
due_where : (w : Walk) (process : Process) → w.process ≡ process
    → IsAccess (op_of (walk w.levels w.place process w.begun w.remote)) → (op_of w ≢ op.Idle) × (op_of w ≢ op.Inside)
due_where w process at asked =
    is_due w (subst (λ (p : Process). IsAccess (op_of (walk w.levels w.place p w.begun w.remote))) (sym at) asked)

-- an access is due to a process on its way in
pub due_entering : (w : Walk) (level : ℕ) (point : EntryPoint) → w.process ≡ Entering level point
    → (op_of w ≢ op.Idle) × (op_of w ≢ op.Inside)
due_entering w level point at =
    due_where w (Entering level point) at (is_access w.levels (entry_access level w.place point))

-- and to one on its way out
pub due_leaving : (w : Walk) (level : ℕ) (point : ExitPoint) → w.process ≡ Leaving level point
    → (op_of w ≢ op.Idle) × (op_of w ≢ op.Inside)
due_leaving w level point at =
    due_where w (Leaving level point) at (is_access w.levels (exit_access level w.place point))

-- and it is no store in a rival's spin word
pub plain_entering : (w : Walk) (level : ℕ) (point : EntryPoint) → w.process ≡ Entering level point
    → is_to_ring (Entering level point) ≡ false
    → (op_of w ≢ op.Idle) × (op_of w ≢ op.Inside) × (is_to_ring w.process ≡ false)
plain_entering w level point at plain =
    let d = due_entering w level point at in (d.0, d.1, ap is_to_ring at ∙ plain)

pub plain_leaving : (w : Walk) (level : ℕ) (point : ExitPoint) → w.process ≡ Leaving level point
    → is_to_ring (Leaving level point) ≡ false
    → (op_of w ≢ op.Idle) × (op_of w ≢ op.Inside) × (is_to_ring w.process ≡ false)
plain_leaving w level point at plain =
    let d = due_leaving w level point at in (d.0, d.1, ap is_to_ring at ∙ plain)

-- a wait that is over is over
not_waiting : (more : Bool) (level : ℕ) → is_waiting (if more then Entering (level + 1) E1 else Inside) ≡ false
not_waiting true level = refl
not_waiting false level = refl

-- a look after which the process waits was in vain
vain_e8 : (b : Bool) (level : ℕ) → is_waiting (if b then Entering level E8 else Entering level E9) ≡ true
    → is_vain (free b) ≡ true
vain_e8 true level waits = refl
vain_e8 false level waits = absurd (false≢true waits)

vain_e10 : (b : Bool) (levels level : ℕ) → is_waiting (if b then after_entry levels level else Entering level E10) ≡ true
    → is_vain (if b then Quiet else Vain) ≡ true
vain_e10 true levels level waits = absurd (false≢true (sym (not_waiting (nat_lt level levels) level) ∙ waits))
vain_e10 false levels level waits = refl

pub looks_vain : (levels place found : ℕ) (process : Process) → is_waiting process ≡ true
    → is_waiting (next_of levels place process found) ≡ true → is_vain (bell_after process found) ≡ true
looks_vain levels place found (Entering level E8) waited waits = vain_e8 (found == 0) level waits
looks_vain levels place found (Entering level E10) waited waits = vain_e10 (found == 2) levels level waits
looks_vain levels place found process waited waits = absurd (false≢true waited)

-- the walk has the process that a match found
pub found_at : {V : Type 0} {seen at : OnWay V} {A : Type 0} {point is : A} (process_at : A → Process) → seen ≡ at
    → process_at point ≡ seen.walk.process → point ≡ is → at.walk.process ≡ process_at is
found_at process_at view found same =
    sym (ap (λ (p : OnWay _). p.walk.process) view) ∙ (sym found ∙ ap process_at same)

-- and at which level, on its way in
pub found_entering : {V : Type 0} {seen at : OnWay V} {point is : EntryPoint} (level : ℕ) → seen ≡ at
    → Entering level point ≡ seen.walk.process → point ≡ is → (l : ℕ) × (at.walk.process ≡ Entering l is)
found_entering level view found same = (level, found_at (λ p. Entering level p) view found same)

-- the process after the access of a process on its way in
pub leads : (w new : Walk) (level found : ℕ) (point : EntryPoint) → w.process ≡ Entering level point → new ≡ walk_after w found
    → new.process ≡ entry_next w.levels level w.place point found
leads w new level found point at goes =
    ap (λ (v : Walk). v.process) goes ∙ ap (λ (p : Process). next_of w.levels w.place p found) at

-- a process after a won level has won it, whether the level was the last or not
has_won_at : (more : Bool) (level : ℕ) → HasWon (if more then Entering (level + 1) E1 else Inside)
has_won_at true level = tt
has_won_at false level = tt

pub has_won : (levels level : ℕ) → HasWon (after_entry levels level)
has_won levels level = has_won_at (nat_lt level levels) level

-- a process that did not win goes on at the point where it may lose
lost_at : (lost : Bool) (levels level : ℕ) (point : EntryPoint)
    → (HasWon (if lost then Entering level point else after_entry levels level) → ⊥)
    → (if lost then Entering level point else after_entry levels level) ≡ Entering level point
lost_at true levels level point not_won = refl
lost_at false levels level point not_won = absurd (not_won (has_won levels level))

-- so from e5 it goes to e6
pub lost_e5 : (w new : Walk) (level rival found : ℕ) → w.process ≡ Entering level (E5 rival) → new ≡ walk_after w found
    → (HasWon new.process → ⊥) → new.process ≡ Entering level (E6 rival)
lost_e5 w new level rival found at goes not_won =
    let is = leads w new level found (E5 rival) at goes in
    is ∙ lost_at (found == w.place + 1) w.levels level (E6 rival) (subst (λ (p : Process). HasWon p → ⊥) is not_won)

-- and from e9 to e10
pub lost_e9 : (w new : Walk) (level found : ℕ) → w.process ≡ Entering level E9 → new ≡ walk_after w found
    → (HasWon new.process → ⊥) → new.process ≡ Entering level E10
lost_e9 w new level found at goes not_won =
    let is = leads w new level found E9 at goes in
    is ∙ lost_at (found == w.place + 1) w.levels level E10 (subst (λ (p : Process). HasWon p → ⊥) is not_won)

-- a process that doesn't wait comes nearer
pub comes_nearer : (old new : Walk) → is_waiting old.process ≡ false → ComesNearer old new → points_ahead new < points_ahead old
comes_nearer old new still (inl nearer) = nearer
comes_nearer old new still (inr waits) = absurd (false≢true (sym still ∙ waits.0))

-- a process that is inside and whose exit was not begun requests no access
pub rests_inside : (w : Walk) → w.process ≡ Inside → w.begun ≡ false → op_of w ≡ op.Inside
rests_inside w at begun = λ i. op_of (walk w.levels w.place (at i) (begun i) w.remote)

-- the level of a process on its way in
abbrev level_of : Process → ℕ
level_of (Entering level point) = level
level_of _ = 0

-- the walk of a process on its way in has these parts, since nothing is to be begun
pub is_walk_of : {V : Type 0} (since done : ℕ → V → V → Type 0) (w : Walk) (seen : V) (me : Me (std.Option V) (View V))
    (levels place level other remote : ℕ) (point old : EntryPoint) → w.levels ≡ levels → w.place ≡ place
    → w.process ≡ Entering level old → w.process ≡ Entering other point → w.remote ≡ remote → SeatOf since done seen w me
    → w ≡ walk levels place (Entering level point) false remote
is_walk_of since done w seen me levels place level other remote point old tree here at due made seat =
    let same : other ≡ level = ap level_of (sym due ∙ at) in
    let is : w.process ≡ Entering level point = due ∙ ap (λ (l : ℕ). Entering l point) same in
    let begun = (subst (λ (p : Process). SeatOf since done seen (walk w.levels w.place p w.begun w.remote) me) is seat).0 in
    λ i. walk (tree i) (here i) (is i) (begun i) (made i)

-- a look at the spin word at e8: the process waits on, or goes on to e9
looked_at_e8 : (waits : Bool) (levels level : ℕ) (new : Walk)
    → new.process ≡ (if waits then Entering level E8 else Entering level E9) → new.begun ≡ false
    → HasLooked levels (Entering level E8) new
looked_at_e8 true levels level new is begun = inl is
looked_at_e8 false levels level new is begun = inr (is, begun)

pub looked_e8 : (levels level found : ℕ) (w new : Walk) → w.process ≡ Entering level E8 → new ≡ walk_after w found
    → HasLooked levels w.process new
looked_e8 levels level found w new at goes =
    subst (λ (p : Process). HasLooked levels p new) (sym at)
    (looked_at_e8 (found == 0) levels level new (leads w new level found E8 at goes) (ap (λ (v : Walk). v.begun) goes))

-- and at e10: it waits on, or has won
looked_at_e10 : (passed : Bool) (levels level : ℕ) (new : Walk)
    → new.process ≡ (if passed then after_entry levels level else Entering level E10) → new.begun ≡ false
    → HasLooked levels (Entering level E10) new
looked_at_e10 true levels level new is begun = inr (is, begun)
looked_at_e10 false levels level new is begun = inl is

pub looked_e10 : (levels level found : ℕ) (w new : Walk) → w.levels ≡ levels → w.process ≡ Entering level E10
    → new ≡ walk_after w found → HasLooked levels w.process new
looked_e10 levels level found w new tree at goes =
    subst (λ (p : Process). HasLooked levels p new) (sym at)
    (subst (λ (l : ℕ). HasLooked l (Entering level E10) new) tree
    (looked_at_e10 (found == 2) w.levels level new (leads w new level found E10 at goes) (ap (λ (v : Walk). v.begun) goes)))

passed_waits : (levels : ℕ) (before : Process) (after : Walk) → HasPassed levels before after
    → is_waiting after.process ≡ false
passed_waits levels (Entering level E8) after passed = ap is_waiting passed.0
passed_waits levels (Entering level E10) after passed = ap is_waiting passed.0 ∙ not_waiting (nat_lt level levels) level
passed_waits levels before after passed = absurd passed

-- a wait after e6 ends at e9: it was at e8, since no process waits at e7
pub passed_e8 : (wakes : Bool) (levels level rival : ℕ) (before : Process) (after : Walk)
    → before ≡ (if wakes then Entering level (E7 rival) else Entering level E8) → HasPassed levels before after
    → after.process ≡ Entering level E9
passed_e8 true levels level rival before after at passed =
    absurd (subst (λ (p : Process). HasPassed levels p after) at passed)
passed_e8 false levels level rival before after at passed =
    (subst (λ (p : Process). HasPassed levels p after) at passed).0

-- and it waits there, unless it is at e7
pub waits_behind : (wakes : Bool) (level rival : ℕ) (process : Process)
    → process ≡ (if wakes then Entering level (E7 rival) else Entering level E8) → process ≢ Entering level (E7 rival)
    → is_waiting process ≡ true
waits_behind true level rival process at apart = absurd (apart at)
waits_behind false level rival process at apart = ap is_waiting at

-- and one at e10 ends where the level is won
pub passed_e10 : (levels level : ℕ) (before : Process) (after : Walk) → before ≡ Entering level E10
    → HasPassed levels before after → HasWon after.process
passed_e10 levels level before after at passed =
    subst HasWon (sym (subst (λ (p : Process). HasPassed levels p after) at passed).0) (has_won levels level)

pub passed_begun : (levels level : ℕ) (before : Process) (after : Walk) → before ≡ Entering level E10
    → HasPassed levels before after → after.begun ≡ false
passed_begun levels level before after at passed = (subst (λ (p : Process). HasPassed levels p after) at passed).1

-- a process that waits after a look is unchanged
pub waits_on : (levels : ℕ) (before : Process) (after : Walk) → is_waiting after.process ≡ true
    → HasLooked levels before after → after.process ≡ before
waits_on levels before after waits (inl same) = same
waits_on levels before after waits (inr passed) = absurd (false≢true (sym (passed_waits levels before after passed) ∙ waits))

-- if a process waited and no longer does, the wait is over
pub has_passed : (levels : ℕ) (before : Process) (after : Walk) → is_waiting before ≡ true → is_waiting after.process ≡ false
    → HasLooked levels before after → HasPassed levels before after
has_passed levels before after waited goes_on (inl same) =
    absurd (false≢true (sym goes_on ∙ (ap is_waiting same ∙ waited)))
has_passed levels before after waited goes_on (inr passed) = passed

-- at the foot of a level an access is due, which leads to e2
pub due_at_foot : (w : Walk) → IsAtFoot w → (op_of w ≢ op.Idle) × (op_of w ≢ op.Inside)
due_at_foot w (inl idle) =
    let P : Process → Bool → Type 0 = λ p b. IsAccess (op_of (walk w.levels w.place p b w.remote)) in
    let access : P Idle true = is_access w.levels (entry_access 1 w.place E1) in
    is_due w (subst (λ (b : Bool). P w.process b) (sym idle.1) (subst (λ (p : Process). P p true) (sym idle.0) access))
due_at_foot w (inr entering) = due_entering w entering.0 E1 entering.1

pub plain_at_foot : (w : Walk) → IsAtFoot w → (op_of w ≢ op.Idle) × (op_of w ≢ op.Inside) × (is_to_ring w.process ≡ false)
plain_at_foot w (inl idle) = let d = due_at_foot w (inl idle) in (d.0, d.1, ap is_to_ring idle.0)
plain_at_foot w (inr entering) = let d = due_at_foot w (inr entering) in (d.0, d.1, ap is_to_ring entering.1)

pub from_foot : (w new : Walk) (found : ℕ) → IsAtFoot w → new ≡ walk_after w found
    → (level : ℕ) × (new.process ≡ Entering level E2)
from_foot w new found (inl idle) goes =
    (1, ap (λ (v : Walk). v.process) goes ∙ ap (λ (p : Process). next_of w.levels w.place p found) idle.0)
from_foot w new found (inr entering) goes = (entering.0, leads w new entering.0 found E1 entering.1 goes)

-- a wait that is over has brought the walk nearer
nearer_past : (more : Bool) (levels level : ℕ) → (IsTrue more → level < levels)
    → points_of levels (if more then Entering (level + 1) E1 else Inside) false < points_of levels (Entering level E10) false
nearer_past true levels level below = let l : level < levels = below refl in omega arith
nearer_past false levels level below = omega arith

nearer_at : (levels : ℕ) (before : Process) (begun : Bool) (after : Walk) → after.levels ≡ levels → HasPassed levels before after
    → points_ahead after < points_of levels before begun
nearer_at levels (Entering level E8) begun after tree passed =
    let near : points_of levels (Entering level E9) false < points_of levels (Entering level E8) begun = omega arith in
    subst (λ (n : ℕ). n < points_of levels (Entering level E8) begun)
    (λ i. points_of (sym tree i) (sym passed.0 i) (sym passed.1 i)) near
nearer_at levels (Entering level E10) begun after tree passed =
    subst (λ (n : ℕ). n < points_of levels (Entering level E10) begun)
    (λ i. points_of (sym tree i) (sym passed.0 i) (sym passed.1 i)) (nearer_past (nat_lt level levels) levels level (λ lt. ltb-true level levels lt))
nearer_at levels before begun after tree passed = absurd passed

pub passed_nearer : (levels : ℕ) (before after : Walk) → before.levels ≡ levels → after.levels ≡ levels
    → HasPassed levels before.process after → points_ahead after < points_ahead before
passed_nearer levels before after here tree passed =
    subst (λ (l : ℕ). points_ahead after < points_of l before.process before.begun) (sym here)
    (nearer_at levels before.process before.begun after tree passed)
