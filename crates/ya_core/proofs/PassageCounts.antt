-- In a run a passage makes at most the remote accesses of the points that it has passed, and so does a walk.
use Rattle.std.proofs.Common.{◌≡◌, ◌≢◌, ℕ, zero, suc, ◌+◌, ◌*◌, ◌<◌, ◌≤◌, ◌==◌, Bool, true, false, nat_lt, refl, arith}
use Rattle.std.proofs.Common.{ap, sym, ◌∙◌, subst, if◌then◌else◌, IsTrue, List, [], ◌∷◌}
use Rattle.std.proofs.lemmas.Bool.Decides.{nat_tests}
use Rattle.std.specs.Prelude.{Option, Some, None}
use Rattle.ya_core.specs.declared.process.EntryPoint.{EntryPoint}
use Rattle.ya_core.specs.declared.process.EntryPoint.TheVariants.{E1, E2, E3, E4, E5, E6, E7, E8, E9, E10}
use Rattle.ya_core.specs.declared.process.ExitPoint.{ExitPoint}
use Rattle.ya_core.specs.declared.process.ExitPoint.TheVariants.{X1, X2, X3}
use Rattle.ya_core.specs.declared.process.Process.{Process}
use Rattle.ya_core.specs.declared.process.Process.TheVariants.{Idle, Entering, Inside, Leaving}
use Rattle.ya_core.specs.Steps.{State, StepsTo, access_of, next_of, value_of, entry_access, exit_access, entry_next, exit_next, after_entry, after_exit}
use Rattle.ya_core.specs.Soundness.{IsProper}
use Rattle.ya_core.specs.WalkerModel.{cost_of, entry_behind, most_of, most_remote, due_of, MayBeTold}
use Rattle.ya_core.specs.WalkerModel.{Walk, IsWalk, walk_after, WalkLeadsTo, BeginsEntry, BeginsExit}
use Rattle.ya_core.specs.Fairness.{PickLeadsTo, IsRunOfSchedule}
use Rattle.ya_core.specs.PassageCounts.{cost_of_pick, remote_accesses}
use Rattle.ya_core.specs.Worlds.{IsInside, is_inside}
use Rattle.ya_core.proofs.Invariant.{is_inside_is}
use Rattle.ya_core.proofs.Properness.{either}
use Rattle.ya_core.proofs.Cases.{each_point}
use Rattle.ya_core.proofs.Counting.{rises_entry, rises_exit, goes_on, told_counted}

-- a process on its way in is at a level of the tree, or it is inside
abbrev GoesIn : ℕ → Process → Type 0
GoesIn levels (Entering level point) = (1 ≤ level) × (level ≤ levels)
GoesIn levels Inside = Unit {0}
GoesIn levels _ = ⊥

won_goes_in : (levels level : ℕ) → GoesIn levels (after_entry levels level)
won_goes_in levels level =
    either (GoesIn levels) (nat_lt level levels) _ _ (λ less. (omega arith, grind (arith, nat_tests))) (λ _. tt)

next_goes_in : (levels level place : ℕ) (point : EntryPoint) (value : ℕ) → (1 ≤ level) × (level ≤ levels)
    → GoesIn levels (entry_next levels level place point value)
next_goes_in levels level place E1 value here = here
next_goes_in levels level place E2 value here = here
next_goes_in levels level place E3 value here = here
next_goes_in levels level place E4 value here =
    either (GoesIn levels) (value == 0) _ _ (λ _. won_goes_in levels level) (λ _. here)
next_goes_in levels level place (E5 rival) value here =
    either (GoesIn levels) (value == place + 1) _ _ (λ _. here) (λ _. won_goes_in levels level)
next_goes_in levels level place (E6 rival) value here =
    either (GoesIn levels) (value == 0) _ _ (λ _. here) (λ _. here)
next_goes_in levels level place (E7 rival) value here = here
next_goes_in levels level place E8 value here =
    either (GoesIn levels) (value == 0) _ _ (λ _. here) (λ _. here)
next_goes_in levels level place E9 value here =
    either (GoesIn levels) (value == place + 1) _ _ (λ _. here) (λ _. won_goes_in levels level)
next_goes_in levels level place E10 value here =
    either (GoesIn levels) (value == 2) _ _ (λ _. won_goes_in levels level) (λ _. here)

-- at most seven at a level
few_behind : (point : EntryPoint) → (entry_behind point).1 ≤ 7
few_behind =
    each_point (λ point. (entry_behind point).1 ≤ 7) (omega arith) (omega arith) (omega arith) (omega arith)
    (λ rival. omega arith) (λ rival. omega arith) (λ rival. omega arith) (omega arith) (omega arith) (omega arith)

most_in : (levels : ℕ) (x : Process) → GoesIn levels x → most_of levels x false ≤ 7 * levels
most_in levels Idle goes = absurd goes
most_in levels (Entering level point) goes = omega (arith, few_behind point, goes.0, goes.1)
most_in levels Inside goes = omega arith
most_in levels (Leaving level point) goes = absurd goes

-- on the way in a process has made no more remote accesses than its point's bound
abbrev CountedIn : ℕ → ℕ → Process → Type 0
CountedIn levels made Idle = made ≡ 0
CountedIn levels made x = GoesIn levels x × (made ≤ most_of levels x false)

counted_in : (levels made : ℕ) (x : Process) → GoesIn levels x → made ≤ most_of levels x false → CountedIn levels made x
counted_in levels made Idle goes most = absurd goes
counted_in levels made (Entering level point) goes most = (goes, most)
counted_in levels made Inside goes most = (goes, most)
counted_in levels made (Leaving level point) goes most = absurd goes

step_in : (levels place made : ℕ) (x : Process) (value : ℕ) → 1 ≤ levels → (x ≡ Inside → ⊥) → CountedIn levels made x
    → CountedIn levels (made + cost_of place (access_of levels place x)) (next_of levels place x value)
step_in levels place made Idle value some out counted = ((omega arith, some), omega (arith, counted))
step_in levels place made (Entering level point) value some out counted =
    counted_in levels (made + cost_of place (entry_access level place point))
    (entry_next levels level place point value) (next_goes_in levels level place point value counted.0)
    (omega (arith, rises_entry levels level place point value counted.0.0 counted.0.1, counted.1))
step_in levels place made Inside value some out counted = absurd (out refl)
step_in levels place made (Leaving level point) value some out counted = absurd counted.0

few_in : (levels made : ℕ) (x : Process) → CountedIn levels made x → made ≤ 7 * levels
few_in levels made Idle counted = omega (arith, counted)
few_in levels made (Entering level point) counted =
    omega (arith, counted.1, most_in levels (Entering level point) counted.0)
few_in levels made Inside counted = counted.1
few_in levels made (Leaving level point) counted = absurd counted.0

-- a process on its way out is at a level of the tree, or it is idle
abbrev GoesOut : ℕ → Process → Type 0
GoesOut levels (Leaving level point) = (1 ≤ level) × (level ≤ levels)
GoesOut levels Idle = Unit {0}
GoesOut levels _ = ⊥

left_goes_out : (levels level : ℕ) → level ≤ levels → GoesOut levels (after_exit level)
left_goes_out levels level most =
    either (GoesOut levels) (nat_lt 1 level) _ _ (λ more. (grind (arith, nat_tests), omega (arith, most))) (λ _. tt)

next_goes_out : (levels level place : ℕ) (point : ExitPoint) (value : ℕ) → (1 ≤ level) × (level ≤ levels)
    → GoesOut levels (exit_next level place point value)
next_goes_out levels level place X1 value here = here
next_goes_out levels level place X2 value here =
    either (GoesOut levels) (value == place + 1) _ _ (λ _. left_goes_out levels level here.1) (λ _. here)
next_goes_out levels level place (X3 rival) value here = left_goes_out levels level here.1

most_out : (levels : ℕ) (x : Process) → GoesOut levels x → most_of levels x false ≤ 10 * levels
most_out levels Idle goes = omega arith
most_out levels (Entering level point) goes = absurd goes
most_out levels Inside goes = absurd goes
most_out levels (Leaving level X1) goes = omega (arith, goes.0, goes.1)
most_out levels (Leaving level X2) goes = omega (arith, goes.0, goes.1)
most_out levels (Leaving level (X3 rival)) goes = omega (arith, goes.0, goes.1)

-- on the way out its count has risen by at most the rise of the bound since it was inside
abbrev CountedOut : ℕ → ℕ → Process → Type 0
CountedOut levels made Inside = made ≡ 0
CountedOut levels made x = GoesOut levels x × (made + 7 * levels ≤ most_of levels x false)

counted_out : (levels made : ℕ) (x : Process) → GoesOut levels x → made + 7 * levels ≤ most_of levels x false
    → CountedOut levels made x
counted_out levels made Idle goes most = (goes, most)
counted_out levels made (Entering level point) goes most = absurd goes
counted_out levels made Inside goes most = absurd goes
counted_out levels made (Leaving level point) goes most = (goes, most)

step_out : (levels place made : ℕ) (x : Process) (value : ℕ) → 1 ≤ levels → (x ≡ Idle → ⊥) → CountedOut levels made x
    → CountedOut levels (made + cost_of place (access_of levels place x)) (next_of levels place x value)
step_out levels place made Idle value some busy counted = absurd (busy refl)
step_out levels place made (Entering level point) value some busy counted = absurd counted.0
step_out levels place made Inside value some busy counted = ((some, omega arith), omega (arith, counted))
step_out levels place made (Leaving level point) value some busy counted =
    counted_out levels (made + cost_of place (exit_access level place point)) (exit_next level place point value)
    (next_goes_out levels level place point value counted.0)
    (omega (arith, rises_exit levels level place point value counted.0.0 counted.0.1, counted.1))

few_out : (levels made : ℕ) (x : Process) → CountedOut levels made x → made ≤ 3 * levels
few_out levels made Idle counted = omega (arith, counted.1)
few_out levels made (Entering level point) counted = absurd counted.0
few_out levels made Inside counted = omega (arith, counted)
few_out levels made (Leaving level point) counted =
    omega (arith, counted.1, most_out levels (Leaving level point) counted.0)

-- a property that each step of a place keeps along with its count is kept by a run until the place is where it is
-- to stop
module _ (levels place : ℕ) (Kept : ℕ → Process → Type 0) (Stop : Process → Type 0)
    (go : (made : ℕ) (x : Process) (value : ℕ) → (Stop x → ⊥) → Kept made x
    → Kept (made + cost_of place (access_of levels place x)) (next_of levels place x value)) where
  after_pick : (pick : Option ℕ) (s t : State) → PickLeadsTo levels pick s t → (made : ℕ) → (Stop (s.processes place) → ⊥)
      → Kept made (s.processes place) → Kept (made + cost_of_pick place levels s pick) (t.processes place)
  after_pick None s t same made on kept =
      subst (λ (n : ℕ). Kept n (t.processes place)) (let none : made ≡ made + 0 = omega arith in none)
      (subst (λ (u : State). Kept made (u.processes place)) (sym same) kept)
  after_pick (Some q) s t goes made on kept = by_test (q == place) refl
    where
      by_test : (b : Bool) → (q == place) ≡ b
          → Kept (made + (if b then cost_of place (access_of levels place (s.processes place)) else 0)) (t.processes place)
      by_test true is =
          let same : q ≡ place = grind (arith, nat_tests) in
          let step : StepsTo levels place s t = subst (λ (p : ℕ). StepsTo levels p s t) same goes in
          subst (Kept (made + cost_of place (access_of levels place (s.processes place)))) (sym step.process)
          (go made (s.processes place) (value_of s.words (access_of levels place (s.processes place))) on kept)
      by_test false is =
          let apart : q ≢ place = grind (arith, nat_tests) in
          subst (λ (n : ℕ). Kept n (t.processes place)) (let none : made ≡ made + 0 = omega arith in none)
          (subst (Kept made) (sym (goes.others place (λ same. apart (sym same)))) kept)

  along : (schedule : ℕ → Option ℕ) (states : ℕ → State)
      → ((time : ℕ) → PickLeadsTo levels (schedule time) (states time) (states (time + 1)))
      → Kept 0 ((states 0).processes place) → (end : ℕ) → ((time : ℕ) → time < end → Stop ((states time).processes place) → ⊥)
      → Kept (remote_accesses place levels schedule states end) ((states end).processes place)
  along schedule states step first zero on = first
  along schedule states step first (suc n) on =
      subst
      (λ (k : ℕ). Kept (remote_accesses place levels schedule states (suc n)) ((states k).processes place))
      (let next : n + 1 ≡ suc n = omega arith in next)
      (after_pick (schedule n) (states n) (states (n + 1)) (step n) (remote_accesses place levels schedule states n)
      (on n (omega arith))
      (along schedule states step first n (λ time less. on time (omega (arith, less)))))

-- the bounds for a run: from idle until it is inside, and from there until it is idle
pub in_few : (levels place end : ℕ) (schedule : ℕ → Option ℕ) (first : State) (states : ℕ → State) → 1 ≤ levels
    → IsRunOfSchedule levels schedule first states → first.processes place ≡ Idle
    → ((time : ℕ) → time < end → IsInside (states time) place → ⊥)
    → remote_accesses place levels schedule states end ≤ 7 * levels
in_few levels place end schedule first states some run idle on =
    few_in levels (remote_accesses place levels schedule states end) ((states end).processes place)
    (along levels place (CountedIn levels) (λ x. x ≡ Inside)
    (λ made x value out counted. step_in levels place made x value some out counted) schedule states run.picks
    (subst (CountedIn levels 0) (sym (ap (λ (s : State). s.processes place) run.start ∙ idle)) refl) end
    (λ time less inside. on time less (ap is_inside inside)))

pub out_few : (levels place end : ℕ) (schedule : ℕ → Option ℕ) (first : State) (states : ℕ → State) → 1 ≤ levels
    → IsRunOfSchedule levels schedule first states → IsInside first place
    → ((time : ℕ) → time < end → (states time).processes place ≢ Idle)
    → remote_accesses place levels schedule states end ≤ 3 * levels
out_few levels place end schedule first states some run inside on =
    few_out levels (remote_accesses place levels schedule states end) ((states end).processes place)
    (along levels place (CountedOut levels) (λ x. x ≡ Idle)
    (λ made x value busy counted. step_out levels place made x value some busy counted) schedule states run.picks
    (subst (CountedOut levels 0)
    (sym (ap (λ (s : State). s.processes place) run.start ∙ is_inside_is (first.processes place) inside)) refl) end on)

-- a walk stays one of its tree along its way, and its count rises by no more than its bound
pub along_way : (w v : Walk) (values : List ℕ) → IsWalk w → WalkLeadsTo w values v
    → IsWalk v × (v.levels ≡ w.levels) × (v.remote + most_remote w ≤ w.remote + most_remote v)
along_way w v [] is goes = (
  subst IsWalk (sym goes) is,
  ap (λ (u : Walk). u.levels) goes,
  subst (λ (u : Walk). u.remote + most_remote w ≤ w.remote + most_remote u) (sym goes) (omega arith),
)
along_way w v (value ∷ values) is goes =
    let next = walk_after w value in
    let rest = along_way next v values (goes_on w value is goes.0) goes.1 in
    (rest.0, rest.1, omega (arith, rest.2, told_counted w next value is goes.0 refl))

-- a place whose entry was begun is on its way in until it is inside
abbrev StaysIn : ℕ → Process → Bool → Type 0
StaysIn levels Idle begun = IsTrue begun
StaysIn levels Inside begun = begun ≡ false
StaysIn levels x begun = GoesIn levels x

stays_in : (levels : ℕ) (x : Process) → GoesIn levels x → StaysIn levels x false
stays_in levels Idle goes = absurd goes
stays_in levels (Entering level point) goes = goes
stays_in levels Inside goes = refl
stays_in levels (Leaving level point) goes = absurd goes

in_next : (levels place : ℕ) (x : Process) (begun : Bool) (value : ℕ) → 1 ≤ levels → StaysIn levels x begun
    → MayBeTold (due_of levels place x begun) value → StaysIn levels (next_of levels place x value) false
in_next levels place Idle true value some stays told = (omega arith, some)
in_next levels place Idle false value some stays told = absurd told
in_next levels place (Entering level point) begun value some stays told =
    stays_in levels (entry_next levels level place point value) (next_goes_in levels level place point value stays)
in_next levels place Inside true value some stays told = absurd cc
in_next levels place Inside false value some stays told = absurd told
in_next levels place (Leaving level point) begun value some stays told = absurd stays

in_along : (w v : Walk) (values : List ℕ) → IsWalk w → StaysIn w.levels w.process w.begun → WalkLeadsTo w values v
    → StaysIn v.levels v.process v.begun
in_along w v [] is stays goes = subst (λ (u : Walk). StaysIn u.levels u.process u.begun) (sym goes) stays
in_along w v (value ∷ values) is stays goes =
    in_along (walk_after w value) v values (goes_on w value is goes.0)
    (in_next w.levels w.place w.process w.begun value is.least stays goes.0) goes.1

few_stay : (levels : ℕ) (x : Process) (begun : Bool) → StaysIn levels x begun → most_of levels x begun ≤ 7 * levels
few_stay levels Idle true stays = omega arith
few_stay levels Idle false stays = absurd cc
few_stay levels (Entering level point) begun stays = most_in levels (Entering level point) stays
few_stay levels Inside begun stays = omega arith
few_stay levels (Leaving level point) begun stays = absurd stays

few_ever : (levels place : ℕ) (x : Process) (begun : Bool) → IsProper levels place x → most_of levels x begun ≤ 10 * levels
few_ever levels place Idle true proper = omega arith
few_ever levels place Idle false proper = omega arith
few_ever levels place (Entering level point) begun proper =
    omega (arith, most_in levels (Entering level point) (proper.least, proper.most))
few_ever levels place Inside begun proper = omega arith
few_ever levels place (Leaving level point) begun proper =
    most_out levels (Leaving level point) (proper.least, proper.most)

-- a walk makes at most seven for each level on its way in, and three on its way out
pub walk_in_few : (start end : Walk) (values : List ℕ) → IsWalk start → BeginsEntry start → WalkLeadsTo start values end
    → end.remote ≤ 7 * start.levels
walk_in_few start end values is enters goes =
    let along = along_way start end values is goes in
    let begins : StaysIn start.levels start.process start.begun =
    subst (λ (x : Process). StaysIn start.levels x start.begun) (sym enters.process) enters.begun in
    let few = few_stay end.levels end.process end.begun (in_along start end values is begins goes) in
    omega (arith, along.0.counted, along.1, few)

pub walk_out_few : (start end : Walk) (values : List ℕ) → IsWalk start → BeginsExit start → WalkLeadsTo start values end
    → end.remote ≤ start.remote + 3 * start.levels
walk_out_few start end values is leaves goes =
    let along = along_way start end values is goes in
    let inside : most_remote start ≡ 7 * start.levels =
    ap (λ (x : Process). most_of start.levels x start.begun) leaves.process in
    let few = few_ever end.levels end.place end.process end.begun along.0.proper in
    omega (arith, along.1, along.2, inside, few)
