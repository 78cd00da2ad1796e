-- One process: each step comes nearer to its end, and costs what was counted.
use Rattle.std.proofs.Common.{◌≡◌, ℕ, ◌+◌, ◌-◌, ◌*◌, ◌<◌, ◌≤◌, ◌==◌, Bool, true, false, nat_lt, refl, arith, ◌⊎◌, inl}
use Rattle.std.proofs.Common.{inr, IsTrue, Option, Some, None, sym, subst}
use Rattle.std.proofs.lemmas.Bool.Decides.{nat_tests}
use Rattle.ya_core.specs.declared.word.Word.{Word}
use Rattle.ya_core.specs.declared.word.Word.TheVariants.{C, T, P}
use Rattle.ya_core.specs.declared.word.Access.{Access}
use Rattle.ya_core.specs.declared.process.EntryPoint.{EntryPoint}
use Rattle.ya_core.specs.declared.process.EntryPoint.TheVariants.{E1, E2, E3, E4, E5, E6, E7, E8, E9, E10}
use Rattle.ya_core.specs.declared.process.ExitPoint.{ExitPoint}
use Rattle.ya_core.specs.declared.process.ExitPoint.TheVariants.{X1, X2, X3}
use Rattle.ya_core.specs.declared.process.Process.{Process}
use Rattle.ya_core.specs.declared.process.Process.TheVariants.{Idle, Entering, Inside, Leaving}
use Rattle.ya_core.specs.Steps.{access_of, entry_access, exit_access, next_of, entry_next, exit_next, after_entry, after_exit}
use Rattle.ya_core.specs.Soundness.{IsProper}
use Rattle.ya_core.proofs.Properness.{either, proper_next, within_access}
use Rattle.ya_core.proofs.DueAccess.{due_is}
use Rattle.ya_core.specs.WalkerModel.{MayFind, AccessIsWithin, Walk, IsWalk, walk, walk_after, AdvancesOrSpins, due, due_of}
use Rattle.ya_core.specs.WalkerModel.{MayBeTold, cost_of, cost_of_word, is_waiting, entry_behind, exit_behind, most_of, most_remote}
use Rattle.ya_core.specs.WalkerModel.{Advances}
use Rattle.ya_core.specs.inside.Ahead.{points_of, entry_points, exit_points, ComesNearer}
use Rattle.ya_core.specs.inside.WalkerModel.{DueIsWithin}

-- the number of points ahead of a process that won a level
ahead_won : (levels level : ℕ) → level ≤ levels → points_of levels (after_entry levels level) false ≤ 10 * (levels - level)
ahead_won levels level most =
    either (λ x. points_of levels x false ≤ 10 * (levels - level)) (nat_lt level levels) _ _
    (λ less. grind (arith, nat_tests)) (λ _. omega arith)

-- the same for a process that left it
ahead_after_exit : (levels level : ℕ) → points_of levels (after_exit level) false ≤ 3 * (level - 1)
ahead_after_exit levels level =
    either (λ x. points_of levels x false ≤ 3 * (level - 1)) (nat_lt 1 level) _ _ (λ more. grind (arith, nat_tests))
    (λ _. omega arith)

-- a step on the way in comes nearer, or waits
nearer_entry : (levels level place : ℕ) (point : EntryPoint) (value : ℕ) → level ≤ levels
    → (points_of levels (entry_next levels level place point value) false < 10 * (levels - level) + entry_points point)
    ⊎ (IsTrue (is_waiting (Entering level point))
    × (entry_next levels level place point value ≡ Entering level point))
nearer_entry levels level place E1 value most = inl (omega arith)
nearer_entry levels level place E2 value most = inl (omega arith)
nearer_entry levels level place E3 value most = inl (omega arith)
nearer_entry levels level place E4 value most =
    inl (either (λ x. points_of levels x false < 10 * (levels - level) + 7) (value == 0) _ _
    (λ _. omega (arith, ahead_won levels level most)) (λ _. omega arith))
nearer_entry levels level place (E5 rival) value most =
    inl (either (λ x. points_of levels x false < 10 * (levels - level) + 6) (value == place + 1) _ _ (λ _. omega arith)
    (λ _. omega (arith, ahead_won levels level most)))
nearer_entry levels level place (E6 rival) value most =
    inl (either (λ x. points_of levels x false < 10 * (levels - level) + 5) (value == 0) _ _ (λ _. omega arith)
    (λ _. omega arith))
nearer_entry levels level place (E7 rival) value most = inl (omega arith)
nearer_entry levels level place E8 value most =
    either (λ x. (points_of levels x false < 10 * (levels - level) + 3) ⊎ (IsTrue true × (x ≡ Entering level E8)))
    (value == 0) _ _ (λ _. inr (refl, refl)) (λ _. inl (omega arith))
nearer_entry levels level place E9 value most =
    inl (either (λ x. points_of levels x false < 10 * (levels - level) + 2) (value == place + 1) _ _ (λ _. omega arith)
    (λ _. omega (arith, ahead_won levels level most)))
nearer_entry levels level place E10 value most =
    either (λ x. (points_of levels x false < 10 * (levels - level) + 1) ⊎ (IsTrue true × (x ≡ Entering level E10)))
    (value == 2) _ _ (λ _. inl (omega (arith, ahead_won levels level most))) (λ _. inr (refl, refl))

-- a step on the way out comes nearer
nearer_exit : (levels level place : ℕ) (point : ExitPoint) (value : ℕ)
    → points_of levels (exit_next level place point value) false < 3 * (level - 1) + exit_points point
nearer_exit levels level place X1 value = omega arith
nearer_exit levels level place X2 value =
    either (λ x. points_of levels x false < 3 * (level - 1) + 2) (value == place + 1) _ _
    (λ _. omega (arith, ahead_after_exit levels level)) (λ _. omega arith)
nearer_exit levels level place (X3 rival) value = omega (arith, ahead_after_exit levels level)

-- a step takes a process to a later point or level, but for a load that found a waiting process its own spin word
-- unchanged
pub nearer : (levels place : ℕ) (x : Process) (begun : Bool) (value : ℕ) → 1 ≤ levels → IsProper levels place x
    → MayBeTold (due_of levels place x begun) value
    → (points_of levels (next_of levels place x value) false < points_of levels x begun)
    ⊎ (IsTrue (is_waiting x) × (next_of levels place x value ≡ x))
nearer levels place Idle true value some proper told = inl (omega arith)
nearer levels place Idle false value some proper told = absurd told
nearer levels place (Entering level point) begun value some proper told =
    nearer_entry levels level place point value proper.most
nearer levels place Inside true value some proper told = inl (omega arith)
nearer levels place Inside false value some proper told = absurd told
nearer levels place (Leaving level point) begun value some proper told =
    inl (nearer_exit levels level place point value)

-- a process that won a level, or left it, comes further
further_won : (levels level : ℕ) (point : EntryPoint) → 1 ≤ level
    → Advances levels (Entering level point) (after_entry levels level)
further_won levels level point least =
    either (Advances levels (Entering level point)) (nat_lt level levels) _ _ (λ _. inl (omega (arith, least))) (λ _. tt)

further_after_exit : (levels level : ℕ) (point : ExitPoint) → level ≤ levels
    → Advances levels (Leaving level point) (after_exit level)
further_after_exit levels level point most =
    either (Advances levels (Leaving level point)) (nat_lt 1 level) _ _ (λ more. inl (grind (arith, nat_tests))) (λ _. tt)

-- a step on the way in comes further, or waits
further_entry : (levels level place : ℕ) (point : EntryPoint) (value : ℕ) → 1 ≤ level
    → Advances levels (Entering level point) (entry_next levels level place point value)
    ⊎ (IsTrue (is_waiting (Entering level point))
    × (entry_next levels level place point value ≡ Entering level point))
further_entry levels level place E1 value least = inl (inr (refl, omega arith))
further_entry levels level place E2 value least = inl (inr (refl, omega arith))
further_entry levels level place E3 value least = inl (inr (refl, omega arith))
further_entry levels level place E4 value least =
    inl (either (Advances levels (Entering level E4)) (value == 0) _ _ (λ _. further_won levels level E4 least)
    (λ _. inr (refl, omega arith)))
further_entry levels level place (E5 rival) value least =
    inl (either (Advances levels (Entering level (E5 rival))) (value == place + 1) _ _ (λ _. inr (refl, omega arith))
    (λ _. further_won levels level (E5 rival) least))
further_entry levels level place (E6 rival) value least =
    inl (either (Advances levels (Entering level (E6 rival))) (value == 0) _ _ (λ _. inr (refl, omega arith))
    (λ _. inr (refl, omega arith)))
further_entry levels level place (E7 rival) value least = inl (inr (refl, omega arith))
further_entry levels level place E8 value least =
    either (λ x. Advances levels (Entering level E8) x ⊎ (IsTrue true × (x ≡ Entering level E8))) (value == 0) _ _
    (λ _. inr (refl, refl)) (λ _. inl (inr (refl, omega arith)))
further_entry levels level place E9 value least =
    inl (either (Advances levels (Entering level E9)) (value == place + 1) _ _ (λ _. inr (refl, omega arith))
    (λ _. further_won levels level E9 least))
further_entry levels level place E10 value least =
    either (λ x. Advances levels (Entering level E10) x ⊎ (IsTrue true × (x ≡ Entering level E10))) (value == 2) _ _
    (λ _. inl (further_won levels level E10 least)) (λ _. inr (refl, refl))

-- and a step on the way out comes further
further_exit : (levels level place : ℕ) (point : ExitPoint) (value : ℕ) → level ≤ levels
    → Advances levels (Leaving level point) (exit_next level place point value)
further_exit levels level place X1 value most = inr (refl, omega arith)
further_exit levels level place X2 value most =
    either (Advances levels (Leaving level X2)) (value == place + 1) _ _ (λ _. further_after_exit levels level X2 most)
    (λ _. inr (refl, omega arith))
further_exit levels level place (X3 rival) value most = further_after_exit levels level (X3 rival) most

further : (levels place : ℕ) (x : Process) (begun : Bool) (value : ℕ) → IsProper levels place x
    → MayBeTold (due_of levels place x begun) value
    → Advances levels x (next_of levels place x value) ⊎ (IsTrue (is_waiting x) × (next_of levels place x value ≡ x))
further levels place Idle true value proper told = inl (inr (refl, omega arith))
further levels place Idle false value proper told = absurd told
further levels place (Entering level point) begun value proper told =
    further_entry levels level place point value proper.least
further levels place Inside true value proper told = inl (inr (omega arith, omega arith))
further levels place Inside false value proper told = absurd told
further levels place (Leaving level point) begun value proper told =
    inl (further_exit levels level place point value proper.most)

-- an access costs one at most, and one of an own word P nothing
cost_at_most : (place : ℕ) (word : Word) → cost_of_word place word ≤ 1
cost_at_most place (C level node side) = omega arith
cost_at_most place (T level node) = omega arith
cost_at_most place (P level owner) = grind (arith, nat_tests)

cost_of_own : (level place : ℕ) → cost_of_word place (P level place) ≡ 0
cost_of_own level place = grind (arith, nat_tests)

-- the maximum count of a process that won a level
most_won : (levels level : ℕ) → 1 ≤ level → level ≤ levels → 7 * (level - 1) + 7 ≤ most_of levels (after_entry levels level) false
most_won levels level least most =
    either (λ x. 7 * (level - 1) + 7 ≤ most_of levels x false) (nat_lt level levels) _ _ (λ _. omega (arith, least))
    (λ _. omega (arith, least, most))

-- the same for a process that left it
most_after_exit : (levels level : ℕ) → 1 ≤ level → level ≤ levels
    → 7 * levels + 3 * (levels - level) + 3 ≤ most_of levels (after_exit level) false
most_after_exit levels level least most =
    either (λ x. 7 * levels + 3 * (levels - level) + 3 ≤ most_of levels x false) (nat_lt 1 level) _ _
    (λ more. grind (arith, nat_tests)) (λ last. grind (arith, nat_tests))

-- a step on the way in, or out, costs no more than the bound rises by
pub rises_entry : (levels level place : ℕ) (point : EntryPoint) (value : ℕ) → 1 ≤ level → level ≤ levels
    → cost_of place (entry_access level place point) + (7 * (level - 1) + (entry_behind point).1)
    ≤ most_of levels (entry_next levels level place point value) false
rises_entry levels level place E1 value least most = omega arith
rises_entry levels level place E2 value least most = omega arith
rises_entry levels level place E3 value least most = omega (arith, cost_of_own level place)
rises_entry levels level place E4 value least most =
    either (λ x. 1 + (7 * (level - 1) + 2) ≤ most_of levels x false) (value == 0) _ _
    (λ _. omega (arith, most_won levels level least most)) (λ _. omega arith)
rises_entry levels level place (E5 rival) value least most =
    either (λ x. 1 + (7 * (level - 1) + 3) ≤ most_of levels x false) (value == place + 1) _ _ (λ _. omega arith)
    (λ _. omega (arith, most_won levels level least most))
rises_entry levels level place (E6 rival) value least most =
    either (λ x. cost_of_word place (P level rival) + (7 * (level - 1) + 4) ≤ most_of levels x false) (value == 0) _ _
    (λ _. omega (arith, cost_at_most place (P level rival))) (λ _. omega (arith, cost_at_most place (P level rival)))
rises_entry levels level place (E7 rival) value least most = omega (arith, cost_at_most place (P level rival))
rises_entry levels level place E8 value least most =
    either (λ x. cost_of_word place (P level place) + (7 * (level - 1) + 6) ≤ most_of levels x false) (value == 0) _ _
    (λ _. omega (arith, cost_of_own level place)) (λ _. omega (arith, cost_of_own level place))
rises_entry levels level place E9 value least most =
    either (λ x. 1 + (7 * (level - 1) + 6) ≤ most_of levels x false) (value == place + 1) _ _ (λ _. omega arith)
    (λ _. omega (arith, most_won levels level least most))
rises_entry levels level place E10 value least most =
    either (λ x. cost_of_word place (P level place) + (7 * (level - 1) + 7) ≤ most_of levels x false) (value == 2) _ _
    (λ _. omega (arith, cost_of_own level place, most_won levels level least most))
    (λ _. omega (arith, cost_of_own level place))

pub rises_exit : (levels level place : ℕ) (point : ExitPoint) (value : ℕ) → 1 ≤ level → level ≤ levels
    → cost_of place (exit_access level place point) + (7 * levels + 3 * (levels - level) + exit_behind point)
    ≤ most_of levels (exit_next level place point value) false
rises_exit levels level place X1 value least most = omega arith
rises_exit levels level place X2 value least most =
    either (λ x. 1 + (7 * levels + 3 * (levels - level) + 1) ≤ most_of levels x false) (value == place + 1) _ _
    (λ _. omega (arith, most_after_exit levels level least most)) (λ _. omega arith)
rises_exit levels level place (X3 rival) value least most =
    omega (arith, most_after_exit levels level least most, cost_at_most place (P level rival))

rises : (levels place : ℕ) (x : Process) (begun : Bool) (value : ℕ) → IsProper levels place x
    → MayBeTold (due_of levels place x begun) value
    → cost_of place (access_of levels place x) + most_of levels x begun ≤ most_of levels (next_of levels place x value) false
rises levels place Idle true value proper told = omega arith
rises levels place Idle false value proper told = absurd told
rises levels place (Entering level point) begun value proper told =
    rises_entry levels level place point value proper.least proper.most
rises levels place Inside true value proper told = omega arith
rises levels place Inside false value proper told = absurd told
rises levels place (Leaving level point) begun value proper told =
    rises_exit levels level place point value proper.least proper.most

-- a value that may complete the due access may be found by it
found_of : (levels place : ℕ) (x : Process) (begun : Bool) (value : ℕ) → MayBeTold (due_of levels place x begun) value
    → MayFind (access_of levels place x) value
found_of levels place x begun value told = by_due (due_of levels place x begun) refl told
  where
    by_due : (d : Option Access) → due_of levels place x begun ≡ d → MayBeTold d value
        → MayFind (access_of levels place x) value
    by_due None is told = absurd told
    by_due (Some a) is told = subst (λ b. MayFind b value) (sym (due_is levels place x begun a is)) told

-- a walk that is passed a value stays a walk, and comes further and nearer; its count rises by no more than its bound
pub goes_on : (w : Walk) (value : ℕ) → IsWalk w → MayBeTold (due w) value → IsWalk (walk_after w value)
goes_on w value is told =
    record {
      least = is.least;
      most = is.most;
      in_tree = is.in_tree;
      proper = proper_next w.levels w.place w.process value is.least is.in_tree is.proper
          (found_of w.levels w.place w.process w.begun value told);
      counted = omega (arith, is.counted, rises w.levels w.place w.process w.begun value is.proper told);
    }

moves_on : (w : Walk) (value : ℕ) → IsWalk w → MayBeTold (due w) value → AdvancesOrSpins w (walk_after w value)
moves_on w value is told = further w.levels w.place w.process w.begun value is.proper told

pub told_nearer : (w new : Walk) (value : ℕ) → IsWalk w → MayBeTold (due w) value → new ≡ walk_after w value
    → ComesNearer w new
told_nearer w new value is told goes =
    subst (λ (v : Walk). ComesNearer w v) (sym goes)
    (nearer w.levels w.place w.process w.begun value is.least is.proper told)

pub told_counted : (w new : Walk) (value : ℕ) → IsWalk w → MayBeTold (due w) value → new ≡ walk_after w value
    → new.remote + most_remote w ≤ w.remote + most_remote new
told_counted w new value is told goes =
    subst (λ (v : Walk). v.remote + most_remote w ≤ w.remote + most_remote v) (sym goes)
    (omega (arith, rises w.levels w.place w.process w.begun value is.proper told))

-- the walk of a walker goes on to the process and the cost that the walker computes
pub told_on : {w shown : Walk} (value : ℕ) (process : Process) (cost : ℕ)
    → process ≡ next_of w.levels w.place w.process value
    → cost ≡ cost_of w.place (access_of w.levels w.place w.process) → w ≡ shown → IsWalk w → MayBeTold (due shown) value
    → IsWalk (walk w.levels w.place process false (w.remote + cost))
    × AdvancesOrSpins shown (walk w.levels w.place process false (w.remote + cost))
told_on {w} value process cost goes costs same walks told =
    subst (λ (v : Walk). IsWalk after × AdvancesOrSpins v after) same
    (subst (λ (u : Walk). IsWalk u × AdvancesOrSpins w u) (sym is) (goes_on w value walks here, moves_on w value walks here))
  where
    after : Walk
    after = walk w.levels w.place process false (w.remote + cost)

    is : after ≡ walk_after w value
    is = cc (goes, costs)

    here : MayBeTold (due w) value
    here = subst (λ (v : Walk). MayBeTold (due v) value) (sym same) told

-- the word of the due access is one of the tree's words
pub due_within : (w : Walk) → IsWalk w → DueIsWithin w.levels (due w)
due_within w is = by_due (due w) refl
  where
    by_due : (d : Option Access) → due w ≡ d → DueIsWithin w.levels d
    by_due None is_due = tt
    by_due (Some a) is_due =
        subst (AccessIsWithin w.levels) (due_is w.levels w.place w.process w.begun a is_due)
        (within_access w.levels w.place w.process is.least is.in_tree is.proper)
