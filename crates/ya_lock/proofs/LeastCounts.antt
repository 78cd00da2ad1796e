-- The minimum number of remote accesses of a process grows with each step by no more than the step counts.
use Rattle.std.proofs.Common.{◌≡◌, ℕ, ◌+◌, ◌-◌, ◌*◌, ◌≤◌, ◌==◌, nat_lt, Bool, true, false, if◌then◌else◌, refl, arith}
use Rattle.std.proofs.lemmas.Bool.Decides.{nat_tests}
use Rattle.ya_core.specs.declared.process.EntryPoint.TheVariants.{E1, E2, E3, E4, E5, E6, E7, E8, E9, E10}
use Rattle.ya_core.specs.declared.process.ExitPoint.TheVariants.{X1, X2, X3}
use Rattle.ya_core.specs.declared.process.Process.{Process}
use Rattle.ya_core.specs.declared.process.Process.TheVariants.{Idle, Entering, Inside, Leaving}
use Rattle.ya_core.specs.Steps.{next_of, after_entry, after_exit}
use Rattle.ya_lock.specs.Rule.{least_count, count_after}

-- a bound for both branches is a bound for the conditional
by_test : (levels m : ℕ) (b : Bool) (x y : Process) → (b ≡ true → least_count levels x ≤ m)
    → (b ≡ false → least_count levels y ≤ m) → least_count levels (if b then x else y) ≤ m
by_test levels m true x y first second = first refl
by_test levels m false x y first second = second refl

-- an upper bound remains one after an access is counted
more : (a b c : ℕ) → a ≤ b → a ≤ b + c
more a b c less = omega (arith, less)

one_more : (a b c : ℕ) → c ≡ a + 1 → a ≤ b → c ≤ b + 1
one_more a b c is less = omega (arith, is, less)

-- a process that won a level made at least three accesses there
by_win : (levels level m : ℕ) → 3 * (level - 1) + 3 ≤ m → least_count levels (after_entry levels level) ≤ m
by_win levels level m least =
    by_test levels m (nat_lt level levels) (Entering (level + 1) E1) Inside
    (λ below. (let up : 3 * (level + 1 - 1) + 0 ≤ m = omega (arith, least) in up))
    (λ last. (let top : levels ≤ level = grind (arith, nat_tests) in
    let all : 3 * levels ≤ m = omega (arith, top, least) in all))

-- a process that leaves a level made three for each level on its way in
by_exit : (levels level m : ℕ) → 3 * levels ≤ m → least_count levels (after_exit level) ≤ m
by_exit levels level m least =
    by_test levels m (nat_lt 1 level) (Leaving (level - 1) X1) Idle (λ lower. least)
    (λ last. (let none : 0 ≤ m = omega arith in none))

-- so each step of a process keeps the bound
pub least_kept : (levels place : ℕ) (x : Process) (found count : ℕ) → least_count levels x ≤ count
    → least_count levels (next_of levels place x found) ≤ count_after levels place x count
least_kept levels place Idle found count least = (let first : 3 * (1 - 1) + 1 ≤ 0 + 1 = omega arith in first)
least_kept levels place (Entering level E1) found count least =
    one_more (3 * (level - 1) + 0) count (3 * (level - 1) + 1) (omega arith) least
least_kept levels place (Entering level E2) found count least =
    one_more (3 * (level - 1) + 1) count (3 * (level - 1) + 2) (omega arith) least
least_kept levels place (Entering level E3) found count least = more (3 * (level - 1) + 2) count _ least
least_kept levels place (Entering level E4) found count least =
    let after : 3 * (level - 1) + 3 ≤ count + 1 =
    one_more (3 * (level - 1) + 2) count (3 * (level - 1) + 3) (omega arith) least in
    by_test levels (count + 1) (found == 0) _ _ (λ _. by_win levels level (count + 1) after) (λ _. after)
least_kept levels place (Entering level (E5 rival)) found count least =
    let after : 3 * (level - 1) + 3 ≤ count + 1 = more (3 * (level - 1) + 3) count 1 least in
    by_test levels (count + 1) (found == place + 1) _ _ (λ _. after) (λ _. by_win levels level (count + 1) after)
least_kept levels place (Entering level (E6 rival)) found count least =
    by_test levels _ (found == 0) _ _ (λ _. more (3 * (level - 1) + 3) count _ least)
    (λ _. more (3 * (level - 1) + 3) count _ least)
least_kept levels place (Entering level (E7 rival)) found count least = more (3 * (level - 1) + 3) count _ least
least_kept levels place (Entering level E8) found count least =
    by_test levels _ (found == 0) _ _ (λ _. more (3 * (level - 1) + 3) count _ least)
    (λ _. more (3 * (level - 1) + 3) count _ least)
least_kept levels place (Entering level E9) found count least =
    let after : 3 * (level - 1) + 3 ≤ count + 1 = more (3 * (level - 1) + 3) count 1 least in
    by_test levels (count + 1) (found == place + 1) _ _ (λ _. after) (λ _. by_win levels level (count + 1) after)
least_kept levels place (Entering level E10) found count least =
    by_test levels _ (found == 2) _ _ (λ _. by_win levels level _ (more (3 * (level - 1) + 3) count _ least))
    (λ _. more (3 * (level - 1) + 3) count _ least)
least_kept levels place Inside found count least = more (3 * levels) count 1 least
least_kept levels place (Leaving level X1) found count least = more (3 * levels) count 1 least
least_kept levels place (Leaving level X2) found count least =
    by_test levels (count + 1) (found == place + 1) _ _
    (λ _. by_exit levels level (count + 1) (more (3 * levels) count 1 least)) (λ _. more (3 * levels) count 1 least)
least_kept levels place (Leaving level (X3 rival)) found count least =
    by_exit levels level _ (more (3 * levels) count _ least)
