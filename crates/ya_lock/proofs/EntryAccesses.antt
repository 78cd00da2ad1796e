-- The process after it won a level, and the places that a process wakes.
use Rattle.std.proofs.Common.{◌≡◌, ◌≢◌, refl, ℕ, ◌^◌, ◌<◌, subst}
use Rattle.ya_core.specs.declared.process.Process.{Process}
use Rattle.ya_core.specs.declared.process.Process.TheVariants.{Entering, Inside, Leaving}
use Rattle.ya_core.specs.declared.process.EntryPoint.TheVariants.{E1, E7}
use Rattle.ya_core.specs.declared.process.ExitPoint.TheVariants.{X3}
use Rattle.ya_core.specs.Steps.{access_of}
use Rattle.ya_lock.specs.inside.Lock.{HasWon}
use Rattle.ya_core.specs.WalkerModel.{Walk, IsWalk, AccessIsWithin}
use Rattle.ya_core.proofs.Promised.{within_access}

-- the rival that a process is to wake is a place of the tree
pub woken_in_tree : (w : Walk) (levels level rival : ℕ) → IsWalk w → w.levels ≡ levels
    → w.process ≡ Entering level (E7 rival) → rival < 2 ^ levels
woken_in_tree w levels level rival h e is = subst (λ (l : ℕ). rival < 2 ^ l) e
    (subst (λ (p : Process). AccessIsWithin w.levels (access_of w.levels w.place p)) is
    (within_access w.levels w.place w.process h.least h.in_tree h.proper)).2

-- and so is the rival that it is to let in
pub let_in_tree : (w : Walk) (levels level rival : ℕ) → IsWalk w → w.levels ≡ levels
    → w.process ≡ Leaving level (X3 rival) → rival < 2 ^ levels
let_in_tree w levels level rival h e is = subst (λ (l : ℕ). rival < 2 ^ l) e
    (subst (λ (p : Process). AccessIsWithin w.levels (access_of w.levels w.place p)) is
    (within_access w.levels w.place w.process h.least h.in_tree h.proper)).2

-- a process that has won a level and isn't inside is about to make the first access of the next
pub at_next : (process : Process) → HasWon process → process ≢ Inside → (level : ℕ) × (process ≡ Entering level E1)
at_next (Entering level E1) won outside = (level, refl)
at_next Inside won outside = absurd (outside refl)
at_next process won outside = absurd won
