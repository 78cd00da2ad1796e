-- One process: each step keeps it proper, and the word of its due access is one of the tree.
use Rattle.std.proofs.Common.{◌≡◌, ℕ, ◌+◌, ◌-◌, ◌^◌, ◌<◌, ◌≤◌, ◌==◌, Bool, true, false, nat_lt, refl, arith, sym, ◌⊎◌}
use Rattle.std.proofs.Common.{inl, inr, if◌then◌else◌}
use Rattle.std.proofs.lemmas.Bool.Decides.{nat_tests}
use Rattle.ya_core.specs.declared.process.EntryPoint.{EntryPoint}
use Rattle.ya_core.specs.declared.process.EntryPoint.TheVariants.{E1, E2, E3, E4, E5, E6, E7, E8, E9, E10}
use Rattle.ya_core.specs.declared.process.ExitPoint.{ExitPoint}
use Rattle.ya_core.specs.declared.process.ExitPoint.TheVariants.{X1, X2, X3}
use Rattle.ya_core.specs.declared.process.Process.{Process}
use Rattle.ya_core.specs.declared.process.Process.TheVariants.{Idle, Entering, Inside, Leaving}
use Rattle.ya_core.specs.ArbitrationTree.{node_of, side_of, AreRivals}
use Rattle.ya_core.specs.Steps.{access_of, entry_access, exit_access, next_of, entry_next, exit_next, after_entry, after_exit}
use Rattle.ya_core.specs.Soundness.{IsOnItsWay, IsProper, EntryIsProper, ExitIsProper}
use Rattle.ya_core.proofs.TreeSides.{side_below, node_within, node_holds}
use Rattle.ya_core.specs.WalkerModel.{MayFind, AccessIsWithin}

-- a property of both branches of a conditional holds of the conditional
pub either : (Q : Process → Type 0) (b : Bool) (x y : Process) → (b ≡ true → Q x) → (b ≡ false → Q y)
    → Q (if b then x else y)
either Q true x y p q = p refl
either Q false x y p q = q refl

-- a process is on its way if these properties hold
on_its_way : {levels place level : ℕ} {Knows : Type 0} → place < 2 ^ levels → 1 ≤ level → level ≤ levels → Knows
    → IsOnItsWay levels place level Knows
on_its_way room least most knows = record { in_tree = room; least = least; most = most; knows = knows }

-- a process that won a level, or left it, is proper
proper_won : (levels level place : ℕ) → place < 2 ^ levels → level ≤ levels → IsProper levels place (after_entry levels level)
proper_won levels level place room most =
    either (IsProper levels place) (nat_lt level levels) _ _
    (λ less. on_its_way room (omega arith) (grind (arith, nat_tests)) tt) (λ _. room)

proper_left : (levels level place : ℕ) → place < 2 ^ levels → level ≤ levels → IsProper levels place (after_exit level)
proper_left levels level place room most =
    either (IsProper levels place) (nat_lt 1 level) _ _
    (λ more. on_its_way room (grind (arith, nat_tests)) (omega arith) tt) (λ _. tt)

proper_entry : (levels level place : ℕ) (point : EntryPoint) (value : ℕ) → place < 2 ^ levels → 1 ≤ level → level ≤ levels
    → EntryIsProper level place point → MayFind (entry_access level place point) value
    → IsProper levels place (entry_next levels level place point value)
proper_entry levels level place E1 value room least most proper found = on_its_way room least most tt
proper_entry levels level place E2 value room least most proper found = on_its_way room least most tt
proper_entry levels level place E3 value room least most proper found = on_its_way room least most tt
proper_entry levels level place E4 value room least most proper found =
    either (IsProper levels place) (value == 0) _ _ (λ _. proper_won levels level place room most)
    (λ some. on_its_way room least most (rival_of found (grind (arith, nat_tests))))
  where
    rival_of : (value ≡ 0)
        ⊎ ((1 ≤ value) × (node_of level (value - 1) ≡ node_of level place)
        × (side_of level (value - 1) ≡ 1 - side_of level place)) → 1 ≤ value → AreRivals level place (value - 1)
    rival_of (inl nil) some = absurd (omega arith)
    rival_of (inr claim) some = (sym claim.1, omega (arith, claim.2, side_below level place))
proper_entry levels level place (E5 rival) value room least most proper found =
    either (IsProper levels place) (value == place + 1) _ _ (λ _. on_its_way room least most proper)
    (λ _. proper_won levels level place room most)
proper_entry levels level place (E6 rival) value room least most proper found =
    either (IsProper levels place) (value == 0) _ _ (λ _. on_its_way room least most proper)
    (λ _. on_its_way room least most tt)
proper_entry levels level place (E7 rival) value room least most proper found = on_its_way room least most tt
proper_entry levels level place E8 value room least most proper found =
    either (IsProper levels place) (value == 0) _ _ (λ _. on_its_way room least most tt)
    (λ _. on_its_way room least most tt)
proper_entry levels level place E9 value room least most proper found =
    either (IsProper levels place) (value == place + 1) _ _ (λ _. on_its_way room least most tt)
    (λ _. proper_won levels level place room most)
proper_entry levels level place E10 value room least most proper found =
    either (IsProper levels place) (value == 2) _ _ (λ _. proper_won levels level place room most)
    (λ _. on_its_way room least most tt)

proper_exit : (levels level place : ℕ) (point : ExitPoint) (value : ℕ) → place < 2 ^ levels → 1 ≤ level → level ≤ levels
    → ExitIsProper level place point → MayFind (exit_access level place point) value
    → IsProper levels place (exit_next level place point value)
proper_exit levels level place X1 value room least most proper found = on_its_way room least most tt
proper_exit levels level place X2 value room least most proper found =
    either (IsProper levels place) (value == place + 1) _ _ (λ _. proper_left levels level place room most)
    (λ other. on_its_way room least most (sym found.1, grind (arith, nat_tests)))
proper_exit levels level place (X3 rival) value room least most proper found = proper_left levels level place room most

-- a process that goes on by a value that it may find stays proper
pub proper_next : (levels place : ℕ) (x : Process) (value : ℕ) → 1 ≤ levels → place < 2 ^ levels
    → IsProper levels place x → MayFind (access_of levels place x) value
    → IsProper levels place (next_of levels place x value)
proper_next levels place Idle value some room proper found = on_its_way room (omega arith) some tt
proper_next levels place (Entering level point) value some room proper found =
    proper_entry levels level place point value room proper.least proper.most proper.knows found
proper_next levels place Inside value some room proper found = on_its_way room some (omega arith) tt
proper_next levels place (Leaving level point) value some room proper found =
    proper_exit levels level place point value room proper.least proper.most proper.knows found

-- a word that is due is a word of the tree
within_entry : (levels level place : ℕ) (point : EntryPoint) → place < 2 ^ levels → 1 ≤ level → level ≤ levels
    → EntryIsProper level place point → AccessIsWithin levels (entry_access level place point)
within_entry levels level place E1 room least most proper =
    (least, most, node_within levels level place most room, side_below level place)
within_entry levels level place E2 room least most proper = (least, most, node_within levels level place most room)
within_entry levels level place E3 room least most proper = (least, most, room)
within_entry levels level place E4 room least most proper =
    (least, most, node_within levels level place most room, omega arith)
within_entry levels level place (E5 rival) room least most proper =
    (least, most, node_within levels level place most room)
within_entry levels level place (E6 rival) room least most proper =
    (least, most, node_holds levels level rival most (rw (← proper.0) (node_within levels level place most room)))
within_entry levels level place (E7 rival) room least most proper =
    (least, most, node_holds levels level rival most (rw (← proper.0) (node_within levels level place most room)))
within_entry levels level place E8 room least most proper = (least, most, room)
within_entry levels level place E9 room least most proper = (least, most, node_within levels level place most room)
within_entry levels level place E10 room least most proper = (least, most, room)

within_exit : (levels level place : ℕ) (point : ExitPoint) → place < 2 ^ levels → 1 ≤ level → level ≤ levels
    → ExitIsProper level place point → AccessIsWithin levels (exit_access level place point)
within_exit levels level place X1 room least most proper =
    (least, most, node_within levels level place most room, side_below level place)
within_exit levels level place X2 room least most proper = (least, most, node_within levels level place most room)
within_exit levels level place (X3 rival) room least most proper =
    (least, most, node_holds levels level rival most (rw (← proper.0) (node_within levels level place most room)))

-- the access of a proper process is of a word of the tree
pub within_access : (levels place : ℕ) (x : Process) → 1 ≤ levels → place < 2 ^ levels → IsProper levels place x
    → AccessIsWithin levels (access_of levels place x)
within_access levels place Idle some room proper = within_entry levels 1 place E1 room (omega arith) some tt
within_access levels place (Entering level point) some room proper =
    within_entry levels level place point room proper.least proper.most proper.knows
within_access levels place Inside some room proper = within_exit levels levels place X1 room some (omega arith) tt
within_access levels place (Leaving level point) some room proper =
    within_exit levels level place point room proper.least proper.most proper.knows
