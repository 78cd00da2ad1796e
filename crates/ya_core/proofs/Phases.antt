-- The phases of a process at the levels of the tree: a step changes only the phase of the level where it acts.
use Rattle.std.proofs.Common.{◌≡◌, ◌≢◌, ℕ, ◌+◌, ◌-◌, ◌<◌, ◌≤◌, ◌==◌, nat_lt, refl, arith, ap, sym, ◌∙◌, IsTrue}
use Rattle.std.proofs.lemmas.Bool.Decides.{nat_tests}
use Rattle.ya_core.specs.declared.word.Word.{Word}
use Rattle.ya_core.specs.declared.word.Word.TheVariants.{C, T, P}
use Rattle.ya_core.specs.declared.word.Access.{Access}
use Rattle.ya_core.specs.declared.word.Access.TheVariants.{Load, Store}
use Rattle.ya_core.specs.declared.process.EntryPoint.{EntryPoint}
use Rattle.ya_core.specs.declared.process.EntryPoint.TheVariants.{E1, E2, E3, E4, E5, E6, E7, E8, E9, E10}
use Rattle.ya_core.specs.declared.process.ExitPoint.{ExitPoint}
use Rattle.ya_core.specs.declared.process.ExitPoint.TheVariants.{X1, X2, X3}
use Rattle.ya_core.specs.declared.process.Process.{Process}
use Rattle.ya_core.specs.declared.process.Process.TheVariants.{Idle, Entering, Inside, Leaving}
use Rattle.ya_core.specs.Steps.{Accesses, access_of, next_of, entry_next, exit_next, after_entry, after_exit}
use Rattle.ya_core.specs.Soundness.{Phase, Away, Waiting, Holding, Releasing, holds, phase_at, phase_of, entry_phase}
use Rattle.ya_core.specs.Soundness.{exit_phase, IsProper}
use Rattle.ya_core.specs.Machines.{word_of}
use Rattle.ya_core.proofs.Properness.{either}
use Rattle.ya_core.proofs.PhaseKinds.{competes}

-- the level at which a process acts next
abbrev pub acts_at : ℕ → Process → ℕ
acts_at levels Idle = 1
acts_at levels (Entering level point) = level
acts_at levels Inside = levels
acts_at levels (Leaving level point) = level

-- the phase at the level that a process has reached, below it and above it
pub phase_here : (level : ℕ) (a : Phase) → phase_at level level a ≡ a
phase_here level a = grind (arith, nat_tests)

pub phase_below : (level stands : ℕ) (a : Phase) → level < stands → phase_at level stands a ≡ Holding
phase_below level stands a less = grind (arith, nat_tests)

phase_above : (level stands : ℕ) (a : Phase) → stands < level → phase_at level stands a ≡ Away
phase_above level stands a more = grind (arith, nat_tests)

-- a process that is away at its level is away there and above
phase_away : (level stands : ℕ) → stands ≤ level → phase_at level stands Away ≡ Away
phase_away level stands most = grind (arith, nat_tests)

-- at another level the phase at the process's own level doesn't matter
phase_apart : (level stands : ℕ) (a b : Phase) → level ≢ stands → phase_at level stands a ≡ phase_at level stands b
phase_apart level stands a b apart = grind (arith, nat_tests)

-- to be away at the next level is to hold the one below
phase_up : (level stands : ℕ) → phase_at level (stands + 1) Away ≡ phase_at level stands Holding
phase_up level stands = grind (arith, nat_tests)

-- the phase at any level of a process that won a level, or left it
pub phase_won : (levels stands level : ℕ) → stands ≤ levels
    → phase_of levels level (after_entry levels stands) ≡ phase_at level stands Holding
phase_won levels stands level most =
    either (λ x. phase_of levels level x ≡ phase_at level stands Holding) (nat_lt stands levels) _ _
    (λ _. phase_up level stands)
    (λ last. ap (λ n. phase_at level n Holding) (let same : levels ≡ stands = grind (arith, nat_tests) in same))

pub phase_after_exit : (levels stands level : ℕ) → 1 ≤ stands → 1 ≤ level
    → phase_of levels level (after_exit stands) ≡ phase_at level stands Away
phase_after_exit levels stands level some least =
    either (λ x. phase_of levels level x ≡ phase_at level stands Away) (nat_lt 1 stands) _ _
    (λ more. sym (phase_up level (stands - 1))
    ∙ ap (λ n. phase_at level n Away) (let same : stands - 1 + 1 ≡ stands = omega arith in same))
    (λ last. sym (phase_away level stands (grind (arith, nat_tests))))

-- a step changes only the phase of the level where it acts
frame_entry : (levels stands level place : ℕ) (point : EntryPoint) (value : ℕ) → stands ≤ levels → level ≢ stands
    → phase_of levels level (entry_next levels stands place point value) ≡ phase_at level stands (entry_phase point)
frame_entry levels stands level place E1 value most apart = phase_apart level stands _ _ apart
frame_entry levels stands level place E2 value most apart = phase_apart level stands _ _ apart
frame_entry levels stands level place E3 value most apart = phase_apart level stands _ _ apart
frame_entry levels stands level place E4 value most apart =
    either (λ x. phase_of levels level x ≡ phase_at level stands (Waiting E4)) (value == 0) _ _
    (λ _. phase_won levels stands level most ∙ phase_apart level stands _ _ apart)
    (λ _. phase_apart level stands _ _ apart)
frame_entry levels stands level place (E5 rival) value most apart =
    either (λ x. phase_of levels level x ≡ phase_at level stands (Waiting (E5 rival))) (value == place + 1) _ _
    (λ _. phase_apart level stands _ _ apart)
    (λ _. phase_won levels stands level most ∙ phase_apart level stands _ _ apart)
frame_entry levels stands level place (E6 rival) value most apart =
    either (λ x. phase_of levels level x ≡ phase_at level stands (Waiting (E6 rival))) (value == 0) _ _
    (λ _. phase_apart level stands _ _ apart) (λ _. phase_apart level stands _ _ apart)
frame_entry levels stands level place (E7 rival) value most apart = phase_apart level stands _ _ apart
frame_entry levels stands level place E8 value most apart =
    either (λ x. phase_of levels level x ≡ phase_at level stands (Waiting E8)) (value == 0) _ _
    (λ _. phase_apart level stands _ _ apart) (λ _. phase_apart level stands _ _ apart)
frame_entry levels stands level place E9 value most apart =
    either (λ x. phase_of levels level x ≡ phase_at level stands (Waiting E9)) (value == place + 1) _ _
    (λ _. phase_apart level stands _ _ apart)
    (λ _. phase_won levels stands level most ∙ phase_apart level stands _ _ apart)
frame_entry levels stands level place E10 value most apart =
    either (λ x. phase_of levels level x ≡ phase_at level stands (Waiting E10)) (value == 2) _ _
    (λ _. phase_won levels stands level most ∙ phase_apart level stands _ _ apart)
    (λ _. phase_apart level stands _ _ apart)

frame_exit : (levels stands level place : ℕ) (point : ExitPoint) (value : ℕ) → 1 ≤ stands → 1 ≤ level → level ≢ stands
    → phase_of levels level (exit_next stands place point value) ≡ phase_at level stands (exit_phase point)
frame_exit levels stands level place X1 value some least apart = phase_apart level stands _ _ apart
frame_exit levels stands level place X2 value some least apart =
    either (λ x. phase_of levels level x ≡ phase_at level stands Releasing) (value == place + 1) _ _
    (λ _. phase_after_exit levels stands level some least ∙ phase_apart level stands _ _ apart)
    (λ _. phase_apart level stands _ _ apart)
frame_exit levels stands level place (X3 rival) value some least apart =
    phase_after_exit levels stands level some least ∙ phase_apart level stands _ _ apart

pub frame_phase : (levels level place : ℕ) (x : Process) (value : ℕ) → 1 ≤ levels → 1 ≤ level → IsProper levels place x
    → level ≢ acts_at levels x
    → phase_of levels level (next_of levels place x value) ≡ phase_of levels level x
frame_phase levels level place Idle value some least proper apart = phase_above level 1 _ (omega arith)
frame_phase levels level place (Entering stands point) value some least proper apart =
    frame_entry levels stands level place point value proper.most apart
frame_phase levels level place Inside value some least proper apart = phase_apart level levels _ _ apart
frame_phase levels level place (Leaving stands point) value some least proper apart =
    frame_exit levels stands level place point value proper.least least apart

-- the level of a word
abbrev pub level_of : Word → ℕ
level_of (C level node side) = level
level_of (T level node) = level
level_of (P level place) = level

-- the due word belongs to the level where the process acts
pub access_level : (levels place : ℕ) (x : Process) → level_of (word_of (access_of levels place x)) ≡ acts_at levels x
access_level levels place Idle = refl
access_level levels place (Entering level E1) = refl
access_level levels place (Entering level E2) = refl
access_level levels place (Entering level E3) = refl
access_level levels place (Entering level E4) = refl
access_level levels place (Entering level (E5 rival)) = refl
access_level levels place (Entering level (E6 rival)) = refl
access_level levels place (Entering level (E7 rival)) = refl
access_level levels place (Entering level E8) = refl
access_level levels place (Entering level E9) = refl
access_level levels place (Entering level E10) = refl
access_level levels place Inside = refl
access_level levels place (Leaving level X1) = refl
access_level levels place (Leaving level X2) = refl
access_level levels place (Leaving level (X3 rival)) = refl

-- an access changes no word of another level
pub words_stay : (a : Access) (old new : Word → ℕ) → Accesses a old new → (word : Word)
    → level_of word ≢ level_of (word_of a) → new word ≡ old word
words_stay (Load named) old new done word apart = done word
words_stay (Store named value) old new done word apart = done.1 word (λ same. apart (ap level_of same))

-- a process that takes part at a level holds the level below
pub competes_at : (level stands : ℕ) (a : Phase) → IsTrue (competes (phase_at level stands a)) → level ≤ stands
competes_at level stands a h = grind (arith, nat_tests, phase_above level stands a)

pub holds_below : (levels level : ℕ) (x : Process) → 1 ≤ level → level ≤ levels
    → IsTrue (competes (phase_of levels level x)) → IsTrue (holds (phase_of levels (level - 1) x))
holds_below levels level Idle some most h = absurd cc
holds_below levels level (Entering stands point) some most h =
    rw (phase_below (level - 1) stands (entry_phase point) (let less = competes_at level stands (entry_phase point) h in
    omega arith)) refl
holds_below levels level Inside some most h = rw (phase_below (level - 1) levels Holding (omega arith)) refl
holds_below levels level (Leaving stands point) some most h =
    rw (phase_below (level - 1) stands (exit_phase point) (let less = competes_at level stands (exit_phase point) h in
    omega arith)) refl
