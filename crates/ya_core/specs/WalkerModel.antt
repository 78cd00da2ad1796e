-- One process whose caller performs its accesses: the due access, the values that it may find, and the next process.
use Rattle.std.specs.Prelude.{◌≡◌, ℕ, ◌+◌, ◌-◌, ◌*◌, ◌^◌, ◌<◌, ◌≤◌, ◌==◌, Bool, true, false, if◌then◌else◌, IsTrue, ◌⊎◌}
use Rattle.std.specs.Prelude.{Option, Some, None, List, [], ◌∷◌}
use Rattle.ya_core.specs.declared.limits.TheConstants.{MAX_LEVELS}
use Rattle.ya_core.specs.declared.word.Word.{Word}
use Rattle.ya_core.specs.declared.word.Word.TheVariants.{C, T, P}
use Rattle.ya_core.specs.declared.word.Access.{Access}
use Rattle.ya_core.specs.declared.word.Access.TheVariants.{Load, Store}
use Rattle.ya_core.specs.declared.process.EntryPoint.{EntryPoint}
use Rattle.ya_core.specs.declared.process.EntryPoint.TheVariants.{E1, E2, E3, E4, E5, E6, E7, E8, E9, E10}
use Rattle.ya_core.specs.declared.process.ExitPoint.{ExitPoint}
use Rattle.ya_core.specs.declared.process.ExitPoint.TheVariants.{X1, X2, X3}
use Rattle.ya_core.specs.declared.process.Process.{Process}
use Rattle.ya_core.specs.declared.process.Process.TheVariants.{Idle, Entering, Inside, Leaving}
use Rattle.ya_core.specs.declared.walker.Op.{Op}
use Rattle.ya_core.specs.declared.walker.Op.TheVariants as op
use Rattle.ya_core.specs.ArbitrationTree.{node_of, side_of, number_of, count_of_words, IsWord}
use Rattle.ya_core.specs.Steps.{access_of, next_of}
use Rattle.ya_core.specs.Soundness.{IsProper}

-- a process with its place and tree. `begun` is true if it is idle or inside and its acquisition or release was
-- begun; `remote` counts its remote accesses since its acquisition began
pub record Walk : Type 0 where
  pub levels : ℕ
  pub place : ℕ
  pub process : Process
  pub begun : Bool
  pub remote : ℕ

-- the walk with these parts
abbrev pub walk : ℕ → ℕ → Process → Bool → ℕ → Walk
walk levels place process begun remote =
    record { levels = levels; place = place; process = process; begun = begun; remote = remote }

-- the due access; `None` if the process is idle or inside and its acquisition or release was not begun
abbrev pub due_of : ℕ → ℕ → Process → Bool → Option Access
due_of levels place Idle begun = if begun then Some (access_of levels place Idle) else None
due_of levels place (Entering level point) begun = Some (access_of levels place (Entering level point))
due_of levels place Inside begun = if begun then Some (access_of levels place Inside) else None
due_of levels place (Leaving level point) begun = Some (access_of levels place (Leaving level point))

-- the due access of a walk
abbrev pub due : Walk → Option Access
due w = due_of w.levels w.place w.process w.begun

-- the word can hold the value: for C nil or the identifier of a place on that side, for T the identifier of a place
-- below the node, for P 0, 1 or 2
abbrev pub CanStand : Word → ℕ → Type 0
CanStand (C level node side) value =
    (value ≡ 0) ⊎ ((1 ≤ value) × (node_of level (value - 1) ≡ node) × (side_of level (value - 1) ≡ side))
CanStand (T level node) value = (1 ≤ value) × (node_of level (value - 1) ≡ node)
CanStand (P level place) value = value ≤ 2

-- the due access is a load that may find the value
abbrev pub FitsAccess : Option Access → ℕ → Type 0
FitsAccess None value = ⊥
FitsAccess (Some (Store word stored)) value = ⊥
FitsAccess (Some (Load word)) value = CanStand word value

-- the walk's due access is a load that may find the value
abbrev pub FitsDue : Walk → ℕ → Type 0
FitsDue w value = FitsAccess (due w) value

-- a remote access is an access of any word but the process's own words P
abbrev pub cost_of_word : ℕ → Word → ℕ
cost_of_word place (C level node side) = 1
cost_of_word place (T level node) = 1
cost_of_word place (P level owner) = if owner == place then 0 else 1

-- the number of remote accesses in an access, 0 or 1
abbrev pub cost_of : ℕ → Access → ℕ
cost_of place (Load word) = cost_of_word place word
cost_of place (Store word value) = cost_of_word place word

-- the walk after its access, which loaded or stored the value
abbrev pub walk_after : Walk → ℕ → Walk
walk_after w value =
    walk w.levels w.place (next_of w.levels w.place w.process value) false
    (w.remote + cost_of w.place (access_of w.levels w.place w.process))

-- the request for an access, with the word's number in the flat row
abbrev pub op_of_access : ℕ → Access → Op
op_of_access levels (Load word) = op.Load (number_of levels word)
op_of_access levels (Store word value) = op.Store (number_of levels word) value

-- the request of a process without a due access
abbrev pub op_at_rest : Process → Op
op_at_rest Inside = op.Inside
op_at_rest _ = op.Idle

-- the request of a process with this due access, or without one
abbrev pub op_of_due : ℕ → Process → Option Access → Op
op_of_due levels process None = op_at_rest process
op_of_due levels process (Some access) = op_of_access levels access

-- the request of a walk
abbrev pub op_of : Walk → Op
op_of w = op_of_due w.levels w.process (due w)

-- the progress of each point of the way in at a level: the points before it, and the maximum number of remote accesses
-- before it
abbrev pub entry_behind : EntryPoint → ℕ × ℕ
entry_behind E1 = (0, 0)
entry_behind E2 = (1, 1)
entry_behind E3 = (2, 2)
entry_behind E4 = (3, 2)
entry_behind (E5 rival) = (4, 3)
entry_behind (E6 rival) = (5, 4)
entry_behind (E7 rival) = (6, 5)
entry_behind E8 = (7, 6)
entry_behind E9 = (8, 6)
entry_behind E10 = (9, 7)

-- the same for the way out; each of its points is one remote access
abbrev pub exit_behind : ExitPoint → ℕ
exit_behind X1 = 0
exit_behind X2 = 1
exit_behind (X3 rival) = 2

-- the maximum number of remote accesses of a passage until this process: seven for each level on the way in, three on
-- the way out
abbrev pub most_of : ℕ → Process → Bool → ℕ
most_of levels Idle begun = if begun then 0 else 10 * levels
most_of levels (Entering level point) begun = 7 * (level - 1) + (entry_behind point).1
most_of levels Inside begun = 7 * levels
most_of levels (Leaving level point) begun = 7 * levels + 3 * (levels - level) + exit_behind point

-- the maximum number of remote accesses of a walk until now
abbrev pub most_remote : Walk → ℕ
most_remote w = most_of w.levels w.process w.begun

-- the process waits: it loads its own spin word, again and again until another process writes it
abbrev pub is_waiting : Process → Bool
is_waiting (Entering level E8) = true
is_waiting (Entering level E10) = true
is_waiting _ = false

-- one point comes before another: it has fewer levels before it, or equally many levels and fewer points
abbrev pub IsEarlierPoint : (levels points more next : ℕ) → Type 0
IsEarlierPoint levels points more next = (levels < more) ⊎ ((levels ≡ more) × (points < next))

-- a process comes further, to a later point or level: first its way in from level 1 up to the root, then inside, then
-- its way out from the root down to level 1, then idle
abbrev pub Advances : ℕ → Process → Process → Type 0
Advances levels Idle (Entering new next) = IsEarlierPoint 0 0 (new - 1) (entry_behind next).0
Advances levels (Entering old point) (Entering new next) =
    IsEarlierPoint (old - 1) (entry_behind point).0 (new - 1) (entry_behind next).0
Advances levels (Entering old point) Inside = Unit {0}
Advances levels Inside (Leaving new next) = IsEarlierPoint 0 0 (levels - new) (exit_behind next)
Advances levels (Leaving old point) (Leaving new next) =
    IsEarlierPoint (levels - old) (exit_behind point) (levels - new) (exit_behind next)
Advances levels (Leaving old point) Idle = Unit {0}
Advances levels _ _ = ⊥

-- a step takes the walk to a later point or level, unless it waits and its load found its own spin word unchanged
abbrev pub AdvancesOrSpins : Walk → Walk → Type 0
AdvancesOrSpins old new =
    Advances old.levels old.process new.process ⊎ (IsTrue (is_waiting old.process) × (new.process ≡ old.process))

-- the invariant of a walk
pub record IsWalk (w : Walk) : Type 0 where
  pub least : 1 ≤ w.levels
  pub most : w.levels ≤ MAX_LEVELS
  pub in_tree : w.place < 2 ^ w.levels
  pub proper : IsProper w.levels w.place w.process
  pub counted : w.remote ≤ most_remote w

-- the word that the request names by number is one of the tree's words
abbrev pub OpIsWithin : ℕ → Op → Type 0
OpIsWithin levels (op.Load number) = number < count_of_words levels
OpIsWithin levels (op.Store number value) = number < count_of_words levels
OpIsWithin levels op.Inside = Unit {0}
OpIsWithin levels op.Idle = Unit {0}

-- the access is of one of the tree's words
abbrev pub AccessIsWithin : ℕ → Access → Type 0
AccessIsWithin levels (Load word) = IsWord levels word
AccessIsWithin levels (Store word stored) = IsWord levels word

-- a load may find only a value that its word can hold; the value passed after a store is arbitrary
abbrev pub MayFind : Access → ℕ → Type 0
MayFind (Load word) value = CanStand word value
MayFind (Store word stored) value = Unit {0}

-- an access is due, and may be completed with the value
abbrev pub MayBeTold : Option Access → ℕ → Type 0
MayBeTold None value = ⊥
MayBeTold (Some access) value = MayFind access value

-- these values, passed one after another, lead from the walk to the other one
abbrev pub WalkLeadsTo : Walk → List ℕ → Walk → Type 0
WalkLeadsTo w [] v = v ≡ w
WalkLeadsTo w (value ∷ values) v = MayBeTold (due w) value × WalkLeadsTo (walk_after w value) values v

-- the walk of an idle place whose acquisition was begun and whose remote accesses are counted from 0
pub record BeginsEntry (w : Walk) : Type 0 where
  pub process : w.process ≡ Idle
  pub begun : w.begun ≡ true
  pub uncounted : w.remote ≡ 0

-- the walk of a place that is inside and whose exit was begun
pub record BeginsExit (w : Walk) : Type 0 where
  pub process : w.process ≡ Inside
  pub begun : w.begun ≡ true
