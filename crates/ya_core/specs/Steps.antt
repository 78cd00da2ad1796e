-- The steps of one process, and their effects on all words and all processes.
use Rattle.std.specs.Prelude.{◌≡◌, ◌≢◌, ℕ, ◌+◌, ◌-◌, ◌^◌, ◌<◌, ◌==◌, nat_lt, if◌then◌else◌, List, [], ◌∷◌}
use Rattle.ya_core.specs.declared.word.Word.{Word}
use Rattle.ya_core.specs.declared.word.Word.TheVariants.{C, T, P}
use Rattle.ya_core.specs.declared.word.Access.{Access}
use Rattle.ya_core.specs.declared.word.Access.TheVariants.{Load, Store}
use Rattle.ya_core.specs.declared.process.EntryPoint.{EntryPoint}
use Rattle.ya_core.specs.declared.process.EntryPoint.TheVariants.{E1, E2, E3, E4, E5, E6, E7, E8, E9, E10}
use Rattle.ya_core.specs.declared.process.ExitPoint.{ExitPoint}
use Rattle.ya_core.specs.declared.process.ExitPoint.TheVariants.{X1, X2, X3}
use Rattle.ya_core.specs.declared.process.Process.{Process}
use Rattle.ya_core.specs.declared.process.Process.TheVariants.{Idle, Entering, Inside, Leaving}
use Rattle.ya_core.specs.ArbitrationTree.{node_of, side_of}

-- the access that is due on the way in, at each point of a level
abbrev pub entry_access : ℕ → ℕ → EntryPoint → Access
entry_access level place E1 = Store (C level (node_of level place) (side_of level place)) (place + 1)
entry_access level place E2 = Store (T level (node_of level place)) (place + 1)
entry_access level place E3 = Store (P level place) 0
entry_access level place E4 = Load (C level (node_of level place) (1 - side_of level place))
entry_access level place (E5 rival) = Load (T level (node_of level place))
entry_access level place (E6 rival) = Load (P level rival)
entry_access level place (E7 rival) = Store (P level rival) 1
entry_access level place E8 = Load (P level place)
entry_access level place E9 = Load (T level (node_of level place))
entry_access level place E10 = Load (P level place)

-- the access that is due on the way out, at each point of a level
abbrev pub exit_access : ℕ → ℕ → ExitPoint → Access
exit_access level place X1 = Store (C level (node_of level place) (side_of level place)) 0
exit_access level place X2 = Load (T level (node_of level place))
exit_access level place (X3 rival) = Store (P level rival) 2

-- the due access: an idle process begins at the leaves, and a process that is inside begins its exit at the root
abbrev pub access_of : ℕ → ℕ → Process → Access
access_of levels place Idle = entry_access 1 place E1
access_of levels place (Entering level point) = entry_access level place point
access_of levels place Inside = exit_access levels place X1
access_of levels place (Leaving level point) = exit_access level place point

-- a process that won the level goes on to the next one; from the root it goes inside
abbrev pub after_entry : ℕ → ℕ → Process
after_entry levels level = if nat_lt level levels then Entering (level + 1) E1 else Inside

-- a process that left the level goes on to the one below; from the leaves it goes idle
abbrev pub after_exit : ℕ → Process
after_exit level = if nat_lt 1 level then Leaving (level - 1) X1 else Idle

-- the process after each point of the way in, whose access loaded the value
abbrev pub entry_next : ℕ → ℕ → ℕ → EntryPoint → ℕ → Process
entry_next levels level place E1 value = Entering level E2
entry_next levels level place E2 value = Entering level E3
entry_next levels level place E3 value = Entering level E4
entry_next levels level place E4 value = if value == 0 then after_entry levels level else Entering level (E5 (value - 1))
entry_next levels level place (E5 rival) value =
    if value == place + 1 then Entering level (E6 rival) else after_entry levels level
entry_next levels level place (E6 rival) value = if value == 0 then Entering level (E7 rival) else Entering level E8
entry_next levels level place (E7 rival) value = Entering level E8
entry_next levels level place E8 value = if value == 0 then Entering level E8 else Entering level E9
entry_next levels level place E9 value = if value == place + 1 then Entering level E10 else after_entry levels level
entry_next levels level place E10 value = if value == 2 then after_entry levels level else Entering level E10

-- the process after each point of the way out. At x2 the word T names a place: the invariant excludes nil there
-- (`releasing` of `IsSoundLevel`), so the case of `0 - 1` never occurs
abbrev pub exit_next : ℕ → ℕ → ExitPoint → ℕ → Process
exit_next level place X1 value = Leaving level X2
exit_next level place X2 value = if value == place + 1 then after_exit level else Leaving level (X3 (value - 1))
exit_next level place (X3 rival) value = after_exit level

-- the process after its step
abbrev pub next_of : ℕ → ℕ → Process → ℕ → Process
next_of levels place Idle value = entry_next levels 1 place E1 value
next_of levels place (Entering level point) value = entry_next levels level place point value
next_of levels place Inside value = exit_next levels place X1 value
next_of levels place (Leaving level point) value = exit_next level place point value

-- all words and all processes
pub record State : Type 0 where
  pub words : Word → ℕ
  pub processes : ℕ → Process

-- at the start every word is 0 and every process is idle
abbrev pub opening : State
opening = record { words = λ _. 0; processes = λ _. Idle }

-- the value that an access loads or stores
abbrev pub value_of : (Word → ℕ) → Access → ℕ
value_of words (Load word) = words word
value_of words (Store word value) = value

-- a load changes no word; a store changes only its own word
abbrev pub Accesses : Access → (Word → ℕ) → (Word → ℕ) → Type 0
Accesses (Load word) old new = (other : Word) → new other ≡ old other
Accesses (Store word value) old new = (new word ≡ value) × ((other : Word) → other ≢ word → new other ≡ old other)

-- one atomic step of a place of the tree: its access happens, its process goes on with the value, and all other
-- processes stay
pub record StepsTo (levels place : ℕ) (old new : State) : Type 0 where
  pub in_tree : place < 2 ^ levels
  pub words : Accesses (access_of levels place (old.processes place)) old.words new.words
  pub process :
      new.processes place ≡ next_of levels place (old.processes place)
      (value_of old.words (access_of levels place (old.processes place)))
  pub others : (other : ℕ) → other ≢ place → new.processes other ≡ old.processes other

-- these places step one after another, from the one state to the other
abbrev pub LeadTo : ℕ → State → List ℕ → State → Type 0
LeadTo levels old [] new = new ≡ old
LeadTo levels old (place ∷ places) new =
    (next : State) × StepsTo levels place old next × LeadTo levels next places new
