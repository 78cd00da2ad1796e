-- The machine of all processes, and its record of each step.
use Rattle.std.specs.Prelude.{◌≡◌, ℕ, Bool, true, false, List, [], ◌∷◌, slice_index_or}
use Rattle.ya_core.specs.declared.word.Word.{Word}
use Rattle.ya_core.specs.declared.word.Access.{Access}
use Rattle.ya_core.specs.declared.word.Access.TheVariants.{Load, Store}
use Rattle.ya_core.specs.declared.process.Process.{Process}
use Rattle.ya_core.specs.declared.process.Process.TheVariants.{Idle, Inside}
use Rattle.ya_core.specs.declared.step.Mark.{Mark}
use Rattle.ya_core.specs.declared.step.Mark.TheVariants as mark
use Rattle.ya_core.specs.declared.step.Step.{Step}
use Rattle.ya_core.specs.Steps.{State, StepsTo, access_of, next_of, value_of}
use Rattle.ya_core.specs.FlatRow.{row_state}

-- the machine as plain data: its words in one flat row, and its processes by place
pub record Rows : Type 0 where
  pub levels : ℕ
  pub words : List ℕ
  pub processes : List Process

-- the processes that a list holds, by place
unfoldable pub processes_of : List Process → ℕ → Process
processes_of list place = slice_index_or list place Idle

-- the state of the machine: words by name, processes by place
abbrev pub state_of : Rows → State
state_of m = row_state m.levels m.words (processes_of m.processes)

-- the word of an access
abbrev pub word_of : Access → Word
word_of (Load word) = word
word_of (Store word value) = word

-- the access is a store
abbrev pub is_store : Access → Bool
is_store (Load word) = false
is_store (Store word value) = true

-- the mark of a step that leads to the process: it won the root, it ended the passage, or neither
abbrev pub mark_of : Process → Mark
mark_of Idle = mark.Out
mark_of Inside = mark.Inside
mark_of _ = mark.Plain

-- the record of a step: the place made the access with this value and became the next process
abbrev pub step_by : ℕ → Access → ℕ → Process → Step
step_by place access value next =
    record { place = place; word = word_of access; store = is_store access; value = value; mark = mark_of next }

-- the record of a place's step from the state
abbrev pub step_of : ℕ → ℕ → State → Step
step_of levels place s =
    let access = access_of levels place (s.processes place) in
    let value = value_of s.words access in
    step_by place access value (next_of levels place (s.processes place) value)

-- from this state the picked places take these steps, one after another, and end in the last state
abbrev pub ReplaysTo : ℕ → State → List ℕ → List Step → State → Type 0
ReplaysTo levels s [] [] last = last ≡ s
ReplaysTo levels s (place ∷ picks) (step ∷ steps) last =
    (after : State) × StepsTo levels place s after × (step ≡ step_of levels place s)
    × ReplaysTo levels after picks steps last
ReplaysTo levels s [] (step ∷ steps) last = ⊥
ReplaysTo levels s (place ∷ picks) [] last = ⊥

-- from this state the picked places take these steps, one after another
abbrev pub Replays : ℕ → State → List ℕ → List Step → Type 0
Replays levels s picks steps = (last : State) × ReplaysTo levels s picks steps last
