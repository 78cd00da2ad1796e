-- The visits that a gate gains, and the division of a feed's commands into visits.
use Rattle.std.specs.Prelude.{◌≡◌, ℕ, ◌<◌, List, [], ◌∷◌, ◌++◌, All, length, zip}
use Rattle.std.specs.List.{flat_map}
use Rattle.rt_rib.specs.declared.commands.Cmd.{Cmd}
use Rattle.rt_shared.specs.declared.outcome.Outcome.{Outcome}
use Rattle.rt_shared.specs.JournalVisits.{AnsweredBatch, visit_of}

-- a gate that held some visits holds these after them
abbrev pub Gains : {G : Type 0} → (G → List AnsweredBatch → Type 0) → G → G → List AnsweredBatch → Type 0
Gains {G} holds old new more = (visits : List AnsweredBatch) → holds old visits → holds new (visits ++ more)

-- the pieces one after another
abbrev pub concatenated : {X : Type 0} → List (List X) → List X
concatenated pieces = flat_map (λ piece. piece) pieces

-- all such lists of visits are one list of commands and replies, however divided into visits
abbrev pub AreOneList : (List AnsweredBatch → Type 0) → Type 0
AreOneList held = (one two : List AnsweredBatch) → held one → held two → concatenated one ≡ concatenated two

-- the piece as a list, without an empty piece
abbrev pub piece_of : {X : Type 0} → List X → List (List X)
piece_of [] = []
piece_of (x ∷ xs) = (x ∷ xs) ∷ []

-- the list divided into these pieces: each has `size` elements, except that the last may have fewer, but not none
pub record IsSplitInto {X : Type 0} (size : ℕ) (xs : List X) (pieces : List (List X)) : Type 0 where
  pub whole : List (List X)
  pub last : List X
  pub full : All (λ piece. length piece ≡ size) whole
  pub fewer : length last < size
  pub is_joined : xs ≡ concatenated whole ++ last
  pub is_cut : pieces ≡ whole ++ piece_of last

-- the commands were answered in one visit, and an outcome for each was appended to `out`
pub record AnswersBatch {G : Type 0} (holds : G → List AnsweredBatch → Type 0) (old new : G) (cmds : List Cmd) (out out' : List Outcome) : Type 0 where
  pub outcomes : List Outcome
  pub each : length outcomes ≡ length cmds
  pub appended : out' ≡ out ++ outcomes
  pub gained : Gains holds old new (visit_of (zip cmds outcomes) ∷ [])
