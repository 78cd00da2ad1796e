-- The visits of a feed to the shared table: the entries that each adds to the journal, and their positions in it.
use Rattle.std.specs.Prelude.{◌≡◌, ◌≢◌, ℕ, List, [], ◌∷◌, ◌++◌, length, map, zip, All}
use Rattle.rt_rib.specs.declared.commands.Cmd.{Cmd}
use Rattle.rt_rib.specs.declared.commands.Reply.{Reply}
use Rattle.rt_rib.specs.declared.commands.Entry.{Entry}
use Rattle.rt_rib.specs.Sequential.{IsLawfulJournal}
use Rattle.rt_shared.specs.declared.outcome.Outcome.{Outcome}
use Rattle.rt_shared.specs.declared.outcome.Outcome.TheVariants.{Did, Refused}

-- all of these entries are the feed's
abbrev pub AllBy : ℕ → List Entry → Type 0
AllBy feed part = All (λ e. e.feed ≡ feed) part

-- none of these entries is the feed's
abbrev pub NoneBy : ℕ → List Entry → Type 0
NoneBy feed part = All (λ e. e.feed ≢ feed) part

-- the journal that the feed has seen is a prefix of the current one, and no entry after it is the feed's
pub record Since (feed : ℕ) (seen now : List Entry) : Type 0 where
  pub others : List Entry
  pub grown : now ≡ seen ++ others
  pub by_others : NoneBy feed others

-- the commands that one call answered, in order, each with its reply
abbrev pub AnsweredBatch : Type 0
AnsweredBatch = List (Cmd × Reply)

-- the command with its reply, if it had one
abbrev pub reply_to : Cmd → Outcome → AnsweredBatch
reply_to cmd (Did reply) = (cmd, reply) ∷ []
reply_to cmd Refused = []

-- the commands that had a reply, in order, each with its reply
abbrev pub visit_of : List (Cmd × Outcome) → AnsweredBatch
visit_of [] = []
visit_of (one ∷ asked) = reply_to one.0 one.1 ++ visit_of asked

-- the visit as entries of this feed
abbrev pub entries : ℕ → AnsweredBatch → List Entry
entries feed visit = map (λ p. record { feed = feed; cmd = p.0; reply = p.1 }) visit

-- the entries of a feed's commands, in order: one for each command with a reply, and none for a refused command
abbrev pub answered : ℕ → List Cmd → List Outcome → List Entry
answered feed cmds outcomes = entries feed (visit_of (zip cmds outcomes))

-- a visit: only other feeds have added entries to the journal since the feed last saw it, and the feed appends the
-- entries of its commands in one piece. The resulting journal is lawful, so each reply is the sequential table's
pub record CommitsBatch (limit feed : ℕ) (seen : List Entry) (cmds : List Cmd) (outcomes : List Outcome) (now : List Entry) : Type 0 where
  pub found : List Entry
  pub since : Since feed seen found
  pub each : length outcomes ≡ length cmds
  pub added : now ≡ found ++ answered feed cmds outcomes
  pub lawful : IsLawfulJournal limit now

-- a visit whose outcomes were appended to others
pub record MakesVisitWith (limit feed : ℕ) (seen : List Entry) (cmds : List Cmd) (before after : List Outcome) (now : List Entry) : Type 0 where
  pub outcomes : List Outcome
  pub appended : after ≡ before ++ outcomes
  pub visit : CommitsBatch limit feed seen cmds outcomes now

-- these visits of the feed, each a list of entries, are uncut in the journal: each is in it in one piece, in this
-- order, and no other entry of the journal is the feed's
abbrev pub IsContiguousIn : ℕ → List (List Entry) → List Entry → Type 0
IsContiguousIn feed [] journal = NoneBy feed journal
IsContiguousIn feed (visit ∷ visits) journal =
    (before rest : List Entry) × (journal ≡ before ++ (visit ++ rest)) × NoneBy feed before × AllBy feed visit × IsContiguousIn feed visits rest
