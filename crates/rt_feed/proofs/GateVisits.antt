-- Visits that are uncut in a journal, while the journal grows.
use Rattle.std.proofs.Common.{◌≡◌, ℕ, List, [], ◌∷◌, ◌++◌, map, zip, sym, subst, append-nil}
use Rattle.std.proofs.lemmas.List.{map-append}
use Rattle.std.proofs.lemmas.List.Elements.{All-nil}
use Rattle.rt_rib.specs.declared.commands.Cmd.{Cmd}
use Rattle.rt_shared.specs.declared.outcome.Outcome.{Outcome}
use Rattle.rt_shared.specs.SharedTable.{HeldPass}
use Rattle.rt_shared.specs.JournalVisits.{IsContiguousIn, AnsweredBatch, visit_of, entries, CommitsBatch}
use Rattle.rt_shared.proofs.Promised.{uncut_visit, uncut_by_visit}

-- a visit of the pass of a gate is uncut after the others
pub gate_visit : (limit : ℕ) (inside old new : HeldPass) (cmds : List Cmd) (outcomes : List Outcome) → inside ≡ old → new.feed ≡ inside.feed
    → CommitsBatch limit inside.feed inside.seen cmds outcomes new.seen
    → (visits : List AnsweredBatch) → IsContiguousIn old.feed (map (entries old.feed) visits) old.seen
    → IsContiguousIn new.feed (map (entries new.feed) (visits ++ visit_of (zip cmds outcomes) ∷ [])) new.seen
gate_visit limit inside old new cmds outcomes is feed visit visits held =
    rw (feed, map-append) (uncut_by_visit limit inside.feed (map (entries inside.feed) visits) inside.seen new.seen cmds outcomes
    (subst (λ (p : HeldPass). IsContiguousIn p.feed (map (entries p.feed) visits) p.seen) (sym is) held) visit)

-- an empty visit changes nothing
pub gate_empty : (inside old new : HeldPass) → inside ≡ old → new ≡ inside
    → (visits : List AnsweredBatch) → IsContiguousIn old.feed (map (entries old.feed) visits) old.seen → IsContiguousIn new.feed (map (entries new.feed) (visits ++ [] ∷ [])) new.seen
gate_empty inside old new is same visits held =
    rw (same, is, map-append) (subst (IsContiguousIn old.feed (map (entries old.feed) visits ++ [] ∷ [])) (append-nil old.seen)
    (uncut_visit old.feed (map (entries old.feed) visits) old.seen [] held (All-nil _)))
