-- A feed's visits stay uncut.
use Rattle.std.proofs.Common.{◌≡◌, ◌≢◌, ℕ, List, [], ◌∷◌, ◌++◌, sym, ap, ◌∙◌, subst, append_assoc, append-nil}
use Rattle.std.specs.Bool.{◌==◌}
use Rattle.std.proofs.lemmas.List.Elements.{All-nil, All-append, filter-append}
use Rattle.rt_rib.specs.declared.commands.Cmd.{Cmd}
use Rattle.rt_rib.specs.declared.commands.Entry.{Entry}
use Rattle.rt_rib.specs.Laws.{feed_entries}
use Rattle.rt_shared.specs.declared.outcome.Outcome.{Outcome}
use Rattle.rt_shared.specs.JournalVisits.{AllBy, NoneBy, Since, answered, CommitsBatch, IsContiguousIn}
use Rattle.rt_shared.specs.inside.LentLaws.{since_others}
use Rattle.rt_shared.specs.inside.VisitEntries.{no_entries}
use Rattle.rt_shared.proofs.EntriesInPieces.{all_answered}

-- the same parts with more after them
more_behind : (before visit rest more journal : List Entry) → journal ≡ before ++ (visit ++ rest) → journal ++ more ≡ before ++ (visit ++ (rest ++ more))
more_behind before visit rest more journal e =
    ap (λ (l : List Entry). l ++ more) e ∙ (append_assoc before (visit ++ rest) more ∙ ap (λ (l : List Entry). before ++ l) (append_assoc visit rest more))

-- entries of other feeds split no visit
uncut_others : (feed : ℕ) (visits : List (List Entry)) (journal more : List Entry) → IsContiguousIn feed visits journal
    → NoneBy feed more → IsContiguousIn feed visits (journal ++ more)
uncut_others feed [] journal more none none' = All-append (λ (e : Entry). e.feed ≢ feed) journal more none none'
uncut_others feed (visit ∷ visits) journal more (before, rest, is, none, all, uncut) none' =
    (before, rest ++ more, more_behind before visit rest more journal is, none, all, uncut_others feed visits rest more uncut none')

-- a visit at the end
pub uncut_visit : (feed : ℕ) (visits : List (List Entry)) (journal own : List Entry) → IsContiguousIn feed visits journal
    → AllBy feed own → IsContiguousIn feed (visits ++ own ∷ []) (journal ++ own)
uncut_visit feed [] journal own none all = (journal, [], ap (λ (l : List Entry). journal ++ l) (sym (append-nil own)), none, all, All-nil _)
uncut_visit feed (visit ∷ visits) journal own (before, rest, is, none, all, uncut) all' =
    (before, rest ++ own, more_behind before visit rest own journal is, none, all, uncut_visit feed visits rest own uncut all')

pub uncut_since : (feed : ℕ) (visits : List (List Entry)) (a b : List Entry) → IsContiguousIn feed visits a → Since feed a b → IsContiguousIn feed visits b
uncut_since feed visits a b uncut since = subst (IsContiguousIn feed visits) (sym since.grown) (uncut_others feed visits a since.others uncut since.by_others)

pub uncut_by_visit : (limit feed : ℕ) (visits : List (List Entry)) (seen now : List Entry) (cmds : List Cmd)
    (outcomes : List Outcome) → IsContiguousIn feed visits seen → CommitsBatch limit feed seen cmds outcomes now
    → IsContiguousIn feed (visits ++ answered feed cmds outcomes ∷ []) now
uncut_by_visit limit feed visits seen now cmds outcomes uncut visit =
    subst (IsContiguousIn feed (visits ++ answered feed cmds outcomes ∷ [])) (sym visit.added)
    (uncut_visit feed visits visit.found (answered feed cmds outcomes)
    (uncut_since feed visits seen visit.found uncut visit.since) (all_answered feed cmds outcomes))

pub entries_since : (feed : ℕ) (a b : List Entry) → Since feed a b → feed_entries feed b ≡ feed_entries feed a
entries_since feed a b since =
    ap (feed_entries feed) since.grown ∙ (filter-append (λ (e : Entry). e.feed == feed) a since.others
    ∙ (ap (λ (l : List Entry). feed_entries feed a ++ l) (no_entries feed since.others since.by_others)
    ∙ append-nil (feed_entries feed a)))

pub since_again : (feed : ℕ) (a b c : List Entry) → Since feed a b → Since feed b c → Since feed a c
since_again feed a b c s t = subst (Since feed a) (sym t.grown) (since_others feed a b t.others s t.by_others)
