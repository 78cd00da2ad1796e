-- The contents of a journal that only has entries of feed 1.
use Rattle.std.proofs.Common.{◌≡◌, ℕ, List, [], ◌∷◌, ◌++◌, All, refl, sym, ap, ◌∙◌}
use Rattle.std.proofs.lemmas.List.{map-append}
use Rattle.std.proofs.lemmas.List.Elements.{All-head, All-tail}
use Rattle.rt_rib.specs.declared.commands.Cmd.{Cmd}
use Rattle.rt_rib.specs.declared.commands.Reply.{Reply}
use Rattle.rt_rib.specs.declared.commands.Entry.{Entry}
use Rattle.rt_shared.specs.JournalVisits.{entries}
use Rattle.walkthrough.specs.inside.JournalTold.{told}

-- as entries of feed 1, its commands and replies are the journal
pub told_by_1 : (journal : List Entry) → All (λ e. e.feed ≡ 1) journal → entries 1 (told journal) ≡ journal
told_by_1 [] own = refl
told_by_1 (e ∷ es) own =
    ap (λ (l : List Entry). record { feed = 1; cmd = e.cmd; reply = e.reply } ∷ l) (told_by_1 es (All-tail (λ (x : Entry). x.feed ≡ 1) e es own))
    ∙ ap (λ (n : ℕ). record { feed = n; cmd = e.cmd; reply = e.reply } ∷ es) (sym (All-head (λ (x : Entry). x.feed ≡ 1) e es own))

-- one entry more
pub told_more : (old new : List Entry) (cmd : Cmd) (reply : Reply) → new ≡ old ++ record { feed = 1; cmd = cmd; reply = reply } ∷ []
    → told new ≡ told old ++ (cmd, reply) ∷ []
told_more old new cmd reply more =
    let e : Entry = record { feed = 1; cmd = cmd; reply = reply } in
    ap told more ∙ map-append (λ (e : Entry). let p : Cmd × Reply = (e.cmd, e.reply) in p) old (e ∷ [])
