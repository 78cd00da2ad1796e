-- Theorems about journals.
use Rattle.std.proofs.Common.{◌≡◌, ℕ, List, [], ◌∷◌, ◌++◌, refl, ap, ◌∙◌, sym, subst, append_assoc}
use Rattle.rt_rib.specs.declared.commands.Cmd.{Cmd}
use Rattle.rt_rib.specs.declared.commands.Reply.{Reply}
use Rattle.rt_rib.specs.declared.commands.Entry.{Entry}
use Rattle.rt_rib.specs.Sequential.{reply_of, table_of_journal, IsLawfulJournal}
use Rattle.rt_rib.specs.Laws.{asked, TableByEntry, LawfulByEntry, LawfulIsDetermined}
use Rattle.rt_rib.proofs.Journals.{IsTable-of_journal, table_of_journal-nil, table_of_journal-push, IsLawfulJournal-nil, IsLawfulJournal-push}
use Rattle.rt_rib.proofs.Journals.{IsLawfulJournal-front, IsLawfulJournal-last}

-- the table that a journal leaves, entry by entry
pub table_by_entry : TableByEntry
table_by_entry = record { table = IsTable-of_journal; empty = table_of_journal-nil; step = table_of_journal-push }

-- lawfulness of a journal, entry by entry
pub lawful_by_entry : LawfulByEntry
lawful_by_entry = record {
  empty = IsLawfulJournal-nil;
  step = λ limit journal e. (
    (λ h. (IsLawfulJournal-front limit journal (e ∷ []) h, IsLawfulJournal-last limit journal e h)),
    (λ both. IsLawfulJournal-push limit journal e both.0 both.1),
  );
}

-- an entry with these fields
entry : ℕ → Cmd → Reply → Entry
entry feed cmd reply = record { feed = feed; cmd = cmd; reply = reply }

-- two entries with the same fields are equal
same_entry : (e f : Entry) → e.feed ≡ f.feed → e.cmd ≡ f.cmd → e.reply ≡ f.reply → e ≡ f
unfolding entry
same_entry e f feed cmd reply = ap (λ x. entry x e.cmd e.reply) feed ∙ ap (λ x. entry f.feed x e.reply) cmd ∙ ap (λ x. entry f.feed f.cmd x) reply

-- after the same entries, the same commands have the same replies
determined : (limit : ℕ) (p j k : List Entry) → IsLawfulJournal limit (p ++ j) → IsLawfulJournal limit (p ++ k) → asked j ≡ asked k → j ≡ k
determined limit p [] [] g h same = refl
determined limit p [] (f ∷ k) g h same = cc
determined limit p (e ∷ j) [] g h same = cc
determined limit p (e ∷ j) (f ∷ k) g h same =
    let first : ◌≡◌ {A = ℕ × Cmd} (e.feed, e.cmd) (f.feed, f.cmd) = cc in
    let others : asked j ≡ asked k = cc in
    let feed : e.feed ≡ f.feed = ap (λ z. z.0) first in
    let cmd : e.cmd ≡ f.cmd = ap (λ z. z.1) first in
    let reply : e.reply ≡ f.reply =
    g.answered p e j refl
    ∙ ap (λ x. reply_of limit (table_of_journal limit p) x e.cmd) feed
    ∙ ap (λ x. reply_of limit (table_of_journal limit p) f.feed x) cmd
    ∙ sym (h.answered p f k refl) in
    let equal = same_entry e f feed cmd reply in
    let g' : IsLawfulJournal limit ((p ++ f ∷ []) ++ j) = subst (IsLawfulJournal limit) (ap (λ z. p ++ z ∷ j) equal ∙ sym (append_assoc p (f ∷ []) j)) g in
    let h' : IsLawfulJournal limit ((p ++ f ∷ []) ++ k) = subst (IsLawfulJournal limit) (sym (append_assoc p (f ∷ []) k)) h in
    let rest = determined limit (p ++ f ∷ []) j k g' h' others in
    ap (λ z. z ∷ j) equal ∙ ap (λ z. f ∷ z) rest

-- the same from the first entry on
pub lawful_journal_is_unique : LawfulIsDetermined
lawful_journal_is_unique limit j k g h same = determined limit [] j k g h same
