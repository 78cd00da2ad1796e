-- The table after two feeds have executed a batch each, and the table was settled.
use Rattle.std.proofs.Common.{◌≡◌, ℕ, List, [], ◌∷◌, subst, arith}
use Rattle.rt_rib.specs.declared.commands.Cmd.{Cmd}
use Rattle.rt_rib.specs.declared.commands.Entry.{Entry}
use Rattle.rt_rib.specs.declared.routes.Route.{Route}
use Rattle.rt_rib.specs.Sequential.{IsLawfulJournal, table_of_journal}
use Rattle.rt_shared.specs.declared.outcome.Outcome.{Outcome}
use Rattle.rt_shared.specs.SharedTable.{SharedId, HeldPass, Settles}
use Rattle.rt_shared.specs.JournalVisits.{Since, CommitsBatch, IsContiguousIn, answered}
use Rattle.rt_shared.specs.Laws.{UncutAtFirst, UncutByVisit, UncutSince}
use Rattle.walkthrough.specs.Shared.{AreBothUnseen, AreRoutesOfBoth}

-- the batch of a feed that had seen nothing is contiguous in the later journal
batch_uncut : UncutAtFirst → UncutByVisit → UncutSince → (limit feed number : ℕ) (before : List Entry)
    (cmds : List Cmd) (outcomes : List Outcome) (seen journal : List Entry)
    → feed ≡ number → before ≡ [] → CommitsBatch limit feed before cmds outcomes seen → Since feed seen journal
    → IsContiguousIn number (answered number cmds outcomes ∷ []) journal
batch_uncut first call away limit feed number before cmds outcomes seen journal numbered unseen visit since =
    let first_visit : CommitsBatch limit feed [] cmds outcomes seen =
    subst (λ (b : List Entry). CommitsBatch limit feed b cmds outcomes seen) unseen visit in
    let visit' : CommitsBatch limit number [] cmds outcomes seen =
    subst (λ (f : ℕ). CommitsBatch limit f [] cmds outcomes seen) numbered first_visit in
    away number (answered number cmds outcomes ∷ []) seen journal (call limit number [] [] seen cmds outcomes (first number) visit')
    (subst (λ (f : ℕ). Since f seen journal) numbered since)

-- the pass has made a visit with these commands
abbrev HasVisited : ℕ → HeldPass → List Cmd → HeldPass → Type 0
HasVisited limit before cmds after = (outcomes : List Outcome) × CommitsBatch limit before.feed before.seen cmds outcomes after.seen

-- the routes that a lawful journal leaves after both feeds have executed their batch
pub left_by_both : UncutAtFirst → UncutByVisit → UncutSince → (table : SharedId) (limit : ℕ) (xs ys : List Cmd)
    (one two one' two' : HeldPass) (journal : List Entry)
    → table.limit ≡ limit → AreBothUnseen table one two → one'.feed ≡ one.feed → two'.feed ≡ two.feed
    → HasVisited table.limit one xs one' → HasVisited table.limit two ys two' → Settles table (one' ∷ two' ∷ []) journal
    → (routes : List Route) → routes ≡ table_of_journal limit journal → AreRoutesOfBoth limit xs ys routes
left_by_both first call away table limit xs ys one two one' two' journal same both same_one same_two a b settled routes of_journal = record {
  journal = journal;
  lawful = subst (λ (l : ℕ). IsLawfulJournal l journal) same settled.lawful;
  of_first = a.0;
  first_uncut = batch_uncut first call away table.limit one.feed 1 one.seen xs a.0 one'.seen journal both.feeds.0 both.unseen.0 a.1
      (subst (λ (f : ℕ). Since f one'.seen journal) same_one (settled.since 0 one' (omega arith)));
  of_second = b.0;
  second_uncut = batch_uncut first call away table.limit two.feed 2 two.seen ys b.0 two'.seen journal both.feeds.1 both.unseen.1 b.1
      (subst (λ (f : ℕ). Since f two'.seen journal) same_two (settled.since 1 two' (omega arith)));
  of_journal = of_journal;
}
