-- The journal of every run of the core's worlds.
use Rattle.std.proofs.Common.{◌≡◌, ℕ, List, [], ◌∷◌, ◌++◌, map, Some, None, Option, refl, sym, ap, ◌∙◌, subst, inl, inr, append_assoc, append-nil, arith}
use Rattle.std.specs.Option.{option_map_or}
use Rattle.std.proofs.lemmas.List.{map-append}
use Rattle.std.proofs.lemmas.Bool.{eq-eqb, ne_eqb}
use Rattle.std.proofs.lemmas.Bool.Decides.{eqb_tells}
use Rattle.ya_core.specs.Worlds.{Marked, FollowsFrom, entries_of}
use Rattle.rt_cidr.specs.declared.address.Addr.{Addr}
use Rattle.rt_rib.specs.declared.routes.Route.{Route}
use Rattle.rt_rib.specs.declared.commands.Cmd.TheVariants.{Lookup}
use Rattle.rt_rib.specs.declared.commands.Reply.TheVariants.{Found, NoRoute}
use Rattle.rt_rib.specs.declared.commands.Entry.{Entry}
use Rattle.rt_rib.specs.LookUp.{look_up}
use Rattle.rt_rib.specs.Sequential.{reply_of, table_of_journal, IsLawfulJournal}
use Rattle.rt_rib.specs.Laws.{LawfulByEntry, TableByEntry, LookUpFindsBest, feed_entries}
use Rattle.rt_shared.specs.SharedTable.{feed_of}
use Rattle.rt_shared.specs.Headline.{Act, entry_of, journal_of, IsSequential, FindsBest}

-- entries that follow a lawful journal, each answered by the sequential table, leave it lawful
pub lawful_from : LawfulByEntry → (limit : ℕ) (before content : List (Marked Act))
    → FollowsFrom (IsSequential limit) before content → IsLawfulJournal limit (journal_of before)
    → IsLawfulJournal limit (journal_of (before ++ content))
lawful_from law limit before [] follows lawful = subst (λ (l : List (Marked Act)). IsLawfulJournal limit (journal_of l)) (sym (append-nil before)) lawful
lawful_from law limit before (x ∷ content) follows lawful =
    let next : IsLawfulJournal limit (journal_of (before ++ x ∷ [])) =
    subst (IsLawfulJournal limit) (sym (map-append (λ (y : Marked Act). entry_of y.0 y.1) before (x ∷ [])))
    ((law.step limit (journal_of before) (entry_of x.0 x.1)).1 (lawful, follows.0)) in
    subst (λ (l : List (Marked Act)). IsLawfulJournal limit (journal_of l)) (append_assoc before (x ∷ []) content)
    (lawful_from law limit (before ++ x ∷ []) content follows.1 next)

-- the entries of a place are the entries of its feed
pub entries_same : (place : ℕ) (content : List (Marked Act))
    → feed_entries (feed_of place) (journal_of content) ≡ map (entry_of place) (entries_of place content)
entries_same place [] = refl
entries_same place (x ∷ content) = elim (eqb_tells x.0 place) [
  | inl h ↦ rw (eq-eqb (feed_of x.0) (feed_of place) (ap feed_of h.1), h.0)
      (ap (λ (n : ℕ). entry_of n x.1 ∷ feed_entries (feed_of place) (journal_of content)) h.1
      ∙ ap (λ (l : List Entry). entry_of place x.1 ∷ l) (entries_same place content))
  | inr h ↦ rw (ne_eqb (feed_of x.0) (feed_of place) (λ e. h.1 (omega arith)), h.0) (entries_same place content)
]

-- a look-up that was answered with a route found that one
found_it : (limit feed : ℕ) (table : List Route) (addr : Addr) (r : Route) (found : Option Route) → Found r ≡ option_map_or Found found NoRoute → found ≡ Some r
found_it limit feed table addr r (Some s) e = cc
found_it limit feed table addr r None e = absurd (cc)

-- a look-up that was answered without a route found none
found_none : (found : Option Route) → NoRoute ≡ option_map_or Found found NoRoute → found ≡ None
found_none (Some s) e = absurd (cc)
found_none None e = refl

pub finds_best : LookUpFindsBest → TableByEntry → (limit : ℕ) (journal : List Entry) → IsLawfulJournal limit journal → FindsBest limit journal
unfolding reply_of
finds_best law leaves limit journal lawful = record {
  found = λ feed addr r earlier later is.
      let e = lawful.answered earlier (record { feed = feed; cmd = Lookup addr; reply = Found r }) later is in
      ((law addr (table_of_journal limit earlier) (leaves.table limit earlier)).0 r).0
      (found_it limit feed (table_of_journal limit earlier) addr r (look_up addr (table_of_journal limit earlier)) e);
  none = λ feed addr earlier later is.
      let e = lawful.answered earlier (record { feed = feed; cmd = Lookup addr; reply = NoRoute }) later is in
      (law addr (table_of_journal limit earlier) (leaves.table limit earlier)).1.0
      (found_none (look_up addr (table_of_journal limit earlier)) e);
}
