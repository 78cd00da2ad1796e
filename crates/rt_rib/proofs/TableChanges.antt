-- A table keeps its counts right as routes are inserted, replaced and removed.
use Rattle.std.proofs.Common.{◌≡◌, ℕ, ◌+◌, ◌-◌, ◌<◌, true, false, List, [], ◌∷◌, ◌++◌, length, get_or, refl, sym, ◌∙◌, ap, subst, arith}
use Rattle.std.proofs.Math.ListN.{set}
use Rattle.std.proofs.lemmas.List.Elements.{All-push}
use Rattle.rt_cidr.specs.declared.prefixes.Prefix.{Prefix}
use Rattle.rt_rib.specs.declared.routes.Route.{Route}
use Rattle.rt_rib.specs.declared.commands.Cmd.TheVariants.{Purge}
use Rattle.rt_rib.specs.declared.commands.Reply.TheVariants.{Added, Purged}
use Rattle.rt_rib.specs.declared.limits.TheConstants.{MAX_FEEDS}
use Rattle.rt_rib.specs.Table.{has, put_in, take_out, purge, IsTable}
use Rattle.rt_rib.specs.Maps.{Map, routes_of}
use Rattle.rt_rib.specs.Book.{IsFeed, TableState, TableContents, table_state, Serves, HoldsRoutes}
use Rattle.rt_rib.specs.inside.TableState.{IsCounted, IsJournalOf}
use Rattle.rt_rib.specs.declared.commands.Cmd.{Cmd}
use Rattle.rt_rib.specs.declared.commands.Reply.{Reply}
use Rattle.rt_rib.specs.declared.commands.Entry.{Entry}
use Rattle.rt_rib.specs.Sequential.{reply_of, table_after, table_of_journal, add_of}
use Rattle.rt_rib.proofs.Journals.{IsLawfulJournal-push, table_of_journal-push}
use Rattle.rt_rib.proofs.Tables.{IsTable-put_in, IsTable-take_out, IsTable-purge, has-take_out}
use Rattle.rt_rib.proofs.Counts.{HasMore, HasMore-put_in, HasMore-take_out, HasMore-both, AreCounts-more, AreCounts-less, AreCounts-purged, AreCounts-same}
use Rattle.rt_rib.proofs.Counts.{AreCounts-own}
use Rattle.rt_rib.proofs.CommandCases.{state, added, purged}

-- the index of the feed's count
own_index : (feed : ℕ) → IsFeed feed → (feed - 1 < MAX_FEEDS) × (feed ≡ feed - 1 + 1)
own_index feed is = let low = is.0 in let high = is.1 in (omega arith, omega arith)

module _ (limit : ℕ) (counts : List ℕ) (m : Map) (h : IsCounted limit counts m) (many : length counts ≡ MAX_FEEDS) where
  module _ (r : Route) (feed : IsFeed r.feed) (fresh : has r.feed r.prefix (routes_of m) ≡ false) (room : get_or counts (r.feed - 1) 0 < limit) (n : Map)
      (is : routes_of n ≡ put_in r (routes_of m)) where
    -- with the route inserted it is a table, and the increased count is right
    pub added_counted : IsCounted limit (set counts (r.feed - 1) (get_or counts (r.feed - 1) 0 + 1)) n
    added_counted =
        let own = own_index r.feed feed in
        let more : HasMore (r.feed - 1 + 1) (routes_of m) (routes_of n) =
        subst (λ f. HasMore f (routes_of m) (routes_of n)) own.1 (subst (HasMore r.feed (routes_of m)) (sym is) (HasMore-put_in r (routes_of m))) in
        record {
          limited = h.limited;
          table = subst IsTable (sym is) (IsTable-put_in r (routes_of m) fresh h.table);
          counted = AreCounts-more limit counts (routes_of m) (routes_of n) (r.feed - 1) own.0 many h.counted more room;
        }

    -- this is what the sequential table does
    pub added_serves : Serves (state limit (routes_of m)) (state limit (routes_of n)) r.feed (add_of r) Added
    added_serves =
        let own = AreCounts-own limit counts (routes_of m) r.feed h.counted feed in
        added limit (routes_of m) r fresh (omega arith) (routes_of n) is

  -- the reply to an add if the feed doesn't have the route and hasn't reached its limit
  pub to_be_added : (r : Route) → IsFeed r.feed → has r.feed r.prefix (routes_of m) ≡ false → get_or counts (r.feed - 1) 0 < limit
      → reply_of limit (routes_of m) r.feed (add_of r) ≡ Added
  to_be_added r feed fresh room =
      let own = AreCounts-own limit counts (routes_of m) r.feed h.counted feed in
      sym ((added limit (routes_of m) r fresh (omega arith) (put_in r (routes_of m)) refl).replied)

  module _ (feed : ℕ) (is_feed : IsFeed feed) (p : Prefix) (there : has feed p (routes_of m) ≡ true) (n : Map)
      (is : routes_of n ≡ take_out feed p (routes_of m)) where
    -- without the feed's route it is a table, and the decreased count is right
    pub withdrawn_counted : IsCounted limit (set counts (feed - 1) (get_or counts (feed - 1) 0 - 1)) n
    withdrawn_counted =
        let own = own_index feed is_feed in
        let fewer : HasMore (feed - 1 + 1) (routes_of n) (routes_of m) =
        subst (λ f. HasMore f (routes_of n) (routes_of m)) own.1
        (subst (λ v. HasMore feed v (routes_of m)) (sym is) (HasMore-take_out feed p (routes_of m) h.table there)) in
        record {
          limited = h.limited;
          table = subst IsTable (sym is) (IsTable-take_out feed p (routes_of m) h.table);
          counted = AreCounts-less limit counts (routes_of m) (routes_of n) (feed - 1) own.0 many h.counted fewer;
        }

    -- the feed's count isn't 0
    pub withdrawn_one : 0 < get_or counts (feed - 1) 0
    withdrawn_one =
        let own = AreCounts-own limit counts (routes_of m) feed h.counted is_feed in
        let more = (HasMore-take_out feed p (routes_of m) h.table there).own in
        omega arith

  module _ (r : Route) (there : has r.feed r.prefix (routes_of m) ≡ true) (n : Map)
      (is : routes_of n ≡ put_in r (take_out r.feed r.prefix (routes_of m))) where
    -- with the route replaced it is a table, and the counts are still right
    pub replaced_counted : IsCounted limit counts n
    replaced_counted =
        let rest = take_out r.feed r.prefix (routes_of m) in
        let less = HasMore-take_out r.feed r.prefix (routes_of m) h.table there in
        let more = subst (HasMore r.feed rest) (sym is) (HasMore-put_in r rest) in
        record {
          limited = h.limited;
          table = subst IsTable (sym is)
              (IsTable-put_in r rest (has-take_out r.feed r.prefix (routes_of m)) (IsTable-take_out r.feed r.prefix (routes_of m) h.table));
          counted = AreCounts-same limit counts (routes_of m) (routes_of n) h.counted (HasMore-both r.feed rest (routes_of m) (routes_of n) less more)
              (more.all ∙ sym less.all);
        }

  module _ (feed : ℕ) (is_feed : IsFeed feed) (n : Map) (is : routes_of n ≡ purge feed (routes_of m)) where
    -- without the feed's routes it is a table, and the feed's count is 0
    pub purged_counted : IsCounted limit (set counts (feed - 1) 0) n
    purged_counted =
        let own = own_index feed is_feed in
        record {
          limited = h.limited;
          table = subst IsTable (sym is) (IsTable-purge feed (routes_of m) h.table);
          counted = AreCounts-purged limit counts (routes_of m) (routes_of n) (feed - 1) own.0 many h.counted (is ∙ ap (λ f. purge f (routes_of m)) own.1);
        }

    -- this is what the sequential table does
    pub purged_serves : Serves (state limit (routes_of m)) (state limit (routes_of n)) feed Purge (Purged (get_or counts (feed - 1) 0))
    purged_serves = purged limit (routes_of m) feed (get_or counts (feed - 1) 0) (AreCounts-own limit counts (routes_of m) feed h.counted is_feed)
        (routes_of n) is

-- a map that didn't change
pub kept_counted : (limit : ℕ) (counts : List ℕ) (m n : Map) → IsCounted limit counts m → n ≡ m → IsCounted limit counts n
kept_counted limit counts m n h same = subst (IsCounted limit counts) (sym same) h

-- a command served by such a map
pub kept_serves : (limit : ℕ) (m n : Map) (feed : ℕ) (cmd : Cmd) (reply : Reply) → n ≡ m
    → Serves (state limit (routes_of m)) (state limit (routes_of m)) feed cmd reply
    → Serves (state limit (routes_of m)) (state limit (routes_of n)) feed cmd reply
kept_serves limit m n feed cmd reply same h = subst (λ x. Serves (state limit (routes_of m)) (state limit (routes_of x)) feed cmd reply) (sym same) h

-- a journal with the entry of what the table served after it
pub IsJournalOf-push : (old new : TableState) (journal more : List Entry) (feed : ℕ) (cmd : Cmd) (reply : Reply) → IsFeed feed → IsJournalOf old journal
    → Serves old new feed cmd reply → more ≡ journal ++ record { feed = feed; cmd = cmd; reply = reply } ∷ [] → IsJournalOf new more
IsJournalOf-push old new journal more feed cmd reply is_feed h serves is =
    let e : Entry = record { feed = feed; cmd = cmd; reply = reply } in
    let answered : reply ≡ reply_of old.limit (table_of_journal old.limit journal) feed cmd =
    serves.replied ∙ ap (λ t. reply_of old.limit t feed cmd) h.routes in
    let next : IsJournalOf (record { limit = old.limit; routes = table_after old.limit old.routes feed cmd }) (journal ++ e ∷ []) = record {
      feeds = All-push (λ x. IsFeed x.feed) journal e h.feeds is_feed;
      lawful = IsLawfulJournal-push old.limit journal e h.lawful answered;
      routes = ap (λ t. table_after old.limit t feed cmd) h.routes ∙ sym (table_of_journal-push old.limit journal e);
    } in
    rw (serves.changed, is) next

-- a trie that holds the table's routes holds those that the journal leaves
pub holds_table : (t : TableContents) (journal : List Entry) → HoldsRoutes t.trie t.routes → IsJournalOf (table_state t) journal
    → HoldsRoutes t.trie (table_of_journal t.limit journal)
holds_table t journal holds h = subst (HoldsRoutes t.trie) h.routes holds
