-- What the libraries say of new tables and of answered commands, as it is said of what a handle holds.
use Rattle.std.proofs.Common.{◌≡◌, ℕ, ◌≤◌, ◌⊎◌, inl, inr, Bool, true, false, nat_le, if◌then◌else◌, List, [], refl, ap, arith}
use Rattle.std.specs.Prelude.{Option, Some, Result, Ok, Err, IfOk, OnErr, MatchResult, option_to_list}
use Rattle.rt_rib.specs.declared.commands.Cmd.{Cmd}
use Rattle.rt_rib.specs.declared.commands.Reply.{Reply}
use Rattle.rt_rib.specs.declared.refused.Refused.{Refused}
use Rattle.rt_rib.specs.declared.routes.Route.{Route}
use Rattle.rt_rib.specs.declared.changes.BestChange.{BestChange}
use Rattle.rt_rib.specs.Changes.{AreBestChanges}
use Rattle.rt_rib.specs.declared.commands.Cmd.TheVariants.{Purge}
use Rattle.rt_rib.specs.declared.commands.Reply.TheVariants.{Added, Exists, Full, Replaced, Withdrawn, Missing}
use Rattle.rt_rib.specs.Table.{has, count_of}
use Rattle.rt_rib.specs.Sequential.{reply_of, table_after, table_of_journal}
use Rattle.rt_rib.specs.Book.{TableState, table_state, table_of, BookContents, Applies, Refuses}
use Rattle.rt_rib.proofs.Promised.{table_of_journal-push, each_command}
use Rattle.yarib_c.specs.declared.held.Held.TheVariants.{Plain, Journaled}
use Rattle.yarib_c.specs.Plain.{PlainContents}
use Rattle.yarib_c.specs.Kinds.{IsNew, SaysChange, Applied, NotApplied}

-- a new table that keeps no journal
pub new_plain : (limit : ℕ) (p : PlainContents) → table_state p.table ≡ record { limit = limit; routes = [] } → IsNew limit 0 (Plain p)
new_plain limit p made = record {
  limited = ap (λ (s : TableState). s.limit) made;
  empty = ap (λ (s : TableState). s.routes) made;
  journal = refl;
}

no_entries : (limit : ℕ) → table_of_journal limit [] ≡ []
unfolding table_of_journal
no_entries limit = refl

-- one that keeps a journal
pub new_journaled : (limit : ℕ) (b : BookContents) → b.limit ≡ limit → b.journal ≡ [] → IsNew limit 1 (Journaled b)
new_journaled limit b limited journal = record {
  limited = limited;
  empty = rw (limited, journal) (no_entries limit);
  journal = ap Some journal;
}

-- what has no room after a refusal had none before
had_none : {A : Type 0} (before after : ℕ) → before ≤ after → (after ≡ 0) ⊎ A → (before ≡ 0) ⊎ A
had_none before after more (inl none) = inl (omega (arith, none, more))
had_none before after more (inr other) = inr other

module _ (feed : ℕ) (cmd : Cmd) (old new : BookContents) where
  -- what a book was answered
  pub journaled : (result : Result Reply Refused) → IfOk result (λ reply. Applies old new feed cmd reply) → OnErr result (Refuses old new feed cmd)
      → MatchResult result (λ reply. Applied (Journaled old) (Journaled new) feed cmd reply) (λ _. NotApplied (Journaled old) (Journaled new) feed cmd)
  journaled (Ok reply) h refused = record {
    replied = h.replied;
    limited = h.limited;
    routes = rw (h.limited, h.journaled) (table_of_journal-push old.limit old.journal (record { feed = feed; cmd = cmd; reply = reply }));
    journal = ap Some h.journaled;
    room = h.roomy;
    followed = λ no. absurd no;
  }
  journaled (Err e) h refused = record {
    same = record { limited = refused.limited; routes = rw (refused.limited, refused.journaled) refl; journal = ap Some refused.journaled; room = refused.roomy; followed = λ no. no };
    wanted = had_none old.room new.room refused.roomy refused.wanted;
  }

  -- and the change that it returned with the reply
  pub journaled_changed : (result : Result (Reply × Option BestChange) Refused) → IfOk result (λ done. Applies old new feed cmd done.0)
      → IfOk result (λ done. AreBestChanges (table_of old) (table_of new) (option_to_list done.1)) → OnErr result (Refuses old new feed cmd)
      → MatchResult result
      (λ done. Applied (Journaled old) (Journaled new) feed cmd done.0 × AreBestChanges (table_of old) (table_of new) (option_to_list done.1))
      (λ _. NotApplied (Journaled old) (Journaled new) feed cmd)
  journaled_changed (Ok done) h changes refused = (journaled (Ok done.0) h refused, changes)
  journaled_changed (Err e) h changes refused = journaled (Err e) h refused

-- a command whose reply says no change leaves the routes
kept_by : (one other : Bool) (kept : List Route) (more : List Route) → ¬ SaysChange (if one then Exists else if other then Full else Added)
    → (if one then kept else if other then kept else more) ≡ kept
kept_by true other kept more none = refl
kept_by false true kept more none = refl
kept_by false false kept more none = absurd (none tt)

kept_unless : (one : Bool) (reply : Reply) (kept more : List Route) → SaysChange reply → ¬ SaysChange (if one then reply else Missing)
    → (if one then more else kept) ≡ kept
kept_unless true reply kept more says none = absurd (none says)
kept_unless false reply kept more says none = refl

pub no_change : (limit : ℕ) (routes : List Route) (feed : ℕ) (cmd : Cmd) → ¬ SaysChange (reply_of limit routes feed cmd)
    → table_after limit routes feed cmd ≡ routes
unfolding reply_of table_after
no_change limit routes =
    each_command (λ feed cmd. ¬ SaysChange (reply_of limit routes feed cmd) → table_after limit routes feed cmd ≡ routes)
    (λ r none. kept_by (has r.feed r.prefix routes) (nat_le limit (count_of r.feed routes)) routes _ none)
    (λ r none. kept_unless (has r.feed r.prefix routes) Replaced routes _ tt none)
    (λ feed prefix none. kept_unless (has feed prefix routes) Withdrawn routes _ tt none)
    (λ feed addr none. refl)
    (λ feed none. refl)
    (λ feed none. absurd (none tt))

pub purge_says : (limit : ℕ) (routes : List Route) (feed : ℕ) → SaysChange (reply_of limit routes feed Purge)
unfolding reply_of
purge_says limit routes feed = tt
