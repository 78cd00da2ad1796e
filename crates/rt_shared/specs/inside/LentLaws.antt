-- The relations of a lent book satisfy the laws of a lent value.
use Rattle.std.proofs.Common.{◌≡◌, ◌≢◌, ℕ, List, [], ◌++◌, refl, sym, ap, ◌∙◌, append_assoc, append-nil, subst, arith}
use Rattle.std.proofs.lemmas.List.Elements.{All-nil, All-append, All-weaker}
use Rattle.rt_rib.specs.declared.commands.Entry.{Entry}
use Rattle.rt_shared.specs.declared.lent.Lent.{Lent}
use Rattle.rt_shared.specs.JournalVisits.{AllBy, NoneBy, Since}
use Rattle.rt_shared.specs.SharedTable.{feed_of, HasSameBounds, GrowsByOthers, GrowsByFeed}

-- others may have added nothing
pub since_same : (feed : ℕ) (journal : List Entry) → Since feed journal journal
since_same feed journal = record { others = []; grown = sym (append-nil journal); by_others = All-nil _ }

-- entries that others add after other entries by others are added by others
pub since_others : (feed : ℕ) (a b own : List Entry) → Since feed a b → NoneBy feed own → Since feed a (b ++ own)
since_others feed a b own s none = record {
  others = s.others ++ own;
  grown = ap (λ (l : List Entry). l ++ own) s.grown ∙ append_assoc a s.others own;
  by_others = All-append (λ e. e.feed ≢ feed) s.others own s.by_others none;
}

-- an entry of one feed belongs to no other feed
pub none_by_other : (feed other : ℕ) → other ≢ feed → (own : List Entry) → AllBy other own → NoneBy feed own
none_by_other feed other ne own all = All-weaker (λ e. e.feed ≡ other) (λ e. e.feed ≢ feed) (λ e is same. ne (sym is ∙ same)) own all

pub same_same : (a : Lent) → HasSameBounds a a
same_same a = record { limit = refl; feeds = refl }

pub others_add_nothing : (place : ℕ) (a : Lent) → GrowsByOthers place a a
others_add_nothing place a = record { same = same_same a; since = since_same (feed_of place) a.book.journal }

pub feed_adds_nothing : (place : ℕ) (a : Lent) → GrowsByFeed place a a
feed_adds_nothing place a = record { same = same_same a; own = []; added = sym (append-nil a.book.journal); by_feed = All-nil _ }

pub grows_by_others : (place other : ℕ) (a b c : Lent) → other ≢ place → GrowsByOthers place a b → GrowsByFeed other b c → GrowsByOthers place a c
grows_by_others place other a b c ne s d = record {
  same = record { limit = d.same.limit ∙ s.same.limit; feeds = d.same.feeds ∙ s.same.feeds };
  since = subst (λ (l : List Entry). Since (feed_of place) a.book.journal l) (sym d.added)
      (since_others (feed_of place) a.book.journal b.book.journal d.own s.since
      (none_by_other (feed_of place) (feed_of other) (λ e. ne (omega arith)) d.own d.by_feed));
}
