-- Examples that test the definitions of rt_shared, each below a line with the definition's name. Both sides
-- are computed.
use Rattle.std.proofs.Common.{◌≡◌, ◌≢◌, ℕ, zero, suc, ◌≤◌, inl, inr, ⊎_elim, Some, List, [], ◌∷◌, ◌++◌, refl, sym, ap, subst, arith}
use Rattle.std.specs.Prelude as std
use mathlib.Core.Option.{Option, none, some, some-injective, some-ne-none}
use Rattle.std.proofs.lemmas.List.Elements.{All-nil, All-cons}
use Rattle.ya_core.specs.declared.process.Process.{Process}
use Rattle.ya_core.specs.declared.process.Process.TheVariants.{Idle, Inside}
use Rattle.ya_core.specs.ArbitrationTree.{node_of, side_of}
use Rattle.ya_core.specs.Steps.{opening}
use Rattle.ya_core.specs.Worlds.{World, Event, Steps, Appends, opening_world}
use Rattle.lock_examples.proofs.Core.Worlds.{follow, runs}
use Rattle.ya_lock.specs.declared.rule.View.TheVariants.{HandingOut, Seated}
use Rattle.ya_lock.specs.LockState.{IsOf, HasProcess, IsToMake, NoneInside}
use Rattle.rt_cidr.specs.declared.address.Addr.{Addr}
use Rattle.rt_rib.specs.declared.routes.Hop.TheVariants.{Discard}
use Rattle.rt_rib.specs.declared.routes.Route.{Route}
use Rattle.rt_rib.specs.declared.commands.Cmd.TheVariants.{Add, Lookup, Dump, Purge}
use Rattle.rt_rib.specs.declared.commands.Reply.{Reply}
use Rattle.rt_rib.specs.declared.commands.Reply.TheVariants.{Added, Full, Found, NoRoute, Dumped, Purged}
use Rattle.rt_rib.specs.declared.commands.Entry.{Entry}
use Rattle.rt_rib.specs.LookUp.{look_up}
use Rattle.rt_rib.specs.Sequential.{reply_of, table_after, table_of_journal, IsLawfulJournal}
use Rattle.table_examples.proofs.Cidr.{ten_8}
use Rattle.table_examples.proofs.Rib.{at_10_1_2_3, route_via, entry, empty_book, holds_no_route}
use Rattle.rt_rib.proofs.Promised.{IsLawfulJournal-nil, IsLawfulJournal-push}
use Rattle.rt_shared.specs.declared.lent.Lent.{Lent}
use Rattle.rt_shared.specs.declared.outcome.Outcome.TheVariants.{Did, Refused}
use Rattle.rt_shared.specs.JournalVisits.{AllBy, NoneBy, Since, AnsweredBatch, reply_to, visit_of, entries, answered, CommitsBatch, IsContiguousIn}
use Rattle.rt_shared.specs.SharedTable.{SharedId, HeldPass, feed_of, HasSameBounds, GrowsByOthers, GrowsByFeed}
use Rattle.rt_shared.specs.Headline.{Act, entry_of, journal_of, IsSequential, IsRunTo, NoTwoInside, HasAllMade, FindsBest}
use Rattle.rt_shared.specs.Moments.{Moment, BookInSlot, IsAtRest, MeetsHeadline}

-- entries of feed 1 and of feed 2
abbrev dump : ℕ → Entry
dump feed = record { feed = feed; cmd = Dump; reply = Dumped 0 }

abbrev purge : ℕ → Entry
purge feed = record { feed = feed; cmd = Purge; reply = Purged 0 }

-- NoneBy
none_by_1 : NoneBy 1 (dump 2 ∷ [])
none_by_1 = All-cons (λ e. e.feed ≢ 1) (dump 2) [] (λ same. cc) (All-nil (λ e. e.feed ≢ 1))

one_by_1_is : ¬ NoneBy 1 (dump 2 ∷ dump 1 ∷ [])
one_by_1_is h = h 1 (dump 1) (omega arith) refl

-- AllBy
both_by_1 : AllBy 1 (dump 1 ∷ purge 1 ∷ [])
both_by_1 = All-cons (λ e. e.feed ≡ 1) (dump 1) (purge 1 ∷ []) refl (All-cons (λ e. e.feed ≡ 1) (purge 1) [] refl (All-nil (λ e. e.feed ≡ 1)))

one_by_2_is_not : ¬ AllBy 1 (dump 1 ∷ dump 2 ∷ [])
one_by_2_is_not h = let feed : 2 ≡ 1 = h 1 (dump 1) (omega arith) in omega (arith, feed)

-- Since
others_have_come : Since 1 (dump 1 ∷ []) (dump 1 ∷ dump 2 ∷ [])
others_have_come = record { others = dump 2 ∷ []; grown = refl; by_others = none_by_1 }

not_its_own : (feed : ℕ) → ¬ Since feed [] (dump feed ∷ [])
not_its_own feed h = let same : h.others ≡ dump feed ∷ [] = sym h.grown in h.by_others 0 (dump feed) (rw same (omega arith)) (rw same refl)

-- AnsweredBatch
a_command_and_its_reply : AnsweredBatch
a_command_and_its_reply = (Dump, Dumped 0) ∷ []

-- reply_to
with_its_reply : reply_to Dump (Did (Dumped 0)) ≡ (Dump, Dumped 0) ∷ []
with_its_reply = refl

none_where_it_was_refused : reply_to Dump Refused ≡ []
none_where_it_was_refused = refl

-- visit_of
what_was_refused_is_no_part_of_it : visit_of ((Dump, Did (Dumped 0)) ∷ (Purge, Refused) ∷ (Dump, Did (Dumped 1)) ∷ []) ≡ (Dump, Dumped 0) ∷ (Dump, Dumped 1) ∷ []
what_was_refused_is_no_part_of_it = refl

-- entries
as_entries_of_feed_64 : entries 64 ((Dump, Dumped 0) ∷ (Purge, Purged 0) ∷ []) ≡ dump 64 ∷ purge 64 ∷ []
as_entries_of_feed_64 = refl

-- answered
what_was_refused_has_no_entry : answered 1 (Dump ∷ Purge ∷ Purge ∷ []) (Did (Dumped 0) ∷ Refused ∷ Did (Purged 0) ∷ []) ≡ dump 1 ∷ purge 1 ∷ []
what_was_refused_has_no_entry = refl

-- an entry of feed 2 is between the two
no_piece : (before rest : List Entry) → dump 1 ∷ dump 2 ∷ purge 1 ∷ [] ≡ before ++ (dump 1 ∷ purge 1 ∷ rest) → ¬ NoneBy 1 before
no_piece [] rest same free =
    let second : dump 2 ≡ purge 1 = cc in
    let feeds : ◌≡◌ {A = ℕ} 2 1 = ap (λ (one : Entry). one.feed) second in
    omega (arith, feeds)
no_piece (e ∷ before) rest same free = let first : e ≡ dump 1 = cc in free 0 e (omega arith) (ap (λ (one : Entry). one.feed) first)

-- IsContiguousIn
in_one_piece : IsContiguousIn 1 ((dump 1 ∷ purge 1 ∷ []) ∷ []) (dump 2 ∷ dump 1 ∷ purge 1 ∷ dump 2 ∷ [])
in_one_piece = (dump 2 ∷ [], dump 2 ∷ [], refl, none_by_1, both_by_1, none_by_1)

in_two_visits : IsContiguousIn 1 ((dump 1 ∷ []) ∷ (purge 1 ∷ []) ∷ []) (dump 1 ∷ dump 2 ∷ purge 1 ∷ [])
in_two_visits = (
  [],
  dump 2 ∷ purge 1 ∷ [],
  refl,
  All-nil (λ e. e.feed ≢ 1),
  All-cons (λ e. e.feed ≡ 1) (dump 1) [] refl (All-nil (λ e. e.feed ≡ 1)),
  (dump 2 ∷ [], [], refl, none_by_1, All-cons (λ e. e.feed ≡ 1) (purge 1) [] refl (All-nil (λ e. e.feed ≡ 1)), All-nil (λ e. e.feed ≢ 1)),
)

one_between : ¬ IsContiguousIn 1 ((dump 1 ∷ purge 1 ∷ []) ∷ []) (dump 1 ∷ dump 2 ∷ purge 1 ∷ [])
one_between h = no_piece h.0 h.1 h.2 h.3

-- HeldPass
its_table_its_feed_and_what_it_saw : (table : SharedId) → (p : HeldPass) × (p.table ≡ table) × (p.feed ≡ 2) × (p.seen ≡ dump 1 ∷ [])
its_table_its_feed_and_what_it_saw table = (record { table = table; feed = 2; seen = dump 1 ∷ []; room = 0 }, refl, refl, refl)

-- feed_of
the_first_place_is_feed_1s : feed_of 0 ≡ 1
the_first_place_is_feed_1s = refl

-- entry_of
the_last_place_is_feed_64s : entry_of 63 (Dump, Dumped 0) ≡ dump 64
the_last_place_is_feed_64s = refl

-- feed 1 adds a route and feed 2 looks an address up, while both compete for the lock
abbrev its_route : Route
its_route = route_via ten_8 1 5 Discard

abbrev both_compete : List (Event Act)
both_compete =
    Steps 0 ∷ Steps 1 ∷ Steps 0 ∷ Steps 1 ∷ Steps 0 ∷ Steps 1 ∷ Steps 0 ∷ Steps 1 ∷ Steps 0 ∷ Appends 0 (Add ten_8 5 Discard, Added)
    ∷ Steps 1 ∷ Steps 1 ∷ Steps 1 ∷ Steps 1 ∷ Steps 0 ∷ Steps 0 ∷ Steps 0
    ∷ Steps 1 ∷ Steps 1 ∷ Steps 1 ∷ Appends 1 (Lookup at_10_1_2_3, Found its_route) ∷ Steps 1 ∷ Steps 1 ∷ []

abbrev after_both : World Act
after_both = follow 1 both_compete opening_world

-- journal_of
an_add_and_then_a_look_up :
    journal_of after_both.content ≡ entry 1 (Add ten_8 5 Discard) Added ∷ entry 2 (Lookup at_10_1_2_3) (Found its_route) ∷ []
unfolding node_of side_of
an_add_and_then_a_look_up = refl

-- IsSequential
an_empty_table_is_dumped_as_0 : IsSequential 1 [] (0, (Dump, Dumped 0))
unfolding table_of_journal reply_of
an_empty_table_is_dumped_as_0 = refl

not_as_1 : ¬ IsSequential 1 [] (0, (Dump, Dumped 1))
unfolding table_of_journal reply_of
not_as_1 h = cc

-- IsRunTo
a_run_in_which_both_are_answered : IsRunTo 1 1 after_both
unfolding node_of side_of table_of_journal table_after reply_of look_up
a_run_in_which_both_are_answered = (
  omega arith,
  both_compete,
  runs 1 (IsSequential 1) both_compete opening_world refl ((refl, refl), ((refl, refl), tt)),
)

no_tree_of_no_level : (world : World Act) → ¬ IsRunTo 1 0 world
no_tree_of_no_level world h = omega (arith, h.0)

-- feed 1 adds a route, but no feed may have any
abbrev one_too_many : List (Event Act)
one_too_many = Steps 0 ∷ Steps 0 ∷ Steps 0 ∷ Steps 0 ∷ Appends 0 (Add ten_8 5 Discard, Full) ∷ []

-- IsRunTo
a_run_in_which_an_add_is_over_the_limit : IsRunTo 0 1 (follow 1 one_too_many opening_world)
unfolding node_of side_of table_of_journal table_after reply_of
a_run_in_which_an_add_is_over_the_limit = (
  omega arith,
  one_too_many,
  runs 1 (IsSequential 0) one_too_many opening_world refl ((refl, refl), tt),
)

a_run_of_two_levels : IsRunTo 1 2 (follow 2 (Steps 3 ∷ []) opening_world)
a_run_of_two_levels = (omega arith, Steps 3 ∷ [], runs 2 (IsSequential 1) (Steps 3 ∷ []) opening_world refl tt)

-- NoTwoInside
nobody_at_the_start : NoTwoInside opening_world
nobody_at_the_start p q one other = cc

-- a world with these processes, and nothing made
abbrev world_of : (ℕ → Process) → World Act
world_of processes =
    record { state = record { words = λ word. 0; processes = processes }; content = []; copies = λ place. []; doing = λ place. []; made = λ place. [] }

-- only place 0 is inside
abbrev first_inside : ℕ → Process
first_inside zero = Inside
first_inside (suc place) = Idle

-- NoTwoInside
one_may_be : NoTwoInside (world_of first_inside)
one_may_be zero zero one other = refl
one_may_be zero (suc q) one other = cc
one_may_be (suc p) q one other = cc

not_where_all_are : ¬ NoTwoInside (world_of (λ place. Inside))
not_where_all_are h = let same = h 0 1 refl refl in omega (arith, same)

-- HasAllMade
nothing_at_the_start : HasAllMade opening_world
nothing_at_the_start place = refl

no_entry_that_nobody_made :
    ¬ HasAllMade (record { state = opening; content = (0, (Dump, Dumped 0)) ∷ []; copies = λ place. []; doing = λ place. []; made = λ place. [] })
no_entry_that_nobody_made h = let entries = h 0 in cc

nothing_made_that_is_lost :
    ¬ HasAllMade (record { state = opening; content = []; copies = λ place. []; doing = λ place. []; made = λ place. (Dump, Dumped 0) ∷ [] })
nothing_made_that_is_lost h = let entries = h 0 in cc

no_look_up_in : (k feed : ℕ) (addr : Addr) (reply : Reply) (earlier later : List Entry)
    → dump k ∷ [] ≡ earlier ++ entry feed (Lookup addr) reply ∷ later → ⊥
no_look_up_in k feed addr reply [] later same =
    let first : dump k ≡ entry feed (Lookup addr) reply = cc in
    let asked : Dump ≡ Lookup addr = ap (λ (e : Entry). e.cmd) first in cc
no_look_up_in k feed addr reply (e ∷ []) later same = cc
no_look_up_in k feed addr reply (e ∷ f ∷ earlier) later same = cc

-- FindsBest
no_look_up_no_wrong_one : FindsBest 1 (dump 1 ∷ [])
no_look_up_no_wrong_one = record {
  found = λ feed addr r earlier later same. absurd (no_look_up_in 1 feed addr (Found r) earlier later same);
  none = λ feed addr earlier later same. absurd (no_look_up_in 1 feed addr NoRoute earlier later same);
}

nothing_in_an_empty_table : ¬ FindsBest 1 (entry 1 (Lookup at_10_1_2_3) (Found its_route) ∷ [])
unfolding table_of_journal
nothing_in_an_empty_table h = let match = h.found 1 at_10_1_2_3 its_route [] [] refl in omega (arith, match.contained.1)

nothing_for_another_feed_either : ¬ FindsBest 1 (entry 2 (Lookup at_10_1_2_3) (Found its_route) ∷ [])
unfolding table_of_journal
nothing_for_another_feed_either h = let match = h.found 2 at_10_1_2_3 its_route [] [] refl in omega (arith, match.contained.1)

nothing_behind_a_dump : ¬ FindsBest 1 (dump 1 ∷ entry 2 (Lookup at_10_1_2_3) (Found its_route) ∷ [])
unfolding table_of_journal table_after
nothing_behind_a_dump h = let match = h.found 2 at_10_1_2_3 its_route (dump 1 ∷ []) [] refl in omega (arith, match.contained.1)

nothing_that_is_added_later : ¬ FindsBest 1 (entry 2 (Lookup at_10_1_2_3) (Found its_route) ∷ entry 1 (Add ten_8 5 Discard) Added ∷ [])
unfolding table_of_journal
nothing_that_is_added_later h =
    let match = h.found 2 at_10_1_2_3 its_route [] (entry 1 (Add ten_8 5 Discard) Added ∷ []) refl in omega (arith, match.contained.1)

nothing_found_where_a_route_covers : ¬ FindsBest 1 (entry 1 (Add ten_8 5 Discard) Added ∷ entry 2 (Lookup at_10_1_2_3) NoRoute ∷ [])
unfolding table_of_journal table_after
nothing_found_where_a_route_covers h =
    let uncovered = h.none 2 at_10_1_2_3 (entry 1 (Add ten_8 5 Discard) Added ∷ []) []
    refl (record { prefix = ten_8; feed = 1; pref = 5; hop = Discard }) (0, omega arith, refl) in cc

-- a dump leaves no route
no_route_by_a_dump : table_of_journal 1 (dump 2 ∷ []) ≡ []
unfolding table_of_journal table_after
no_route_by_a_dump = refl

no_route_at_the_start : table_of_journal 1 [] ≡ []
unfolding table_of_journal
no_route_at_the_start = refl

lawful_dump : IsLawfulJournal 1 (dump 2 ∷ [])
unfolding table_of_journal reply_of
lawful_dump = IsLawfulJournal-push 1 [] (dump 2) (IsLawfulJournal-nil 1) refl

-- the lent book at the start, and after a dump by feed 2
abbrev new : Lent
new = record {
  book = empty_book [];
  feeds = 2;
  lawful = IsLawfulJournal-nil 1;
  holds = holds_no_route [] no_route_at_the_start;
  of_feeds = All-nil (λ (e : Entry). (1 ≤ e.feed) × (e.feed ≤ 2));
  few = omega arith;
}

abbrev dumped : Lent
dumped = record {
  book = empty_book (dump 2 ∷ []);
  feeds = 2;
  lawful = lawful_dump;
  holds = holds_no_route (dump 2 ∷ []) no_route_by_a_dump;
  of_feeds = All-cons (λ (e : Entry). (1 ≤ e.feed) × (e.feed ≤ 2)) (dump 2) [] (omega arith, omega arith)
      (All-nil (λ (e : Entry). (1 ≤ e.feed) × (e.feed ≤ 2)));
  few = omega arith;
}

-- HasSameBounds
the_journal_alone_has_changed : HasSameBounds new dumped
the_journal_alone_has_changed = record { limit = refl; feeds = refl }

not_with_another_limit : (a b : Lent) → b.book.limit ≢ a.book.limit → ¬ HasSameBounds a b
not_with_another_limit a b other h = other h.limit

not_with_more_feeds : (a b : Lent) → b.feeds ≢ a.feeds → ¬ HasSameBounds a b
not_with_more_feeds a b other h = other h.feeds

by_feed_2 : Since 1 [] (dump 2 ∷ [])
by_feed_2 = record { others = dump 2 ∷ []; grown = refl; by_others = none_by_1 }

-- GrowsByOthers
while_the_first_place_was_away : GrowsByOthers 0 new dumped
while_the_first_place_was_away = record { same = the_journal_alone_has_changed; since = by_feed_2 }

not_while_the_second_was : ¬ GrowsByOthers 1 new dumped
not_while_the_second_was h = not_its_own 2 h.since

not_to_another_limit : (place : ℕ) (a b : Lent) → b.book.limit ≢ a.book.limit → ¬ GrowsByOthers place a b
not_to_another_limit place a b other h = other h.same.limit

-- GrowsByFeed
by_the_second_place : GrowsByFeed 1 new dumped
by_the_second_place = record {
  same = the_journal_alone_has_changed;
  own = dump 2 ∷ [];
  added = refl;
  by_feed = All-cons (λ e. e.feed ≡ 2) (dump 2) [] refl (All-nil (λ e. e.feed ≡ 2));
}

-- CommitsBatch
a_dump_by_itself : CommitsBatch 1 2 [] (Dump ∷ []) (Did (Dumped 0) ∷ []) (dump 2 ∷ [])
a_dump_by_itself = record {
  found = [];
  since = record { others = []; grown = refl; by_others = All-nil (λ e. e.feed ≢ 2) };
  each = refl;
  added = refl;
  lawful = lawful_dump;
}

-- both passes are away, and the second place's feed was answered since the first was last inside
abbrev moment : List (Option (std.Option Lent)) → Moment
moment homes = record { words = []; homes = homes; views = Seated 0 Idle new 0 ∷ Seated 1 Idle dumped 3 ∷ [] }

abbrev at_rest : Moment
at_rest = moment (some (Some dumped) ∷ [])

-- seat 0 has given the book and made the pass of the first place, and is still to make the pass of the second
abbrev half_made : List (Option (std.Option Lent)) → Lent → Moment
half_made homes given = record { words = []; homes = homes; views = HandingOut 1 given ∷ Seated 0 Idle given 0 ∷ [] }

-- BookInSlot
it_lies_there : BookInSlot at_rest dumped
it_lies_there = refl

not_where_it_was_taken : ¬ BookInSlot (moment (none ∷ [])) dumped
not_where_it_was_taken h = cc

-- both passes were made
none_to_make : (homes : List (Option (std.Option Lent))) (seat place : ℕ) (given : Lent) → ¬ IsToMake (moment homes) seat place given
none_to_make homes zero place given (first, at, far) =
    let same : Seated 0 Idle new 0 ≡ HandingOut first given = some-injective _ _ at in cc
none_to_make homes (suc zero) place given (first, at, far) =
    let same : Seated 1 Idle dumped 3 ≡ HandingOut first given = some-injective _ _ at in cc
none_to_make homes (suc (suc seat)) place given (first, at, far) = some-ne-none (HandingOut first given) (sym at)

-- the view of each seat
seen_by : (homes : List (Option (std.Option Lent))) (seat place : ℕ) (process : Process) (seen : Lent) → HasProcess (moment homes) seat place process seen
    → (Idle ≡ process) × Since (feed_of place) seen.book.journal (dump 2 ∷ [])
seen_by homes zero place process seen has =
    let is = subst (λ view. IsOf view place process seen) (some-injective has.0 (Seated 0 Idle new 0) (sym has.1)) has.2 in
    (is.1, subst (λ (lent : Lent). Since (feed_of place) lent.book.journal (dump 2 ∷ [])) is.2 (subst (λ p. Since (feed_of p) [] (dump 2 ∷ [])) is.0 by_feed_2))
seen_by homes (suc zero) place process seen has =
    let is = subst (λ view. IsOf view place process seen) (some-injective has.0 (Seated 1 Idle dumped 3) (sym has.1)) has.2 in (
      is.1,
      subst (λ (lent : Lent). Since (feed_of place) lent.book.journal (dump 2 ∷ [])) is.2
          (record { others = []; grown = refl; by_others = All-nil (λ e. e.feed ≢ feed_of place) }),
    )
seen_by homes (suc (suc seat)) place process seen has = absurd (some-ne-none has.0 (sym has.1))

nobody_is_inside : (homes : List (Option (std.Option Lent))) → NoneInside (moment homes)
nobody_is_inside homes seat place value has = let idle = (seen_by homes seat place Inside value has).0 in cc

-- FindsBest
where_nothing_was_looked_up : FindsBest dumped.book.limit dumped.book.journal
where_nothing_was_looked_up = record {
  found = λ feed addr r earlier later same. absurd (no_look_up_in 2 feed addr (Found r) earlier later same);
  none = λ feed addr earlier later same. absurd (no_look_up_in 2 feed addr NoRoute earlier later same);
}

-- IsAtRest
the_dump_was_seen_by_its_feed : IsAtRest at_rest dumped
the_dump_was_seen_by_its_feed = record {
  nobody = nobody_is_inside (some (Some dumped) ∷ []);
  holds = holds_no_route (dump 2 ∷ []) no_route_by_a_dump;
  lawful = lawful_dump;
  best = where_nothing_was_looked_up;
  since = λ seat place seen known. ⊎_elim (λ away. (seen_by (some (Some dumped) ∷ []) seat place away.0 seen away.2).1)
      (λ made. absurd (none_to_make (some (Some dumped) ∷ []) seat place seen made)) known;
}

not_where_one_is_inside : ¬ IsAtRest (record { words = []; homes = some (Some dumped) ∷ []; views = Seated 1 Inside dumped 3 ∷ [] }) dumped
not_where_one_is_inside h = h.nobody 0 1 dumped (Seated 1 Inside dumped 3, refl, (refl, refl, refl))

-- the book has an entry of feed 2 that the pass of feed 2 hasn't seen
not_where_its_own_entry_is_unseen : ¬ IsAtRest (record { words = []; homes = some (Some dumped) ∷ []; views = Seated 1 Idle new 0 ∷ [] }) dumped
not_where_its_own_entry_is_unseen h =
    not_its_own 2 (h.since 0 1 new (inl (Idle, (λ inside. cc), (Seated 1 Idle new 0, refl, (refl, refl, refl)))))

-- nor an entry of feed 2 after the given journal, while the pass of feed 2 is still to be made
nor_behind_what_was_given : ¬ IsAtRest (half_made (some (Some dumped) ∷ []) new) dumped
nor_behind_what_was_given h = not_its_own 2 (h.since 0 1 new (inr (1, refl, omega arith)))

-- MeetsHeadline
both_away : MeetsHeadline at_rest
both_away = record {
  exclusion = λ one other p q v w a b. let idle = (seen_by (some (Some dumped) ∷ []) one p Inside v a).0 in cc;
  at_rest = λ lent at.
      let same : dumped ≡ lent = cc in
      subst (λ (l : Lent). IsAtRest at_rest l) same the_dump_was_seen_by_its_feed;
  at_home = λ given nobody. (dumped, refl);
}

not_with_the_book_out_where_nobody_is_inside : ¬ MeetsHeadline (moment (none ∷ []))
not_with_the_book_out_where_nobody_is_inside h =
    let home = h.at_home (0, 0, (new, inl (Idle, (Seated 0 Idle new 0, refl, (refl, refl, refl)))))
    (nobody_is_inside (none ∷ [])) in
    let out = home.1 in cc
