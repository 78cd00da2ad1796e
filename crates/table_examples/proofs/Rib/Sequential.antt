-- Examples of the sequential table: replies, changes and journals.
use Rattle.std.proofs.Common.{◌≡◌, Some, [], ◌∷◌, refl}
use Rattle.table_examples.proofs.Cidr.{ten_8}
use Rattle.rt_rib.specs.declared.routes.Hop.TheVariants.{Discard}
use Rattle.rt_rib.specs.declared.commands.Cmd.TheVariants.{Add, Replace, Withdraw, Lookup, Dump, Purge}
use Rattle.rt_rib.specs.declared.commands.Reply.TheVariants.{Added, Exists, Full, Replaced, Withdrawn, Missing, Found, NoRoute, Dumped, Purged}
use Rattle.rt_rib.specs.LookUp.{look_up}
use Rattle.rt_rib.specs.Sequential.{reply_of, lowest_address, table_after, table_of_journal, IsAnswered, IsLawfulJournal}
use Rattle.rt_rib.proofs.Journals.{IsLawfulJournal-nil, IsLawfulJournal-push}
use Rattle.std.specs.Prelude.{map}
use Rattle.table_examples.proofs.Rib.Values.{ten_1_16, at_10_1_2_3, at_10_2_3_4, at_last, route, nested, entry, two_look_ups, ten_2_16, ten_3_16, at_10_9_0_1, ten_9_16, via_192_0_2, route_via, tutorial}

-- reply_of
add_goes_by_the_room_that_there_is :
    map (λ limit. reply_of limit (route ten_8 1 5 ∷ []) 1 (Add ten_1_16 5 Discard)) (2 ∷ 1 ∷ []) ≡ Added ∷ Full ∷ []
unfolding reply_of
add_goes_by_the_room_that_there_is = refl

add_exists_before_full : reply_of 1 (route ten_8 1 5 ∷ []) 1 (Add ten_8 9 Discard) ≡ Exists
unfolding reply_of
add_exists_before_full = refl

the_limit_is_of_one_feed : reply_of 1 (route ten_8 1 5 ∷ []) 2 (Add ten_8 5 Discard) ≡ Added
unfolding reply_of
the_limit_is_of_one_feed = refl

replace_its_own : reply_of 9 nested 1 (Replace ten_8 5 Discard) ≡ Replaced
unfolding reply_of
replace_its_own = refl

replace_no_other_feeds : reply_of 9 nested 2 (Replace ten_8 5 Discard) ≡ Missing
unfolding reply_of
replace_no_other_feeds = refl

withdraw_its_own : reply_of 9 nested 1 (Withdraw ten_8) ≡ Withdrawn
unfolding reply_of
withdraw_its_own = refl

withdraw_no_other_feeds : reply_of 9 nested 2 (Withdraw ten_8) ≡ Missing
unfolding reply_of
withdraw_no_other_feeds = refl

look_up_of_any_feed : reply_of 9 nested 64 (Lookup at_10_2_3_4) ≡ Found (route ten_8 1 100)
unfolding reply_of look_up
look_up_of_any_feed = refl

look_up_in_an_empty_table : reply_of 9 [] 1 (Lookup at_last) ≡ NoRoute
unfolding reply_of look_up
look_up_in_an_empty_table = refl

dump_counts_all : reply_of 9 (route ten_8 2 5 ∷ nested) 1 Dump ≡ Dumped 4
unfolding reply_of
dump_counts_all = refl

purge_counts_its_own : reply_of 9 (route ten_8 2 5 ∷ nested) 2 Purge ≡ Purged 1
unfolding reply_of
purge_counts_its_own = refl

-- lowest_address
the_base_of_its_prefix : map lowest_address (Add ten_1_16 5 Discard ∷ Replace ten_1_16 5 Discard ∷ Withdraw ten_1_16 ∷ []) ≡ 167837696 ∷ 167837696 ∷ 167837696 ∷ []
the_base_of_its_prefix = refl

the_address_to_look_up : lowest_address (Lookup at_last) ≡ 4294967295
the_address_to_look_up = refl

zero_of_all : map lowest_address (Dump ∷ Purge ∷ []) ≡ 0 ∷ 0 ∷ []
zero_of_all = refl

-- table_after
added : table_after 2 (route ten_8 1 50 ∷ []) 2 (Add ten_8 30 Discard) ≡ route ten_8 2 30 ∷ route ten_8 1 50 ∷ []
unfolding table_after
added = refl

not_added_where_it_exists : table_after 2 (route ten_8 1 50 ∷ []) 1 (Add ten_8 30 Discard) ≡ route ten_8 1 50 ∷ []
unfolding table_after
not_added_where_it_exists = refl

not_added_where_it_is_full : table_after 1 (route ten_8 1 50 ∷ []) 1 (Add ten_1_16 30 Discard) ≡ route ten_8 1 50 ∷ []
unfolding table_after
not_added_where_it_is_full = refl

replaced_at_its_new_place :
    table_after 2 (route ten_8 2 30 ∷ route ten_8 1 50 ∷ []) 2 (Replace ten_8 60 Discard) ≡ route ten_8 1 50 ∷ route ten_8 2 60 ∷ []
unfolding table_after
replaced_at_its_new_place = refl

not_replaced_where_it_is_missing : table_after 9 nested 2 (Replace ten_8 60 Discard) ≡ nested
unfolding table_after
not_replaced_where_it_is_missing = refl

the_next_stands_in_when_the_best_is_withdrawn :
    look_up at_10_2_3_4 (table_after 9 (route ten_8 2 30 ∷ route ten_8 1 50 ∷ []) 2 (Withdraw ten_8)) ≡ Some (route ten_8 1 50)
unfolding table_after look_up
the_next_stands_in_when_the_best_is_withdrawn = refl

a_look_up_leaves_all : table_after 9 nested 1 (Lookup at_last) ≡ nested
unfolding table_after
a_look_up_leaves_all = refl

a_dump_leaves_all : table_after 9 nested 1 Dump ≡ nested
unfolding table_after
a_dump_leaves_all = refl

a_purge_leaves_the_other_feeds : table_after 9 (route ten_8 2 30 ∷ nested) 1 Purge ≡ route ten_8 2 30 ∷ []
unfolding table_after
a_purge_leaves_the_other_feeds = refl

-- table_of_journal
of_no_entry : table_of_journal 9 [] ≡ []
unfolding table_of_journal
of_no_entry = refl

of_a_look_up_and_an_add : table_of_journal 1 (two_look_ups NoRoute) ≡ route ten_8 1 5 ∷ []
unfolding table_of_journal table_after
of_a_look_up_and_an_add = refl

whatever_the_replies_say :
    table_of_journal 1 (entry 1 (Add ten_8 5 Discard) Full ∷ entry 1 (Add ten_1_16 5 Discard) Added ∷ []) ≡ route ten_8 1 5 ∷ []
unfolding table_of_journal table_after
whatever_the_replies_say = refl

pub the_table_of_the_tutorial :
    table_of_journal 65536 tutorial
    ≡ route_via ten_8 2 30 (via_192_0_2 2) ∷ route_via ten_8 1 50 (via_192_0_2 1)
    ∷ route_via ten_1_16 1 10 (via_192_0_2 1) ∷ route_via ten_9_16 3 10 Discard ∷ []
unfolding table_of_journal table_after
the_table_of_the_tutorial = refl

-- IsAnswered
answered_added : IsAnswered 1 [] (entry 1 (Add ten_8 5 Discard) Added)
unfolding table_of_journal table_after reply_of
answered_added = refl

answered_exists : IsAnswered 1 (entry 1 (Add ten_8 5 Discard) Added ∷ []) (entry 1 (Add ten_8 5 Discard) Exists)
unfolding table_of_journal table_after reply_of
answered_exists = refl

not_answered_added_twice :
    ¬ IsAnswered 1 (entry 1 (Add ten_8 5 Discard) Added ∷ []) (entry 1 (Add ten_8 5 Discard) Added)
unfolding table_of_journal table_after reply_of
not_answered_added_twice h = cc

-- IsLawfulJournal
a_lawful_journal : IsLawfulJournal 1 (two_look_ups NoRoute)
unfolding table_of_journal table_after reply_of look_up
a_lawful_journal =
    let first = IsLawfulJournal-push 1 [] (entry 1 (Lookup at_10_1_2_3) NoRoute) (IsLawfulJournal-nil 1) refl in
    let second = IsLawfulJournal-push 1 _ (entry 1 (Add ten_8 5 Discard) Added) first refl in
    IsLawfulJournal-push 1 _ (entry 1 (Lookup at_10_1_2_3) (Found (route ten_8 1 5))) second refl

pub the_journal_of_the_tutorial : IsLawfulJournal 65536 tutorial
unfolding table_of_journal table_after reply_of look_up
the_journal_of_the_tutorial =
    let e1 = IsLawfulJournal-push 65536 [] (entry 1 (Add ten_8 50 (via_192_0_2 1)) Added) (IsLawfulJournal-nil 65536) refl in
    let e2 = IsLawfulJournal-push 65536 _ (entry 1 (Add ten_1_16 10 (via_192_0_2 1)) Added) e1 refl in
    let e3 = IsLawfulJournal-push 65536 _ (entry 1 (Lookup at_10_1_2_3) (Found (route_via ten_1_16 1 10 (via_192_0_2 1)))) e2 refl in
    let e4 = IsLawfulJournal-push 65536 _ (entry 2 (Add ten_8 20 (via_192_0_2 2)) Added) e3 refl in
    let e5 = IsLawfulJournal-push 65536 _ (entry 2 (Add ten_2_16 20 (via_192_0_2 2)) Added) e4 refl in
    let e6 = IsLawfulJournal-push 65536 _ (entry 2 Purge (Purged 2)) e5 refl in
    let e7 = IsLawfulJournal-push 65536 _ (entry 2 (Add ten_8 30 (via_192_0_2 2)) Added) e6 refl in
    let e8 = IsLawfulJournal-push 65536 _ (entry 3 (Add ten_9_16 10 Discard) Added) e7 refl in
    let e9 = IsLawfulJournal-push 65536 _ (entry 3 (Add ten_3_16 10 (via_192_0_2 3)) Added) e8 refl in
    let e10 = IsLawfulJournal-push 65536 _ (entry 3 (Withdraw ten_3_16) Withdrawn) e9 refl in
    IsLawfulJournal-push 65536 _ (entry 3 (Lookup at_10_9_0_1) (Found (route_via ten_9_16 3 10 Discard))) e10 refl

one_reply_of_it_changed : ¬ IsLawfulJournal 1 (two_look_ups (Found (route ten_8 1 5)))
unfolding table_of_journal table_after reply_of look_up
one_reply_of_it_changed h = let first = h.answered [] (entry 1 (Lookup at_10_1_2_3) (Found (route ten_8 1 5))) _ refl in cc

one_entry_of_it_left_out : ¬ IsLawfulJournal 1 (entry 1 (Lookup at_10_1_2_3) (Found (route ten_8 1 5)) ∷ [])
unfolding table_of_journal table_after reply_of look_up
one_entry_of_it_left_out h = let first = h.answered [] (entry 1 (Lookup at_10_1_2_3) (Found (route ten_8 1 5))) [] refl in cc
