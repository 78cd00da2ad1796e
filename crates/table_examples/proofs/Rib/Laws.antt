-- Examples of what the theorems on tables and journals speak of.
use Rattle.std.proofs.Common.{◌≡◌, true, false, inl, inr, [], ◌∷◌, refl, ap, arith}
use Rattle.table_examples.proofs.Cidr.{everything, ten_8}
use Rattle.rt_rib.specs.declared.routes.Hop.TheVariants.{Discard}
use Rattle.rt_rib.specs.declared.commands.Cmd.TheVariants.{Add, Replace, Withdraw, Lookup, Dump, Purge}
use Rattle.rt_rib.specs.declared.commands.Reply.TheVariants.{NoRoute, Dumped, Purged}
use Rattle.rt_rib.specs.Table.{put_in}
use Rattle.rt_rib.specs.LookUp.{look_up, beats, look_up_all}
use Rattle.rt_rib.specs.Laws.{IsBestMatch, is_own, feed_entries, AreAllMatches}
use Rattle.rt_rib.specs.Laws.{asked, feed_routes}
use Rattle.rt_rib.proofs.Tables.{IsTable-nil, IsTable-put_in}
use Rattle.rt_rib.proofs.Sets.{Contains-cases, Contains-none}
use Rattle.rt_rib.proofs.Best.{look_up_finds_best}
use Rattle.rt_rib.proofs.Ranking.{look_up_all_finds_matches}
use Rattle.table_examples.proofs.Rib.Values.{ten_1_16, at_10_1_2_3, at_10_2_3_4, at_198_51_100_7, at_last, route, nested, entry}

-- IsBestMatch
the_longest_is_the_best_match : IsBestMatch at_10_2_3_4 (route ten_8 2 30 ∷ []) (route ten_8 2 30)
unfolding look_up
the_longest_is_the_best_match = let both =
    (look_up_finds_best at_10_2_3_4 (put_in (route ten_8 2 30) []) (IsTable-put_in (route ten_8 2 30) [] refl IsTable-nil)).0 (route ten_8 2 30) in both.0 refl

a_shorter_is_no_best_match : ¬ IsBestMatch at_10_1_2_3 nested (route ten_8 1 100)
a_shorter_is_no_best_match h = omega (arith, h.longest (route ten_1_16 1 100) (2, omega arith, refl) refl)

one_of_greater_preference_is_no_best_match :
    ¬ IsBestMatch at_10_2_3_4 (route ten_8 2 30 ∷ route ten_8 1 50 ∷ []) (route ten_8 1 50)
one_of_greater_preference_is_no_best_match h = let better = h.best (route ten_8 2 30) (0, omega arith, refl) refl refl in cc

-- is_own
an_add_is_its_own : is_own (Add ten_8 5 Discard) ≡ true
an_add_is_its_own = refl

a_replace_is_its_own : is_own (Replace ten_8 5 Discard) ≡ true
a_replace_is_its_own = refl

a_withdraw_is_its_own : is_own (Withdraw ten_8) ≡ true
a_withdraw_is_its_own = refl

a_dump_is_not : is_own Dump ≡ false
a_dump_is_not = refl

a_look_up_is_not : is_own (Lookup at_last) ≡ false
a_look_up_is_not = refl

a_purge_is_its_own : is_own Purge ≡ true
a_purge_is_its_own = refl

-- feed_entries
entries_of_one_feed :
    feed_entries 2 (entry 1 Dump (Dumped 0) ∷ entry 2 (Lookup at_last) NoRoute ∷ entry 64 Purge (Purged 0) ∷ [])
    ≡ entry 2 (Lookup at_last) NoRoute ∷ []
entries_of_one_feed = refl

-- feed_routes
those_of_feed_2 : feed_routes 2 (route everything 1 9 ∷ route ten_8 2 30 ∷ route ten_8 3 50 ∷ []) ≡ route ten_8 2 30 ∷ []
those_of_feed_2 = refl

-- AreAllMatches
what_covers_in_order_are_the_matches : AreAllMatches at_10_2_3_4 (route ten_8 2 30 ∷ []) (route ten_8 2 30 ∷ [])
unfolding look_up_all
what_covers_in_order_are_the_matches =
    let both = (look_up_all_finds_matches at_10_2_3_4 (put_in (route ten_8 2 30) []) (IsTable-put_in (route ten_8 2 30) [] refl IsTable-nil)).0
    (route ten_8 2 30 ∷ []) in both.0 refl

matches_leave_nothing_out : ¬ AreAllMatches at_10_2_3_4 nested (route ten_8 1 100 ∷ [])
matches_leave_nothing_out h =
    elim (Contains-cases (route ten_8 1 100) [] (route everything 1 200) ((h.exactly (route everything 1 200)).1 ((0, omega arith, refl), refl))) [
      | inl same ↦ let beaten = ap (λ r. beats r (route everything 1 200)) same in cc
      | inr none ↦ Contains-none (route everything 1 200) none
    ]

matches_cover_the_address : ¬ AreAllMatches at_198_51_100_7 (route ten_8 1 5 ∷ []) (route ten_8 1 5 ∷ [])
matches_cover_the_address h = let covered = ((h.exactly (route ten_8 1 5)).0 (0, omega arith, refl)).1 in cc

matches_begin_with_the_longest : ¬ AreAllMatches at_10_2_3_4 nested (route everything 1 200 ∷ route ten_8 1 100 ∷ [])
matches_begin_with_the_longest h = let order = h.ordered 0 1 (route ten_8 1 100) (omega arith) (omega arith) in cc

-- asked
who_asked_what : asked (entry 1 Dump (Dumped 0) ∷ entry 2 Purge (Purged 0) ∷ []) ≡ (1, Dump) ∷ (2, Purge) ∷ []
who_asked_what = refl
