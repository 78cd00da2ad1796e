-- Examples that test the definitions of rt_run, each below a line with the definition's name. Both sides are computed,
-- except for the texts of numbers, which have one spelling each.
use Rattle.std.proofs.Common.{◌≡◌, ◌≢◌, ℕ, zero, suc, ◌+◌, ◌≤◌, ◌==◌, ◌&&◌, nat_le, max, Bool, true, false, if◌then◌else◌, Some, None, Ok, Err}
use Rattle.std.proofs.Common.{List, [], ◌∷◌, ◌++◌, length, map, filter, take, drop, get_or, inl, inr, codes, refl, sym, ap, ◌∙◌, subst, arith, append-nil}
use Rattle.std.specs.List.{All, Contains, list_any, list_all}
use Rattle.std.proofs.lemmas.Bool.{and_parts, eqb-true, eqb-false, leb-true}
use Rattle.std.proofs.lemmas.List.Elements.{All-nil, All-cons}
use Rattle.std.specs.Fmt.{digits}
use Rattle.rt_cidr.specs.Text.{address_text, prefix_text}
use Rattle.ya_core.specs.declared.schedule.ReplayFault.TheVariants as replay
use Rattle.ya_core.specs.Steps.{opening}
use Rattle.rt_rib.specs.declared.routes.Hop.TheVariants.{Discard}
use Rattle.rt_rib.specs.declared.routes.Route.{Route}
use Rattle.rt_rib.specs.declared.commands.Cmd.{Cmd}
use Rattle.rt_rib.specs.declared.commands.Cmd.TheVariants.{Add, Withdraw, Dump}
use Rattle.rt_rib.specs.declared.commands.Reply.TheVariants.{Added, Exists, Full, Withdrawn, Missing, Dumped}
use Rattle.rt_rib.specs.declared.commands.Entry.{Entry}
use Rattle.rt_rib.specs.Sequential.{reply_of, table_after, table_of_journal, IsAnswered, IsLawfulJournal}
use Rattle.rt_rib.specs.LookUp.{look_up, look_up_all}
use Rattle.table_examples.proofs.Rib.{entry, at_10_1_2_3, at_10_9_0_1, ten_1_16, ten_9_16, via_192_0_2, route_via}
use Rattle.table_examples.proofs.Cidr.{ten_8}
use Rattle.table_examples.proofs.Rib.{tutorial, the_journal_of_the_tutorial, the_table_of_the_tutorial}
use Rattle.rt_shared.specs.JournalVisits.{IsContiguousIn, NoneBy, Since, visit_of, entries}
use Rattle.rt_shared.specs.declared.outcome.Outcome.{Outcome}
use Rattle.rt_shared.specs.declared.outcome.Outcome.TheVariants.{Did, Refused}
use Rattle.rt_feed.specs.declared.parse.LineFault.TheVariants as fault
use Rattle.rt_feed.specs.declared.versions.Version.TheVariants.{One}
use Rattle.rt_feed.specs.declared.report.Answer.{Answer}
use Rattle.rt_feed.specs.declared.report.Answer.TheVariants as answer
use Rattle.rt_feed.specs.Lines.{HasVersion2Header, CutsLine, skipped, faulty, asked, LineOutcome, TextYields, commands_of, report_lines}
use Rattle.rt_feed.specs.Reports.{has_refusal, has_fault}
use Rattle.rt_feed.specs.Visits.{IsSplitInto, concatenated}
use Rattle.rt_feed.specs.Printed.{reply_text, answer_text, line_text}
use Rattle.rt_print.specs.declared.format.Syntax.TheVariants as syntax
use Rattle.rt_print.specs.Routes.{route_text, row_text, count_text, table_text}
use Rattle.rt_feed.specs.declared.faults.RunFault.TheVariants as run
use Rattle.feed_examples.proofs.Feed.{at_192_0_2_1, asked_text, asked_rows, two_are_asked_and_a_line_is_faulty}
use Rattle.feed_examples.proofs.Feed.{north, north_read, south, south_read, east, east_read, what_north_becomes, what_south_becomes, what_east_becomes}
use Rattle.rt_diff.specs.declared.comparison.Difference.{Difference}
use Rattle.rt_print.specs.declared.diff_options.DiffOutput.TheVariants.{Ranges}
use Rattle.rt_print.specs.DifferenceText.{DiffContents, differences_header}
use Rattle.rt_diff.specs.Answers.{own_numbers}
use Rattle.rt_diff.specs.declared.table_answers.CompareBy.TheVariants as by
use Rattle.table_examples.proofs.Diff.{a_table_and_itself_have_none}
use Rattle.rt_run.specs.DiffText.{differ_status, IsDiffText}
use Rattle.rt_run.specs.declared.tallies.RunSummary.{RunSummary}
use Rattle.ya_lock.specs.Lock.{LockId}
use Rattle.rt_shared.specs.SharedTable.{SharedId, HeldPass, Settles}
use Rattle.rt_run.specs.declared.faults.AppFault.TheVariants.{Run, Replay, Write}
use Rattle.rt_run.specs.RunText.{RunContents}
use Rattle.rt_run.specs.RunText.{Explains, ExplainsFrom, IsJournalOfRun, reports_of, reports_text, some_refused, status_where, reports_status, IsRunText, WritesOrFails}
use Rattle.rt_run.proofs.Lists.{cut-joined}
use Rattle.rt_print.specs.ReplayText.{inside_text}
use Rattle.rt_run.specs.Replayed.{IsReplayText, LeavesReplay}
use Rattle.rt_run.specs.declared.tallies.RejectedInput.{RejectedInput}
use Rattle.rt_run.specs.declared.tallies.RejectedLines.{RejectedLines}
use Rattle.rt_feed.specs.Addresses.{AddressRow, address_row, invalid_row}
use Rattle.rt_feed.specs.declared.faulty.FaultyLines.{FaultyLines}
use Rattle.rt_print.specs.Csv.{csv_field, route_record}
use Rattle.rt_print.specs.Styles.{StyleContents, row_as, rows_header, found_as, found_header, all_found_as, all_found_header, reason_text, invalid_as}
use Rattle.rt_print.specs.Counts.{totals_as, count_as, counts_as, total_as}
use Rattle.rt_run.specs.TableText.{line_answer_text, answers_text, all_answers_text, was_full, was_existing, was_missing, faults_of, lines_where, rejected_lines, tally_of}
use Rattle.rt_run.specs.TableText.{has_refused, has_rejected, tallies_status, faulty_tally, NoneRefused, LeavesTable, question_text, AsksAbout, IsQueryOutput, IsAnswer}
use Rattle.rt_run.specs.Asked.{AddressContents, SaysRows}
use Rattle.rt_rib.specs.declared.selection.Selection.{Selection}
use Rattle.rt_run.specs.declared.question.Question.{Question}
use Rattle.rt_run.specs.declared.question.Question.TheVariants as ask
use Rattle.std.specs.declared.vec.Vec.{Vec}
use Rattle.std.specs.declared.alloc.Global.{Global}
use Rattle.rt_run.specs.SameTable.{table_alone, LeavesAlone, IsUnion, IsAnsweredAlone}
use Rattle.rt_run.specs.ChosenFeeds.{is_left_out, texts_kept}
use Rattle.rt_run.specs.ChosenFeeds.{AreWithout}
use Rattle.rt_run.specs.SameTable.{LosesLeftOut}
use Rattle.rt_run.specs.Shares.{share_with, is_of_other, share_of, AreTalliesOfShares}
use Rattle.rt_run.proofs.KeptTexts.{kept_length, kept_at}
use Rattle.std.proofs.lemmas.Bool.{cond-true, cond-false}
use Rattle.rt_rib.specs.declared.selection.PrefixFilter.{PrefixFilter}
use Rattle.rt_rib.specs.declared.selection.PrefixFilter.TheVariants as part

-- table_alone
what_south_leaves : table_alone 65536 2 (commands_of south_read) ≡ route_via ten_8 2 30 (via_192_0_2 2) ∷ []
unfolding table_alone table_after
what_south_leaves = refl

its_own_limit : table_alone 1 2 (commands_of east_read) ≡ route_via ten_9_16 2 10 Discard ∷ []
unfolding table_alone table_after
its_own_limit = refl

one_route_at_most : table_alone 1 2 ((Add ten_8 5 Discard, Refused) ∷ (Add ten_9_16 5 Discard, Did Added) ∷ []) ≡ route_via ten_8 2 5 Discard ∷ []
unfolding table_alone table_after
one_route_at_most = refl

-- LeavesAlone
a_route_of_south : LeavesAlone (north ∷ south ∷ east ∷ []) 65536 1 (route_via ten_8 2 30 (via_192_0_2 2))
unfolding table_alone table_after
a_route_of_south = (south, skipped ∷ south_read, refl, what_south_becomes, (0, omega arith, refl))

a_route_of_north : LeavesAlone (north ∷ south ∷ east ∷ []) 65536 0 (route_via ten_8 1 50 (via_192_0_2 1))
unfolding table_alone table_after
a_route_of_north = (north, north_read, refl, what_north_becomes, (0, omega arith, refl))

no_text_leaves_none : (k : ℕ) (r : Route) → ¬ LeavesAlone [] 65536 k r
no_text_leaves_none k r (text, lines, at, becomes, has) = cc

-- IsUnion
of_no_text : IsUnion [] 65536 []
of_no_text = record {
  table = record { ordered = λ i j d below within. absurd (omega (arith, within)); single = λ i j d below within. absurd (omega (arith, within)) };
  contains = λ r. (λ has. absurd (omega (arith, has.1)), λ leaves. absurd (no_text_leaves_none leaves.0 r leaves.1));
}

no_route_that_no_text_leaves : (r : Route) → ¬ IsUnion [] 65536 (r ∷ [])
no_route_that_no_text_leaves r h =
    let leaves = (h.contains r).0 (0, omega arith, refl) in no_text_leaves_none leaves.0 r leaves.1

-- texts_kept
the_middle_one_is_left_out : texts_kept (is_left_out [] (2 ∷ [])) 1 (north ∷ south ∷ east ∷ []) ≡ north ∷ [] ∷ east ∷ []
the_middle_one_is_left_out = refl

-- is_left_out
selected_but_left_out : is_left_out (1 ∷ 2 ∷ []) (2 ∷ []) 2 ≡ true
selected_but_left_out = refl

neither_of_the_two_selected : is_left_out (1 ∷ 3 ∷ []) [] 2 ≡ true
neither_of_the_two_selected = refl

-- three texts of which the second is left out
abbrev three_texts : List (List ℕ)
three_texts = (1 ∷ []) ∷ (2 ∷ []) ∷ (3 ∷ []) ∷ []

abbrev without_two : List (List ℕ)
without_two = (1 ∷ []) ∷ [] ∷ (3 ∷ []) ∷ []

abbrev only_two : ℕ → Bool
only_two = is_left_out [] (2 ∷ [])

-- is_of_other
the_second_is_of_another_run : is_of_other (0 ∷ 1 ∷ 0 ∷ []) 0 2 ≡ true
the_second_is_of_another_run = refl

the_third_is_of_this_run : is_of_other (0 ∷ 1 ∷ 0 ∷ []) 0 3 ≡ false
the_third_is_of_this_run = refl

-- share_with
the_first_run_has_what_is_not_dealt : share_with (1 ∷ []) 3 ≡ 0
the_first_run_has_what_is_not_dealt = refl

-- share_of
the_second_run_has_the_second_text : (share_of (record { texts = three_texts; limit = 9; batch = 1 }) (0 ∷ 1 ∷ 0 ∷ []) 1).texts ≡ [] ∷ (2 ∷ []) ∷ [] ∷ []
the_second_run_has_the_second_text = refl

-- AreTalliesOfShares
not_the_tally_that_another_run_has : (input : RunContents) (here there : RejectedInput) → length input.texts ≡ 1
    → AreTalliesOfShares input (1 ∷ []) ((here ∷ []) ∷ (there ∷ []) ∷ []) (here ∷ []) → here ≡ there
not_the_tally_that_another_run_has input here there one is = is.each 0 here (omega (arith, one))

-- AreWithout
the_others_stay : (k : ℕ) → only_two (k + 1) ≡ false → get_or without_two k [] ≡ get_or three_texts k []
the_others_stay zero stays = refl
the_others_stay (suc zero) stays = cc
the_others_stay (suc (suc k)) stays = refl

the_second_is_empty : (k : ℕ) → only_two (k + 1) ≡ true → get_or without_two k [] ≡ []
the_second_is_empty zero leaves = cc
the_second_is_empty (suc zero) leaves = refl
the_second_is_empty (suc (suc zero)) leaves = cc
the_second_is_empty (suc (suc (suc k))) leaves = refl

three_without_the_second : AreWithout only_two three_texts without_two
three_without_the_second = record { as_many = refl; others = the_others_stay; empty = the_second_is_empty }

not_if_it_is_read : ¬ AreWithout only_two three_texts three_texts
not_if_it_is_read h = let read = h.empty 1 refl in cc

not_if_another_is_left_out_too : ¬ AreWithout only_two three_texts ((1 ∷ []) ∷ [] ∷ [] ∷ [])
not_if_another_is_left_out_too h = let other = h.others 2 refl in cc

not_if_the_third_becomes_the_second : ¬ AreWithout only_two three_texts ((1 ∷ []) ∷ (3 ∷ []) ∷ [])
not_if_the_third_becomes_the_second h = let count = h.as_many in cc

-- the tutorial's files, of which south is left out: its route is gone, and that of north stays
abbrev the_three : List (List ℕ)
the_three = north ∷ south ∷ east ∷ []

the_three_without_south : AreWithout only_two the_three (texts_kept only_two 1 the_three)
the_three_without_south = record {
  as_many = kept_length only_two 1 the_three;
  others = λ k stays. kept_at only_two 1 the_three k ∙ cond-false (only_two (k + 1)) [] (get_or the_three k []) stays;
  empty = λ k leaves. kept_at only_two 1 the_three k ∙ cond-true (only_two (k + 1)) [] (get_or the_three k []) leaves;
}

-- LosesLeftOut
south_is_gone : LosesLeftOut → (union rest : List Route) → IsUnion the_three 65536 union → IsUnion (texts_kept only_two 1 the_three) 65536 rest
    → ¬ Contains rest (route_via ten_8 2 30 (via_192_0_2 2))
south_is_gone law union rest of_all of_rest has =
    let both = (law only_two the_three (texts_kept only_two 1 the_three) 65536 union rest the_three_without_south of_all of_rest
    (route_via ten_8 2 30 (via_192_0_2 2))).0 has in
    cc

north_stays : LosesLeftOut → (union rest : List Route) → IsUnion the_three 65536 union → IsUnion (texts_kept only_two 1 the_three) 65536 rest
    → Contains rest (route_via ten_8 1 50 (via_192_0_2 1))
north_stays law union rest of_all of_rest =
    (law only_two the_three (texts_kept only_two 1 the_three) 65536 union rest the_three_without_south of_all of_rest
    (route_via ten_8 1 50 (via_192_0_2 1))).1 ((of_all.contains (route_via ten_8 1 50 (via_192_0_2 1))).1 (0, a_route_of_north), refl)

-- IsAnsweredAlone
as_if_there_were_no_other : IsAnsweredAlone 1 2 ((Add ten_8 5 Discard, Did Added) ∷ [])
unfolding table_alone reply_of
as_if_there_were_no_other [] later cmd outcome same own =
    let first : (Add ten_8 5 Discard, Did Added) ≡ (cmd, outcome) = cc in
    subst (λ (one : Cmd × Outcome). one.1 ≡ Did (reply_of 1 (table_alone 1 2 []) 2 one.0)) first refl
as_if_there_were_no_other (x ∷ []) later cmd outcome same own = cc
as_if_there_were_no_other (x ∷ y ∷ earlier) later cmd outcome same own = cc

not_otherwise : ¬ IsAnsweredAlone 1 2 ((Add ten_8 5 Discard, Did Exists) ∷ [])
unfolding table_alone reply_of
not_otherwise h = let same = h [] [] (Add ten_8 5 Discard) (Did Exists) refl refl in cc

not_a_second_route_where_one_is_the_limit :
    ¬ IsAnsweredAlone 1 2 ((Add ten_8 5 Discard, Did Added) ∷ (Add ten_9_16 5 Discard, Did Added) ∷ [])
unfolding table_alone table_after reply_of
not_a_second_route_where_one_is_the_limit h =
    let same = h ((Add ten_8 5 Discard, Did Added) ∷ []) [] (Add ten_9_16 5 Discard) (Did Added) refl refl in cc

nor_its_withdrawal :
    ¬ IsAnsweredAlone 1 2 ((Add ten_8 5 Discard, Did Added) ∷ (Add ten_9_16 5 Discard, Did Full) ∷ (Withdraw ten_9_16, Did Withdrawn) ∷ [])
unfolding table_alone table_after reply_of
nor_its_withdrawal h =
    let same = h ((Add ten_8 5 Discard, Did Added) ∷ (Add ten_9_16 5 Discard, Did Full) ∷ []) [] (Withdraw ten_9_16) (Did Withdrawn) refl refl in cc

-- reports_of
each_from_line_1 : reports_of ((skipped ∷ asked Dump Refused ∷ []) ∷ [] ∷ []) ≡ (record { number = 2; answer = answer.Refused } ∷ []) ∷ [] ∷ []
each_from_line_1 = refl

-- reports_text
the_second_is_of_feed_2 :
    reports_text 1 (reports_of ((asked Dump Refused ∷ []) ∷ (skipped ∷ asked Dump (Did (Dumped 0)) ∷ []) ∷ [])) ≡ codes "1:1 refused\n2:2 dumped 0\n"
unfolding digits line_text answer_text reply_text
the_second_is_of_feed_2 = refl

-- some_refused
one_of_the_second_was : some_refused ((skipped ∷ []) ∷ (faulty fault.Hop ∷ asked Dump Refused ∷ []) ∷ []) ≡ true
one_of_the_second_was = refl

none_was : some_refused ((skipped ∷ faulty fault.Hop ∷ asked Dump (Did (Dumped 0)) ∷ []) ∷ [] ∷ []) ≡ false
none_was = refl

-- status_where
each_status : (status_where true true ≡ 5) × (status_where true false ≡ 5) × (status_where false true ≡ 2) × (status_where false false ≡ 0)
each_status = (refl, refl, refl, refl)

-- reports_status
all_was_done : reports_status (reports_of ((skipped ∷ asked Dump (Did (Dumped 0)) ∷ asked Dump (Did Full) ∷ []) ∷ [] ∷ [])) ≡ 0
all_was_done = refl

some_line_was_faulty : reports_status (reports_of ([] ∷ (faulty fault.Hop ∷ []) ∷ [])) ≡ 2
some_line_was_faulty = refl

a_refusal_before_a_fault : reports_status (reports_of ((faulty fault.Hop ∷ []) ∷ (asked Dump Refused ∷ []) ∷ [])) ≡ 5
a_refusal_before_a_fault = refl

-- two routes to one prefix, the better one first
abbrev two_to_ten_8 : List Route
two_to_ten_8 = route_via ten_8 2 30 Discard ∷ route_via ten_8 1 50 Discard ∷ []

-- routes as lines with their feeds' numbers
abbrev plain : StyleContents
plain = record { syntax = syntax.Line; labels = [] }

-- the selection of a part, of the best routes or of all, by feeds
abbrev asked_of : PrefixFilter → Bool → List ℕ → Selection
asked_of part only_best feeds = record { part = part; only_best = only_best; feeds = record { ref_ptr = (0, 0); now = feeds }; hop = None }

-- the selected routes, and their number
abbrev routes_text : StyleContents → Selection → List Route → List ℕ
routes_text style selection table = question_text style (ask.Routes selection) [] table

abbrev counts_text : StyleContents → Selection → List Route → List ℕ
counts_text style selection table = question_text style (ask.Counts selection) [] table

-- question_text
all_of_them : routes_text plain (asked_of part.All false []) two_to_ten_8 ≡ codes "10.0.0.0/8 feed 2 pref 30 via discard\n10.0.0.0/8 feed 1 pref 50 via discard\n"
unfolding digits address_text prefix_text rows_header row_as
all_of_them = refl

only_the_best : routes_text plain (asked_of part.All true []) two_to_ten_8 ≡ codes "10.0.0.0/8 feed 2 pref 30 via discard\n"
unfolding digits address_text prefix_text rows_header row_as
only_the_best = refl

only_a_feeds : routes_text plain (asked_of (part.Exact ten_8) false (1 ∷ [])) two_to_ten_8 ≡ codes "10.0.0.0/8 feed 1 pref 50 via discard\n"
unfolding digits address_text prefix_text rows_header row_as
only_a_feeds = refl

only_those_of_the_feeds_that_are_best :
    routes_text plain (asked_of part.All true (1 ∷ 2 ∷ [])) two_to_ten_8 ≡ codes "10.0.0.0/8 feed 2 pref 30 via discard\n"
unfolding digits address_text prefix_text rows_header row_as
only_those_of_the_feeds_that_are_best = refl

none_if_the_best_is_anothers : routes_text plain (asked_of part.All true (1 ∷ [])) two_to_ten_8 ≡ []
unfolding rows_header
none_if_the_best_is_anothers = refl

all_in_numbers : counts_text plain (asked_of part.All false []) two_to_ten_8
    ≡ codes "routes 2 prefixes 1\nfeed 1 routes 1\nfeed 2 routes 1\nlength 8 routes 2\n"
unfolding counts_as totals_as count_as digits
all_in_numbers = refl

only_the_best_in_numbers : counts_text plain (asked_of part.All true []) two_to_ten_8
    ≡ codes "routes 1 prefixes 1\nfeed 2 routes 1\nlength 8 routes 1\n"
unfolding counts_as totals_as count_as digits
only_the_best_in_numbers = refl

-- routes as objects
abbrev as_objects : StyleContents
as_objects = record { syntax = syntax.Json; labels = [] }

-- line_answer_text
invalid_lines_if_they_are_kept :
    (line_answer_text plain true (λ addr. []) (invalid_row 12) ≡ codes "12 invalid\n") × (line_answer_text plain false (λ addr. []) (invalid_row 12) ≡ [])
    × (line_answer_text as_objects true (λ addr. []) (invalid_row 12) ≡ codes "{\"line\":12,\"invalid\":true}\n")
    × (line_answer_text plain true (λ addr. codes "x") (address_row at_10_1_2_3) ≡ codes "x") × (line_answer_text plain false (λ addr. codes "x") (address_row at_10_1_2_3) ≡ codes "x")
unfolding digits invalid_as
invalid_lines_if_they_are_kept = (refl, refl, refl, refl, refl)

-- answers_text
one_is_covered_and_one_is_not :
    answers_text plain false (address_row at_10_1_2_3 ∷ invalid_row 2 ∷ address_row at_10_9_0_1 ∷ []) (route_via ten_1_16 1 10 Discard ∷ [])
    ≡ codes "10.1.2.3 route 10.1.0.0/16 feed 1 pref 10 via discard\n10.9.0.1 no route\n"
unfolding digits address_text prefix_text look_up found_as
one_is_covered_and_one_is_not = refl

an_invalid_line_between_them :
    answers_text plain true (address_row at_10_1_2_3 ∷ invalid_row 2 ∷ address_row at_10_9_0_1 ∷ []) (route_via ten_1_16 1 10 Discard ∷ [])
    ≡ codes "10.1.2.3 route 10.1.0.0/16 feed 1 pref 10 via discard\n2 invalid\n10.9.0.1 no route\n"
unfolding digits address_text prefix_text look_up found_as invalid_as
an_invalid_line_between_them = refl

-- all_answers_text
all_that_cover_each :
    all_answers_text plain true (address_row at_10_1_2_3 ∷ invalid_row 2 ∷ address_row at_10_9_0_1 ∷ []) (two_to_ten_8 ++ route_via ten_1_16 1 10 Discard ∷ [])
    ≡ codes "10.1.2.3 route 10.1.0.0/16 feed 1 pref 10 via discard\n10.1.2.3 also 10.0.0.0/8 feed 2 pref 30 via discard shorter\n"
    ++ codes "10.1.2.3 also 10.0.0.0/8 feed 1 pref 50 via discard shorter\n2 invalid\n10.9.0.1 route 10.0.0.0/8 feed 2 pref 30 via discard\n"
    ++ codes "10.9.0.1 also 10.0.0.0/8 feed 1 pref 50 via discard preference\n"
unfolding digits address_text prefix_text look_up_all all_found_as found_as reason_text invalid_as
all_that_cover_each = refl

-- an answer of each kind that a tally distinguishes
abbrev each_kind : List Answer
each_kind = answer.Did Full ∷ answer.Did Exists ∷ answer.Did Missing ∷ answer.Did Added ∷ answer.Refused ∷ answer.Fault fault.Hop ∷ []

-- was_full
full_alone : map was_full each_kind ≡ true ∷ false ∷ false ∷ false ∷ false ∷ false ∷ []
full_alone = refl

-- was_existing
existing_alone : map was_existing each_kind ≡ false ∷ true ∷ false ∷ false ∷ false ∷ false ∷ []
existing_alone = refl

-- was_missing
missing_alone : map was_missing each_kind ≡ false ∷ false ∷ true ∷ false ∷ false ∷ false ∷ []
missing_alone = refl

-- faults_of
the_second_and_the_third_line :
    faults_of (report_lines 3 (asked Dump Refused ∷ faulty fault.Hop ∷ faulty fault.Text ∷ [])) ≡ (4, fault.Hop) ∷ (5, fault.Text) ∷ []
the_second_and_the_third_line = refl

-- no rejected lines of a kind
abbrev no_lines : RejectedLines
no_lines = rejected_lines []

-- lines_where
the_lines_over_the_limit :
    lines_where was_full (report_lines 3 (asked Dump (Did Full) ∷ asked Dump (Did Exists) ∷ skipped ∷ asked Dump (Did Full) ∷ [])) ≡ 3 ∷ 6 ∷ []
the_lines_over_the_limit = refl

-- rejected_lines
their_number_and_the_first : (rejected_lines (3 ∷ 6 ∷ []) ≡ record { count = 2; first = Some 3 }) × (no_lines ≡ record { count = 0; first = None })
their_number_and_the_first = (refl, refl)

-- tally_of
the_second_line_has_the_first_fault :
    (tally_of (report_lines 3 (asked Dump Refused ∷ faulty fault.Hop ∷ faulty fault.Text ∷ []))).faulty.first ≡ Some (4, fault.Hop)
the_second_line_has_the_first_fault = refl

faults_and_an_add_over_the_limit :
    tally_of (report_lines 1 (faulty fault.Hop ∷ asked Dump (Did Full) ∷ skipped ∷ faulty fault.Text ∷ []))
    ≡ record { faulty = record { count = 2; first = Some (1, fault.Hop) }; full = record { count = 1; first = Some 2 }; existing = no_lines; missing = no_lines; refused = 0 }
faults_and_an_add_over_the_limit = refl

-- an add of a prefix that exists, and two commands about one that is missing
found_otherwise :
    tally_of (report_lines 1 (asked Dump (Did Exists) ∷ asked Dump (Did Missing) ∷ skipped ∷ asked Dump (Did Missing) ∷ []))
    ≡ record { faulty = record { count = 0; first = None }; full = no_lines; existing = record { count = 1; first = Some 1 }; missing = record { count = 2; first = Some 2 }; refused = 0 }
found_otherwise = refl

-- tally_of
refused_alone :
    tally_of (report_lines 1 (asked Dump Refused ∷ []))
    ≡ record { faulty = record { count = 0; first = None }; full = no_lines; existing = no_lines; missing = no_lines; refused = 1 }
refused_alone = refl

all_was_taken :
    tally_of (report_lines 1 (asked Dump (Did (Dumped 0)) ∷ []))
    ≡ record { faulty = record { count = 0; first = None }; full = no_lines; existing = no_lines; missing = no_lines; refused = 0 }
all_was_taken = refl

-- has_refused
a_refusal_alone :
    (has_refused (tally_of (report_lines 1 (skipped ∷ asked Dump Refused ∷ []))) ≡ true)
    × (has_refused (tally_of (report_lines 1 (faulty fault.Hop ∷ asked Dump (Did Full) ∷ []))) ≡ false)
a_refusal_alone = (refl, refl)

-- has_rejected
a_faulty_line_is_left_out : has_rejected (tally_of (report_lines 1 (faulty fault.Hop ∷ []))) ≡ true
a_faulty_line_is_left_out = refl

an_add_over_the_limit_is_left_out : has_rejected (tally_of (report_lines 1 (asked Dump (Did Full) ∷ []))) ≡ true
an_add_over_the_limit_is_left_out = refl

all_else_is_not : has_rejected (tally_of (report_lines 1 (skipped ∷ asked Dump Refused ∷ asked Dump (Did Exists) ∷ asked Dump (Did Missing) ∷ []))) ≡ false
all_else_is_not = refl

-- tallies_status
an_add_over_the_limit_makes_it_2 : tallies_status (map tally_of (reports_of ((skipped ∷ []) ∷ (asked Dump (Did Full) ∷ []) ∷ []))) ≡ 2
an_add_over_the_limit_makes_it_2 = refl

-- a text of one line, and its entry
abbrev text : List ℕ
text = codes "dump\n"

abbrev dumped : Entry
dumped = record { feed = 1; cmd = Dump; reply = Dumped 0 }

abbrev lines : List LineOutcome
lines = asked Dump (Did (Dumped 0)) ∷ []

-- it is lawful by itself
nothing_else : (earlier : List Entry) (e : Entry) (later : List Entry) → [] ≢ earlier ++ e ∷ later
nothing_else [] e later same = cc
nothing_else (x ∷ earlier) e later same = cc

answered : (earlier : List Entry) (e : Entry) (later : List Entry) → dumped ∷ [] ≡ earlier ++ e ∷ later → IsAnswered 1 earlier e
unfolding table_of_journal reply_of
answered [] e later same = let one : dumped ≡ e = cc in subst (λ x. IsAnswered 1 [] x) one refl
answered (x ∷ earlier) e later same = let none : [] ≡ earlier ++ e ∷ later = cc in absurd (nothing_else earlier e later none)

lawful : IsLawfulJournal 1 (dumped ∷ [])
lawful = record { answered = answered }

abbrev NoLF : ℕ → Type 0
NoLF byte = byte ≢ 10

-- its first line ends at the LF, and isn't `version 2`
cut_after_dump : CutsLine text (codes "dump") []
cut_after_dump = record {
  unbroken =
      All-cons NoLF 100 (codes "ump") (λ e. omega (arith, e))
      (All-cons NoLF 117 (codes "mp") (λ e. omega (arith, e))
      (All-cons NoLF 109 (codes "p") (λ e. omega (arith, e)) (All-cons NoLF 112 [] (λ e. omega (arith, e)) (All-nil NoLF))));
  ended = inl refl;
}

of_version_1 : (rest : List ℕ) → ¬ HasVersion2Header text rest
of_version_1 rest h = elim h.ended [
  | inl ended ↦ cc
  | inr whole ↦ cc
]

-- entries of a feed, each as its own visit, are uncut among the entries of the others
abbrev alone : List Entry → List (List Entry)
alone [] = []
alone (e ∷ entries) = (e ∷ []) ∷ alone entries

behind_another : (feed : ℕ) (e : Entry) (visits : List (List Entry)) (journal : List Entry) → e.feed ≢ feed
    → IsContiguousIn feed visits journal → IsContiguousIn feed visits (e ∷ journal)
behind_another feed e [] journal other none = All-cons (λ e. e.feed ≢ feed) e journal other none
behind_another feed e (visit ∷ visits) journal other (before, rest, same, none, own, uncut) =
    (e ∷ before, rest, ap (λ entries. e ∷ entries) same, All-cons (λ e. e.feed ≢ feed) e before other none, own, uncut)

each_alone : (feed : ℕ) (journal : List Entry) → IsContiguousIn feed (alone (filter (λ e. e.feed == feed) journal)) journal
each_alone feed [] = All-nil (λ e. e.feed ≢ feed)
each_alone feed (e ∷ journal) = by (e.feed == feed) refl (each_alone feed journal)
  where
    by : (own : Bool) → (e.feed == feed) ≡ own → IsContiguousIn feed (alone (filter (λ e. e.feed == feed) journal)) journal
        → IsContiguousIn feed (alone (if own then e ∷ filter (λ e. e.feed == feed) journal else filter (λ e. e.feed == feed) journal)) (e ∷ journal)
    by true is uncut = (
      [],
      journal,
      refl,
      All-nil (λ e. e.feed ≢ feed),
      All-cons (λ e. e.feed ≡ feed) e [] (eqb-true e.feed feed is) (All-nil (λ e. e.feed ≡ feed)),
      uncut,
    )
    by false is uncut = behind_another feed e (alone (filter (λ e. e.feed == feed) journal)) journal (eqb-false e.feed feed is) uncut

-- entries of these feeds, by their numbers
by_range : (last : ℕ) (entries : List Entry) → list_all (λ e. nat_le 1 e.feed && nat_le e.feed last) entries ≡ true
    → All (λ (e : Entry). (1 ≤ e.feed) × (e.feed ≤ last)) entries
by_range last [] all = All-nil (λ (e : Entry). (1 ≤ e.feed) × (e.feed ≤ last))
by_range last (e ∷ entries) all =
    let parts = and_parts (nat_le 1 e.feed && nat_le e.feed last) (list_all (λ e. nat_le 1 e.feed && nat_le e.feed last) entries) all in
    let both = and_parts (nat_le 1 e.feed) (nat_le e.feed last) parts.0 in
    All-cons (λ (e : Entry). (1 ≤ e.feed) × (e.feed ≤ last)) e entries (leb-true 1 e.feed both.0, leb-true e.feed last both.1) (by_range last entries parts.1)

-- a list divided into pieces of one
abbrev singles : {X : Type 0} → List X → List (List X)
singles xs = map (λ x. x ∷ []) xs

each_is_one : {X : Type 0} (xs : List X) → All (λ piece. length piece ≡ 1) (singles xs)
each_is_one [] = All-nil (λ piece. length piece ≡ 1)
each_is_one (x ∷ xs) = All-cons (λ piece. length piece ≡ 1) (x ∷ []) (singles xs) refl (each_is_one xs)

singles_joined : {X : Type 0} (xs : List X) → xs ≡ concatenated (singles xs) ++ []
singles_joined [] = refl
singles_joined (x ∷ xs) = ap (λ rest. x ∷ rest) (singles_joined xs)

cut_in_ones : {X : Type 0} (xs : List X) → IsSplitInto 1 xs (singles xs)
cut_in_ones xs = record {
  whole = singles xs;
  last = [];
  full = each_is_one xs;
  fewer = omega arith;
  is_joined = singles_joined xs;
  is_cut = sym (append-nil (singles xs));
}

-- IsJournalOfRun
the_history_of_a_dump : IsJournalOfRun (text ∷ []) 1 1 (dumped ∷ []) (lines ∷ [])
the_history_of_a_dump = record {
  lawful = lawful;
  explained = (
    record {
      becomes = record {
        version = One;
        lines = text;
        read = lines;
        body = (of_version_1, refl);
        become = (codes "dump", [], cut_after_dump, (refl, refl), refl);
        joined = refl;
      };
      pieces = commands_of lines ∷ [];
      cut = cut_in_ones (commands_of lines);
      uncut = each_alone 1 (dumped ∷ []);
    },
    tt,
  );
  no_other = by_range 1 (dumped ∷ []) refl;
}

-- IsRunText
the_run_of_a_dump : IsRunText (text ∷ []) 1 1 (codes "1:1 dumped 0\ntable 0\n") 0
unfolding digits table_of_journal table_after reply_of line_text answer_text reply_text count_text
the_run_of_a_dump = record {
  journal = dumped ∷ [];
  outcomes = lines ∷ [];
  history = the_history_of_a_dump;
  printed = refl;
  is_status = refl;
}

-- the lines of a text are explained, one command at a time, if their entries are the feed's in the tutorial
one_by_one : (feed : ℕ) (text : List ℕ) (lines : List LineOutcome) → TextYields text lines []
    → map (entries feed) (map visit_of (singles (commands_of lines))) ≡ alone (filter (λ e. e.feed == feed) tutorial)
    → Explains 1 feed tutorial text lines
one_by_one feed text lines becomes same = record {
  becomes = becomes;
  pieces = singles (commands_of lines);
  cut = cut_in_ones (commands_of lines);
  uncut = subst (λ visits. IsContiguousIn feed visits tutorial) (sym same) (each_alone feed tutorial);
}

-- Explains
the_lines_of_north : Explains 1 1 tutorial north north_read
the_lines_of_north = one_by_one 1 north north_read what_north_becomes refl

the_lines_of_south : Explains 1 2 tutorial south (skipped ∷ south_read)
the_lines_of_south = one_by_one 2 south (skipped ∷ south_read) what_south_becomes refl

the_lines_of_east : Explains 1 3 tutorial east (skipped ∷ east_read)
the_lines_of_east = one_by_one 3 east (skipped ∷ east_read) what_east_becomes refl

the_same_lines_in_pieces_of_two : Explains 2 1 tutorial north north_read
the_same_lines_in_pieces_of_two = record {
  becomes = what_north_becomes;
  pieces = take 2 (commands_of north_read) ∷ drop 2 (commands_of north_read) ∷ [];
  cut = record {
    whole = take 2 (commands_of north_read) ∷ [];
    last = drop 2 (commands_of north_read);
    full = All-cons (λ piece. length piece ≡ 2) (take 2 (commands_of north_read)) [] refl (All-nil (λ piece. length piece ≡ 2));
    fewer = omega arith;
    is_joined = refl;
    is_cut = refl;
  };
  uncut = (
    [],
    drop 2 tutorial,
    refl,
    All-nil (λ (e : Entry). e.feed ≢ 1),
    All-cons (λ (e : Entry). e.feed ≡ 1) (entry 1 (Add ten_8 50 (via_192_0_2 1)) Added) (entry 1 (Add ten_1_16 10 (via_192_0_2 1)) Added ∷ []) refl
        (All-cons (λ (e : Entry). e.feed ≡ 1) (entry 1 (Add ten_1_16 10 (via_192_0_2 1)) Added) [] refl (All-nil (λ (e : Entry). e.feed ≡ 1))),
    each_alone 1 (drop 2 tutorial),
  );
}

-- the pieces of a list, one after another, are the list
joined_again : {X : Type 0} (size : ℕ) (xs : List X) (pieces : List (List X)) → IsSplitInto size xs pieces → concatenated pieces ≡ xs
joined_again size xs pieces cut = ap concatenated cut.is_cut ∙ (cut-joined cut.whole cut.last ∙ sym cut.is_joined)

-- a command that was answered in a piece has its entry
rest_is_none : (before rest : List Entry) → [] ≡ before ++ rest → [] ≡ rest
rest_is_none [] rest same = same
rest_is_none (x ∷ before) rest same = cc

no_entry : (pieces : List (List (Cmd × Outcome))) → concatenated pieces ≡ commands_of lines → ¬ IsContiguousIn 1 (map (entries 1) (map visit_of pieces)) []
no_entry [] all uncut = cc
no_entry ([] ∷ pieces) all (before, rest, same, none, own, more) =
    no_entry pieces all (subst (IsContiguousIn 1 (map (entries 1) (map visit_of pieces))) (sym (rest_is_none before rest same)) more)
no_entry ((one ∷ piece) ∷ pieces) all (before, rest, same, none, own, more) =
    let first : one ≡ (Dump, Did (Dumped 0)) = cc in
    let is = subst (λ (o : Cmd × Outcome). [] ≡ before ++ (entries 1 (visit_of (o ∷ piece)) ++ rest)) first same in
    nothing_else before dumped (entries 1 (visit_of piece) ++ rest) is

-- Explains
not_by_an_empty_journal : ¬ Explains 1 1 [] text lines
not_by_an_empty_journal h = no_entry h.pieces (joined_again 1 (commands_of lines) h.pieces h.cut) h.uncut

not_in_fewer_pieces_than_hold_all : ¬ ((h : Explains 1 1 (dumped ∷ []) text lines) × (h.pieces ≡ []))
not_in_fewer_pieces_than_hold_all (h, none) =
    let all : [] ≡ commands_of lines = subst (λ pieces. concatenated pieces ≡ commands_of lines) none (joined_again 1 (commands_of lines) h.pieces h.cut) in cc

-- ExplainsFrom
each_by_its_feed : ExplainsFrom 1 1 tutorial (north ∷ south ∷ east ∷ []) (north_read ∷ (skipped ∷ south_read) ∷ (skipped ∷ east_read) ∷ [])
each_by_its_feed = (the_lines_of_north, (the_lines_of_south, (the_lines_of_east, tt)))

no_lines_of_no_text :
    (batch feed : ℕ) (journal : List Entry) (lines : List LineOutcome) (outcomes : List (List LineOutcome))
    → ¬ ExplainsFrom batch feed journal [] (lines ∷ outcomes)
no_lines_of_no_text batch feed journal its_lines outcomes h = h

no_text_left_out :
    (batch feed : ℕ) (journal : List Entry) (text : List ℕ) (texts : List (List ℕ)) → ¬ ExplainsFrom batch feed journal (text ∷ texts) []
no_text_left_out batch feed journal its_text texts h = h

-- the output of the tutorial's run
abbrev the_tutorials_page : List ℕ
the_tutorials_page =
    codes "1:2 added\n1:3 added\n1:4 route 10.1.0.0/16 feed 1 pref 10 via 192.0.2.1\n"
    ++ codes "2:3 added\n2:4 added\n2:5 purged 2\n2:6 added\n"
    ++ codes "3:3 added\n3:4 added\n3:5 withdrawn\n3:6 route 10.9.0.0/16 feed 3 pref 10 via discard\n"
    ++ codes "table 4\n10.0.0.0/8 feed 2 pref 30 via 192.0.2.2\n10.0.0.0/8 feed 1 pref 50 via 192.0.2.1\n"
    ++ codes "10.1.0.0/16 feed 1 pref 10 via 192.0.2.1\n10.9.0.0/16 feed 3 pref 10 via discard\n"

-- IsJournalOfRun
the_history_of_the_tutorial : IsJournalOfRun (north ∷ south ∷ east ∷ []) 65536 1 tutorial (north_read ∷ (skipped ∷ south_read) ∷ (skipped ∷ east_read) ∷ [])
the_history_of_the_tutorial = record {
  lawful = the_journal_of_the_tutorial;
  explained = each_by_its_feed;
  no_other = by_range 3 tutorial refl;
}

-- IsRunText
the_run_of_the_tutorial : IsRunText (north ∷ south ∷ east ∷ []) 65536 1 the_tutorials_page 0
unfolding digits address_text prefix_text line_text answer_text reply_text count_text row_text route_text
the_run_of_the_tutorial = record {
  journal = tutorial;
  outcomes = north_read ∷ (skipped ∷ south_read) ∷ (skipped ∷ east_read) ∷ [];
  history = the_history_of_the_tutorial;
  printed = rw the_table_of_the_tutorial refl;
  is_status = refl;
}

nothing_printed_is_no_run : (texts : List (List ℕ)) (limit batch status : ℕ) → ¬ IsRunText texts limit batch [] status
unfolding count_text
nothing_printed_is_no_run texts limit batch status h = ends (reports_text 1 (reports_of h.outcomes)) h.printed
  where
    ends : (reports : List ℕ) → [] ≢ reports ++ table_text (table_of_journal limit h.journal)
    ends [] same = cc
    ends (byte ∷ reports) same = cc

-- a status is 5, 2 or 0
none_is_1 : (refused wrong : Bool) → ◌≢◌ {A = ℕ} 1 (if refused then 5 else if wrong then 2 else 0)
none_is_1 true wrong same = cc
none_is_1 false true same = cc
none_is_1 false false same = cc

-- IsRunText
no_run_has_status_1 : (texts : List (List ℕ)) (limit batch : ℕ) (bytes : List ℕ) → ¬ IsRunText texts limit batch bytes 1
no_run_has_status_1 texts limit batch bytes h =
    none_is_1 (list_any has_refusal (reports_of h.outcomes)) (list_any has_fault (reports_of h.outcomes)) h.is_status

-- WritesOrFails
behind_what_the_writer_had : WritesOrFails (IsRunText (text ∷ []) 1 1) (Some (codes "x")) (Some (codes "x1:1 dumped 0\ntable 0\n")) (Ok 0)
behind_what_the_writer_had = (codes "1:1 dumped 0\ntable 0\n", the_run_of_a_dump, refl)

nothing_but_the_text_of_a_run :
    (texts : List (List ℕ)) (limit batch : ℕ) (new : List ℕ) (status : ℕ) → WritesOrFails (IsRunText texts limit batch) (Some []) (Some new) (Ok status)
    → IsRunText texts limit batch new status
nothing_but_the_text_of_a_run texts limit batch new status (bytes, is, same) =
    let all : bytes ≡ new = sym same in subst (λ b. IsRunText texts limit batch b status) all is

nothing_where_it_was_refused : WritesOrFails (IsRunText [] 1 1) (Some (codes "x")) (Some (codes "x")) (Err (Run run.NoText))
nothing_where_it_was_refused = ((λ same. cc), refl)

a_beginning_where_it_could_not_be_written : WritesOrFails (IsRunText (text ∷ []) 1 1) (Some []) (Some (codes "1:1 dum")) (Err Write)
a_beginning_where_it_could_not_be_written = (codes "1:1 dumped 0\ntable 0\n", 0, the_run_of_a_dump, record { count = 7; within = omega arith; appended = refl })

a_beginning_of_whatever_was_to_be_written :
    (texts : List (List ℕ)) (limit batch status : ℕ) → IsRunText texts limit batch (codes "table 0\n") status
    → WritesOrFails (IsRunText texts limit batch) (Some (codes "x")) (Some (codes "xtab")) (Err Write)
a_beginning_of_whatever_was_to_be_written texts limit batch status is =
    (codes "table 0\n", status, is, record { count = 3; within = omega arith; appended = refl })

never_as_F2 : ¬ WritesOrFails (IsRunText (text ∷ []) 1 1) (Some []) (Some []) (Err (Run run.FeedCount))
never_as_F2 h = h.0 refl

nothing_else_as_F1 : ¬ WritesOrFails (IsRunText [] 1 1) (Some []) (Some (codes "x")) (Err (Run run.NoText))
nothing_else_as_F1 h = let same = h.1 in cc

nothing_else_as_F3 : ¬ WritesOrFails (IsRunText (text ∷ []) 1 1) (Some []) (Some (codes "x")) (Err (Run run.Memory))
nothing_else_as_F3 h = let same = h.1 in cc

never_as_a_replay : ¬ WritesOrFails (IsRunText (text ∷ []) 1 1) (Some []) (Some []) (Err (Replay replay.Place))
never_as_a_replay h = h

nothing_lost_where_it_could_not_be_written : ¬ WritesOrFails (IsRunText (text ∷ []) 1 1) (Some (codes "x")) (Some []) (Err Write)
nothing_lost_where_it_could_not_be_written (bytes, status, is, begins) = let lost : [] ≡ 120 ∷ take begins.count bytes = begins.appended in cc

never_without_a_text : ¬ WritesOrFails (IsRunText (text ∷ []) 1 1) (Some []) (Some []) (Ok 0)
never_without_a_text (bytes, is, same) =
    let none : [] ≡ bytes = same in
    nothing_printed_is_no_run (text ∷ []) 1 1 0 (subst (λ b. IsRunText (text ∷ []) 1 1 b 0) (sym none) is)

-- the outcomes of each text of the tutorial
abbrev the_tutorials_outcomes : List (List LineOutcome)
the_tutorials_outcomes = north_read ∷ (skipped ∷ south_read) ∷ (skipped ∷ east_read) ∷ []

-- runs of these texts, with a limit and a batch of 1, and the run of the tutorial
abbrev one_by_one_of : List (List ℕ) → RunContents
one_by_one_of texts = record { texts = texts; limit = 1; batch = 1 }

abbrev the_tutorials_run : RunContents
the_tutorials_run = record { texts = north ∷ south ∷ east ∷ []; limit = 65536; batch = 1 }

-- faulty_tally
no_rejected_input_but_faulty_lines : (faulty_tally (record { count = 0; first = None }) ≡ tally_of []) × (has_rejected (faulty_tally (record { count = 1; first = Some (3, fault.Text) })) ≡ true)
no_rejected_input_but_faulty_lines = (refl, refl)

-- NoneRefused
a_fault_is_no_refusal :
    NoneRefused (map tally_of (reports_of ((faulty fault.Hop ∷ []) ∷ (asked Dump (Did Full) ∷ []) ∷ [])))
    × (¬ NoneRefused (map tally_of (reports_of ((skipped ∷ []) ∷ (asked Dump Refused ∷ []) ∷ []))))
a_fault_is_no_refusal = (refl, λ same. cc)

-- LeavesTable
what_the_tutorial_leaves :
    (tallies : List RejectedInput) → tallies ≡ map tally_of (reports_of the_tutorials_outcomes) → LeavesTable the_tutorials_run (table_of_journal 65536 tutorial) tallies
what_the_tutorial_leaves tallies tallied = record {
  journal = tutorial;
  outcomes = the_tutorials_outcomes;
  history = the_history_of_the_tutorial;
  left = refl;
  tallied = tallied;
}

-- IsQueryOutput
what_is_told_of_the_tutorial :
    (text_of : List Route → List ℕ) (tallies : List RejectedInput) → tallies ≡ map tally_of (reports_of the_tutorials_outcomes)
    → IsQueryOutput the_tutorials_run text_of (text_of (table_of_journal 65536 tutorial)) tallies
what_is_told_of_the_tutorial text_of tallies tallied = record {
  table = table_of_journal 65536 tutorial;
  leaves = what_the_tutorial_leaves tallies tallied;
  shown = refl;
}

no_table_untold : (bytes : List ℕ) → ¬ IsQueryOutput (one_by_one_of (text ∷ [])) table_text bytes []
no_table_untold bytes h = by h.leaves.outcomes h.leaves.history.explained h.leaves.tallied
  where
    by : (outcomes : List (List LineOutcome)) → ExplainsFrom 1 1 h.leaves.journal (text ∷ []) outcomes
        → ◌≢◌ {A = List RejectedInput} [] (map tally_of (reports_of outcomes))
    by [] explained same = explained
    by (one ∷ others) explained same = let some : [] ≡ tally_of (report_lines 1 one) ∷ map tally_of (reports_of others) = same in cc

-- without texts there is neither a feed nor an entry
nobody_asks : (journal : List Entry) → All (λ (e : Entry). (1 ≤ e.feed) × (e.feed ≤ 0)) journal → journal ≡ []
nobody_asks [] all = refl
nobody_asks (e ∷ journal) all = let its = all 0 e (omega arith) in absurd (omega (arith, its.0, its.1))

-- the number of routes, as a byte
abbrev length_text : List Route → List ℕ
length_text table = length table ∷ []

-- IsQueryOutput
no_route_of_no_text : (tallies : List RejectedInput) → ¬ IsQueryOutput (one_by_one_of []) length_text (1 ∷ []) tallies
unfolding table_of_journal
no_route_of_no_text tallies h =
    let no_entries = nobody_asks h.leaves.journal h.leaves.history.no_other in
    let none : ◌≡◌ {A = List ℕ} (1 ∷ []) (0 ∷ []) = h.shown ∙ ap length_text (h.leaves.left ∙ ap (table_of_journal 1) no_entries) in cc

-- one named address and those of the text
abbrev one_and_a_text : Bool → AddressContents
one_and_a_text keeps = record { named = at_10_9_0_1 ∷ []; text = asked_text; keeps_invalid = keeps }

-- the best route of one named address and of those of the text; and all their routes
abbrev the_best_of_one_and_a_text : Question
the_best_of_one_and_a_text = ask.Best (record { ref_ptr = (0, 0); now = one_and_a_text true })

abbrev all_of_one_and_a_text : Question
all_of_one_and_a_text = ask.All (record { ref_ptr = (0, 0); now = one_and_a_text false })

-- every route of the table, and their number
abbrev every_route : Question
every_route = ask.Routes (asked_of part.All false [])

abbrev every_route_and_the_number : Question
every_route_and_the_number = ask.RoutesAndTotal (asked_of part.All false [])

abbrev the_number_of_all : Question
the_number_of_all = ask.Counts (asked_of part.All false [])

-- SaysRows
the_named_one_and_then_those_of_the_text :
    (keeps : Bool) → SaysRows (one_and_a_text keeps) (address_row at_10_9_0_1 ∷ asked_rows) (record { count = 1; first = Some (3, fault.Text) })
the_named_one_and_then_those_of_the_text keeps = record { said = asked_rows; says = two_are_asked_and_a_line_is_faulty; in_order = refl }

no_rows_without_the_named_one : (keeps : Bool) (told : FaultyLines) → ¬ SaysRows (one_and_a_text keeps) [] told
no_rows_without_the_named_one keeps told h = let none : ◌≡◌ {A = ℕ} 0 (suc (length h.said)) = ap length h.in_order in cc

-- AsksAbout
look_ups_have_rows_and_a_tally :
    AsksAbout the_best_of_one_and_a_text (address_row at_10_9_0_1 ∷ asked_rows) (faulty_tally (record { count = 1; first = Some (3, fault.Text) }) ∷ [])
    × AsksAbout all_of_one_and_a_text (address_row at_10_9_0_1 ∷ asked_rows) (faulty_tally (record { count = 1; first = Some (3, fault.Text) }) ∷ [])
look_ups_have_rows_and_a_tally =
    let one : FaultyLines = record { count = 1; first = Some (3, fault.Text) } in
    ((one, the_named_one_and_then_those_of_the_text true, refl), (one, the_named_one_and_then_those_of_the_text false, refl))

routes_have_neither : AsksAbout every_route [] [] × AsksAbout every_route_and_the_number [] [] × AsksAbout the_number_of_all [] []
routes_have_neither = ((refl, refl), (refl, refl), (refl, refl))

no_tally_of_no_addresses : (tally : RejectedInput) → ¬ AsksAbout every_route [] (tally ∷ [])
no_tally_of_no_addresses tally h = let none : ◌≡◌ {A = List RejectedInput} (tally ∷ []) [] = h.1 in cc

no_look_up_without_a_tally : (rows : List AddressRow) → ¬ AsksAbout the_best_of_one_and_a_text rows []
no_look_up_without_a_tally rows h = let none : ◌≡◌ {A = List RejectedInput} [] (faulty_tally h.0 ∷ []) = h.2 in cc

-- question_text
routes_and_their_numbers :
    (question_text plain every_route [] two_to_ten_8 ≡ codes "10.0.0.0/8 feed 2 pref 30 via discard\n10.0.0.0/8 feed 1 pref 50 via discard\n")
    × (question_text plain every_route_and_the_number [] two_to_ten_8
    ≡ codes "10.0.0.0/8 feed 2 pref 30 via discard\n10.0.0.0/8 feed 1 pref 50 via discard\ntotal 2\n")
    × (question_text plain the_number_of_all [] two_to_ten_8 ≡ codes "routes 2 prefixes 1\nfeed 1 routes 1\nfeed 2 routes 1\nlength 8 routes 2\n")
unfolding digits address_text prefix_text rows_header row_as total_as counts_as totals_as count_as
routes_and_their_numbers = (refl, refl, refl)

all_or_the_best :
    (question_text plain the_best_of_one_and_a_text (address_row at_10_1_2_3 ∷ invalid_row 2 ∷ []) two_to_ten_8
    ≡ codes "10.1.2.3 route 10.0.0.0/8 feed 2 pref 30 via discard\n2 invalid\n")
    × (question_text plain all_of_one_and_a_text (address_row at_10_1_2_3 ∷ invalid_row 2 ∷ []) two_to_ten_8
    ≡ codes "10.1.2.3 route 10.0.0.0/8 feed 2 pref 30 via discard\n10.1.2.3 also 10.0.0.0/8 feed 1 pref 50 via discard preference\n")
unfolding digits address_text prefix_text look_up look_up_all found_header found_as all_found_header all_found_as reason_text invalid_as
all_or_the_best = (refl, refl)

-- routes as CSV
abbrev as_fields : StyleContents
as_fields = record { syntax = syntax.Csv; labels = (1, codes "1,a,a.feed") ∷ (2, codes "2,b,b.feed") ∷ [] }

-- question_text
the_header_and_then_the_rows : question_text as_fields every_route [] two_to_ten_8
    ≡ (codes "prefix,feed,name,file,pref,via,discard" ++ 13 ∷ 10 ∷ [])
    ++ (codes "10.0.0.0/8,2,b,b.feed,30,,true" ++ 13 ∷ 10 ∷ []) ++ (codes "10.0.0.0/8,1,a,a.feed,50,,true" ++ 13 ∷ 10 ∷ [])
unfolding digits address_text prefix_text rows_header csv_field row_as route_record
the_header_and_then_the_rows = refl

the_header_of_no_row : (question_text as_fields every_route [] [] ≡ codes "prefix,feed,name,file,pref,via,discard" ++ 13 ∷ 10 ∷ [])
    × (question_text as_fields the_best_of_one_and_a_text [] [] ≡ codes "address,prefix,feed,name,file,pref,via,discard" ++ 13 ∷ 10 ∷ [])
unfolding rows_header found_header csv_field
the_header_of_no_row = (refl, refl)

-- IsAnswer
the_named_one_before_the_two_of_the_text :
    (tallies : Vec RejectedInput Global)
    → tallies.items ≡ map tally_of (reports_of the_tutorials_outcomes) ++ faulty_tally (record { count = 1; first = Some (3, fault.Text) }) ∷ []
    → IsAnswer the_tutorials_run plain the_best_of_one_and_a_text
    (answers_text plain true (address_row at_10_9_0_1 ∷ address_row at_192_0_2_1 ∷ invalid_row 3 ∷ address_row at_10_1_2_3 ∷ []) (table_of_journal 65536 tutorial))
    (record { status = 2; tallies = tallies })
unfolding found_header
the_named_one_before_the_two_of_the_text tallies tallied = record {
  rows = address_row at_10_9_0_1 ∷ asked_rows;
  others = faulty_tally (record { count = 1; first = Some (3, fault.Text) }) ∷ [];
  asks = (record { count = 1; first = Some (3, fault.Text) }, the_named_one_and_then_those_of_the_text true, refl);
  tallies = map tally_of (reports_of the_tutorials_outcomes);
  shown = what_is_told_of_the_tutorial (answers_text plain true (address_row at_10_9_0_1 ∷ asked_rows)) (map tally_of (reports_of the_tutorials_outcomes)) refl;
  tallied = tallied;
  is_status = rw tallied refl;
}

no_answer_has_status_1 :
    (request : RunContents) (style : StyleContents) (question : Question) (bytes : List ℕ) (given : RunSummary) → given.status ≡ 1 → ¬ IsAnswer request style question bytes given
no_answer_has_status_1 request style question bytes given one h =
    none_is_1 (list_any has_refused given.tallies.items) (list_any has_rejected given.tallies.items) (sym one ∙ h.is_status)

-- WritesOrFails
nothing_but_what_is_told :
    (request : RunContents) (text_of : List Route → List ℕ) (new : List ℕ) (tallies : List RejectedInput)
    → WritesOrFails (IsQueryOutput request text_of) (Some []) (Some new) (Ok tallies) → IsQueryOutput request text_of new tallies
nothing_but_what_is_told request text_of new tallies (bytes, is, same) =
    let all : bytes ≡ new = sym same in subst (λ b. IsQueryOutput request text_of b tallies) all is

no_table_in_place_of_what_the_writer_had :
    (tallies : List RejectedInput) → ¬ WritesOrFails (IsQueryOutput (one_by_one_of (text ∷ [])) table_text) (Some (codes "x")) (Some []) (Ok tallies)
no_table_in_place_of_what_the_writer_had tallies (bytes, is, same) = let lost : [] ≡ 120 ∷ bytes = same in cc

no_table_where_it_was_refused : WritesOrFails (IsQueryOutput (one_by_one_of []) table_text) (Some (codes "x")) (Some (codes "x")) (Err (Run run.NoText))
no_table_where_it_was_refused = ((λ same. cc), refl)

no_other_bytes_as_F1 : ¬ WritesOrFails (IsQueryOutput (one_by_one_of []) table_text) (Some []) (Some (codes "x")) (Err (Run run.NoText))
no_other_bytes_as_F1 h = let same = h.1 in cc

no_other_bytes_as_F3 : ¬ WritesOrFails (IsQueryOutput (one_by_one_of (text ∷ [])) table_text) (Some []) (Some (codes "x")) (Err (Run run.Memory))
no_other_bytes_as_F3 h = let same = h.1 in cc

a_table_is_never_refused_as_F2 : ¬ WritesOrFails (IsQueryOutput (one_by_one_of (text ∷ [])) table_text) (Some []) (Some []) (Err (Run run.FeedCount))
a_table_is_never_refused_as_F2 h = h.0 refl

nor_as_a_replay : ¬ WritesOrFails (IsQueryOutput (one_by_one_of (text ∷ [])) table_text) (Some []) (Some []) (Err (Replay replay.Place))
nor_as_a_replay h = h

a_beginning_of_it_where_it_could_not_be_written :
    (request : RunContents) (text_of : List Route → List ℕ) (tallies : List RejectedInput) → IsQueryOutput request text_of (codes "table 0\n") tallies
    → WritesOrFails (IsQueryOutput request text_of) (Some (codes "x")) (Some (codes "xtab")) (Err Write)
a_beginning_of_it_where_it_could_not_be_written request text_of tallies is =
    (codes "table 0\n", tallies, is, record { count = 3; within = omega arith; appended = refl })

no_bytes_lost_where_the_table_could_not_be_written :
    ¬ WritesOrFails (IsQueryOutput (one_by_one_of (text ∷ [])) table_text) (Some (codes "x")) (Some []) (Err Write)
no_bytes_lost_where_the_table_could_not_be_written (bytes, summary, is, begins) = let lost : [] ≡ 120 ∷ take begins.count bytes = begins.appended in cc

-- IsReplayText
nothing_picked : IsReplayText 1 [] (codes "inside none\n")
unfolding inside_text
nothing_picked = record { steps = []; last = opening; taken = refl; inside = None; told = λ place. (λ same. cc, λ is. cc); printed = refl }

-- LeavesReplay
its_text_and_status_0 : LeavesReplay 1 [] (Some []) (Some (codes "inside none\n")) (Ok 0)
its_text_and_status_0 = (refl, codes "inside none\n", nothing_picked, refl)

no_other_status : ¬ LeavesReplay 1 [] (Some []) (Some (codes "inside none\n")) (Ok 2)
no_other_status h = let status : 2 ≡ 0 = h.0 in omega (arith, status)

nothing_where_it_was_refused_as_a_replay : LeavesReplay 1 (2 ∷ []) (Some []) (Some []) (Err (Replay replay.Place))
nothing_where_it_was_refused_as_a_replay = refl

and_no_other_bytes : ¬ LeavesReplay 1 (2 ∷ []) (Some []) (Some (codes "x")) (Err (Replay replay.Place))
and_no_other_bytes same = cc

never_as_a_run_is : ¬ LeavesReplay 1 [] (Some []) (Some []) (Err (Run run.NoText))
never_as_a_run_is h = h

a_beginning_where_its_text_could_not_be_written : LeavesReplay 1 [] (Some (codes "x")) (Some (codes "xinside")) (Err Write)
a_beginning_where_its_text_could_not_be_written = (codes "inside none\n", nothing_picked, record { count = 6; within = omega arith; appended = refl })

no_byte_lost_where_its_text_could_not_be_written : ¬ LeavesReplay 1 [] (Some (codes "x")) (Some []) (Err Write)
no_byte_lost_where_its_text_could_not_be_written (its_text, is, begins) = let lost : [] ≡ 120 ∷ take begins.count its_text = begins.appended in cc

-- differ_status
some_range_or_none : (d : Difference) → (differ_status [] ≡ 0) × (differ_status (d ∷ []) ≡ 1) × (differ_status (d ∷ d ∷ []) ≡ 1)
some_range_or_none d = (refl, refl, refl)

-- a comparison of whole routes, with each feed's own number
abbrev whole_routes : StyleContents → DiffContents
whole_routes style = record { by = by.Route; output = Ranges; numbers = []; old = style; new = style }

-- DiffContents
what_a_comparison_is_asked : (style : StyleContents) → ((whole_routes style).by ≡ by.Route) × ((whole_routes style).numbers ≡ []) × ((whole_routes style).new ≡ style)
what_a_comparison_is_asked style = (refl, refl, refl)

-- IsDiffText
only_the_header_is_written_of_a_run_and_itself :
    (style : StyleContents) (tallies : Vec RejectedInput Global)
    → tallies.items ≡ map tally_of (reports_of the_tutorials_outcomes) ++ map tally_of (reports_of the_tutorials_outcomes)
    → IsDiffText (whole_routes style) the_tutorials_run the_tutorials_run (differences_header (whole_routes style)) (record { status = 0; tallies = tallies })
only_the_header_is_written_of_a_run_and_itself style tallies tallied = record {
  old_table = table_of_journal 65536 tutorial;
  new_table = table_of_journal 65536 tutorial;
  old_tallies = map tally_of (reports_of the_tutorials_outcomes);
  new_tallies = map tally_of (reports_of the_tutorials_outcomes);
  old_left = what_the_tutorial_leaves _ refl;
  new_left = what_the_tutorial_leaves _ refl;
  tallied = tallied;
  list = [];
  differences = a_table_and_itself_have_none (own_numbers (table_of_journal 65536 tutorial));
  printed = sym (append-nil (differences_header (whole_routes style)));
  is_status = rw tallied refl;
}

differ_is_0_or_1 : (list : List Difference) → differ_status list ≤ 1
differ_is_0_or_1 [] = omega arith
differ_is_0_or_1 (d ∷ list) = omega arith

never_status_2_of_two_runs_without_faults :
    (terms : DiffContents) (old new : RunContents) (bytes : List ℕ) (given : RunSummary) → tallies_status given.tallies.items ≡ 0
    → given.status ≡ 2 → ¬ IsDiffText terms old new bytes given
never_status_2_of_two_runs_without_faults terms old new bytes given none status is = by (differ_status is.list) (differ_is_0_or_1 is.list) told
  where
    told : 2 ≡ max (differ_status is.list) 0
    told = sym status ∙ is.is_status ∙ ap (max (differ_status is.list)) none

    by : (n : ℕ) → n ≤ 1 → 2 ≢ max n 0
    by zero small same = cc
    by (suc zero) small same = cc
    by (suc (suc n)) small same = absurd (omega (arith, small))

-- entries of other feeds only, by their numbers
none_of : (feed : ℕ) (entries : List Entry) → list_all (λ e. if e.feed == feed then false else true) entries ≡ true → NoneBy feed entries
none_of feed [] all = All-nil (λ (e : Entry). e.feed ≢ feed)
none_of feed (e ∷ entries) all =
    let parts = and_parts (if e.feed == feed then false else true) (list_all (λ e. if e.feed == feed then false else true) entries) all in
    All-cons (λ (e : Entry). e.feed ≢ feed) e entries (eqb-false e.feed feed (is_false (e.feed == feed) parts.0)) (none_of feed entries parts.1)
  where
    is_false : (b : Bool) → (if b then false else true) ≡ true → b ≡ false
    is_false true none = cc
    is_false false none = refl

-- the tutorial's shared table, and a pass of one of its four feeds that has seen `count` entries
abbrev the_tutorials_table : LockId → SharedId
the_tutorials_table lock = record { lock = lock; limit = 65536; feeds = 4 }

abbrev pass_after : LockId → ℕ → ℕ → HeldPass
pass_after lock feed count = record { table = the_tutorials_table lock; feed = feed; seen = take count tutorial; room = 0 }

seen_by : (lock : LockId) (feed count : ℕ) → tutorial ≡ take count tutorial ++ drop count tutorial
    → list_all (λ e. if e.feed == feed then false else true) (drop count tutorial) ≡ true → Since feed (pass_after lock feed count).seen tutorial
seen_by lock feed count whole none = record { others = drop count tutorial; grown = whole; by_others = none_of feed (drop count tutorial) none }

-- Settles
the_passes_of_the_tutorial_settle :
    (lock : LockId) → Settles (the_tutorials_table lock) (pass_after lock 1 3 ∷ pass_after lock 2 7 ∷ pass_after lock 3 11 ∷ pass_after lock 4 0 ∷ []) tutorial
the_passes_of_the_tutorial_settle lock = record {
  lawful = the_journal_of_the_tutorial;
  of_feeds = by_range 4 tutorial refl;
  since =
      All-cons IsSince (pass_after lock 1 3) (pass_after lock 2 7 ∷ pass_after lock 3 11 ∷ pass_after lock 4 0 ∷ []) (seen_by lock 1 3 refl refl)
      (All-cons IsSince (pass_after lock 2 7) (pass_after lock 3 11 ∷ pass_after lock 4 0 ∷ []) (seen_by lock 2 7 refl refl)
      (All-cons IsSince (pass_after lock 3 11) (pass_after lock 4 0 ∷ []) (seen_by lock 3 11 refl refl)
      (All-cons IsSince (pass_after lock 4 0) [] (seen_by lock 4 0 refl refl) (All-nil IsSince))));
}
  where
    IsSince : HeldPass → Type 0
    IsSince p = Since p.feed p.seen tutorial

not_if_a_pass_has_missed_an_entry_of_its_feed :
    (lock : LockId) (journal : List Entry) (e : Entry) → e.feed ≡ 1
    → ¬ Settles (the_tutorials_table lock) (record { table = the_tutorials_table lock; feed = 1; seen = []; room = 0 } ∷ []) (e ∷ journal)
not_if_a_pass_has_missed_an_entry_of_its_feed lock journal e own h =
    let since = h.since 0 (record { table = the_tutorials_table lock; feed = 1; seen = []; room = 0 }) (omega arith) in
    let same : since.others ≡ e ∷ journal = sym since.grown in
    since.by_others 0 e (rw same (omega arith)) (rw same refl ∙ own)
