-- Examples that test the definitions of rt_print, each below a line with the definition's name. Both sides are computed;
-- relations and laws are spelled out for some values.
use Rattle.std.proofs.Common.{◌≡◌, ℕ, zero, suc, ◌<◌, true, false, List, [], ◌∷◌, ◌++◌, length, Some, None, Ok, Err, codes, refl, ap, arith}
use Rattle.std.specs.Prelude.{decimal}
use Rattle.std.specs.Fmt.{digits}
use Rattle.rt_cidr.specs.Text.{address_text, prefix_text}
use Rattle.table_examples.proofs.Cidr.{ten_8}
use Rattle.table_examples.proofs.Rib.{ten_1_16, ten_9_16, at_10_1_2_3, at_10_9_0_1, via_192_0_2, route_via}
use Rattle.rt_rib.specs.declared.routes.Route.{Route}
use Rattle.rt_rib.specs.declared.routes.Hop.TheVariants.{Via, Discard}
use Rattle.rt_rib.specs.Table.{IsTable}
use Rattle.rt_rib.specs.LookUp.{best_routes, reason}
use Rattle.rt_rib.proofs.BestRoutes.{dedup-best}
use Rattle.rt_diff.specs.declared.table_answers.CompareBy.TheVariants as by
use Rattle.rt_diff.specs.declared.table_answers.TableAnswer.TheVariants as answered
use Rattle.rt_diff.specs.declared.comparison.Difference.{Difference}
use Rattle.rt_print.specs.declared.format.Format.{Format}
use Rattle.rt_print.specs.declared.format.Format.TheVariants.{Numbers, Names, Json, JsonWithNames, Csv, CsvWithNames}
use Rattle.rt_print.specs.declared.format.Syntax.TheVariants as syntax
use Rattle.rt_print.specs.Buffer.{buffered}
use Rattle.rt_print.specs.Csv.{csv_field, csv_line, hop_record, route_record}
use Rattle.rt_print.specs.Routes.{hop_text, route_text, row_text, count_text, table_text}
use Rattle.rt_print.specs.Routes.{escaped, json_string, hop_members, route_object}
use Rattle.rt_print.specs.declared.names.NameFault.TheVariants.{Invalid, Duplicate}
use Rattle.rt_print.specs.FeedNames.{is_name, name_at, HasOwnName, ChecksNames}
use Rattle.rt_print.specs.Labels.{syntax_of, has_names, without_feed, feed_name, label_by, index_of_name, paired_number, labels_by}
use Rattle.rt_print.specs.Styles.{StyleContents, label_of, row_as, rows_header, address_head, found_as, found_header, reason_text, also_line, all_found_as, all_found_header}
use Rattle.rt_print.specs.declared.diff_options.DiffOutput.{DiffOutput}
use Rattle.rt_print.specs.declared.diff_options.DiffOutput.TheVariants.{Ranges, Prefixes}
use Rattle.rt_print.specs.RangePrefixes.{prefixes_in, prefixes_of}
use Rattle.rt_print.specs.DifferenceText.{way_text, DiffContents, diff_of, answered_as, range_as, prefix_as, difference_as, differences_as, differences_header}
use Rattle.rt_print.specs.declared.change_counts.ChangeCount.{ChangeCount}
use Rattle.rt_print.specs.ChangeCounts.{range_size, hop_position, kind_of, number_as, kind_front, kind_as, hop_as, hops_front, count_line, change_counts_as}
use Rattle.rt_print.specs.Counts.{prefix_count, length_count, totals_as, count_as, counts_as, total_as, rows_and_total_as}
use Rattle.feed_examples.proofs.Feed.{at_192_0_2_1}

-- hop_text
an_address_as_next_hop : hop_text (Via at_192_0_2_1) ≡ codes "192.0.2.1"
unfolding digits address_text
an_address_as_next_hop = refl

discard_as_next_hop : hop_text Discard ≡ codes "discard"
discard_as_next_hop = refl

-- route_text
a_route_that_discards : route_text (route_via ten_9_16 3 10 Discard) ≡ codes "10.9.0.0/16 feed 3 pref 10 via discard"
unfolding digits address_text prefix_text route_text
a_route_that_discards = refl

-- row_text
a_row : row_text (route_via ten_8 2 30 (via_192_0_2 2)) ≡ codes "10.0.0.0/8 feed 2 pref 30 via 192.0.2.2\n"
unfolding digits address_text prefix_text row_text route_text
a_row = refl

-- count_text
the_count_of_four : count_text 4 ≡ codes "table 4\n"
unfolding digits count_text
the_count_of_four = refl

-- a route of feed 1 to 192.0.2.1
abbrev route_10 : Route
route_10 = record { prefix = ten_8; feed = 1; pref = 100; hop = Via at_192_0_2_1 }

-- table_text
the_empty_table : table_text [] ≡ codes "table 0\n"
unfolding digits count_text
the_empty_table = refl

a_table_of_two :
    table_text (route_via ten_8 2 30 (via_192_0_2 2) ∷ route_via ten_9_16 3 10 Discard ∷ [])
    ≡ codes "table 2\n10.0.0.0/8 feed 2 pref 30 via 192.0.2.2\n10.9.0.0/16 feed 3 pref 10 via discard\n"
unfolding digits address_text prefix_text count_text row_text route_text
a_table_of_two = refl

-- reason_text
each_step_has_its_reason :
    (reason_text (reason (route_via ten_1_16 1 10 Discard) (route_via ten_8 1 10 Discard)) ≡ codes "shorter")
    × (reason_text (reason (route_via ten_8 1 10 Discard) (route_via ten_8 1 30 Discard)) ≡ codes "preference")
    × (reason_text (reason (route_via ten_8 1 10 Discard) (route_via ten_8 2 10 Discard)) ≡ codes "feed")
unfolding reason_text
each_step_has_its_reason = (refl, refl, refl)

the_first_step_that_differs :
    (reason_text (reason (route_via ten_1_16 2 30 Discard) (route_via ten_8 1 10 Discard)) ≡ codes "shorter")
    × (reason_text (reason (route_via ten_8 2 10 Discard) (route_via ten_8 1 30 Discard)) ≡ codes "preference")
unfolding reason_text
the_first_step_that_differs = (refl, refl)

-- also_line
a_route_left_behind :
    also_line (λ feed. decimal feed) at_10_1_2_3 (route_via ten_1_16 1 10 (via_192_0_2 1)) (route_via ten_8 2 30 (via_192_0_2 2))
    ≡ codes "10.1.2.3 also 10.0.0.0/8 feed 2 pref 30 via 192.0.2.2 shorter\n"
unfolding digits address_text prefix_text reason_text
a_route_left_behind = refl

-- way_text
the_way_to_a_router : way_text (Via at_192_0_2_1) ≡ codes "via 192.0.2.1"
unfolding digits address_text
the_way_to_a_router = refl

discard_as_way : way_text Discard ≡ codes "discard"
discard_as_way = refl

-- answered_as
an_answer_of_each_kind :
    (answered_as syntax.Line by.Route (λ feed. decimal feed) answered.NoRoute ≡ codes "no route") × (answered_as syntax.Line by.Route (λ feed. decimal feed) (answered.Hop Discard) ≡ codes "discard")
    × (answered_as syntax.Line by.Route (λ feed. decimal feed) (answered.Route route_10) ≡ codes "10.0.0.0/8 feed 1 pref 100 via 192.0.2.1")
unfolding digits address_text prefix_text answered_as
an_answer_of_each_kind = (refl, refl, refl)

-- the addresses from 10.1.2.3 to 10.9.0.1, which had a next hop and now have none
abbrev range_without_way : Difference
range_without_way = record { first = at_10_1_2_3; last = at_10_9_0_1; old = answered.Hop (Via at_192_0_2_1); new = answered.NoRoute }

-- the routes of feed 1 of the old table, and of feed 1 of the new one, which is identified by 3
abbrev told_range : Difference
told_range = record { first = at_10_1_2_3; last = at_10_9_0_1; old = answered.Route (route_via ten_8 1 5 Discard); new = answered.Route (route_via ten_8 3 5 Discard) }

abbrev compared_as : DiffOutput → Format → DiffContents
compared_as output format = diff_of by.Route output format (codes "a.feed" ∷ codes "b.feed" ∷ []) (codes "new/c.feed" ∷ codes "new/a.feed" ∷ [])

abbrev compared_files : Format → DiffContents
compared_files = compared_as Ranges

-- diff_of
new_feeds_by_their_names : ((compared_files Names).numbers ≡ 3 ∷ 1 ∷ []) × ((compared_files Json).numbers ≡ 1 ∷ 2 ∷ [])
unfolding feed_name
new_feeds_by_their_names = (refl, refl)

-- csv_field
fields_that_need_quotation_marks :
    (csv_field (codes "a,b") ≡ codes "\"a,b\"") × (csv_field (codes "\"") ≡ codes "\"\"\"\"") × (csv_field (13 ∷ []) ≡ 34 ∷ 13 ∷ 34 ∷ [])
    × (csv_field (10 ∷ []) ≡ 34 ∷ 10 ∷ 34 ∷ []) × (csv_field (codes "a b") ≡ codes "a b") × (csv_field [] ≡ [])
unfolding csv_field
fields_that_need_quotation_marks = (refl, refl, refl, refl, refl, refl)

-- csv_line
a_line_of_three_fields : csv_line (codes "a" ∷ [] ∷ codes "b,c" ∷ []) ≡ codes "a,,\"b,c\"" ++ 13 ∷ 10 ∷ []
unfolding csv_field
a_line_of_three_fields = refl

-- hop_record
the_fields_of_a_next_hop_and_of_none : (hop_record (Via at_192_0_2_1) ≡ codes "192.0.2.1,") × (hop_record Discard ≡ codes ",true")
unfolding digits address_text
the_fields_of_a_next_hop_and_of_none = (refl, refl)

-- route_record
a_route_as_fields : route_record (codes "1,a,a.feed") route_10 ≡ codes "10.0.0.0/8,1,a,a.feed,100,192.0.2.1,"
unfolding digits address_text prefix_text route_record
a_route_as_fields = refl

-- rows_header
only_csv_has_a_header :
    (rows_header syntax.Csv ≡ codes "prefix,feed,name,file,pref,via,discard" ++ 13 ∷ 10 ∷ []) × (rows_header syntax.Line ≡ []) × (rows_header syntax.Json ≡ [])
unfolding rows_header csv_field
only_csv_has_a_header = (refl, refl, refl)

-- all_found_header
the_reason_is_the_last_column : all_found_header syntax.Csv ≡ codes "address,prefix,feed,name,file,pref,via,discard,reason" ++ 13 ∷ 10 ∷ []
unfolding all_found_header csv_field
the_reason_is_the_last_column = refl

-- differences_header
the_columns_of_next_hops_of_ranges : differences_header (diff_of by.Hop Ranges Csv [] []) ≡ codes "first,last,old_via,old_discard,new_via,new_discard" ++ 13 ∷ 10 ∷ []
unfolding differences_header csv_field labels_by
the_columns_of_next_hops_of_ranges = refl

the_columns_of_routes_of_prefixes : differences_header (diff_of by.Route Prefixes CsvWithNames [] [])
    ≡ codes "prefix,old_prefix,old_feed,old_name,old_file,old_pref,old_via,old_discard,new_prefix,new_feed,new_name,new_file,new_pref,new_via,new_discard" ++ 13 ∷ 10 ∷ []
unfolding differences_header csv_field labels_by
the_columns_of_routes_of_prefixes = refl

-- difference_as
each_answer_by_its_own_labels : difference_as (compared_files Names) told_range
    ≡ codes "10.1.2.3-10.9.0.1 10.0.0.0/8 feed a pref 5 via discard -> 10.0.0.0/8 feed c pref 5 via discard\n"
unfolding digits address_text prefix_text range_as answered_as labels_by label_by feed_name
each_answer_by_its_own_labels = refl

a_range_as_an_object : difference_as (compared_files Json) range_without_way
    ≡ codes "{\"first\":\"10.1.2.3\",\"last\":\"10.9.0.1\",\"old\":{\"via\":\"192.0.2.1\"},\"new\":null}\n"
unfolding digits address_text range_as answered_as
a_range_as_an_object = refl

a_range_as_fields : difference_as (compared_files CsvWithNames) told_range
    ≡ codes "10.1.2.3,10.9.0.1,10.0.0.0/8,1,a,a.feed,5,,true,10.0.0.0/8,1,c,new/c.feed,5,,true" ++ 13 ∷ 10 ∷ []
unfolding digits address_text prefix_text range_as answered_as route_record csv_field labels_by label_by feed_name
a_range_as_fields = refl

no_route_as_empty_fields : difference_as (diff_of by.Hop Ranges Csv [] []) range_without_way ≡ codes "10.1.2.3,10.9.0.1,192.0.2.1,,," ++ 13 ∷ 10 ∷ []
unfolding digits address_text range_as answered_as
no_route_as_empty_fields = refl

-- prefixes_in
the_prefixes_of_eight_addresses : prefixes_of 3 10 ≡ (3, 32) ∷ (4, 30) ∷ (8, 31) ∷ (10, 32) ∷ []
unfolding prefixes_in
the_prefixes_of_eight_addresses = refl

all_addresses_as_one_prefix : prefixes_of 0 4294967295 ≡ (0, 0) ∷ []
unfolding prefixes_in
all_addresses_as_one_prefix = refl

a_single_address_as_a_prefix : prefixes_of 4294967295 4294967295 ≡ (4294967295, 32) ∷ []
unfolding prefixes_in
a_single_address_as_a_prefix = refl

-- lines_as
a_line_for_each_prefix :
    difference_as (compared_as Prefixes Numbers) (record { first = record { 0 = 3 }; last = record { 0 = 5 }; old = answered.NoRoute; new = answered.Hop Discard })
    ≡ codes "0.0.0.3/32 no route -> discard\n0.0.0.4/31 no route -> discard\n"
unfolding digits address_text prefix_text prefixes_in prefix_as answered_as
a_line_for_each_prefix = refl

-- prefix_as
a_prefix_as_an_object :
    difference_as (compared_as Prefixes Json) (record { first = record { 0 = 8 }; last = record { 0 = 15 }; old = answered.Hop (Via at_192_0_2_1); new = answered.NoRoute })
    ≡ codes "{\"prefix\":\"0.0.0.8/29\",\"old\":{\"via\":\"192.0.2.1\"},\"new\":null}\n"
unfolding digits address_text prefix_text prefixes_in prefix_as answered_as
a_prefix_as_an_object = refl

-- range_size
a_range_of_eight_addresses : range_size (record { first = record { 0 = 8 }; last = record { 0 = 15 }; old = answered.NoRoute; new = answered.Hop Discard }) ≡ 8
a_range_of_eight_addresses = refl

-- hop_position
no_route_and_discard_first : (hop_position None ≡ 0) × (hop_position (Some Discard) ≡ 1) × (hop_position (Some (Via (record { 0 = 0 }))) ≡ 2)
no_route_and_discard_first = (refl, refl, refl)

-- kind_of
each_kind_of_change : (kind_of (Some (via_192_0_2 1)) (Some (via_192_0_2 2)) ≡ 0) × (kind_of None (Some (via_192_0_2 1)) ≡ 1)
    × (kind_of (Some Discard) None ≡ 2) × (kind_of None (Some Discard) ≡ 3) × (kind_of (Some Discard) (Some (via_192_0_2 1)) ≡ 4)
    × (kind_of (Some (via_192_0_2 1)) (Some (via_192_0_2 1)) ≡ 5)
each_kind_of_change = (refl, refl, refl, refl, refl, refl)

-- change_counts_as
abbrev two_counts : List ChangeCount
two_counts =
    record { old = None; new = Some Discard; ranges = 1; addresses = 4 }
    ∷ record { old = Some (Via at_192_0_2_1); new = None; ranges = 2; addresses = 300 } ∷ []

all_ranges_and_kinds_and_pairs : change_counts_as (compared_files Numbers) two_counts
    ≡ codes "ranges 3 addresses 304\nchange loses its route ranges 2 addresses 300\nchange is discarded ranges 1 addresses 4\nhops no route -> discard ranges 1 addresses 4\nhops via 192.0.2.1 -> no route ranges 2 addresses 300\n"
unfolding digits address_text change_counts_as kind_as kind_front number_as hops_front hop_as
all_ranges_and_kinds_and_pairs = refl

no_range_at_all : change_counts_as (compared_files Json) [] ≡ codes "{\"ranges\":0,\"addresses\":0}\n"
unfolding digits change_counts_as kind_as number_as
no_range_at_all = refl

a_pair_as_an_object : count_line syntax.Json (record { old = None; new = Some Discard; ranges = 1; addresses = 4 })
    ≡ codes "{\"old\":null,\"new\":{\"via\":null,\"discard\":true},\"ranges\":1,\"addresses\":4}\n"
unfolding digits number_as hops_front hop_as
a_pair_as_an_object = refl

-- differences_as
one_line_for_each_range :
    differences_as (compared_files Numbers) (range_without_way ∷ range_without_way ∷ [])
    ≡ codes "10.1.2.3-10.9.0.1 via 192.0.2.1 -> no route\n10.1.2.3-10.9.0.1 via 192.0.2.1 -> no route\n"
unfolding digits address_text range_as answered_as
one_line_for_each_range = refl

-- two routes of feed 1 and one of feed 2, to two prefixes
abbrev counted_routes : List Route
counted_routes = route_via ten_8 1 5 Discard ∷ route_via ten_8 2 5 Discard ∷ route_via ten_1_16 1 5 Discard ∷ []

-- prefix_count
each_prefix_once : prefix_count counted_routes ≡ 2
each_prefix_once = refl

as_many_as_there_are_best_routes : (table : List Route) → IsTable table → prefix_count table ≡ length (best_routes table)
as_many_as_there_are_best_routes table is = ap length (dedup-best table is)

-- length_count
those_of_the_length_alone : (length_count 8 counted_routes ≡ 2) × (length_count 16 counted_routes ≡ 1) × (length_count 32 counted_routes ≡ 0)
those_of_the_length_alone = (refl, refl, refl)

-- totals_as
the_totals_in_each_style :
    (totals_as syntax.Line 3 2 ≡ codes "routes 3 prefixes 2\n") × (totals_as syntax.Json 3 2 ≡ codes "{\"routes\":3,\"prefixes\":2}\n")
unfolding totals_as digits
the_totals_in_each_style = (refl, refl)

-- counts_as
all_counts : counts_as (record { syntax = syntax.Line; labels = [] }) counted_routes
    ≡ codes "routes 3 prefixes 2\nfeed 1 routes 2\nfeed 2 routes 1\nlength 8 routes 2\nlength 16 routes 1\n"
unfolding counts_as totals_as count_as digits
all_counts = refl

-- total_as
the_total_in_each_style : (total_as syntax.Line 2 ≡ codes "total 2\n") × (total_as syntax.Json 0 ≡ codes "{\"total\":0}\n")
unfolding total_as digits
the_total_in_each_style = (refl, refl)

-- rows_and_total_as
each_route_and_not_each_prefix : rows_and_total_as (record { syntax = syntax.Line; labels = [] }) counted_routes
    ≡ codes "10.0.0.0/8 feed 1 pref 5 via discard\n10.0.0.0/8 feed 2 pref 5 via discard\n10.1.0.0/16 feed 1 pref 5 via discard\ntotal 3\n"
unfolding digits address_text prefix_text row_as total_as
each_route_and_not_each_prefix = refl

-- escaped
what_stands_for_a_byte :
    (escaped 34 ≡ codes "\\\"") × (escaped 92 ≡ codes "\\\\") × (escaped 10 ≡ codes "\\u000a") × (escaped 31 ≡ codes "\\u001f") × (escaped 32 ≡ codes " ")
    × (escaped 127 ≡ 127 ∷ []) × (escaped 195 ≡ 195 ∷ [])
what_stands_for_a_byte = (refl, refl, refl, refl, refl, refl, refl)

-- json_string
a_string_with_quotation_marks : json_string (codes "a\"b\".feed\n") ≡ codes "\"a\\\"b\\\".feed\\u000a\""
unfolding json_string
a_string_with_quotation_marks = refl

-- hop_members
a_next_hop_and_none : (hop_members (via_192_0_2 2) ≡ codes "\"via\":\"192.0.2.2\"") × (hop_members Discard ≡ codes "\"via\":null,\"discard\":true")
unfolding digits address_text
a_next_hop_and_none = (refl, refl)

-- route_object
a_route_as_an_object :
    route_object (codes "2,\"file\":\"b.feed\"") (route_via ten_8 2 30 (via_192_0_2 2)) (codes ",\"reason\":\"shorter\"")
    ≡ codes "{\"prefix\":\"10.0.0.0/8\",\"feed\":2,\"file\":\"b.feed\",\"pref\":30,\"via\":\"192.0.2.2\",\"reason\":\"shorter\"}"
unfolding digits address_text prefix_text route_object
a_route_as_an_object = refl

-- without_feed
the_ending_is_left_out :
    (without_feed (codes "c.feed") ≡ codes "c") × (without_feed (codes "c.feeds") ≡ codes "c.feeds") × (without_feed (codes ".feed") ≡ [])
    × (without_feed (codes "feed") ≡ codes "feed") × (without_feed (codes "c.feed.feed") ≡ codes "c.feed")
the_ending_is_left_out = (refl, refl, refl, refl, refl)

-- feed_name
a_feed_by_its_file :
    (feed_name (codes "a/b/c.feed") ≡ codes "c") × (feed_name (codes "c.feed") ≡ codes "c") × (feed_name (codes "/c") ≡ codes "c")
    × (feed_name (codes "c/") ≡ []) × (feed_name [] ≡ [])
unfolding feed_name
a_feed_by_its_file = (refl, refl, refl, refl, refl)

-- syntax_of
objects_in_two_formats :
    (syntax_of Numbers ≡ syntax.Line) × (syntax_of Names ≡ syntax.Line) × (syntax_of Json ≡ syntax.Json) × (syntax_of JsonWithNames ≡ syntax.Json)
objects_in_two_formats = (refl, refl, refl, refl)

-- has_names
names_in_two_formats : (has_names Numbers ≡ false) × (has_names Names ≡ true) × (has_names Json ≡ false) × (has_names JsonWithNames ≡ true)
names_in_two_formats = (refl, refl, refl, refl)

-- label_by
a_feed_by_each_label :
    (label_by Numbers 2 (codes "feeds/east.feed") ≡ codes "2") × (label_by Names 2 (codes "feeds/east.feed") ≡ codes "east")
    × (label_by Json 2 (codes "feeds/east.feed") ≡ codes "2,\"file\":\"feeds/east.feed\"")
    × (label_by JsonWithNames 2 (codes "feeds/east.feed") ≡ codes "2,\"name\":\"east\",\"file\":\"feeds/east.feed\"")
unfolding digits json_string feed_name label_by
a_feed_by_each_label = (refl, refl, refl, refl)

-- index_of_name
the_first_of_the_name :
    (index_of_name (codes "a.feed" ∷ codes "x/b.feed" ∷ codes "b" ∷ []) (codes "b") ≡ Some 1) × (index_of_name (codes "a.feed" ∷ []) (codes "b") ≡ None)
unfolding feed_name
the_first_of_the_name = (refl, refl)

-- paired_number
its_partners_or_behind_them_all :
    (paired_number (codes "a.feed" ∷ codes "b.feed" ∷ []) 1 (codes "new/b.feed") ≡ 2)
    × (paired_number (codes "x/b.feed" ∷ codes "b" ∷ []) 1 (codes "b") ≡ 1)
    × (paired_number (codes "a.feed" ∷ codes "b.feed" ∷ []) 3 (codes "c.feed") ≡ 5) × (paired_number [] 9 (codes "b") ≡ 9)
unfolding feed_name
its_partners_or_behind_them_all = (refl, refl, refl, refl)

-- labels_by
each_label_with_its_number :
    (labels_by Numbers [] (codes "a" ∷ []) ≡ []) × (labels_by Names [] (codes "a" ∷ codes "b" ∷ []) ≡ (1, codes "a") ∷ (2, codes "b") ∷ [])
    × (labels_by Names (codes "a" ∷ codes "b" ∷ []) (codes "b" ∷ codes "c" ∷ []) ≡ (2, codes "b") ∷ (4, codes "c") ∷ [])
unfolding labels_by label_by feed_name
each_label_with_its_number = (refl, refl, refl)

-- label_of
feeds_have_their_labels :
    (one two : List ℕ) → (label_of ((1, one) ∷ (5, two) ∷ []) 1 ≡ one) × (label_of ((1, one) ∷ (5, two) ∷ []) 5 ≡ two)
    × (label_of ((1, one) ∷ (1, two) ∷ []) 1 ≡ one)
feeds_have_their_labels one two = (refl, refl, refl)

a_feed_without_one_by_its_number : (one : List ℕ) → label_of ((1, one) ∷ []) 12 ≡ codes "12"
unfolding digits
a_feed_without_one_by_its_number one = refl

-- objects with the numbers of two feeds
abbrev objects_of_two : StyleContents
objects_of_two = record { syntax = syntax.Json; labels = (1, codes "1") ∷ (2, codes "2") ∷ [] }

-- StyleContents
what_a_style_has : (objects_of_two.syntax ≡ syntax.Json) × (label_of objects_of_two.labels 1 ≡ codes "1") × (label_of objects_of_two.labels 2 ≡ codes "2")
what_a_style_has = (refl, refl, refl)

-- the label of each feed that the examples have
abbrev east_and_west : ℕ → List ℕ
east_and_west = label_of ((1, codes "east") ∷ (2, codes "west") ∷ [])

-- row_as
a_row_in_each_form :
    (row_as syntax.Line east_and_west (route_via ten_8 2 30 Discard) ≡ codes "10.0.0.0/8 feed west pref 30 via discard\n")
    × (row_as syntax.Json (λ feed. decimal feed) (route_via ten_8 2 30 Discard) ≡ codes "{\"prefix\":\"10.0.0.0/8\",\"feed\":2,\"pref\":30,\"via\":null,\"discard\":true}\n")
unfolding digits address_text prefix_text route_object row_as
a_row_in_each_form = (refl, refl)

-- address_head
an_address_that_was_asked : address_head at_10_1_2_3 ≡ codes "{\"address\":\"10.1.2.3\",\"route\":"
unfolding digits address_text address_head
an_address_that_was_asked = refl

-- found_as
what_was_found_in_each_form :
    (found_as syntax.Line east_and_west at_10_1_2_3 (Some (route_via ten_8 1 30 Discard)) ≡ codes "10.1.2.3 route 10.0.0.0/8 feed east pref 30 via discard\n")
    × (found_as syntax.Json (λ feed. decimal feed) at_10_1_2_3 (Some (route_via ten_8 1 30 (via_192_0_2 2)))
    ≡ codes "{\"address\":\"10.1.2.3\",\"route\":{\"prefix\":\"10.0.0.0/8\",\"feed\":1,\"pref\":30,\"via\":\"192.0.2.2\"}}\n")
    × (found_as syntax.Json (λ feed. decimal feed) at_10_1_2_3 None ≡ codes "{\"address\":\"10.1.2.3\",\"route\":null}\n")
unfolding digits address_text prefix_text route_object address_head found_as
what_was_found_in_each_form = (refl, refl, refl)

no_route_was_found : found_as syntax.Line (λ feed. decimal feed) at_192_0_2_1 None ≡ codes "192.0.2.1 no route\n"
unfolding digits address_text found_as
no_route_was_found = refl

a_look_up_as_fields :
    (found_as syntax.Csv (λ feed. codes "1,a,a.feed") at_10_1_2_3 (Some (route_via ten_8 1 30 Discard)) ≡ codes "10.1.2.3,10.0.0.0/8,1,a,a.feed,30,,true" ++ 13 ∷ 10 ∷ [])
    × (found_as syntax.Csv (λ feed. codes "1,a,a.feed") at_10_1_2_3 None ≡ codes "10.1.2.3,,,,,,," ++ 13 ∷ 10 ∷ [])
unfolding digits address_text prefix_text route_record found_as
a_look_up_as_fields = (refl, refl)

-- all_found_as
all_routes_as_lines_of_fields :
    all_found_as syntax.Csv (λ feed. codes "1,a,a.feed") at_10_1_2_3 (route_via ten_1_16 1 10 Discard ∷ route_via ten_8 1 30 (via_192_0_2 2) ∷ [])
    ≡ (codes "10.1.2.3,10.1.0.0/16,1,a,a.feed,10,,true," ++ 13 ∷ 10 ∷ []) ++ (codes "10.1.2.3,10.0.0.0/8,1,a,a.feed,30,192.0.2.2,,shorter" ++ 13 ∷ 10 ∷ [])
unfolding digits address_text prefix_text route_record reason_text all_found_as
all_routes_as_lines_of_fields = refl

nothing_covers_it : all_found_as syntax.Line (λ feed. decimal feed) at_192_0_2_1 [] ≡ codes "192.0.2.1 no route\n"
unfolding digits address_text found_as all_found_as
nothing_covers_it = refl

three_cover_it :
    all_found_as syntax.Line (λ feed. decimal feed) at_10_1_2_3 (route_via ten_1_16 1 10 (via_192_0_2 1) ∷ route_via ten_8 2 30 (via_192_0_2 2) ∷ route_via ten_8 1 50 Discard ∷ [])
    ≡ codes "10.1.2.3 route 10.1.0.0/16 feed 1 pref 10 via 192.0.2.1\n"
    ++ codes "10.1.2.3 also 10.0.0.0/8 feed 2 pref 30 via 192.0.2.2 shorter\n10.1.2.3 also 10.0.0.0/8 feed 1 pref 50 via discard shorter\n"
unfolding digits address_text prefix_text found_as all_found_as reason_text
three_cover_it = refl

all_that_was_found_as_an_object :
    all_found_as syntax.Json (λ feed. decimal feed) at_10_1_2_3 (route_via ten_1_16 1 10 Discard ∷ route_via ten_8 2 30 Discard ∷ route_via ten_8 1 50 Discard ∷ [])
    ≡ codes "{\"address\":\"10.1.2.3\",\"route\":{\"prefix\":\"10.1.0.0/16\",\"feed\":1,\"pref\":10,\"via\":null,\"discard\":true},\"also\":["
    ++ codes "{\"prefix\":\"10.0.0.0/8\",\"feed\":2,\"pref\":30,\"via\":null,\"discard\":true,\"reason\":\"shorter\"},"
    ++ codes "{\"prefix\":\"10.0.0.0/8\",\"feed\":1,\"pref\":50,\"via\":null,\"discard\":true,\"reason\":\"shorter\"}]}\n"
unfolding digits address_text prefix_text reason_text route_object address_head all_found_as
all_that_was_found_as_an_object = refl

-- buffered
what_is_below_and_then_what_is_held : buffered 9 (Some (1 ∷ [])) (Some (1 ∷ 2 ∷ [])) (3 ∷ []) ≡ Some (9 ∷ 1 ∷ 1 ∷ 2 ∷ 3 ∷ [])
what_is_below_and_then_what_is_held = refl

nothing_is_below_yet : buffered 9 (Some (1 ∷ [])) (Some (1 ∷ [])) (3 ∷ []) ≡ Some (9 ∷ 1 ∷ 1 ∷ 3 ∷ [])
nothing_is_below_yet = refl

not_where_less_is_below_than_at_first : buffered 9 (Some (1 ∷ 2 ∷ [])) (Some (1 ∷ [])) (3 ∷ 4 ∷ []) ≡ None
not_where_less_is_below_than_at_first = refl

nor_where_the_writer_tells_nothing : (buffered 9 (Some []) None [] ≡ None) × (buffered 9 None (Some []) [] ≡ None) × (buffered 9 None None [] ≡ None)
nor_where_the_writer_tells_nothing = (refl, refl, refl)

-- is_name
which_names_are_valid :
    (is_name [] ≡ false) × (is_name (codes "a b") ≡ false) × (is_name (97 ∷ 127 ∷ []) ≡ false) × (is_name (codes "east") ≡ true)
which_names_are_valid = (refl, refl, refl, refl)

-- name_at
the_name_of_the_second : name_at (codes "a.feed" ∷ codes "x/b.feed" ∷ []) 1 ≡ codes "b"
unfolding feed_name
the_name_of_the_second = refl

below_one : (P : ℕ → Type 0) → P 0 → (k : ℕ) → k < 1 → P k
below_one P here zero less = here
below_one P here (suc k) less = absurd (omega (arith, less))

abbrev twice_a : List (List ℕ)
twice_a = codes "x/a.feed" ∷ codes "a" ∷ []

-- HasOwnName
the_first_has_its_own : HasOwnName twice_a 0
unfolding feed_name
the_first_has_its_own = record { valid = refl; new = refl }

the_second_has_not : HasOwnName twice_a 1 → ⊥
unfolding feed_name
the_second_has_not own = let same : Some 0 ≡ None = own.new in absurd cc

-- ChecksNames
the_second_has_the_name_of_the_first : ChecksNames twice_a (Err (Duplicate 0 1))
unfolding feed_name
the_second_has_the_name_of_the_first =
    (record { within = omega arith; before = below_one (HasOwnName twice_a) the_first_has_its_own }, refl, refl)

the_first_has_no_valid_name : ChecksNames (codes "a b.feed" ∷ []) (Err (Invalid 0))
unfolding feed_name
the_first_has_no_valid_name = (record { within = omega arith; before = λ earlier none. absurd (omega (arith, none)) }, refl)

not_each_has_its_own : ChecksNames twice_a (Ok tt) → ⊥
not_each_has_its_own all = the_second_has_not (all 1 (omega arith))
