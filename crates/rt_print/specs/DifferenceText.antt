-- The text of the differences of two tables.
use Rattle.std.specs.Prelude.{ℕ, if◌then◌else◌, List, [], ◌∷◌, ◌++◌, map, codes}
use Rattle.std.specs.List.{flat_map, enumerate_from}
use Rattle.rt_cidr.specs.Text.{address_text, prefix_text}
use Rattle.rt_rib.specs.declared.routes.Hop.{Hop}
use Rattle.rt_rib.specs.declared.routes.Hop.TheVariants.{Via, Discard}
use Rattle.rt_diff.specs.declared.table_answers.CompareBy.{CompareBy}
use Rattle.rt_diff.specs.declared.table_answers.CompareBy.TheVariants as by
use Rattle.rt_diff.specs.declared.table_answers.TableAnswer.{TableAnswer}
use Rattle.rt_diff.specs.declared.table_answers.TableAnswer.TheVariants as answered
use Rattle.rt_diff.specs.declared.comparison.Difference.{Difference}
use Rattle.rt_print.specs.declared.format.Syntax.{Syntax}
use Rattle.rt_print.specs.declared.format.Syntax.TheVariants.{Line, Json, Csv}
use Rattle.rt_print.specs.declared.diff_options.DiffOutput.{DiffOutput}
use Rattle.rt_print.specs.declared.diff_options.DiffOutput.TheVariants.{Ranges, Prefixes}
use Rattle.rt_print.specs.declared.format.Format.{Format}
use Rattle.rt_print.specs.Csv.{line_end, header_as, hop_columns, route_columns, hop_record, route_record}
use Rattle.rt_print.specs.Labels.{has_names, paired_number}
use Rattle.rt_print.specs.RangePrefixes.{prefixes_of}
use Rattle.rt_print.specs.Routes.{route_line, hop_members, route_object}
use Rattle.rt_print.specs.Styles.{StyleContents, style_of, label_of}

-- the next hop: `via ADDR`, or `discard`
abbrev pub way_text : Hop → List ℕ
way_text (Via address) = codes "via " ++ address_text address.0
way_text Discard = codes "discard"

-- the part of an answer that is compared; what is printed; the numbers that identify the feeds of the new table; and the
-- style of each table, both in the same format
pub record DiffContents : Type 0 where
  pub by : CompareBy
  pub output : DiffOutput
  pub numbers : List ℕ
  pub old : StyleContents
  pub new : StyleContents

-- the comparison of the tables of two sets of paths in this format. With names, a new feed is identified in relation to the
-- old ones; else by its own number. The label of each new feed is the one for the number that identifies it
abbrev pub diff_of : CompareBy → DiffOutput → Format → List (List ℕ) → List (List ℕ) → DiffContents
diff_of by output format old new =
    let first = if has_names format then old else [] in record {
      by = by;
      output = output;
      numbers = map (λ feed. paired_number first feed.0 feed.1) (enumerate_from 1 new);
      old = style_of format [] old;
      new = style_of format first new;
    }

-- the empty fields of an address without a route, of which this part of an answer is compared
abbrev pub empty_record : CompareBy → List ℕ
empty_record by.Hop = codes ","
empty_record by.Route = codes ",,,,,,"

-- the answer for an address, of which this part is compared; `label` gives the label of each feed of its table
unfoldable pub answered_as : Syntax → CompareBy → (ℕ → List ℕ) → TableAnswer → List ℕ
answered_as Line by label answered.NoRoute = codes "no route"
answered_as Line by label (answered.Hop hop) = way_text hop
answered_as Line by label (answered.Route r) = route_line (label r.feed) r
answered_as Json by label answered.NoRoute = codes "null"
answered_as Json by label (answered.Hop hop) = codes "{" ++ (hop_members hop ++ codes "}")
answered_as Json by label (answered.Route r) = route_object (label r.feed) r []
answered_as Csv by label answered.NoRoute = empty_record by
answered_as Csv by label (answered.Hop hop) = hop_record hop
answered_as Csv by label (answered.Route r) = route_record (label r.feed) r

-- a range, and these texts of its two answers: `FIRST-LAST OLD -> NEW`, an object, or `FIRST,LAST,OLD,NEW`
unfoldable pub range_as : Syntax → Difference → List ℕ → List ℕ → List ℕ
range_as Line d old new =
    address_text d.first.0 ++ (codes "-" ++ (address_text d.last.0 ++ (codes " " ++ (old ++ (codes " -> " ++ (new ++ codes "\n"))))))
range_as Json d old new =
    codes "{\"first\":\"" ++ (address_text d.first.0 ++ (codes "\",\"last\":\"" ++ (address_text d.last.0 ++ (codes "\",\"old\":"
    ++ (old ++ (codes ",\"new\":" ++ (new ++ codes "}\n")))))))
range_as Csv d old new =
    address_text d.first.0 ++ (codes "," ++ (address_text d.last.0 ++ (codes "," ++ (old ++ (codes "," ++ (new ++ line_end))))))

-- a prefix, as its base and its length, and these texts of the answers for its addresses: `PREFIX OLD -> NEW`, an object, or
-- `PREFIX,OLD,NEW`
unfoldable pub prefix_as : Syntax → List ℕ → List ℕ → ℕ × ℕ → List ℕ
prefix_as Line old new p = prefix_text p.0 p.1 ++ (codes " " ++ (old ++ (codes " -> " ++ (new ++ codes "\n"))))
prefix_as Json old new p =
    codes "{\"prefix\":\"" ++ (prefix_text p.0 p.1 ++ (codes "\",\"old\":" ++ (old ++ (codes ",\"new\":" ++ (new ++ codes "}\n")))))
prefix_as Csv old new p = prefix_text p.0 p.1 ++ (codes "," ++ (old ++ (codes "," ++ (new ++ line_end))))

-- the lines of a difference with these texts of its two answers: one for its range, or one for each prefix of its range
abbrev pub lines_as : DiffOutput → Syntax → Difference → List ℕ → List ℕ → List ℕ
lines_as Ranges syntax d old new = range_as syntax d old new
lines_as Prefixes syntax d old new = flat_map (prefix_as syntax old new) (prefixes_of d.first.0 d.last.0)

-- the answer for an address of a table in its style, of which this part is compared
abbrev pub answer_as : CompareBy → StyleContents → TableAnswer → List ℕ
answer_as by style answer = answered_as style.syntax by (label_of style.labels) answer

-- the lines of a difference
abbrev pub difference_as : DiffContents → Difference → List ℕ
difference_as asked d = lines_as asked.output asked.old.syntax d (answer_as asked.by asked.old d.old) (answer_as asked.by asked.new d.new)

-- the lines of all differences, in order
abbrev pub differences_as : DiffContents → List Difference → List ℕ
differences_as asked list = flat_map (difference_as asked) list

-- the columns of a range, or of a prefix
abbrev pub place_columns : DiffOutput → List (List ℕ)
place_columns Ranges = codes "first" ∷ codes "last" ∷ []
place_columns Prefixes = codes "prefix" ∷ []

-- the columns of the part of an answer that is compared
abbrev pub answer_columns : CompareBy → List (List ℕ)
answer_columns by.Hop = hop_columns
answer_columns by.Route = route_columns

-- the columns of differences: after the place those of the old answer, and then those of the new one
abbrev pub difference_columns : CompareBy → DiffOutput → List (List ℕ)
difference_columns by output =
    place_columns output ++ (map (λ column. codes "old_" ++ column) (answer_columns by) ++ map (λ column. codes "new_" ++ column) (answer_columns by))

-- the header of differences
unfoldable pub differences_header : DiffContents → List ℕ
differences_header asked = header_as asked.old.syntax (difference_columns asked.by asked.output)
