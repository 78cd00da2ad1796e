-- The label of a feed: its number, its name, its members in JSON, or its fields in CSV.
use Rattle.std.specs.Prelude.{ℕ, ◌+◌, ◌-◌, ◌==◌, Bool, true, false, if◌then◌else◌, List, [], ◌++◌, length, map, take, drop, codes, decimal, position, bytes_eq, Option}
use Rattle.std.specs.List.{after_last, enumerate_from}
use Rattle.std.specs.Option.{option_map_or}
use Rattle.rt_cidr.specs.Text.{slash}
use Rattle.rt_print.specs.declared.format.Format.{Format}
use Rattle.rt_print.specs.declared.format.Format.TheVariants.{Numbers, Names, Json, JsonWithNames, Csv, CsvWithNames}
use Rattle.rt_print.specs.declared.format.Syntax.{Syntax}
use Rattle.rt_print.specs.declared.format.Syntax.TheVariants as syntax
use Rattle.rt_print.specs.Csv.{csv_field}
use Rattle.rt_print.specs.Routes.{json_string}

-- a name without `.feed` at its end
abbrev pub without_feed : List ℕ → List ℕ
without_feed name = if bytes_eq (drop (length name - 5) name) (codes ".feed") then take (length name - 5) name else name

-- the name of the feed that is read from the file of this path: the part after the last slash
unfoldable pub feed_name : List ℕ → List ℕ
feed_name path = without_feed (after_last (λ byte. byte == slash) path)

-- the syntax of the format's output
abbrev pub syntax_of : Format → Syntax
syntax_of Numbers = syntax.Line
syntax_of Names = syntax.Line
syntax_of Json = syntax.Json
syntax_of JsonWithNames = syntax.Json
syntax_of Csv = syntax.Csv
syntax_of CsvWithNames = syntax.Csv

-- feeds are identified by their names
abbrev pub has_names : Format → Bool
has_names Names = true
has_names JsonWithNames = true
has_names CsvWithNames = true
has_names _ = false

-- the fields of the feed of this number and path, `FEED,NAME,PATH`
abbrev pub feed_record : ℕ → List ℕ → List ℕ
feed_record feed path = decimal feed ++ (codes "," ++ (csv_field (feed_name path) ++ (codes "," ++ csv_field path)))

-- the label of the feed of this number and path: `FEED`, `NAME`, `FEED,"file":"PATH"`, `FEED,"name":"NAME","file":"PATH"`, or
-- its fields
unfoldable pub label_by : Format → ℕ → List ℕ → List ℕ
label_by Numbers feed path = decimal feed
label_by Names feed path = feed_name path
label_by Json feed path = decimal feed ++ (codes ",\"file\":" ++ json_string path)
label_by JsonWithNames feed path =
    decimal feed ++ (codes ",\"name\":" ++ (json_string (feed_name path) ++ (codes ",\"file\":" ++ json_string path)))
label_by Csv feed path = feed_record feed path
label_by CsvWithNames feed path = feed_record feed path

-- the index of the first of these paths whose feed has this name
abbrev pub index_of_name : List (List ℕ) → List ℕ → Option ℕ
index_of_name paths name = position (λ path. bytes_eq (feed_name path) name) paths

-- the number of a feed of a second set of files, given its own number and path. It is the number of the first feed of its
-- name in the first set. If none has this name, it is a number above all of these
abbrev pub paired_number : List (List ℕ) → ℕ → List ℕ → ℕ
paired_number paths feed path = option_map_or (λ index. index + 1) (index_of_name paths (feed_name path)) (length paths + feed)

-- the label of each feed of these paths, with the number that identifies the feed in relation to the first paths; if
-- there are no first paths, that is its own number. Feeds that are printed by their numbers need no labels
unfoldable pub labels_by : Format → List (List ℕ) → List (List ℕ) → List (ℕ × List ℕ)
labels_by Numbers first paths = []
labels_by format first paths =
    map (λ feed. (paired_number first feed.0 feed.1, label_by format feed.0 feed.1)) (enumerate_from 1 paths)
