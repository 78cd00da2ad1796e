-- Routes and look-up results in a style: as lines, as JSON objects, one a line, or as CSV. Each feed has a label.
use Rattle.std.specs.Prelude.{ℕ, ◌==◌, if◌then◌else◌, List, [], ◌∷◌, ◌++◌, codes, decimal, Option, Some, None}
use Rattle.std.specs.List.{flat_map, join_by}
use Rattle.rt_cidr.specs.declared.address.Addr.{Addr}
use Rattle.rt_cidr.specs.Text.{address_text}
use Rattle.rt_rib.specs.declared.routes.Route.{Route}
use Rattle.rt_rib.specs.declared.routes.Reason.{Reason}
use Rattle.rt_rib.specs.declared.routes.Reason.TheVariants.{Shorter, Preference, Feed}
use Rattle.rt_rib.specs.LookUp.{reason}
use Rattle.rt_print.specs.declared.format.Syntax.{Syntax}
use Rattle.rt_print.specs.declared.format.Syntax.TheVariants.{Line, Json, Csv}
use Rattle.rt_print.specs.declared.format.Format.{Format}
use Rattle.rt_print.specs.Csv.{line_end, header_as, route_columns, route_record}
use Rattle.rt_print.specs.Labels.{syntax_of, labels_by}
use Rattle.rt_print.specs.Routes.{route_line, route_object}

-- the syntax in which routes are printed; and the labels of feeds, each with the number that identifies the feed
pub record StyleContents : Type 0 where
  pub syntax : Syntax
  pub labels : List (ℕ × List ℕ)

-- the style of this format for the feeds of these paths, in relation to the feeds of the first paths
abbrev pub style_of : Format → List (List ℕ) → List (List ℕ) → StyleContents
style_of format first paths = record { syntax = syntax_of format; labels = labels_by format first paths }

-- the label of the feed with this number: the first one for this number, or else the number itself
abbrev pub label_of : List (ℕ × List ℕ) → ℕ → List ℕ
label_of [] feed = decimal feed
label_of (one ∷ labels) feed = if one.0 == feed then one.1 else label_of labels feed

-- a route of the table; here and below `label` gives the label of each feed
unfoldable pub row_as : Syntax → (ℕ → List ℕ) → Route → List ℕ
row_as Line label r = route_line (label r.feed) r ++ codes "\n"
row_as Json label r = route_object (label r.feed) r [] ++ codes "\n"
row_as Csv label r = route_record (label r.feed) r ++ line_end

-- the header of routes
unfoldable pub rows_header : Syntax → List ℕ
rows_header syntax = header_as syntax route_columns

-- the table's routes in order
abbrev pub rows_as : StyleContents → List Route → List ℕ
rows_as style routes = flat_map (row_as style.syntax (label_of style.labels)) routes

-- the address, as the beginning of an object
unfoldable pub address_head : Addr → List ℕ
address_head addr = codes "{\"address\":\"" ++ (address_text addr.0 ++ codes "\",\"route\":")

-- the result of a look-up of the address
unfoldable pub found_as : Syntax → (ℕ → List ℕ) → Addr → Option Route → List ℕ
found_as Line label addr None = address_text addr.0 ++ codes " no route\n"
found_as Line label addr (Some r) = address_text addr.0 ++ (codes " route " ++ (route_line (label r.feed) r ++ codes "\n"))
found_as Json label addr None = address_head addr ++ codes "null}\n"
found_as Json label addr (Some r) = address_head addr ++ (route_object (label r.feed) r [] ++ codes "}\n")
found_as Csv label addr None = address_text addr.0 ++ (codes ",,,,,,," ++ line_end)
found_as Csv label addr (Some r) = address_text addr.0 ++ (codes "," ++ (route_record (label r.feed) r ++ line_end))

-- the header of look-up results
unfoldable pub found_header : Syntax → List ℕ
found_header syntax = header_as syntax (codes "address" ∷ route_columns)

-- the reason why a route lost to the first one
unfoldable pub reason_text : Reason → List ℕ
reason_text Shorter = codes "shorter"
reason_text Preference = codes "preference"
reason_text Feed = codes "feed"

-- the address, `also`, and a covering route after the first one, with the reason
abbrev pub also_line : (ℕ → List ℕ) → Addr → Route → Route → List ℕ
also_line label addr first r =
    address_text addr.0 ++ (codes " also " ++ (route_line (label r.feed) r ++ (codes " " ++ (reason_text (reason first r) ++ codes "\n"))))

-- a route that lost to the first one, as an object with the reason
abbrev pub also_object : (ℕ → List ℕ) → Route → Route → List ℕ
also_object label first r =
    route_object (label r.feed) r (codes ",\"reason\":\"" ++ (reason_text (reason first r) ++ codes "\""))

-- a covering route after the first one, as a line of CSV with the reason
abbrev pub also_record : (ℕ → List ℕ) → Addr → Route → Route → List ℕ
also_record label addr first r =
    address_text addr.0 ++ (codes "," ++ (route_record (label r.feed) r ++ (codes "," ++ (reason_text (reason first r) ++ line_end))))

-- all routes found, the best first; in JSON one object with the others in a list, and in CSV the best one has no reason
unfoldable pub all_found_as : Syntax → (ℕ → List ℕ) → Addr → List Route → List ℕ
all_found_as Line label addr [] = found_as Line label addr None
all_found_as Line label addr (first ∷ others) = found_as Line label addr (Some first) ++ flat_map (also_line label addr first) others
all_found_as Json label addr [] = address_head addr ++ codes "null,\"also\":[]}\n"
all_found_as Json label addr (first ∷ others) =
    address_head addr ++ (route_object (label first.feed) first []
    ++ (codes ",\"also\":[" ++ (join_by (also_object label first) (codes ",") others ++ codes "]}\n")))
all_found_as Csv label addr [] = address_text addr.0 ++ (codes ",,,,,,,," ++ line_end)
all_found_as Csv label addr (first ∷ others) =
    address_text addr.0 ++ (codes "," ++ (route_record (label first.feed) first ++ (codes "," ++ (line_end ++ flat_map (also_record label addr first) others))))

-- the header of all routes found
unfoldable pub all_found_header : Syntax → List ℕ
all_found_header syntax = header_as syntax (codes "address" ∷ (route_columns ++ codes "reason" ∷ []))

-- an invalid line of a text of addresses, by its number; it has no columns, so CSV has a plain line
unfoldable pub invalid_as : Syntax → ℕ → List ℕ
invalid_as Json number = codes "{\"line\":" ++ (decimal number ++ codes ",\"invalid\":true}\n")
invalid_as _ number = decimal number ++ codes " invalid\n"
