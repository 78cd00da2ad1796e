-- Comma-separated values (RFC 4180, section 2): lines of fields, and the columns of routes and next hops.
use Rattle.std.specs.Prelude.{ℕ, ◌==◌, ◌||◌, Bool, if◌then◌else◌, List, [], ◌∷◌, ◌++◌, codes, decimal}
use Rattle.std.specs.List.{flat_map, join_by, list_any}
use Rattle.rt_cidr.specs.Text.{address_text, prefix_text}
use Rattle.rt_rib.specs.declared.routes.Hop.{Hop}
use Rattle.rt_rib.specs.declared.routes.Hop.TheVariants.{Via, Discard}
use Rattle.rt_rib.specs.declared.routes.Route.{Route}
use Rattle.rt_print.specs.declared.format.Syntax.{Syntax}
use Rattle.rt_print.specs.declared.format.Syntax.TheVariants.{Line, Json, Csv}

-- a field with this byte is quoted: a quotation mark, a comma, CR or LF
abbrev pub is_special : ℕ → Bool
is_special byte = byte == 34 || byte == 44 || byte == 13 || byte == 10

-- a byte of a quoted field: a quotation mark is doubled
abbrev pub doubled : ℕ → List ℕ
doubled byte = if byte == 34 then byte ∷ byte ∷ [] else byte ∷ []

-- a field: between quotation marks if it has a special byte
unfoldable pub csv_field : List ℕ → List ℕ
csv_field text = if list_any is_special text then codes "\"" ++ (flat_map doubled text ++ codes "\"") else text

-- the end of a line: CR and LF
abbrev pub line_end : List ℕ
line_end = 13 ∷ 10 ∷ []

-- a line of these fields, with commas between them
abbrev pub csv_line : List (List ℕ) → List ℕ
csv_line fields = join_by csv_field (codes ",") fields ++ line_end

-- the header, a line with the names of the columns; other syntaxes have none
abbrev pub header_as : Syntax → List (List ℕ) → List ℕ
header_as Csv columns = csv_line columns
header_as _ columns = []

-- the columns of a next hop
abbrev pub hop_columns : List (List ℕ)
hop_columns = codes "via" ∷ codes "discard" ∷ []

-- the columns of a route
abbrev pub route_columns : List (List ℕ)
route_columns = codes "prefix" ∷ codes "feed" ∷ codes "name" ∷ codes "file" ∷ codes "pref" ∷ hop_columns

-- the fields of a next hop: its address and an empty one, or an empty one and `true`
abbrev pub hop_fields : Hop → List (List ℕ)
hop_fields (Via address) = address_text address.0 ∷ [] ∷ []
hop_fields Discard = [] ∷ codes "true" ∷ []

-- the fields of a route of the feed with this number, name and file
abbrev pub route_fields : ℕ → List ℕ → List ℕ → Route → List (List ℕ)
route_fields feed name file r =
    prefix_text r.prefix.base r.prefix.len ∷ decimal feed ∷ name ∷ file ∷ decimal r.pref ∷ hop_fields r.hop

-- a next hop's fields as text, `ADDR,` or `,true`
abbrev pub hop_record : Hop → List ℕ
hop_record (Via address) = address_text address.0 ++ codes ","
hop_record Discard = codes ",true"

-- a route's fields as text, `PREFIX,FEED,NAME,FILE,P,VIA,DISCARD`, with this text of its feed's number, name and file
unfoldable pub route_record : List ℕ → Route → List ℕ
route_record feed r =
    prefix_text r.prefix.base r.prefix.len ++ (codes "," ++ (feed ++ (codes "," ++ (decimal r.pref ++ (codes "," ++ hop_record r.hop)))))
