-- The text of a route, as a line and as a JSON object (RFC 8259), and of the whole table.
use Rattle.std.specs.Prelude.{ℕ, ◌/◌, ◌%◌, ◌==◌, ◌||◌, nat_lt, if◌then◌else◌, List, [], ◌∷◌, ◌++◌, codes, decimal, length}
use Rattle.std.specs.List.{flat_map}
use Rattle.std.specs.Char.{digit_char}
use Rattle.rt_cidr.specs.Text.{address_text, prefix_text}
use Rattle.rt_rib.specs.declared.routes.Hop.{Hop}
use Rattle.rt_rib.specs.declared.routes.Hop.TheVariants.{Via, Discard}
use Rattle.rt_rib.specs.declared.routes.Route.{Route}

-- a byte in a string (section 7): a quotation mark and a reverse solidus have a reverse solidus before them, a control
-- character is written as its number in hexadecimal, and any other byte as itself
abbrev pub escaped : ℕ → List ℕ
escaped byte =
    if byte == 34 || byte == 92 then codes "\\" ++ byte ∷ []
    else if nat_lt byte 32 then codes "\\u00" ++ (digit_char (byte / 16) ∷ digit_char (byte % 16) ∷ [])
    else byte ∷ []

-- the string of these bytes
unfoldable pub json_string : List ℕ → List ℕ
json_string bytes = codes "\"" ++ (flat_map escaped bytes ++ codes "\"")

-- the next hop as members of an object: `"via":"ADDR"`, or `"via":null,"discard":true`
abbrev pub hop_members : Hop → List ℕ
hop_members (Via address) = codes "\"via\":\"" ++ (address_text address.0 ++ codes "\"")
hop_members Discard = codes "\"via\":null,\"discard\":true"

-- a route as an object, `{"prefix":"PREFIX","feed":FEED,"pref":P,` and its next hop, followed by these further members
unfoldable pub route_object : List ℕ → Route → List ℕ → List ℕ
route_object feed r further =
    codes "{\"prefix\":\"" ++ (prefix_text r.prefix.base r.prefix.len ++ (codes "\",\"feed\":" ++ (feed ++ (codes ",\"pref\":"
    ++ (decimal r.pref ++ (codes "," ++ (hop_members r.hop ++ (further ++ codes "}"))))))))

-- the next hop's address, or `discard`
abbrev pub hop_text : Hop → List ℕ
hop_text (Via address) = address_text address.0
hop_text Discard = codes "discard"

-- `PREFIX feed FEED pref P via HOP` with this text for the feed
abbrev pub route_line : List ℕ → Route → List ℕ
route_line feed route =
    prefix_text route.prefix.base route.prefix.len ++ (codes " feed " ++ (feed ++
    (codes " pref " ++ (decimal route.pref ++ (codes " via " ++ hop_text route.hop)))))

-- a route with its feed's number
unfoldable pub route_text : Route → List ℕ
route_text route = route_line (decimal route.feed) route

-- a route of the table
unfoldable pub row_text : Route → List ℕ
row_text route = route_text route ++ codes "\n"

-- the table's first line
unfoldable pub count_text : ℕ → List ℕ
count_text count = codes "table " ++ (decimal count ++ codes "\n")

-- the table: `table COUNT`, and then the routes in order
abbrev pub table_text : List Route → List ℕ
table_text routes = count_text (length routes) ++ flat_map row_text routes
