-- The numbers of routes: in all, of their prefixes, of each feed, and to prefixes of each length; and routes followed by
-- their number. Numbers have no columns, so CSV has plain lines for them.
use Rattle.std.specs.Prelude.{ℕ, ◌+◌, ◌==◌, if◌then◌else◌, List, [], ◌++◌, length, codes, decimal, count_by}
use Rattle.std.specs.List.{dedup, flat_map, range_with_len}
use Rattle.rt_cidr.specs.Prefix.{same_prefix}
use Rattle.rt_rib.specs.declared.limits.TheConstants.{MAX_FEEDS}
use Rattle.rt_rib.specs.declared.routes.Route.{Route}
use Rattle.rt_rib.specs.Table.{count_of}
use Rattle.rt_print.specs.declared.format.Syntax.{Syntax}
use Rattle.rt_print.specs.declared.format.Syntax.TheVariants.{Json}
use Rattle.rt_print.specs.declared.counts.TheConstants.{MAX_BITS}
use Rattle.rt_print.specs.Styles.{StyleContents, label_of, rows_as}

-- the number of prefixes of the routes, if routes to the same prefix are adjacent
abbrev pub prefix_count : List Route → ℕ
prefix_count routes = length (dedup (λ s r. same_prefix s.prefix r.prefix) routes)

-- the number of routes to prefixes of this length
abbrev pub length_count : ℕ → List Route → ℕ
length_count len routes = count_by (λ r. r.prefix.len == len) routes

-- the text of the numbers of routes and of prefixes
unfoldable pub totals_as : Syntax → ℕ → ℕ → List ℕ
totals_as Json routes prefixes = codes "{\"routes\":" ++ (decimal routes ++ (codes ",\"prefixes\":" ++ (decimal prefixes ++ codes "}\n")))
totals_as _ routes prefixes = codes "routes " ++ (decimal routes ++ (codes " prefixes " ++ (decimal prefixes ++ codes "\n")))

-- the text of the number of routes of this kind and name, empty for 0
unfoldable pub count_as : Syntax → List ℕ → List ℕ → ℕ → List ℕ
count_as Json kind name count =
    if count == 0 then [] else codes "{\"" ++ (kind ++ (codes "\":" ++ (name ++ (codes ",\"routes\":" ++ (decimal count ++ codes "}\n")))))
count_as _ kind name count = if count == 0 then [] else kind ++ (codes " " ++ (name ++ (codes " routes " ++ (decimal count ++ codes "\n"))))

-- all these numbers of routes
unfoldable pub counts_as : StyleContents → List Route → List ℕ
counts_as style routes =
    totals_as style.syntax (length routes) (prefix_count routes)
    ++ (flat_map (λ feed. count_as style.syntax (codes "feed") (label_of style.labels feed) (count_of feed routes)) (range_with_len 0 (MAX_FEEDS + 1))
    ++ flat_map (λ len. count_as style.syntax (codes "length") (decimal len) (length_count len routes)) (range_with_len 0 (MAX_BITS + 1)))

-- the text of the number of routes before it
unfoldable pub total_as : Syntax → ℕ → List ℕ
total_as Json count = codes "{\"total\":" ++ (decimal count ++ codes "}\n")
total_as _ count = codes "total " ++ (decimal count ++ codes "\n")

-- the routes in order, and last their number
abbrev pub rows_and_total_as : StyleContents → List Route → List ℕ
rows_and_total_as style routes = rows_as style routes ++ total_as style.syntax (length routes)
