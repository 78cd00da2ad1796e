-- The parts of a text in a style, on both sides of a feed's label; and the place that is inside after the steps of a replay.
use Rattle.std.specs.Prelude.{ℕ, ◌+◌, ◌==◌, false, if◌then◌else◌, List, [], ◌∷◌, ◌++◌, map, codes, decimal, fold, Option, None, Some}
use Rattle.rt_cidr.specs.declared.address.Addr.{Addr}
use Rattle.rt_cidr.specs.Text.{address_text, prefix_text}
use Rattle.rt_rib.specs.declared.routes.Route.{Route}
use Rattle.rt_rib.specs.LookUp.{reason}
use Rattle.rt_print.specs.declared.format.Syntax.{Syntax}
use Rattle.rt_print.specs.declared.format.Syntax.TheVariants.{Line, Json, Csv}
use Rattle.rt_print.specs.declared.labels.FeedLabel.{FeedLabel}
use Rattle.rt_print.specs.Routes.{hop_text, hop_members}
use Rattle.rt_print.specs.Csv.{line_end, hop_record}
use Rattle.rt_print.specs.Styles.{address_head, reason_text, also_line, also_object, also_record}
use Rattle.std.specs.Option.{option_map_or}
use Rattle.ya_core.specs.declared.step.Mark.{Mark}
use Rattle.ya_core.specs.declared.step.Mark.TheVariants.{Inside}
use Rattle.ya_core.specs.declared.step.Step.{Step}

-- each label with its number
abbrev pub label_pairs : List FeedLabel → List (ℕ × List ℕ)
label_pairs labels = map (λ label. (label.number, label.text.items)) labels

-- a route before its feed's label
unfoldable pub route_front : Syntax → Route → List ℕ
route_front Line r = prefix_text r.prefix.base r.prefix.len ++ codes " feed "
route_front Json r = codes "{\"prefix\":\"" ++ (prefix_text r.prefix.base r.prefix.len ++ codes "\",\"feed\":")
route_front Csv r = prefix_text r.prefix.base r.prefix.len ++ codes ","

-- a route after its feed's label, without an object's end
unfoldable pub route_back : Syntax → Route → List ℕ
route_back Line r = codes " pref " ++ (decimal r.pref ++ (codes " via " ++ hop_text r.hop))
route_back Json r = codes ",\"pref\":" ++ (decimal r.pref ++ (codes "," ++ hop_members r.hop))
route_back Csv r = codes "," ++ (decimal r.pref ++ (codes "," ++ hop_record r.hop))

-- a route with this label of its feed, without an object's end
unfoldable pub route_open : Syntax → List ℕ → Route → List ℕ
route_open syntax label r = route_front syntax r ++ (label ++ route_back syntax r)

-- the end of a row
unfoldable pub row_end : Syntax → List ℕ
row_end Line = codes "\n"
row_end Json = codes "}\n"
row_end Csv = line_end

-- the address of a look-up and this word, or the same as the beginning of an object or of a line of CSV
unfoldable pub asked_head : Syntax → Addr → List ℕ → List ℕ
asked_head Line addr word = address_text addr.0 ++ word
asked_head Json addr word = address_head addr
asked_head Csv addr word = address_text addr.0 ++ codes ","

-- what is between the best route that covers an address and the others, and what is after these
unfoldable pub others_begin : Syntax → List ℕ
others_begin Line = codes "\n"
others_begin Json = codes "},\"also\":["
others_begin Csv = codes "," ++ line_end

unfoldable pub others_end : Syntax → List ℕ
others_end Json = codes "]}\n"
others_end _ = []

-- the reason why a route lost to the best one, and the end of its line or object
unfoldable pub reason_end : Syntax → Route → Route → List ℕ
reason_end Line best r = codes " " ++ (reason_text (reason best r) ++ codes "\n")
reason_end Json best r = codes ",\"reason\":\"" ++ (reason_text (reason best r) ++ codes "\"}")
reason_end Csv best r = codes "," ++ (reason_text (reason best r) ++ line_end)

-- a route that lost to the best one, an object after this text; here and below `label` gives the label of each feed
unfoldable pub other_as : Syntax → (ℕ → List ℕ) → Addr → Route → List ℕ → Route → List ℕ
other_as Line label addr best comma r = also_line label addr best r
other_as Json label addr best comma r = comma ++ also_object label best r
other_as Csv label addr best comma r = also_record label addr best r

-- routes that lost to it, objects with commas between them; the first route has this number among all that lost
abbrev pub others_as : Syntax → (ℕ → List ℕ) → Addr → Route → ℕ → List Route → List ℕ
others_as syntax label addr best number [] = []
others_as syntax label addr best number (r ∷ rs) =
    other_as syntax label addr best (if number == 1 then [] else codes ",") r ++ others_as syntax label addr best (number + 1) rs

-- the texts of two answers at the end of a line or of an object
unfoldable pub change_end : Syntax → List ℕ → List ℕ → List ℕ
change_end Line old new = codes " " ++ (old ++ (codes " -> " ++ (new ++ codes "\n")))
change_end Json old new = codes "\",\"old\":" ++ (old ++ (codes ",\"new\":" ++ (new ++ codes "}\n")))
change_end Csv old new = codes "," ++ (old ++ (codes "," ++ (new ++ line_end)))

-- the place that is inside after a step of this place with this mark: the step's place, if it won the root; none, if it is
-- a later step of the place that was inside
abbrev pub inside_next : Option ℕ → ℕ → Mark → Option ℕ
inside_next inside place Inside = Some place
inside_next inside place _ = if option_map_or (λ p. p == place) inside false then None else inside

-- the place that is inside after these steps: the last that won the root, unless it made a later step
abbrev pub inside_after : List Step → Option ℕ
inside_after steps = fold (λ inside step. inside_next inside step.place step.mark) None steps
