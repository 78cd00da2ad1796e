-- The texts of lines and objects by their parts, and the maximum lengths of these parts.
use Rattle.std.proofs.Common.{◌≡◌, ◌==◌, ℕ, ◌+◌, ◌<◌, ◌≤◌, false, if◌then◌else◌, List, [], ◌∷◌, ◌++◌, length, codes, decimal, Some, None, append_assoc, append-nil, refl, ap, arith, length-append}
use Rattle.std.specs.List.{flat_map, join_by}
use Rattle.std.proofs.lemmas.Bool.Decides.{nat_tests}
use Rattle.rt_cidr.specs.declared.address.Addr.{Addr}
use Rattle.rt_cidr.specs.Text.{address_text, prefix_text}
use Rattle.rt_cidr.proofs.Promised.{length-decimal, length-address_text, length-prefix_text}
use Rattle.rt_rib.specs.declared.routes.Hop.{Hop}
use Rattle.rt_rib.specs.declared.routes.Route.{Route}
use Rattle.rt_rib.specs.declared.routes.Reason.{Reason}
use Rattle.rt_print.specs.declared.format.Syntax.{Syntax}
use Rattle.rt_print.specs.declared.format.Syntax.TheVariants.{Line, Json, Csv}
use Rattle.rt_print.specs.Csv.{line_end, hop_record, route_record}
use Rattle.rt_print.specs.DifferenceText.{prefix_as}
use Rattle.rt_print.specs.Routes.{hop_text, hop_members, route_text, route_line, route_object}
use Rattle.rt_print.specs.Styles.{reason_text, also_line, also_object, also_record, address_head, row_as, found_as, all_found_as}
use Rattle.rt_print.specs.inside.Parts.{route_front, route_back, route_open, row_end, asked_head, reason_end, others_begin, others_end, other_as, others_as, change_end}

pub hop_fits : (hop : Hop) → length (hop_text hop) ≤ 15
hop_fits hop = grind (arith, length-address_text)

pub route_fits : (route : Route) → length (route_text route) ≤ 250
unfolding route_text
route_fits route = simp length-append (omega (arith, length-prefix_text, length-decimal, hop_fits))

reason_fits : (why : Reason) → length (reason_text why) ≤ 10
unfolding reason_text
reason_fits why = grind arith

-- a route with its feed's number, by its parts
pub route_parts : (r : Route) → route_text r ≡ route_front Line r ++ (decimal r.feed ++ route_back Line r)
unfolding route_front route_back route_text
route_parts r = simp append_assoc

-- a row, by its parts
pub row_parts : (syntax : Syntax) (label : ℕ → List ℕ) (r : Route) → route_open syntax (label r.feed) r ++ row_end syntax ≡ row_as syntax label r
unfolding route_open route_front route_back route_object route_record row_end row_as
row_parts Line label r = simp append_assoc
row_parts Json label r = simp append_assoc
row_parts Csv label r = simp append_assoc

-- the line of a look-up without a result
pub none_line_parts : (label : ℕ → List ℕ) (addr : Addr) → asked_head Line addr (codes " no route\n") ≡ found_as Line label addr None
unfolding asked_head found_as
none_line_parts label addr = refl

-- the text of a look-up result, by its parts
pub found_line_parts : (label : ℕ → List ℕ) (addr : Addr) (r : Route)
    → asked_head Line addr (codes " route ") ++ (route_open Line (label r.feed) r ++ codes "\n") ≡ found_as Line label addr (Some r)
unfolding asked_head route_open route_front route_back found_as
found_line_parts label addr r = simp append_assoc

pub found_object_parts : (label : ℕ → List ℕ) (addr : Addr) (r : Route)
    → asked_head Json addr (codes " route ") ++ (route_open Json (label r.feed) r ++ codes "}}\n") ≡ found_as Json label addr (Some r)
unfolding asked_head address_head route_open route_front route_back route_object found_as
found_object_parts label addr r = simp append_assoc

pub found_record_parts : (label : ℕ → List ℕ) (addr : Addr) (r : Route)
    → asked_head Csv addr (codes " route ") ++ (route_open Csv (label r.feed) r ++ line_end) ≡ found_as Csv label addr (Some r)
unfolding asked_head route_open route_front route_back route_record found_as
found_record_parts label addr r = simp append_assoc

-- the object of a look-up without a result, by its parts; and the same if all that cover the address were asked for
pub none_parts : (label : ℕ → List ℕ) (addr : Addr)
    → codes "{\"address\":\"" ++ (address_text addr.0 ++ codes "\",\"route\":null}\n") ≡ found_as Json label addr None
unfolding address_head found_as
none_parts label addr = simp append_assoc

pub none_of_all_parts : (label : ℕ → List ℕ) (addr : Addr)
    → codes "{\"address\":\"" ++ (address_text addr.0 ++ codes "\",\"route\":null,\"also\":[]}\n") ≡ all_found_as Json label addr []
unfolding address_head all_found_as
none_of_all_parts label addr = simp append_assoc

-- the routes that lost to the best one, after the first of these
others_behind : (syntax : Syntax) (label : ℕ → List ℕ) (addr : Addr) (best : Route) (number : ℕ) (rs : List Route)
    → 1 < number → others_as syntax label addr best number rs ≡ flat_map (other_as syntax label addr best (codes ",")) rs
others_behind syntax label addr best number [] later = refl
others_behind syntax label addr best number (r ∷ rs) later =
    let behind : (number == 1) ≡ false = grind (arith, nat_tests) in
    rw behind (ap (λ text. other_as syntax label addr best (codes ",") r ++ text) (others_behind syntax label addr best (number + 1) rs (omega arith)))

-- an object has the routes that lost in a list
object_around : (label : ℕ → List ℕ) (addr : Addr) (best : Route) (told : List ℕ)
    → (address_head addr ++ (route_open Json (label best.feed) best ++ codes "},\"also\":[")) ++ (told ++ codes "]}\n")
    ≡ address_head addr ++ (route_object (label best.feed) best [] ++ (codes ",\"also\":[" ++ (told ++ codes "]}\n")))
unfolding address_head route_open route_front route_back route_object
object_around label addr best told = simp append_assoc

-- the text of all routes that cover an address, by its parts
pub others_parts : (syntax : Syntax) (label : ℕ → List ℕ) (addr : Addr) (best : Route) (others : List Route)
    → (asked_head syntax addr (codes " route ") ++ (route_open syntax (label best.feed) best ++ others_begin syntax))
    ++ (others_as syntax label addr best 1 others ++ others_end syntax) ≡ all_found_as syntax label addr (best ∷ others)
unfolding asked_head route_open route_front route_back route_record others_begin others_end found_as all_found_as other_as
others_parts Line label addr best [] = simp (append_assoc, append-nil)
others_parts Json label addr best [] = object_around label addr best []
others_parts Csv label addr best [] = simp (append_assoc, append-nil)
others_parts Line label addr best (r ∷ rs) = rw (others_behind Line label addr best 2 rs (omega arith)) (simp (append_assoc, append-nil))
others_parts Json label addr best (r ∷ rs) =
    rw (others_behind Json label addr best 2 rs (omega arith)) (object_around label addr best (join_by (also_object label best) (codes ",") (r ∷ rs)))
others_parts Csv label addr best (r ∷ rs) = rw (others_behind Csv label addr best 2 rs (omega arith)) (simp (append_assoc, append-nil))

-- the text of each of them, by its parts
pub other_line_parts : (label : ℕ → List ℕ) (addr : Addr) (best r : Route)
    → asked_head Line addr (codes " also ") ++ (route_open Line (label r.feed) r ++ reason_end Line best r) ≡ also_line label addr best r
unfolding asked_head route_open route_front route_back reason_end
other_line_parts label addr best r = simp append_assoc

pub other_object_parts : (label : ℕ → List ℕ) (best : Route) (comma : List ℕ) (r : Route)
    → comma ++ (route_open Json (label r.feed) r ++ reason_end Json best r) ≡ comma ++ also_object label best r
unfolding route_open route_front route_back route_object reason_end
other_object_parts label best comma r = simp append_assoc

pub other_record_parts : (label : ℕ → List ℕ) (addr : Addr) (best r : Route)
    → asked_head Csv addr [] ++ (route_open Csv (label r.feed) r ++ reason_end Csv best r) ≡ also_record label addr best r
unfolding asked_head route_open route_front route_back route_record reason_end
other_record_parts label addr best r = simp append_assoc

-- the route in an answer, by its parts
pub answer_line_parts : (label : List ℕ) (r : Route) → route_open Line label r ++ [] ≡ route_line label r
unfolding route_open route_front route_back
answer_line_parts label r = simp (append_assoc, append-nil)

pub answer_object_parts : (label : List ℕ) (r : Route) → route_open Json label r ++ codes "}" ≡ route_object label r []
unfolding route_open route_front route_back route_object
answer_object_parts label r = simp append_assoc

pub answer_record_parts : (label : List ℕ) (r : Route) → route_open Csv label r ++ [] ≡ route_record label r
unfolding route_open route_front route_back route_record
answer_record_parts label r = simp (append_assoc, append-nil)

-- the line of a prefix with two answers, by its parts; and the object
pub prefix_line : (base len : ℕ) (old new : List ℕ)
    → address_text base ++ (codes "/" ++ (decimal len ++ change_end Line old new)) ≡ prefix_as Line old new (base, len)
unfolding prefix_text prefix_as change_end
prefix_line base len old new = simp append_assoc

pub prefix_object : (base len : ℕ) (old new : List ℕ)
    → codes "{\"prefix\":\"" ++ (address_text base ++ (codes "/" ++ (decimal len ++ change_end Json old new))) ≡ prefix_as Json old new (base, len)
unfolding prefix_text prefix_as change_end
prefix_object base len old new = simp append_assoc

pub prefix_record : (base len : ℕ) (old new : List ℕ)
    → address_text base ++ (codes "/" ++ (decimal len ++ change_end Csv old new)) ≡ prefix_as Csv old new (base, len)
unfolding prefix_text prefix_as change_end
prefix_record base len old new = simp append_assoc

pub route_front_fits : (syntax : Syntax) (r : Route) → length (route_front syntax r) ≤ 110
unfolding route_front
route_front_fits Line r = simp length-append (omega (arith, length-prefix_text))
route_front_fits Json r = simp length-append (omega (arith, length-prefix_text))
route_front_fits Csv r = simp length-append (omega (arith, length-prefix_text))

members_fit : (hop : Hop) → length (hop_members hop) ≤ 30
members_fit hop = grind (arith, length-append, length-address_text)

record_fits : (hop : Hop) → length (hop_record hop) ≤ 30
record_fits hop = grind (arith, length-append, length-address_text)

pub route_back_fits : (syntax : Syntax) (r : Route) → length (route_back syntax r) ≤ 120
unfolding route_back
route_back_fits Line r = simp length-append (omega (arith, length-decimal, hop_fits))
route_back_fits Json r = simp length-append (omega (arith, length-decimal, members_fit))
route_back_fits Csv r = simp length-append (omega (arith, length-decimal, record_fits))

pub address_head_fits : (addr : Addr) → length (address_head addr) ≤ 40
unfolding address_head
address_head_fits addr = simp length-append (omega (arith, length-address_text))

pub asked_head_fits : (syntax : Syntax) (addr : Addr) (word : List ℕ) → length (asked_head syntax addr word) ≤ 40 + length word
unfolding asked_head
asked_head_fits Line addr word = simp length-append (omega (arith, length-address_text))
asked_head_fits Json addr word = omega (arith, address_head_fits addr)
asked_head_fits Csv addr word = simp length-append (omega (arith, length-address_text))

pub reason_end_fits : (syntax : Syntax) (best r : Route) → length (reason_end syntax best r) ≤ 100
unfolding reason_end
reason_end_fits Line best r = simp length-append (omega (arith, reason_fits))
reason_end_fits Json best r = simp length-append (omega (arith, reason_fits))
reason_end_fits Csv best r = simp length-append (omega (arith, reason_fits))

-- each part has room in a short text: the lengths of parts add up
pub ruleset fits = (length-append, length-decimal, route_fits, route_front_fits, route_back_fits, address_head_fits, asked_head_fits, reason_end_fits)
