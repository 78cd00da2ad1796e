-- The differences of two tables in numbers: for each pair of next hops the number of ranges, and of their addresses, that
-- change from the one to the other. Numbers have no columns, so CSV has plain lines for them.
use Rattle.std.specs.Prelude.{◌≡◌, ◌⊎◌, ℕ, ◌+◌, ◌-◌, ◌==◌, ◌<◌, Bool, true, if◌then◌else◌, List, [], ◌∷◌, ◌++◌, All, AllPairs, sum_by, count_by, get_or, codes, decimal, Option, None, Some}
use Rattle.std.specs.List.{flat_map, range_with_len}
use Rattle.rt_rib.specs.declared.routes.Hop.{Hop}
use Rattle.rt_rib.specs.declared.routes.Hop.TheVariants.{Via, Discard}
use Rattle.rt_diff.specs.declared.table_answers.TableAnswer.{TableAnswer}
use Rattle.rt_diff.specs.declared.table_answers.TableAnswer.TheVariants as answered
use Rattle.rt_diff.specs.declared.comparison.Difference.{Difference}
use Rattle.rt_print.specs.declared.format.Syntax.{Syntax}
use Rattle.rt_print.specs.declared.format.Syntax.TheVariants.{Json}
use Rattle.rt_print.specs.declared.change_counts.ChangeCount.{ChangeCount}
use Rattle.rt_print.specs.declared.change_counts.TheConstants.{KINDS}
use Rattle.rt_print.specs.DifferenceText.{DiffContents, way_text}
use Rattle.rt_print.specs.Routes.{hop_members}

-- the next hop of an answer, if there is a route
abbrev pub hop_of : TableAnswer → Option Hop
hop_of answered.NoRoute = None
hop_of (answered.Hop hop) = Some hop
hop_of (answered.Route r) = Some r.hop

-- a test of an old and a new next hop
abbrev pub HopTest : Type 0
HopTest = Option Hop → Option Hop → Bool

-- the range passes the test
abbrev pub passes : HopTest → Difference → Bool
passes test d = test (hop_of d.old) (hop_of d.new)

-- the count passes the test
abbrev pub is_counted : HopTest → ChangeCount → Bool
is_counted test c = test c.old c.new

-- the number of addresses of a range
abbrev pub range_size : Difference → ℕ
range_size d = d.last.0 + 1 - d.first.0

-- the number of addresses of the ranges that pass the test
abbrev pub passing_size : HopTest → List Difference → ℕ
passing_size test list = sum_by (λ d. if passes test d then range_size d else 0) list

-- the number of ranges by the counts that pass the test
abbrev pub ranges_by : HopTest → List ChangeCount → ℕ
ranges_by test counts = sum_by (λ c. if is_counted test c then c.ranges else 0) counts

-- the number of addresses by the counts that pass the test
abbrev pub addresses_by : HopTest → List ChangeCount → ℕ
addresses_by test counts = sum_by (λ c. if is_counted test c then c.addresses else 0) counts

-- the position of a next hop in the order of counts: no route, `discard`, and then the others by their addresses
abbrev pub hop_position : Option Hop → ℕ
hop_position None = 0
hop_position (Some Discard) = 1
hop_position (Some (Via address)) = address.0 + 2

-- the old next hop is before the other one, or both are the same and the new one is before the other
abbrev pub IsBefore : ChangeCount → ChangeCount → Type 0
IsBefore c d =
    (hop_position c.old < hop_position d.old) ⊎ ((hop_position c.old ≡ hop_position d.old) × (hop_position c.new < hop_position d.new))

-- the counts of these ranges: for every test of next hops the counts that pass it sum to the ranges that pass it and to their
-- addresses. Each count has a range, they are in order, and no two have the same next hops
pub record AreChangeCounts (list : List Difference) (counts : List ChangeCount) : Type 0 where
  pub ranges : (test : HopTest) → ranges_by test counts ≡ count_by (passes test) list
  pub addresses : (test : HopTest) → addresses_by test counts ≡ passing_size test list
  pub some : All (λ c. 0 < c.ranges) counts
  pub rising : AllPairs IsBefore counts

-- the same ranges have only one list of counts
abbrev pub HaveOneCountList : Type 0
HaveOneCountList = (list : List Difference) (one other : List ChangeCount) → AreChangeCounts list one → AreChangeCounts list other → one ≡ other

-- the kind of a change, as a position among the words for it
abbrev pub kind_of : Option Hop → Option Hop → ℕ
kind_of (Some (Via old)) (Some (Via new)) = if old.0 == new.0 then 5 else 0
kind_of None (Some (Via new)) = 1
kind_of (Some hop) None = 2
kind_of None (Some Discard) = 3
kind_of (Some (Via old)) (Some Discard) = 3
kind_of (Some Discard) (Some (Via new)) = 4
kind_of (Some Discard) (Some Discard) = 5
kind_of None None = 5

-- the words for each kind
abbrev pub kind_words : List (List ℕ)
kind_words =
    codes "another next hop" ∷ codes "gets a route" ∷ codes "loses its route" ∷ codes "is discarded" ∷ codes "isn't discarded any more"
    ∷ codes "the same next hop by another route" ∷ []

-- a number of ranges and of their addresses, after this text of what they have in common
unfoldable pub number_as : Syntax → List ℕ → ℕ → ℕ → List ℕ
number_as Json front ranges addresses =
    codes "{" ++ (front ++ (codes "\"ranges\":" ++ (decimal ranges ++ (codes ",\"addresses\":" ++ (decimal addresses ++ codes "}\n")))))
number_as _ front ranges addresses =
    front ++ (codes "ranges " ++ (decimal ranges ++ (codes " addresses " ++ (decimal addresses ++ codes "\n"))))

-- the numbers of the counts that pass the test
abbrev pub sums_as : Syntax → List ℕ → HopTest → List ChangeCount → List ℕ
sums_as syntax front test counts = number_as syntax front (ranges_by test counts) (addresses_by test counts)

-- the kind, before its numbers
unfoldable pub kind_front : Syntax → ℕ → List ℕ
kind_front Json kind = codes "\"change\":\"" ++ (get_or kind_words kind [] ++ codes "\",")
kind_front _ kind = codes "change " ++ (get_or kind_words kind [] ++ codes " ")

-- the change is of this kind
abbrev pub is_of : ℕ → HopTest
is_of kind old new = kind_of old new == kind

-- the numbers of a kind, empty if no range is of this kind
unfoldable pub kind_as : Syntax → List ChangeCount → ℕ → List ℕ
kind_as syntax counts kind = if ranges_by (is_of kind) counts == 0 then [] else sums_as syntax (kind_front syntax kind) (is_of kind) counts

-- a next hop, if there is a route
unfoldable pub hop_as : Syntax → Option Hop → List ℕ
hop_as Json None = codes "null"
hop_as Json (Some hop) = codes "{" ++ (hop_members hop ++ codes "}")
hop_as _ None = codes "no route"
hop_as _ (Some hop) = way_text hop

-- the next hops, before their numbers
unfoldable pub hops_front : Syntax → Option Hop → Option Hop → List ℕ
hops_front Json old new = codes "\"old\":" ++ (hop_as Json old ++ (codes ",\"new\":" ++ (hop_as Json new ++ codes ",")))
hops_front syntax old new = codes "hops " ++ (hop_as syntax old ++ (codes " -> " ++ (hop_as syntax new ++ codes " ")))

-- a count
abbrev pub count_line : Syntax → ChangeCount → List ℕ
count_line syntax c = number_as syntax (hops_front syntax c.old c.new) c.ranges c.addresses

-- all ranges in numbers, then each kind, then each pair of next hops
unfoldable pub change_counts_as : DiffContents → List ChangeCount → List ℕ
change_counts_as asked counts =
    sums_as asked.old.syntax [] (λ old new. true) counts
    ++ (flat_map (kind_as asked.old.syntax counts) (range_with_len 0 KINDS) ++ flat_map (count_line asked.old.syntax) counts)
