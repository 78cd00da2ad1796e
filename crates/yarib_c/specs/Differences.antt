-- A range of addresses that have different answers in two tables, as C sees it.
use Rattle.std.specs.Prelude.{◌≡◌, ℕ, List, Some, None}
use Rattle.rt_rib.specs.declared.routes.Route.{Route}
use Rattle.rt_diff.specs.declared.table_answers.CompareBy.{CompareBy}
use Rattle.rt_diff.specs.declared.table_answers.CompareBy.TheVariants as by
use Rattle.rt_diff.specs.declared.table_answers.TableAnswer.{TableAnswer}
use Rattle.rt_diff.specs.declared.table_answers.TableAnswer.TheVariants as answer
use Rattle.rt_diff.specs.declared.comparison.Difference.{Difference}
use Rattle.rt_diff.specs.Answers.{own_numbers}
use Rattle.rt_diff.specs.Differences.{IsFirstDifference}
use Rattle.yarib_c.specs.declared.routes.YaribRoute.{YaribRoute}
use Rattle.yarib_c.specs.declared.differences.YaribDifference.{YaribDifference}
use Rattle.yarib_c.specs.Forms.{no_route, route_as, hop_as}
use Rattle.yarib_c.specs.Calls.{addr}

-- the part of an answer that is compared, as a number
abbrev pub by_number : CompareBy → ℕ
by_number by.Hop = 0
by_number by.Route = 1

-- an answer as a route; when comparing by next hop, only the next hop is set
abbrev pub told_as : TableAnswer → YaribRoute
told_as answer.NoRoute = no_route
told_as (answer.Hop hop) = hop_as hop
told_as (answer.Route r) = route_as r

-- a range with its two answers
abbrev pub told_difference : Difference → YaribDifference
told_difference d = record { first = d.first.0; last = d.last.0; before = told_as d.old; after = told_as d.new }

-- the first range from the address on
pub record TellsDifference (number : ℕ) (old new : List Route) (from : ℕ) (told : YaribDifference) : Type 0 where
  pub way : CompareBy
  pub way_is : by_number way ≡ number
  pub range : Difference
  pub is_first : IsFirstDifference way (own_numbers old) (own_numbers new) (addr from) (Some range)
  pub is : told ≡ told_difference range

-- both tables give the same answers from the address on
pub record IsAlikeFrom (number : ℕ) (old new : List Route) (from : ℕ) : Type 0 where
  pub way : CompareBy
  pub way_is : by_number way ≡ number
  pub is_first : IsFirstDifference way (own_numbers old) (own_numbers new) (addr from) None
