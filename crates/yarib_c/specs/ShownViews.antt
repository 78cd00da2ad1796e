-- Look-ups in a view.
use Rattle.std.specs.Prelude.{◌≡◌, ℕ, ◌<◌, List, length, slice_index_or}
use Rattle.rt_rib.specs.declared.routes.Route.{Route}
use Rattle.rt_rib.specs.LookUp.{look_up}
use Rattle.rt_fib.specs.Views.{IsAnswerNumber, ViewShows}
use Rattle.yarib_c.specs.Calls.{addr}

-- whichever table the view shows, the number denotes the next hop of what that table answers the address
abbrev pub AnswersByNumber : List ℕ → List ℕ → List ℕ → ℕ → ℕ → Type 0
AnswersByNumber entries blocks routers address number = (routes : List Route) → ViewShows entries blocks routers routes
    → IsAnswerNumber routers number (look_up (addr address) routes)

-- so does each of the numbers, for the address at the same place
pub record AnswersEachByNumber (entries blocks routers addresses numbers : List ℕ) : Type 0 where
  pub size : length numbers ≡ length addresses
  pub each : (k : ℕ) → k < length addresses → AnswersByNumber entries blocks routers (slice_index_or addresses k 0) (slice_index_or numbers k 0)
