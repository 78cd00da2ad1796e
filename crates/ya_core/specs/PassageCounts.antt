-- The number of remote accesses that a place makes in a run.
use Rattle.std.specs.Prelude.{ℕ, zero, suc, ◌+◌, ◌==◌, if◌then◌else◌, Option, Some, None}
use Rattle.ya_core.specs.Steps.{State, access_of}
use Rattle.ya_core.specs.WalkerModel.{cost_of}

-- the number of remote accesses, 0 or 1, that the place makes for a pick in this state
abbrev pub cost_of_pick : ℕ → ℕ → State → Option ℕ → ℕ
cost_of_pick place levels s None = 0
cost_of_pick place levels s (Some picked) =
    if picked == place then cost_of place (access_of levels place (s.processes place)) else 0

-- the number of remote accesses that the place makes in a run before this time
abbrev pub remote_accesses : ℕ → ℕ → (ℕ → Option ℕ) → (ℕ → State) → ℕ → ℕ
remote_accesses place levels schedule states zero = 0
remote_accesses place levels schedule states (suc time) =
    remote_accesses place levels schedule states time + cost_of_pick place levels (states time) (schedule time)
