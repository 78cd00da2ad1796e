-- The number of points that a process has ahead of it: the measure for the end of its way.
use Rattle.std.specs.Prelude.{◌≡◌, ℕ, ◌+◌, ◌-◌, ◌*◌, ◌<◌, Bool, if◌then◌else◌, IsTrue, ◌⊎◌}
use Rattle.ya_core.specs.declared.process.EntryPoint.{EntryPoint}
use Rattle.ya_core.specs.declared.process.ExitPoint.{ExitPoint}
use Rattle.ya_core.specs.declared.process.Process.{Process}
use Rattle.ya_core.specs.declared.process.Process.TheVariants.{Idle, Entering, Inside, Leaving}
use Rattle.ya_core.specs.WalkerModel.{Walk, entry_behind, exit_behind, is_waiting}

-- the number of points of a level ahead on the way in, this one included
abbrev pub entry_points : EntryPoint → ℕ
entry_points point = 10 - (entry_behind point).0

-- the same for the way out
abbrev pub exit_points : ExitPoint → ℕ
exit_points point = 3 - exit_behind point

-- the number of points ahead until the process is inside, or idle again
abbrev pub points_of : ℕ → Process → Bool → ℕ
points_of levels Idle begun = if begun then 10 * levels else 0
points_of levels (Entering level point) begun = 10 * (levels - level) + entry_points point
points_of levels Inside begun = if begun then 3 * levels else 0
points_of levels (Leaving level point) begun = 3 * (level - 1) + exit_points point

-- the number of points ahead of a walk
abbrev pub points_ahead : Walk → ℕ
points_ahead w = points_of w.levels w.process w.begun

-- fewer points are ahead, unless the walk waits and its process is unchanged
abbrev pub ComesNearer : Walk → Walk → Type 0
ComesNearer old new =
    (points_ahead new < points_ahead old) ⊎ (IsTrue (is_waiting old.process) × (new.process ≡ old.process))
