-- The terms for feeds that may be asleep, at any moment between two atomic steps.
use Rattle.std.specs.Prelude.{◌≡◌, ◌≢◌, ℕ, ◌⊎◌, slice_index}
use mathlib.Core.Option.{some}
use lib.ListN.{get_elem?}
use Rattle.ya_core.specs.declared.process.Process.{Process}
use Rattle.ya_lock.specs.declared.rule.View.TheVariants.{Watching, Owes}
use Rattle.ya_lock.specs.Rule.{bell_index}
use Rattle.ya_lock.specs.LockState.{GoesOn}
use Rattle.rt_shared.specs.declared.lent.Lent.{Lent}
use Rattle.rt_shared.specs.Moments.{Moment}

-- the feed of the place may be asleep, at this point of its way in: only a seat with such a view parks
abbrev pub MayBeAsleep : Moment → (place : ℕ) → Process → Type 0
MayBeAsleep s place process =
    (seat : ℕ) × ((seen : Lent) × ((count : ℕ) × (get_elem? s.views seat ≡ some (Watching place process seen count))))

-- the bell of the place is off
abbrev pub BellIsOff : Moment → (levels place : ℕ) → Type 0
BellIsOff s levels place = slice_index s.words (bell_index levels place) ≢ 1

-- the feed of the place owes a ring to the feed of the other place
abbrev pub OwesRingTo : Moment → (place other : ℕ) → Type 0
OwesRingTo s place other =
    (seat : ℕ)
    × ((process : Process)
    × ((seen : Lent) × ((count : ℕ) × (get_elem? s.views seat ≡ some (Owes place process seen count other)))))

-- each feed that may be asleep and could go on, with the words as they are, has its bell off, or another feed owes it a
-- ring
abbrev pub NobodyIsForgotten : (levels : ℕ) → Moment → Type 0
NobodyIsForgotten levels s =
    (place : ℕ) (process : Process) → MayBeAsleep s place process → GoesOn s levels place process
    → BellIsOff s levels place ⊎ ((other : ℕ) × (other ≢ place) × OwesRingTo s other place)
