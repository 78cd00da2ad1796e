-- A tally of two parts; each place changes its own.
use Rattle.std.specs.Prelude.{◌≡◌, ◌≢◌, ℕ, ◌==◌, if◌then◌else◌}
use Rattle.ya_lock.specs.Lock.{LockId, IdlePass}
use Rattle.walkthrough.specs.declared.lock.Tally.{Tally}

-- the part of a place; places other than these two have none
abbrev pub part : ℕ → Tally → ℕ
part place t = if place == 0 then t.first else if place == 1 then t.second else 0

-- the place's part is unchanged
abbrev pub KeepsPart : ℕ → Tally → Tally → Type 0
KeepsPart place a b = part place b ≡ part place a

-- the parts of all other places are unchanged
abbrev pub KeepsOthers : ℕ → Tally → Tally → Type 0
KeepsOthers place a b = (other : ℕ) → other ≢ place → KeepsPart other a b

-- the lock's pass of this place, which hasn't counted anything
pub record IsFreshPass (lock : LockId) (place : ℕ) (pass : IdlePass Tally) : Type 0 where
  pub of_lock : pass.lock ≡ lock
  pub at_place : pass.place ≡ place
  pub counted : part place pass.seen ≡ 0
