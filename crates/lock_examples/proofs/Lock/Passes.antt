-- Examples of passes and guards.
use Rattle.std.proofs.Common.{◌≡◌, ℕ, refl}
use Rattle.ya_core.specs.declared.process.Process.TheVariants.{Idle, Inside}
use Rattle.ya_lock.specs.declared.rule.View.TheVariants.{Seated}
use Rattle.ya_lock.specs.Lock.{LockId, IdlePass, OpenGuard, new_pass, guard_of, pass_of}
use Rattle.ya_lock.specs.GuardLends.{guard_with_value}

-- the pass of place 1, which has never entered; its guard, which found 9 after three remote accesses; and the pass
-- again after the guard left 8
abbrev a_new_pass : LockId → IdlePass ℕ
a_new_pass lock = new_pass lock 1 7

abbrev its_guard : LockId → OpenGuard ℕ
its_guard lock = guard_of (a_new_pass lock) 9 3

abbrev its_pass_again : LockId → IdlePass ℕ
its_pass_again lock = pass_of (guard_with_value (its_guard lock) 8) 5

-- new_pass
one_that_has_entered_never : (lock : LockId) → (a_new_pass lock).view ≡ Seated 1 Idle 7 0
one_that_has_entered_never lock = refl

-- guard_of
its_process_is_inside : (lock : LockId) → (its_guard lock).view ≡ Seated 1 Inside 9 3
its_process_is_inside lock = refl

-- guard_with_value
it_stays_inside : (lock : LockId) → (guard_with_value (its_guard lock) 8).view ≡ Seated 1 Inside 9 3
it_stays_inside lock = refl

-- pass_of
its_process_is_idle : (lock : LockId) → (its_pass_again lock).view ≡ Seated 1 Idle 8 5
its_process_is_idle lock = refl

-- guard_of
it_has_what_its_entry_found :
    (lock : LockId) → guard_of (new_pass {V = ℕ} lock 1 7) 8 3
    ≡ record { lock = lock; place = 1; found = 8; value = 8; remote = 3; view = Seated 1 Inside 8 3 }
it_has_what_its_entry_found lock = refl

-- guard_with_value
with_another_value :
    (lock : LockId) → guard_with_value (guard_of (new_pass {V = ℕ} lock 1 7) 8 3) 9
    ≡ record { lock = lock; place = 1; found = 8; value = 9; remote = 3; view = Seated 1 Inside 8 3 }
with_another_value lock = refl

-- pass_of
it_has_seen_what_its_guard_leaves :
    (lock : LockId)
    → pass_of {V = ℕ} (record { lock = lock; place = 1; found = 8; value = 9; remote = 3; view = Seated 1 Inside 8 3 }) 6
    ≡ record { lock = lock; place = 1; seen = 9; remote = 6; view = Seated 1 Idle 9 6 }
it_has_seen_what_its_guard_leaves lock = refl

-- new_pass
it_has_made_no_access_yet :
    (lock : LockId) → new_pass {V = ℕ} lock 1 7
    ≡ record { lock = lock; place = 1; seen = 7; remote = 0; view = Seated 1 Idle 7 0 }
it_has_made_no_access_yet lock = refl
