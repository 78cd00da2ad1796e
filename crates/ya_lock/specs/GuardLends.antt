-- A guard after a write to its lent value.
use Rattle.ya_lock.specs.Lock.{OpenGuard}

-- the guard with this value
abbrev pub guard_with_value : {V : Type 0} → OpenGuard V → V → OpenGuard V
guard_with_value g v =
    record { lock = g.lock; place = g.place; found = g.found; value = v; remote = g.remote; view = g.view }
