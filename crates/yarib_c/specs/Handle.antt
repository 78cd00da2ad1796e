-- What a pointer from C points to.
use Rattle.std.specs.Prelude.{Option, Some, None}
use Rattle.std.specs.Ptr.{Ptr, null_ptr, block_ptr}
use Rattle.yarib_c.specs.declared.held.Held.{Held}

-- nothing if it is null
abbrev pub held_at : Ptr → Held → Option Held
held_at null_ptr held = None
held_at (block_ptr b o) held = Some held
