-- What a pointer from C owns: the contents of a box, or nothing if it is null.
use base.Fml.{Fml, ftrue}
use base.Stored.{Coded}
use denote.RattleType.{RattleType}
use Rattle.std.specs.Ptr.{Ptr, null_ptr, block_ptr}
use Rattle.std.specs.Box.Ownership.{box_owns}
use Rattle.std.specs.Global.{Global}
use Rattle.std.specs.contracts.impls.GlobalAllocator.TheImpl.{ghosts}
use Rattle.yarib_c.specs.contracts.held.Held as Held
use Rattle.yarib_c.specs.declared.held.Held as declared

-- how a box stores what a handle holds
abbrev pub held_row : RattleType
held_row = Held.the_row

-- what the pointer owns: a box with what the handle holds, or nothing if it is null
abbrev pub owns_held : Global → Ptr → declared.Held → Fml
owns_held alloc null_ptr held = ftrue
owns_held alloc (block_ptr b o) held = box_owns (ghosts.dealloc_token alloc) held_row (block_ptr b o) held

-- how a ghost field stores what a handle holds
abbrev pub held_coded : Coded declared.Held
held_coded = held_row.coded
