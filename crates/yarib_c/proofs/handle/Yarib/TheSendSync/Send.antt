use mir.Raw.{raw}
use base.Shift.{Keyless}
use denote.Memory.{lone}
use denote.RawPtr.{Ptr, block_ptr, null_ptr}
use denote.Exit.{Exit, unchanged, leaves, hidden, under}
use denote.Struct.Struct.{exits_of}
use denote.Struct.Owning.{shape, fields, to}
use denote.Param.Send.{IsSend, Quiet, AllSend, owning_send, struct_send, part_keyless, sendable}
use base.Fraction.{full_share}
use Rattle.std.proofs.Crossing as heap
use Rattle.std.proofs.alloc.Global.TheSendSync as handle
use Rattle.std.specs.Global.{Global}
use Rattle.yarib_c.proofs.Crossing.{held_send}
use Rattle.yarib_c.specs.declared.held.Held.{Held}
use Rattle.yarib_c.specs.inside.Owned.{held_row, owns_held}
use Rattle.yarib_c.specs.contracts.handle.Yarib.{the_row, the_type}

owned : (alloc : Global) (p : Ptr) (x : Held) → Keyless (owns_held alloc p x)
owned alloc (block_ptr b o) x = (part_keyless held_row held_send full_share x b o, heap.frees.frees alloc (raw (lone held_row.mir)) (block_ptr b o))
owned alloc null_ptr x = tt

quiet : {D X : Type 0} (to : D → X) (e : Exit X) → Quiet e → Quiet (hidden (under to e))
quiet to unchanged q = λ x w. tt
quiet to (leaves L l S s r₀) q = λ d. q (to d)

pub send : IsSend the_row
send =
    let all : AllSend (fields the_type) = (search sendable, (handle.the_field_send, tt)) in
    owning_send the_type all (λ d. owned d.alloc d.at d.held)
    (λ k. quiet (to the_type) (exits_of k (fields the_type)) ((struct_send (shape the_type) all).leaving k))
