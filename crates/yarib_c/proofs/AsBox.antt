-- A handle that holds something, and a box taken apart, own what a box of that owns. Assumes `Logic`.
use mir.Syntax.{impl, tnil, dnil}
use mir.Raw.{raw as bare}
use mathlib.Core.List.{[]}
use Rattle.std.specs.Prelude.{false}
use Rattle.rt_trie.specs.Tree.{Vacant}
use seplogic.Ra.Ura.{Ura}
use base.Fraction.{full_share}
use base.Logic.{ent, guard, via, snd∗, guard_i}
use types.Logic.{Logic, sem}
use contract.Monad.{fact_use}
use denote.Memory.{lone}
use denote.RawPtr.{Ptr, Testable, lies_at}
use denote.Signature.{Slot, plain}
use Rattle.std.specs.Box.Ownership.{box_owns}
use Rattle.std.proofs.BoxSteps.Form.{Bx, R, X}
use Rattle.std.specs.declared.alloc.Global.{Global}
use Rattle.std.specs.contracts.alloc.Global as Heap
use Rattle.std.specs.contracts.impls.GlobalAllocator.TheImpl.{ghosts, dict}
use Rattle.std.proofs.alloc.Global.TheLaws as heap
use Rattle.std.proofs.GlobalToken.{dealloc_token-Testable}
use Rattle.yarib_c.proofs.held.Held.TheLaws as held
use Rattle.yarib_c.specs.inside.Owned.{held_row}
use Rattle.yarib_c.specs.declared.held.Held.{Held}
use Rattle.yarib_c.specs.declared.held.Held.TheVariants.{Plain}
use Rattle.yarib_c.specs.contracts.loose.Loose as Loose
use Rattle.yarib_c.specs.contracts.handle.Yarib as Yarib

abbrev pub E : Bx
E = record { row = held_row; laws = held.the_row_laws; al = record { row = Heap.the_row; laws = heap.the_row_laws; g = ghosts; d = dict; drops = impl [] tnil dnil } }

abbrev pub FromLoose : Slot 0
FromLoose = plain (λ _. Loose.the_row held_row Heap.the_row ghosts)

abbrev pub FromHandle : Slot 0
FromHandle = plain (λ _. Yarib.the_row)

abbrev pub FromHeap : Slot 0
FromHeap = plain (λ _. Heap.the_row)

-- the right to free a block says that its pointer may be compared with null
module _ {M : Type 1} {𝓤 : Ura M} (𝓛 : Logic 𝓤) (a : Global) (p : Ptr) (x : X E) where
  pub tested : ent 𝓤 (sem 𝓛 (box_owns (ghosts.dealloc_token a) (R E) p x)) (guard 𝓤 (Testable p) (sem 𝓛 (box_owns (ghosts.dealloc_token a) (R E) p x)))
  tested =
      fact_use 𝓤 (Testable p) (via 𝓤 _ (snd∗ 𝓤 (sem 𝓛 (lies_at (R E) full_share p x)) (sem 𝓛 (ghosts.dealloc_token a (bare (lone (R E).mir)) p))) (dealloc_token-Testable 𝓛 a (bare (lone (R E).mir)) p))
      (guard_i 𝓤 (Testable p) (sem 𝓛 (box_owns (ghosts.dealloc_token a) (R E) p x)))

-- what a handle that holds nothing shows
abbrev pub nothing_held : Held
nothing_held = Plain (record { table = record { limit = 0; routes = []; trie = record { pairs = []; nodes = 0; tree = Vacant } }; is_followed = false })
