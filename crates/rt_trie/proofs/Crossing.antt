-- A trie may be sent to another thread if its values and its allocator may.
use denote.RattleType.{RattleType}
use denote.Param.Send.{IsSend, Frees, sendable}
use Rattle.std.specs.declared.alloc.Allocator.{Ghosts}
use Rattle.std.proofs.boxed.Box.TheSendSync as box
use Rattle.std.proofs.option.Option.TheSendSync as option
use Rattle.rt_cidr.proofs.prefixes.Prefix.TheSendSync as prefix
use Rattle.rt_trie.proofs.nodes.Link.TheLaws.TheKnot as knot
use Rattle.rt_trie.specs.contracts.tries.Trie.{the_row}

pub trie_send : (V A : RattleType) (g : Ghosts A.Denot) → IsSend V → IsSend A → Frees g g.dealloc_token → IsSend (the_row V A g)
trie_send V A g sv sa f = search (box.the_send, option.the_field_send, prefix.the_field_send, knot.crosses, sendable) depth 60
