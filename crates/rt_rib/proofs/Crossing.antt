-- A table and a book may be sent to another thread if their allocator may.
use denote.RattleType.{RattleType}
use denote.Param.Send.{IsSend, Frees, sendable}
use Rattle.std.specs.declared.alloc.Allocator.{Ghosts}
use Rattle.std.proofs.vec.Vec.TheSendSync as vec
use Rattle.rt_trie.proofs.Promised.{trie_send}
use Rattle.rt_rib.proofs.offers.OneOrMany.TheSendSync as one_or_many
use Rattle.rt_rib.proofs.commands.Entry.TheSendSync as entry
use Rattle.rt_rib.specs.contracts.offers.Offers as Offers
use Rattle.rt_rib.specs.contracts.table.Table as Table
use Rattle.rt_rib.specs.contracts.book.Book as Book

module _ (A : RattleType) (g : Ghosts A.Denot) (sa : IsSend A) (f : Frees g g.dealloc_token) where
  offers_send : IsSend (Offers.the_row A g)
  offers_send = search (one_or_many.the_field_send, sendable) depth 60

  pub table_send : IsSend (Table.the_row A g)
  table_send = search (offers_send, trie_send, vec.the_send, sendable) depth 60

  pub book_send : IsSend (Book.the_row A g)
  book_send = search (table_send, entry.the_send, vec.the_send, sendable) depth 60
