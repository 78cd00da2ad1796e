use Rattle.rt_rib.specs.Sequential.{reply_of}
use Rattle.rt_rib.specs.Book.{TableState, table_state}
use Rattle.rt_rib.proofs.TableChanges.{IsJournalOf-push, holds_table}
use Rattle.std.proofs.Common.{rules, sym, ap, ◌∙◌, arith}
use Rattle.rt_rib.proofs.book.Book.apply.Goals as goal

pub invariant_of-self-2 : goal.invariant_of-self-2
invariant_of-self-2 g c =
    IsJournalOf-push (table_state c.self.inside.table) (table_state c.apply.new.self) c.self.inside.journal.items c.push_reserved.new.self.items
    c.args.feed c.args.cmd c.in_ok-reply.reply
    c.requires c.self.invariant c.in_ok-reply.ensures.ok (rw c.in_ok-try_reserve.ensures.items at c.push_reserved.ensures.items)

pub returns-clause-holds : goal.returns-clause-holds
returns-clause-holds g c = holds_table c.apply.new.self c.push_reserved.new.self.items c.holds-2.ensures (invariant_of-self-2 g c)

pub returns-in_err-try_reserve-clause-err : goal.returns-in_err-try_reserve-clause-err
returns-in_err-try_reserve-clause-err g c = search rules

pub returns-in_err-try_reserve-clause-holds : goal.returns-in_err-try_reserve-clause-holds
returns-in_err-try_reserve-clause-holds g c = search rules

pub returns-in_err-reply-clause-holds : goal.returns-in_err-reply-clause-holds
returns-in_err-reply-clause-holds g c = search rules

pub returns-clause-ok : goal.returns-clause-ok
returns-clause-ok g c =
    let served = c.in_ok-reply.ensures.ok in
    let limit = c.self.inside.table.limit in
    rw (sym c.self.view_is) (record {
      replied = served.replied ∙ ap (λ routes. reply_of limit routes c.args.feed c.args.cmd) c.self.invariant.routes;
      limited = ap (λ (t : TableState). t.limit) served.changed;
      journaled = rw c.in_ok-try_reserve.ensures.items at c.push_reserved.ensures.items;
      roomy = omega (
        arith,
        c.push_reserved.ensures.capacity,
        c.push_reserved.ensures.len,
        c.in_ok-try_reserve.ensures.capacity,
        c.in_ok-try_reserve.ensures.len,
      );
    })
