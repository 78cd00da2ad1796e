use Rattle.std.proofs.Common.{rules, List, subst, sym, ap, ◌∙◌, arith}
use Rattle.std.specs.Prelude.{option_to_list}
use Rattle.rt_rib.specs.declared.routes.Route.{Route}
use Rattle.rt_rib.specs.Sequential.{reply_of, table_of_journal}
use Rattle.rt_rib.specs.Book.{TableState, table_state}
use Rattle.rt_rib.specs.Changes.{AreBestChanges}
use Rattle.rt_rib.proofs.TableChanges.{IsJournalOf-push, holds_table}
use Rattle.rt_rib.proofs.book.Book.apply_changed.Goals as goal

pub invariant_of-self-2 : goal.invariant_of-self-2
invariant_of-self-2 g c =
    IsJournalOf-push (table_state c.self.inside.table) (table_state c.apply_changed.new.self) c.self.inside.journal.items c.push_reserved.new.self.items
    c.args.feed c.args.cmd c.in_ok-reply.reply
    c.requires.feed c.self.invariant c.in_ok-reply.ensures.ok (rw c.in_ok-try_reserve.ensures.items at c.push_reserved.ensures.items)

pub returns-clause-holds : goal.returns-clause-holds
returns-clause-holds g c = holds_table c.apply_changed.new.self c.push_reserved.new.self.items c.holds-2.ensures (invariant_of-self-2 g c)

pub returns-in_err-try_reserve-clause-err : goal.returns-in_err-try_reserve-clause-err
returns-in_err-try_reserve-clause-err g c = search rules

pub returns-in_err-try_reserve-clause-holds : goal.returns-in_err-try_reserve-clause-holds
returns-in_err-try_reserve-clause-holds g c = search rules

pub returns-in_err-reply-clause-holds : goal.returns-in_err-reply-clause-holds
returns-in_err-reply-clause-holds g c = search rules

pub returns-clause-ok : goal.returns-clause-ok
returns-clause-ok g c =
    let served = c.in_ok-reply.ensures.ok in
    let limit = c.self.inside.table.limit in
    rw (sym c.self.view_is) (record {
      replied = served.replied ∙ ap (λ routes. reply_of limit routes c.args.feed c.args.cmd) c.self.invariant.routes;
      limited = ap (λ (t : TableState). t.limit) served.changed;
      journaled = rw c.in_ok-try_reserve.ensures.items at c.push_reserved.ensures.items;
      roomy = omega (
        arith,
        c.push_reserved.ensures.capacity,
        c.push_reserved.ensures.len,
        c.in_ok-try_reserve.ensures.capacity,
        c.in_ok-try_reserve.ensures.len,
      );
    })

pub returns-clause-changes : goal.returns-clause-changes
returns-clause-changes g c =
    let old = c.self.inside.table.routes in
    let new = table_of_journal c.apply_changed.new.self.limit c.push_reserved.new.self.items in
    let changes = option_to_list c.in_ok-reply.change in
    rw (sym c.self.view_is)
    (subst (λ (t : List Route). AreBestChanges t new changes) c.self.invariant.routes
    (subst (λ (t : List Route). AreBestChanges old t changes) (invariant_of-self-2 g c).routes c.in_ok-reply.ensures.changes))
