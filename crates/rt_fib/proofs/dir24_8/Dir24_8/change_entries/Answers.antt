use Rattle.std.proofs.Common.{◌≡◌, ◌<◌, length, arith}
use Rattle.std.proofs.lemmas.List.{get_or_read}
use Rattle.rt_fib.proofs.Changing.{until_all, until_more}
use Rattle.rt_fib.proofs.dir24_8.Dir24_8.change_entries.Goals as goal

pub entries-preserved : goal.entries-preserved
entries-preserved g c =
    let v = c.entries.invariant in
    let made = c.entry_after-last.ensures in
    let entries = c.entries.self.tbl24.items in
    let i = c.entries.i in
    let within : i < length entries = omega (arith, v.entries.size, c.entries-test.true, c.args.span.fits) in
    record {
      marked = v.marked;
      number = rw made.others.routes v.number;
      entries = until_more entries _ _ _ _ _ _ i c.args.change.now c.args.span _ _ c.requires.change c.entries.auto.i c.entries-test.true made.others within
          (get_or_read entries i _ within c.index-entry.ensures 0) made.leads v.entries;
      last = made.last;
    }

pub returns-clause-right : goal.returns-clause-right
returns-clause-right g c =
    let v = c.entries.invariant in
    let end : c.entries.i ≡ c.args.span.end = omega (arith, c.entries.auto.i-end, c.entries-test.false, c.args.span.ordered) in
    rw c.of.ensures (until_all _ _ _ _ c.args.change.now c.args.span _ _ c.requires.change (omega arith) (rw end at v.entries))
