use Rattle.std.proofs.Common.{◌≡◌, get_or, arith}
use Rattle.std.proofs.lemmas.List.{get_or_read}
use Rattle.rt_fib.proofs.Placing.{same_keep}
use Rattle.rt_fib.proofs.Leading.{all_keep, marked_more}
use Rattle.rt_fib.proofs.dir24_8.Dir24_8.mark.Goals as goal

pub mark-preserved : goal.mark-preserved
mark-preserved g c =
    let v = c.mark.invariant in
    let made = c.mark_entry-last.ensures in
    let tbl24 = c.mark.self.tbl24.items in
    let read : c.index-entry.result.now ≡ get_or tbl24 c.mark.self.marked 0 =
    get_or_read tbl24 c.mark.self.marked c.index-entry.result.now (omega (arith, v.right.size, c.if-self-lt-ENTRIES.true)) c.index-entry.ensures 0 in
    record {
      right = rw v.epoch (marked_more _ _ _ _ _ _ _ _ made.keeps c.if-self-lt-ENTRIES.true read made.leads (rw v.epoch at v.right));
      epoch = v.epoch;
      table = v.table;
    }

pub returns-then-epoch-clause-right : goal.returns-then-epoch-clause-right
returns-then-epoch-clause-right g c =
    let v = c.mark.invariant in
    let right = rw v.epoch at v.right in
    all_keep _ _ _ _ _ _ (same_keep _ _ _ c.trim.ensures) (record {
      size = right.size;
      within = omega arith;
      coded = right.coded;
      each = λ t i here since. right.each t i here (record {
        from = omega (arith, since.from);
        upto = since.unmarked (omega arith);
        unmarked = λ behind. absurd (omega (arith, here, behind));
      });
    })
