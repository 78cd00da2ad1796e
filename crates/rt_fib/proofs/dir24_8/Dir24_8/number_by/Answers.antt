use Rattle.std.proofs.Common.{arith}
use Rattle.rt_fib.proofs.Leading.{entry_leads, group_read}
use Rattle.rt_fib.proofs.dir24_8.Dir24_8.number_by.Goals as goal

pub returns-then-entry-lt-GROUP_FLAG : goal.returns-then-entry-lt-GROUP_FLAG
returns-then-entry-lt-GROUP_FLAG g c =
    let leads = entry_leads _ _ _ _ _ c.args.addr.0 c.args.entry c.requires.right (omega arith) c.requires.entry in
    leads.short c.if-entry-lt-GROUP_FLAG.true

pub get-group-requires : goal.get-group-requires
get-group-requires g c =
    let leads = entry_leads _ _ _ _ _ c.args.addr.0 c.args.entry c.requires.right (omega arith) c.requires.entry in
    (leads.long c.if-entry-lt-GROUP_FLAG.false).named.within

pub returns : goal.returns
returns g c =
    let leads = entry_leads _ _ _ _ _ c.args.addr.0 c.args.entry c.requires.right (omega arith) c.requires.entry in
    (group_read _ _ _ _ _ _ c.get-group.result.now (leads.long c.if-entry-lt-GROUP_FLAG.false) c.get-group.ensures).2
