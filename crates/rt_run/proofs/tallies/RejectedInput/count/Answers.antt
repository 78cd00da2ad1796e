use Rattle.std.proofs.Common.{ap, append-nil, arith}
use Rattle.rt_feed.specs.Lines.{numbered}
use Rattle.rt_run.specs.declared.tallies.RejectedInput.{RejectedInput}
use Rattle.rt_run.specs.TableText.{was_full, was_existing, was_missing, faults_of, lines_where}
use Rattle.rt_run.proofs.CountedLines.{tally_more}
use Rattle.rt_run.proofs.tallies.RejectedInput.count.Goals as goal

pub returns-in-Some-Fault : goal.returns-in-Some-Fault
returns-in-Some-Fault c report is =
    let faulty = c.put.ensures (faults_of report) (ap (λ (t : RejectedInput). t.faulty) is) in
    grind (arith, faulty, tally_more report (numbered c.args.number c.args.said), append-nil)

pub returns-in-Some-Did-Full : goal.returns-in-Some-Did-Full
returns-in-Some-Did-Full c report is =
    let full = c.put-in-Some-Did-Full.ensures (lines_where was_full report) (ap (λ (t : RejectedInput). t.full) is) in
    grind (arith, full, tally_more report (numbered c.args.number c.args.said), append-nil)

pub returns-in-Some-Did-Exists : goal.returns-in-Some-Did-Exists
returns-in-Some-Did-Exists c report is =
    let existing = c.put-in-Some-Did-Exists.ensures (lines_where was_existing report) (ap (λ (t : RejectedInput). t.existing) is) in
    grind (arith, existing, tally_more report (numbered c.args.number c.args.said), append-nil)

pub returns-in-Some-Did-Missing : goal.returns-in-Some-Did-Missing
returns-in-Some-Did-Missing c report is =
    let missing = c.put-in-Some-Did-Missing.ensures (lines_where was_missing report) (ap (λ (t : RejectedInput). t.missing) is) in
    grind (arith, missing, tally_more report (numbered c.args.number c.args.said), append-nil)

pub returns-in-Some-Refused : goal.returns-in-Some-Refused
returns-in-Some-Refused c report is =
    grind (arith, tally_more report (numbered c.args.number c.args.said), append-nil)

pub returns : goal.returns
returns c report is =
    grind (arith, tally_more report (numbered c.args.number c.args.said), append-nil)
