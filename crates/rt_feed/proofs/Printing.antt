-- The maximum length of a line of a report.
use Rattle.std.proofs.Common.{ℕ, ◌≤◌, length, arith, length-append}
use Rattle.rt_cidr.proofs.Promised.{length-decimal}
use Rattle.rt_rib.specs.declared.commands.Reply.{Reply}
use Rattle.rt_rib.specs.declared.commands.Reply.TheVariants.{Found, Dumped, Purged}
use Rattle.rt_print.proofs.Promised.{route_fits}
use Rattle.rt_feed.specs.declared.parse.LineFault.{LineFault}
use Rattle.rt_feed.specs.declared.report.Line.{Line}
use Rattle.rt_feed.specs.declared.report.Answer.{Answer}
use Rattle.rt_feed.specs.declared.report.Answer.TheVariants.{Did, Refused, Fault}
use Rattle.rt_feed.specs.Printed.{reply_text, fault_text, answer_text, line_text}

reply_fits : (reply : Reply) → length (reply_text reply) ≤ 260
unfolding reply_text
reply_fits (Found route) = let found = route_fits route in simp length-append (omega arith)
reply_fits (Dumped count) = let digits = length-decimal count in simp length-append (omega arith)
reply_fits (Purged count) = let digits = length-decimal count in simp length-append (omega arith)
reply_fits reply = omega arith

fault_fits : (fault : LineFault) → length (fault_text fault) ≤ 8
unfolding fault_text
fault_fits fault = grind arith

answer_fits : (answer : Answer) → length (answer_text answer) ≤ 260
unfolding answer_text
answer_fits (Did reply) = reply_fits reply
answer_fits Refused = omega arith
answer_fits (Fault fault) = omega (arith, fault_fits fault)

pub line_fits : (feed : ℕ) (line : Line) → length (line_text feed line) ≤ 400
unfolding line_text
line_fits feed line =
    let number = length-decimal line.number in
    let of_feed = length-decimal feed in
    let answer = answer_fits line.answer in
    simp length-append (omega arith)
