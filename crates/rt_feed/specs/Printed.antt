-- The written texts of reports: answers, and the lines of a report.
use Rattle.std.specs.Prelude.{ℕ, List, ◌++◌, codes, decimal}
use Rattle.std.specs.List.{flat_map}
use Rattle.rt_rib.specs.declared.commands.Reply.{Reply}
use Rattle.rt_rib.specs.declared.commands.Reply.TheVariants.{Added, Exists, Full, Replaced, Withdrawn, Missing, Found, NoRoute, Dumped, Purged}
use Rattle.rt_print.specs.Routes.{route_text}
use Rattle.rt_feed.specs.declared.parse.LineFault.{LineFault}
use Rattle.rt_feed.specs.declared.parse.LineFault.TheVariants as fault
use Rattle.rt_feed.specs.declared.report.Line.{Line}
use Rattle.rt_feed.specs.declared.report.Answer.{Answer}
use Rattle.rt_feed.specs.declared.report.Answer.TheVariants.{Did, Refused, Fault}

-- the reply to a command
unfoldable pub reply_text : Reply → List ℕ
reply_text Added = codes "added"
reply_text Exists = codes "exists"
reply_text Full = codes "full"
reply_text Replaced = codes "replaced"
reply_text Withdrawn = codes "withdrawn"
reply_text Missing = codes "missing"
reply_text (Found route) = codes "route " ++ route_text route
reply_text NoRoute = codes "no route"
reply_text (Dumped count) = codes "dumped " ++ decimal count
reply_text (Purged count) = codes "purged " ++ decimal count

-- E1 to E8
unfoldable pub fault_text : LineFault → List ℕ
fault_text fault.Command = codes "fault E1"
fault_text fault.FieldCount = codes "fault E2"
fault_text fault.Text = codes "fault E3"
fault_text fault.PrefixLength = codes "fault E4"
fault_text fault.PrefixBits = codes "fault E5"
fault_text fault.Preference = codes "fault E6"
fault_text fault.Hop = codes "fault E7"
fault_text fault.LineLength = codes "fault E8"

-- the answer to a line
unfoldable pub answer_text : Answer → List ℕ
answer_text (Did reply) = reply_text reply
answer_text Refused = codes "refused"
answer_text (Fault fault) = fault_text fault

-- `FEED:LINE ` and the answer
unfoldable pub line_text : ℕ → Line → List ℕ
line_text feed line =
    decimal feed ++ (codes ":" ++ (decimal line.number ++ (codes " " ++ (answer_text line.answer ++ codes "\n"))))

-- a feed's report: its lines in order
abbrev pub report_text : ℕ → List Line → List ℕ
report_text feed lines = flat_map (line_text feed) lines
