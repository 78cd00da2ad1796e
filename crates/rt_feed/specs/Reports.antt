-- The lines of a report: their order, and whether one of them is a refusal or a fault.
use Rattle.std.specs.Prelude.{◌<◌, Bool, true, false, List, AllPairs}
use Rattle.std.specs.List.{list_any}
use Rattle.rt_feed.specs.declared.report.Line.{Line}
use Rattle.rt_feed.specs.declared.report.Answer.{Answer}
use Rattle.rt_feed.specs.declared.report.Answer.TheVariants.{Refused, Fault}

-- each line has a smaller number than every later one
abbrev pub NumbersRise : List Line → Type 0
NumbersRise lines = AllPairs (λ (earlier later : Line). earlier.number < later.number) lines

-- a command was refused because memory ran out
abbrev pub is_refusal : Answer → Bool
is_refusal Refused = true
is_refusal _ = false

-- a line was faulty
abbrev pub is_fault : Answer → Bool
is_fault (Fault fault) = true
is_fault _ = false

-- some command was refused
abbrev pub has_refusal : List Line → Bool
has_refusal lines = list_any (λ (line : Line). is_refusal line.answer) lines

-- some line was faulty
abbrev pub has_fault : List Line → Bool
has_fault lines = list_any (λ (line : Line). is_fault line.answer) lines
