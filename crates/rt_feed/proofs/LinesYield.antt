-- Lines of a text one after another: their outcomes, the report's lines for them and their commands.
use Rattle.std.proofs.Common.{◌≡◌, ℕ, ◌+◌, ◌<◌, ◌≤◌, List, [], ◌∷◌, ◌++◌, suc, add-zero, length, All, Option, Some, None, ◌∙◌}
use Rattle.std.proofs.Common.{ap, refl, arith, append_assoc, length-append}
use Rattle.std.proofs.lemmas.List.{append-nil, nil_from_length}
use Rattle.std.proofs.lemmas.List.Elements.{All-nil, All-cons, All-append, All-weaker}
use Rattle.std.proofs.lemmas.Grind.{flat_map-append}
use Rattle.rt_feed.specs.declared.report.Line.{Line}
use Rattle.rt_feed.specs.declared.report.Answer.{Answer}
use Rattle.rt_feed.specs.declared.versions.Version.{Version}
use Rattle.rt_feed.specs.Lines.{IsBody, CutsLine, LineOutcome, LinesParseAs, LinesYield, TextYields}
use Rattle.rt_feed.specs.Lines.{heading, reading, line_answer, numbered, report_lines, command_of, commands_of}
use Rattle.rt_feed.specs.Grammar.{AnswersLine}

-- more lines after some
pub say-append : {X : Type 0} (says : List ℕ → X → Type 0) (lines middle rest : List ℕ) (some more : List X) → LinesParseAs says lines some middle
    → LinesParseAs says middle more rest
    → LinesParseAs says lines (some ++ more) rest
say-append says lines middle rest [] more first second = rw first second
say-append says lines middle rest (one ∷ others) more (line, next, cut, said, first) second =
    (line, next, cut, said, say-append says next middle rest others more first second)

-- a line takes at least one byte
pub length-cut : (text line rest : List ℕ) → CutsLine text line rest → length rest < length text
length-cut text line rest cut = grind (arith, length-append, nil_from_length)

-- so the number of lines is at most the number of their bytes
pub length-said : {X : Type 0} (says : List ℕ → X → Type 0) (lines rest : List ℕ) (some : List X) → LinesParseAs says lines some rest
    → length some + length rest ≤ length lines
length-said says lines rest [] is = omega (arith, ap length is)
length-said says lines rest (one ∷ others) (line, next, cut, said, is) =
    omega (arith, length-cut lines line next cut, length-said says next rest others is)

-- the meaning of a line with this outcome
abbrev pub says : Version → List ℕ → LineOutcome → Type 0
says version line outcome = AnswersLine version line (reading outcome)

-- more lines of a text
abbrev pub becomes-more : (text middle rest : List ℕ) (outcomes more : List LineOutcome) → (is : TextYields text outcomes middle)
    → LinesYield is.version middle more rest → TextYields text (outcomes ++ more) rest
becomes-more text middle rest outcomes more is become = record {
  version = is.version;
  lines = is.lines;
  read = is.read ++ more;
  body = is.body;
  become = say-append (says is.version) is.lines middle rest is.read more is.become become;
  joined = ap (λ os. os ++ more) is.joined ∙ append_assoc (heading is.version) is.read more;
}

length-body : (text lines : List ℕ) (version : Version) → IsBody text version lines → length (heading version) + length lines ≤ length text
length-body text lines version body = grind (arith, length-cut)

-- a text has at least one byte for each outcome, besides the rest
pub length-outcomes : (text rest : List ℕ) (outcomes : List LineOutcome) → TextYields text outcomes rest → length outcomes + length rest ≤ length text
length-outcomes text rest outcomes is =
    omega (
      arith,
      ap length is.joined,
      length-append (heading is.version) is.read,
      length-body text is.lines is.version is.body,
      length-said (says is.version) is.lines rest is.read is.become,
    )

-- the number of the line after some that come after this one
pub next_number : (number count : ℕ) → number + 1 + count ≡ number + suc count
next_number number count = omega arith

-- the report's lines of more lines after some
pub report_lines-append : (number : ℕ) (outcomes more : List LineOutcome)
    → report_lines number (outcomes ++ more) ≡ report_lines number outcomes ++ report_lines (number + length outcomes) more
report_lines-append number [] more = rw add-zero refl
report_lines-append number (outcome ∷ outcomes) more = rw (report_lines-append (number + 1) outcomes more, next_number, append_assoc) refl

-- the report's line for one line more
pub report_lines-push : (number : ℕ) (outcomes : List LineOutcome) (outcome : LineOutcome)
    → report_lines number (outcomes ++ outcome ∷ []) ≡ report_lines number outcomes ++ numbered (number + length outcomes) (line_answer outcome)
report_lines-push number outcomes outcome = report_lines-append number outcomes (outcome ∷ [])
    ∙ ap (λ lines. report_lines number outcomes ++ lines) (append-nil _)

numbered-below : (number above : ℕ) (answer : Option Answer) → number < above → All (λ (line : Line). line.number < above) (numbered number answer)
numbered-below number above None less = All-nil (λ (line : Line). line.number < above)
numbered-below number above (Some answer) less = let P : Line → Type 0 = λ line. line.number < above in
    All-cons P (record { number = number; answer = answer }) [] less (All-nil P)

-- the numbers of the lines so far are below the next one
pub report_lines-below : (number : ℕ) (outcomes : List LineOutcome)
    → All (λ (line : Line). line.number < number + length outcomes) (report_lines number outcomes)
report_lines-below number [] = All-nil _
report_lines-below number (outcome ∷ outcomes) =
    let P : Line → Type 0 = λ line. line.number < number + suc (length outcomes) in
    All-append P (numbered number (line_answer outcome)) (report_lines (number + 1) outcomes)
    (numbered-below number (number + suc (length outcomes)) (line_answer outcome) (omega arith))
    (All-weaker (λ (line : Line). line.number < number + 1 + length outcomes) P (λ line less. omega (arith, less)) _
    (report_lines-below (number + 1) outcomes))

-- the commands of more lines after some
pub commands_of-append : (outcomes more : List LineOutcome) → commands_of (outcomes ++ more) ≡ commands_of outcomes ++ commands_of more
commands_of-append outcomes more = flat_map-append command_of outcomes more
