-- A feed's text through a gate, one line and one batch further.
use Rattle.std.proofs.Common.{◌≡◌, ◌≢◌, inl, inr, ℕ, ◌+◌, ◌<◌, ◌≤◌, List, [], ◌∷◌, ◌++◌, All, length, map, take, drop, zip, refl}
use Rattle.std.proofs.Common.{sym, ap, ◌∙◌, arith, append_assoc, append-nil, length-append, slice_index_or}
use Rattle.std.proofs.Math.Seq.{take-append_seam, drop-append_seam}
use Rattle.std.proofs.lemmas.List.{map-append, length-map}
use Rattle.std.proofs.lemmas.Grind.{flat_map-append}
use Rattle.std.proofs.lemmas.List.Elements.{All-nil, All-cons, All-append}
use Rattle.std.proofs.lemmas.Slice.Zip.{length-zip}
use Rattle.rt_rib.specs.declared.commands.Cmd.{Cmd}
use Rattle.rt_rib.specs.declared.commands.Reply.{Reply}
use Rattle.rt_shared.specs.declared.outcome.Outcome.{Outcome}
use Rattle.rt_shared.specs.declared.outcome.Outcome.TheVariants.{Did, Refused}
use Rattle.rt_feed.specs.declared.report.Line.{Line}
use Rattle.rt_feed.specs.declared.versions.Version.{Version}
use Rattle.rt_feed.specs.Lines.{IsBody, CutsLine, LineOutcome, asked, LinesYield, TextYields}
use Rattle.rt_feed.specs.Lines.{heading, report_lines, command_of, commands_of}
use Rattle.rt_shared.specs.JournalVisits.{AnsweredBatch, visit_of}
use Rattle.rt_feed.specs.Visits.{Gains, concatenated, piece_of, AnswersBatch}
use Rattle.rt_feed.specs.FeedRuns.{RunsFeed, RunsPrefixOf, IsTold}
use Rattle.rt_feed.specs.inside.FeedRuns.{filled, as_refused, AnswersWaiting, Gathers, HasRead}
use Rattle.rt_feed.specs.declared.running.FeedRun.{FeedRun}
use Rattle.rt_feed.proofs.LinesYield.{says, say-append, length-said, becomes-more, length-outcomes, report_lines-append, report_lines-push, commands_of-append}
use Rattle.rt_feed.proofs.FilledReports.{filled-none}

-- a single piece, joined, is itself
concatenated-piece : {X : Type 0} (piece : List X) → concatenated (piece_of piece) ≡ piece
concatenated-piece piece = grind (arith, append-nil)

-- a piece of the whole size
full_piece : {X : Type 0} (size : ℕ) (piece : List X) → length piece ≡ size → All (λ p. length p ≡ size) (piece_of piece)
full_piece {X} size [] is = All-nil _
full_piece {X} size (x ∷ xs) is = All-cons (λ (p : List X). length p ≡ size) (x ∷ xs) [] is (All-nil _)

-- lines whose commands, in order, have these outcomes
given : List Outcome → List LineOutcome → List LineOutcome
given (outcome ∷ outcomes) (asked cmd old ∷ lines) = asked cmd outcome ∷ given outcomes lines
given (outcome ∷ outcomes) (line ∷ lines) = line ∷ given (outcome ∷ outcomes) lines
given outcomes lines = lines

length-given : (outcomes : List Outcome) (lines : List LineOutcome) → length (given outcomes lines) ≡ length lines
unfolding given
length-given (outcome ∷ outcomes) (line ∷ lines) = grind (arith, length-given outcomes lines, length-given (outcome ∷ outcomes) lines)
length-given outcomes lines = refl

-- they have the same readings
yields-given : (version : Version) (text rest : List ℕ) (outcomes : List Outcome) (lines : List LineOutcome) → LinesYield version text lines rest
    → LinesYield version text (given outcomes lines) rest
unfolding given
yields-given version text rest (outcome ∷ outcomes) (asked cmd old ∷ lines) (line, next, cut, reads, is) =
    (line, next, cut, reads, yields-given version next rest outcomes lines is)
yields-given version text rest (outcome ∷ outcomes) (one ∷ lines) (line, next, cut, reads, is) =
    (line, next, cut, reads, yields-given version next rest (outcome ∷ outcomes) lines is)
yields-given version text rest outcomes lines is = is

-- the report's lines for them are the lines filled with the outcomes
report_lines-given : (number : ℕ) (outcomes : List Outcome) (lines : List LineOutcome)
    → report_lines number (given outcomes lines) ≡ filled (report_lines number lines) outcomes
unfolding given
report_lines-given number [] lines = sym (filled-none (report_lines number lines))
report_lines-given number (outcome ∷ outcomes) [] = refl
report_lines-given number (outcome ∷ outcomes) (line ∷ lines) =
    grind (arith, report_lines-given (number + 1) outcomes lines, report_lines-given (number + 1) (outcome ∷ outcomes) lines)

-- their outcomes are the ones given
commands_of-given : (outcomes : List Outcome) (cmds : List Cmd) (lines : List LineOutcome) → commands_of lines ≡ as_refused cmds
    → length outcomes ≡ length cmds → commands_of (given outcomes lines) ≡ zip cmds outcomes
unfolding given
commands_of-given [] [] lines is each = is
commands_of-given (outcome ∷ outcomes) (c ∷ cmds) [] is each = absurd (cc)
commands_of-given (outcome ∷ outcomes) (c ∷ cmds) (line ∷ lines) is each =
    grind (arith, commands_of-given outcomes cmds lines, commands_of-given (outcome ∷ outcomes) (c ∷ cmds) lines)
commands_of-given outcomes cmds lines is each = absurd (omega (arith, each))

-- if all are refused, the lines stay as they wait
given-refused : (cmds : List Cmd) (lines : List LineOutcome) → commands_of lines ≡ as_refused cmds
    → given (map (λ cmd. Refused) cmds) lines ≡ lines
unfolding given
given-refused (c ∷ cmds) (line ∷ lines) is = grind (arith, given-refused cmds lines, given-refused (c ∷ cmds) lines)
given-refused cmds lines is = refl

-- a visit of some commands is a piece of them
piece_asked : (cmds : List Cmd) (outcomes : List Outcome) → length outcomes ≡ length cmds → cmds ≢ []
    → map visit_of (piece_of (zip cmds outcomes)) ≡ visit_of (zip cmds outcomes) ∷ []
piece_asked [] outcomes each some = absurd (some refl)
piece_asked (cmd ∷ cmds) [] each some = absurd (omega (arith, each))
piece_asked (cmd ∷ cmds) (outcome ∷ outcomes) each some = refl

-- none of the commands was answered
none_answered : (cmds : List Cmd) → visit_of (zip cmds (map (λ cmd. Refused) cmds)) ≡ []
none_answered [] = refl
none_answered (cmd ∷ cmds) = none_answered cmds

-- the heading has no answer and no command
no_lines : (version : Version) → (report_lines 1 (heading version) ≡ []) × (commands_of (heading version) ≡ [])
no_lines version = grind arith

module _ {G : Type 0} {holds : G → List AnsweredBatch → Type 0} {old new : G} {cmds : List Cmd} {first : ℕ} {report : List Line} (some : cmds ≢ []) where
  -- the commands that wait were refused, with one empty visit
  pub refuses_waiting : Gains holds old new ([] ∷ []) → AnswersWaiting holds old new cmds first report report
  refuses_waiting gained = record {
    outcomes = map (λ cmd. Refused) cmds;
    each = length-map cmds _;
    gained = rw (piece_asked cmds (map (λ cmd. Refused) cmds) (length-map cmds _) some, none_answered cmds) gained;
    reported = inr (refl, refl);
  }

  -- they were answered in one visit, and the report has their outcomes
  pub answers_waiting : {report' : List Line} {out : List Outcome} → AnswersBatch holds old new cmds [] out
      → report' ≡ take first report ++ filled (drop first report) out → AnswersWaiting holds old new cmds first report report'
  answers_waiting batch is = record {
    outcomes = batch.outcomes;
    each = batch.each;
    gained = rw (piece_asked cmds batch.outcomes batch.each some) batch.gained;
    reported = inl (is ∙ ap (λ os. take first report ++ filled (drop first report) os) batch.appended);
  }

one_command : (cmds : List Cmd) (cmd : Cmd) → length cmds ≡ 1 → cmd ≡ slice_index_or cmds 0 cmd → cmds ≡ cmd ∷ []
one_command (c ∷ []) cmd one is = ap (λ (x : Cmd). x ∷ []) (sym is)
one_command cmds cmd one is = absurd (omega (arith, one))

module _ {G : Type 0} {holds : G → List AnsweredBatch → Type 0} {old new : G} {first : ℕ} {report report' : List Line} (cmds : List Cmd) where
  -- a single command was executed by itself
  pub answers_one : (cmd : Cmd) (reply : Reply) → length cmds ≡ 1 → cmd ≡ slice_index_or cmds 0 cmd → Gains holds old new (((cmd, reply) ∷ []) ∷ [])
      → report' ≡ take first report ++ filled (drop first report) (Did reply ∷ []) → AnswersWaiting holds old new cmds first report report'
  answers_one cmd reply one is gained filled =
      rw (one_command cmds cmd one is) (record { outcomes = Did reply ∷ []; each = refl; gained = gained; reported = inl filled })

-- a line has at most one command
pub length-gathered : {number : ℕ} {line : List ℕ} (run run' : FeedRun) → Gathers number line run run' → length run'.gathered.items ≤ length run.gathered.items + 1
length-gathered run run' gathers =
    let one : length (command_of gathers.outcome) ≤ 1 = grind arith in
    let refused : Cmd → Cmd × Outcome = λ cmd. (cmd, Refused) in
    omega (
      arith,
      one,
      ap length gathers.gathered,
      length-append (as_refused run.gathered.items) (command_of gathers.outcome),
      length-map run.gathered.items refused,
      length-map run'.gathered.items refused,
    )

-- before the first line
pub nothing_read : {G : Type 0} {holds : G → List AnsweredBatch → Type 0} {batch : ℕ} {text lines : List ℕ} {number : ℕ} {gate : G} {run : FeedRun}
    → 0 < batch → run.report ≡ [] → run.first ≡ 0 → run.gathered.items ≡ [] → IsBody text run.version lines → number ≡ length (heading run.version)
    → HasRead holds batch text lines number gate gate run
nothing_read {holds} {lines} {gate} {run} some report first gathered body count = record {
  settled = heading run.version;
  unasked = lines;
  asks = record {
    becomes = record { version = run.version; lines = lines; read = []; body = body; become = refl; joined = sym (append-nil _) };
    pieces = [];
    cut = record { whole = []; last = []; full = All-nil _; fewer = some; is_joined = (no_lines run.version).1; is_cut = refl };
    gained = λ visits held. rw (append-nil visits) held;
  };
  full = refl;
  versioned = refl;
  waiting = [];
  become = refl;
  counted = rw append-nil count;
  reported = rw (append-nil, report, (no_lines run.version).0) refl;
  first = rw (first, (no_lines run.version).0) refl;
  gathered = rw gathered refl;
}

-- the text has at least one byte for each line that was read, besides the rest
pub length-read : {G : Type 0} {holds : G → List AnsweredBatch → Type 0} {batch : ℕ} {text rest : List ℕ} {number : ℕ} {start gate : G} {run : FeedRun}
    → HasRead holds batch text rest number start gate run → number + length rest ≤ length text
length-read {text} {rest} {run} read =
    omega (
      arith,
      read.counted,
      length-append read.settled read.waiting,
      length-outcomes text read.unasked read.settled read.asks.becomes,
      length-said (says run.version) read.unasked rest read.waiting read.become,
    )

-- the lines that wait are the last of the report
pub first-within : {G : Type 0} {holds : G → List AnsweredBatch → Type 0} {batch : ℕ} {text rest : List ℕ} {number : ℕ} {start gate : G} {run : FeedRun}
    → HasRead holds batch text rest number start gate run → run.first ≤ length run.report
first-within read =
    omega (
      arith,
      read.first,
      ap length (read.reported ∙ report_lines-append 1 read.settled read.waiting),
      length-append (report_lines 1 read.settled) (report_lines (1 + length read.settled) read.waiting),
    )

module _ {G : Type 0} {holds : G → List AnsweredBatch → Type 0} {batch : ℕ} {text rest line next : List ℕ} {number : ℕ} {start gate : G}
    {run : FeedRun} (read : HasRead holds batch text rest number start gate run) (cut : CutsLine rest line next) where
  -- one more line, whose command waits if it has one
  pub line_read : (run' : FeedRun) → Gathers (number + 1) line run run' → HasRead holds batch text next (number + 1) start gate run'
  line_read run' gathers =
      let outcome = gathers.outcome in
      let all : read.settled ++ (read.waiting ++ outcome ∷ []) ≡ (read.settled ++ read.waiting) ++ outcome ∷ [] =
      sym (append_assoc read.settled read.waiting (outcome ∷ [])) in
      let count : number + 1 ≡ 1 + length (read.settled ++ read.waiting) = omega (arith, read.counted) in
      record {
        settled = read.settled;
        unasked = read.unasked;
        asks = read.asks;
        full = read.full;
        versioned = read.versioned ∙ sym gathers.version;
        waiting = read.waiting ++ outcome ∷ [];
        become = rw gathers.version
            (say-append (says run.version) read.unasked rest next read.waiting (outcome ∷ []) read.become (line, next, cut, gathers.reads, refl));
        counted = rw (all, length-append) (omega (arith, count));
        reported = rw (gathers.reported, read.reported, all, report_lines-push, ← count) refl;
        first = gathers.first ∙ read.first;
        gathered = rw (commands_of-append, read.gathered, gathers.gathered, append-nil) refl;
      }

  -- the text was read up to this line, and no more is executed
  pub stopped : IsTold run.version line → RunsPrefixOf holds batch text start gate
  stopped told = record {
    outcomes = read.settled;
    unasked = read.unasked;
    asks = read.asks;
    more = read.waiting;
    rest = rest;
    become = rw read.versioned read.become;
    line = line;
    next = next;
    cut = cut;
    told = rw read.versioned told;
  }

module _ {G : Type 0} {holds : G → List AnsweredBatch → Type 0} {batch : ℕ} {text rest : List ℕ} {number : ℕ} {start gate new : G}
    {run : FeedRun} {report : List Line} (read : HasRead holds batch text rest number start gate run)
    (answers : AnswersWaiting holds gate new run.gathered.items run.first run.report report) where
  -- the lines that waited, with the outcomes of their commands, which have been executed
  abbrev answered : List LineOutcome
  answered = given answers.outcomes read.waiting

  abbrev executed : List (Cmd × Outcome)
  executed = zip run.gathered.items answers.outcomes

  length-executed : length executed ≡ length run.gathered.items
  length-executed = omega (arith, length-zip run.gathered.items answers.outcomes, answers.each)

  abbrev becomes-answered : TextYields text (read.settled ++ answered) rest
  becomes-answered =
      becomes-more text read.unasked rest read.settled answered read.asks.becomes
      (yields-given _ read.unasked rest answers.outcomes read.waiting (rw read.versioned read.become))

  report-answered : report ≡ report_lines 1 (read.settled ++ answered)
  report-answered =
      let parts : run.report ≡ report_lines 1 read.settled ++ report_lines (1 + length read.settled) read.waiting =
      read.reported ∙ report_lines-append 1 read.settled read.waiting in
      elim answers.reported [
        | inl is ↦ rw (is, parts, read.first, take-append_seam, drop-append_seam, report_lines-append, report_lines-given) refl
        | inr same ↦ rw (same.0, read.reported, same.1, given-refused run.gathered.items read.waiting read.gathered) refl
      ]

  -- the pieces that were executed before
  abbrev before : List (List (Cmd × Outcome))
  before = read.asks.cut.whole

  joined-answered : commands_of (read.settled ++ answered) ≡ concatenated before ++ executed
  joined-answered =
      let joined : commands_of read.settled ≡ concatenated before =
      read.asks.cut.is_joined ∙ (ap (λ last. concatenated before ++ last) read.full ∙ append-nil (concatenated before)) in
      rw (commands_of-append, joined, commands_of-given answers.outcomes run.gathered.items read.waiting read.gathered answers.each) refl

  gained-answered : Gains holds start new (map visit_of (before ++ piece_of executed))
  gained-answered visits held =
      let gained = rw (read.asks.cut.is_cut, read.full, append-nil) at read.asks.gained visits held in
      rw (map-append, ← append_assoc) (answers.gained (visits ++ map visit_of before) gained)

  -- after a batch was executed, none of the lines read waits
  pub batch_asked : (run' : FeedRun) → length run.gathered.items ≡ batch → run'.report ≡ report → run'.gathered.items ≡ [] → run'.first ≡ length run'.report
      → run'.version ≡ run.version → HasRead holds batch text rest number start new run'
  batch_asked run' whole same emptied first version = record {
    settled = read.settled ++ answered;
    unasked = rest;
    asks = record {
      becomes = becomes-answered;
      pieces = before ++ piece_of executed;
      cut = record {
        whole = before ++ piece_of executed;
        last = [];
        full = All-append (λ piece. length piece ≡ batch) before (piece_of executed) read.asks.cut.full
            (full_piece batch executed (length-executed ∙ whole));
        fewer = omega (arith, read.asks.cut.fewer);
        is_joined = rw (flat_map-append (λ (xs : List (Cmd × Outcome)). xs), concatenated-piece executed, append-nil) joined-answered;
        is_cut = sym (append-nil (before ++ piece_of executed));
      };
      gained = gained-answered;
    };
    full = refl;
    versioned = read.versioned ∙ sym version;
    waiting = [];
    become = refl;
    counted = rw (append-nil, length-append, length-given, ← length-append) read.counted;
    reported = rw append-nil (same ∙ report-answered);
    first = rw (first, same) (ap length report-answered);
    gathered = rw emptied refl;
  }

-- after the whole text was read, the last commands were executed
pub all_asked : {G : Type 0} {holds : G → List AnsweredBatch → Type 0} {batch : ℕ} {text : List ℕ} {number : ℕ} {start gate new : G}
    {run : FeedRun} {report : List Line}
    → (read : HasRead holds batch text [] number start gate run) → length run.gathered.items < batch
    → (answers : AnswersWaiting holds gate new run.gathered.items run.first run.report report) → RunsFeed holds batch text start new report
all_asked read few answers = record {
  outcomes = read.settled ++ answered read answers;
  asks = record {
    becomes = becomes-answered read answers;
    pieces = before read answers ++ piece_of (executed read answers);
    cut = record {
      whole = before read answers;
      last = executed read answers;
      full = read.asks.cut.full;
      fewer = omega (arith, few, length-executed read answers);
      is_joined = joined-answered read answers;
      is_cut = refl;
    };
    gained = gained-answered read answers;
  };
  reported = report-answered read answers;
}
