-- Texts executed one after another, line by line and text by text: some history of them leaves the same table.
use Rattle.std.proofs.Common.{◌≡◌, ◌≢◌, inl, inr, ℕ, zero, suc, ◌+◌, ◌<◌, ◌≤◌, Option, List, [], ◌∷◌, ◌++◌, length, map, take, drop}
use Rattle.std.proofs.Common.{refl, sym, ap, subst, ◌∙◌, arith, append_assoc, append-nil, length-append, length-drop, take-append-drop}
use Rattle.std.proofs.lemmas.Bool.{cases_lt}
use Rattle.std.proofs.lemmas.List.{map-append, length-take-le}
use Rattle.std.proofs.lemmas.List.Elements.{All-nil, All-cons, All-append, All-weaker}
use Rattle.rt_rib.specs.declared.commands.Cmd.{Cmd}
use Rattle.rt_rib.specs.declared.commands.Reply.{Reply}
use Rattle.rt_rib.specs.declared.commands.Entry.{Entry}
use Rattle.rt_rib.specs.Book.{TableState, Serves}
use Rattle.rt_rib.specs.Sequential.{reply_of, table_after, table_of_journal, IsAnswered, IsLawfulJournal}
use Rattle.rt_rib.proofs.Promised.{table_of_journal-push, IsLawfulJournal-nil, IsLawfulJournal-push}
use Rattle.rt_shared.specs.declared.outcome.Outcome.{Outcome}
use Rattle.rt_shared.specs.declared.outcome.Outcome.TheVariants.{Did}
use Rattle.rt_shared.specs.JournalVisits.{AllBy, NoneBy, IsContiguousIn, AnsweredBatch, visit_of, entries}
use Rattle.rt_shared.proofs.Promised.{uncut_since}
use Rattle.rt_feed.specs.declared.versions.Version.{Version}
use Rattle.rt_feed.specs.declared.versions.Version.TheVariants.{One, Two}
use Rattle.rt_feed.specs.declared.report.Line.{Line}
use Rattle.rt_feed.specs.declared.report.Answer.{Answer}
use Rattle.rt_feed.specs.Lines.{IsBody, CutsLine, LineOutcome, skipped, TextYields, heading, numbered, report_lines, command_of, commands_of}
use Rattle.rt_feed.specs.Visits.{concatenated, piece_of, IsSplitInto}
use Rattle.rt_feed.proofs.Promised.{length-cut, report_lines-push, commands_of-append}
use Rattle.rt_run.specs.declared.tallies.RejectedInput.{RejectedInput}
use Rattle.rt_run.specs.RunText.{Explains, ExplainsFrom, reports_of}
use Rattle.rt_run.specs.TableText.{tally_of, LeavesTable}
use Rattle.rt_run.specs.inside.Runs.{Continues, ExecutesText, ExecutesLine, IsExecuting}
use Rattle.rt_run.proofs.Lists.{map_more, split-joined}

-- a feed's command with its reply as an entry
abbrev entry_by : ℕ → Cmd × Reply → Entry
entry_by feed p = record { feed = feed; cmd = p.0; reply = p.1 }

-- the entries of more commands after some
visit_of-append : (one two : List (Cmd × Outcome)) → visit_of (one ++ two) ≡ visit_of one ++ visit_of two
visit_of-append [] two = refl
visit_of-append (asked ∷ one) two = rw (visit_of-append one two, append_assoc)

pub entries-append : (feed : ℕ) (one two : List (Cmd × Outcome)) → entries feed (visit_of (one ++ two)) ≡ entries feed (visit_of one) ++ entries feed (visit_of two)
entries-append feed one two = ap (entries feed) (visit_of-append one two) ∙ map-append (entry_by feed) (visit_of one) (visit_of two)

pub entries_by : (feed : ℕ) (visit : AnsweredBatch) → AllBy feed (entries feed visit)
entries_by feed [] = All-nil (λ (e : Entry). e.feed ≡ feed)
entries_by feed (p ∷ visit) = All-cons (λ (e : Entry). e.feed ≡ feed) (entry_by feed p) (entries feed visit) refl (entries_by feed visit)

-- the table that a lawful journal leaves
abbrev IsLeftBy : ℕ → TableState → List Entry → Type 0
IsLeftBy limit table journal = IsLawfulJournal limit journal × (table.routes ≡ table_of_journal limit journal)

-- an empty list of commands changes nothing
pub continues-none : (feed : ℕ) (table : TableState) → Continues feed [] table table
continues-none feed table = (refl, λ journal lawful left. subst (IsLeftBy table.limit table) (sym (append-nil journal)) (lawful, left))

-- a command with a reply is one entry
pub continues-did : (feed : ℕ) (cmd : Cmd) (reply : Reply) (old new : TableState) → Serves old new feed cmd reply
    → Continues feed ((cmd, Did reply) ∷ []) old new
continues-did feed cmd reply old new served = (
  ap (λ (t : TableState). t.limit) served.changed,
  λ journal lawful left.
      let e : Entry = record { feed = feed; cmd = cmd; reply = reply } in
      let is : IsAnswered old.limit journal e = served.replied ∙ ap (λ routes. reply_of old.limit routes feed cmd) left in (
        IsLawfulJournal-push old.limit journal e lawful is,
        ap (λ (t : TableState). t.routes) served.changed
            ∙ (ap (λ routes. table_after old.limit routes feed cmd) left ∙ sym (table_of_journal-push old.limit journal e)),
      ),
)

-- some commands and then others
pub continues-both : (feed : ℕ) (one two : List (Cmd × Outcome)) (a b c : TableState) → Continues feed one a b → Continues feed two b c
    → Continues feed (one ++ two) a c
continues-both feed one two a b c first second = (
  second.0 ∙ first.0,
  λ journal lawful left.
      let middle = first.1 journal lawful left in
      let front = journal ++ entries feed (visit_of one) in
      let ended : IsLeftBy b.limit c (front ++ entries feed (visit_of two)) = second.1 front (rw first.0 middle.0) (rw first.0 middle.1) in
      let joined : front ++ entries feed (visit_of two) ≡ journal ++ entries feed (visit_of (one ++ two)) =
      append_assoc journal (entries feed (visit_of one)) (entries feed (visit_of two)) ∙ ap (λ (own : List Entry). journal ++ own) (sym (entries-append feed one two)) in
      subst (IsLeftBy a.limit c) joined (subst (λ (limit : ℕ). IsLeftBy limit c (front ++ entries feed (visit_of two))) first.0 ended),
)

-- before the first line that is read
pub begins : (version : Version) (feed : ℕ) (text lines : List ℕ) (number : ℕ) (table : TableState) (tally : RejectedInput) → IsBody text version lines
    → number ≡ length (heading version) → tally ≡ tally_of [] → IsExecuting version feed text lines number table table tally
begins One feed text lines number table tally body counted tallied = record {
  outcomes = [];
  onward = λ more is. record { version = One; lines = lines; read = more; body = body; become = is; joined = refl };
  counted = counted;
  within = omega (arith, counted, ap length body.1);
  continued = continues-none feed table;
  tallied = tallied;
}
begins Two feed text lines number table tally body counted tallied = record {
  outcomes = skipped ∷ [];
  onward = λ more is. record { version = Two; lines = lines; read = more; body = body; become = is; joined = refl };
  counted = counted;
  within = omega (arith, counted, length-cut text _ lines body);
  continued = continues-none feed table;
  tallied = tallied;
}

-- one more line
pub reads_on : (version : Version) (feed : ℕ) (text rest line next : List ℕ) (number : ℕ) (old now new : TableState) (tally tally' : RejectedInput) (said : Option Answer)
    → IsExecuting version feed text rest number old now tally → CutsLine rest line next → ExecutesLine version feed line now new said
    → ((report : List Line) → tally ≡ tally_of report → tally' ≡ tally_of (report ++ numbered (number + 1) said))
    → IsExecuting version feed text next (number + 1) old new tally'
reads_on version feed text rest line next number old now new tally tally' said so_far cut executed counts =
    let outcome = executed.outcome in
    let next_number : number + 1 ≡ 1 + length so_far.outcomes = omega (arith, so_far.counted) in
    let report : report_lines 1 so_far.outcomes ++ numbered (number + 1) said ≡ report_lines 1 (so_far.outcomes ++ outcome ∷ []) =
    cc (executed.answered, next_number, report_lines-push 1 so_far.outcomes outcome) in
    let asked : commands_of so_far.outcomes ++ command_of outcome ≡ commands_of (so_far.outcomes ++ outcome ∷ []) =
    ap (λ own. commands_of so_far.outcomes ++ own) (sym (append-nil (command_of outcome))) ∙ sym (commands_of-append so_far.outcomes (outcome ∷ [])) in
    record {
      outcomes = so_far.outcomes ++ outcome ∷ [];
      onward = λ more is.
          rw append_assoc (so_far.onward (outcome ∷ more) (line, next, cut, executed.reads, is));
      counted = omega (arith, so_far.counted, length-append so_far.outcomes (outcome ∷ []));
      within = omega (arith, so_far.within, length-cut rest line next cut);
      continued = rw asked at
          (continues-both feed (commands_of so_far.outcomes) (command_of outcome) old now new so_far.continued executed.continued);
      tallied = counts (report_lines 1 so_far.outcomes) so_far.tallied ∙ ap tally_of report;
    }

-- after the last line the whole text was executed
pub ends : (version : Version) (feed : ℕ) (text rest : List ℕ) (number : ℕ) (old now : TableState) (tally : RejectedInput)
    → IsExecuting version feed text rest number old now tally → rest ≡ [] → ExecutesText feed text old now tally
ends version feed text rest number old now tally so_far none = record {
  outcomes = so_far.outcomes;
  becomes = rw append-nil at (so_far.onward [] none);
  continued = so_far.continued;
  tallied = so_far.tallied;
}

-- each list can be split into pieces
abbrev Cut : {X : Type 0} → ℕ → List X → Type 0
Cut {X} size xs = (pieces : List (List X)) × IsSplitInto size xs pieces

cut_front : {X : Type 0} (size : ℕ) (xs : List X) → size ≤ length xs → Cut size (drop size xs) → Cut size xs
cut_front {X} size xs more (pieces, cut) = (
  take size xs ∷ pieces,
  record {
    whole = take size xs ∷ cut.whole;
    last = cut.last;
    full = All-cons (λ (piece : List X). length piece ≡ size) (take size xs) cut.whole (length-take-le size xs more) cut.full;
    fewer = cut.fewer;
    is_joined = rw (append_assoc, ← cut.is_joined) (sym (take-append-drop size xs));
    is_cut = ap (λ (ps : List (List X)). take size xs ∷ ps) cut.is_cut;
  },
)

cut_within : {X : Type 0} (size : ℕ) → 1 ≤ size → (most : ℕ) (xs : List X) → length xs < size + most → Cut size xs
cut_within size some zero xs within =
    (piece_of xs, record { whole = []; last = xs; full = All-nil _; fewer = omega arith; is_joined = refl; is_cut = refl })
cut_within size some (suc most) xs within = elim (cases_lt (length xs) size) [
  | inl fewer ↦ cut_within size some most xs (omega arith)
  | inr more ↦ cut_front size xs more (cut_within size some most (drop size xs) (omega (arith, length-drop size xs)))
]

-- if the entries of a feed's commands are in one piece, so is each piece into which the commands are split
pieces_uncut : (feed : ℕ) (pieces : List (List (Cmd × Outcome))) (before : List Entry) → NoneBy feed before
    → IsContiguousIn feed (map (entries feed) (map visit_of pieces)) (before ++ entries feed (visit_of (concatenated pieces)))
pieces_uncut feed [] before none = subst (NoneBy feed) (sym (append-nil before)) none
pieces_uncut feed (piece ∷ pieces) before none = (
  before,
  entries feed (visit_of (concatenated pieces)),
  ap (λ (own : List Entry). before ++ own) (entries-append feed piece (concatenated pieces)),
  none,
  entries_by feed (visit_of piece),
  pieces_uncut feed pieces [] (All-nil (λ (e : Entry). e.feed ≢ feed)),
)

-- a journal explains a text whose commands were executed at its end
explained_last : (batch feed : ℕ) (journal : List Entry) (text : List ℕ) (lines : List LineOutcome) → 1 ≤ batch → NoneBy feed journal → TextYields text lines []
    → Explains batch feed (journal ++ entries feed (visit_of (commands_of lines))) text lines
explained_last batch feed journal text lines some none becomes =
    let cut = cut_within batch some (length (commands_of lines)) (commands_of lines) (omega arith) in
    let joined = split-joined (commands_of lines) cut.0 cut.1 in
    record {
      becomes = becomes;
      pieces = cut.0;
      cut = cut.1;
      uncut = subst (λ asked. IsContiguousIn feed (map (entries feed) (map visit_of cut.0)) (journal ++ entries feed (visit_of asked))) joined
          (pieces_uncut feed cut.0 journal none);
    }

-- an entry of one feed isn't an earlier feed's
not_earlier : (feed later : ℕ) (own : List Entry) → feed < later → AllBy later own → NoneBy feed own
not_earlier feed later own before by =
    All-weaker (λ (e : Entry). e.feed ≡ later) (λ (e : Entry). e.feed ≢ feed) (λ e of same. absurd (omega (arith, before, of, same))) own by

-- the journal still explains the earlier texts
explains_more : (batch last : ℕ) (journal own : List Entry) (text : List ℕ) (lines : List LineOutcome) → AllBy last own → Explains batch last (journal ++ own) text lines
    → (feed : ℕ) (texts : List (List ℕ)) (outcomes : List (List LineOutcome)) → last ≡ feed + length texts → ExplainsFrom batch feed journal texts outcomes
    → ExplainsFrom batch feed (journal ++ own) (texts ++ text ∷ []) (outcomes ++ lines ∷ [])
explains_more batch last journal own text lines by explained feed [] [] is so_far =
    let same : last ≡ feed = omega (arith, is) in (subst (λ (n : ℕ). Explains batch n (journal ++ own) text lines) same explained, tt)
explains_more batch last journal own text lines by explained feed (one ∷ texts) (more ∷ outcomes) is (first, others) = (
  record {
    becomes = first.becomes;
    pieces = first.pieces;
    cut = first.cut;
    uncut = uncut_since feed (map (entries feed) (map visit_of first.pieces)) journal (journal ++ own) first.uncut
        (record { others = own; grown = refl; by_others = not_earlier feed last own (omega (arith, is)) by });
  },
  explains_more batch last journal own text lines by explained (feed + 1) texts outcomes (omega (arith, is)) others,
)
explains_more batch last journal own text lines by explained feed texts outcomes is so_far = absurd so_far

-- before the first text
pub leaves_nothing : (limit batch : ℕ) (table : TableState) (tallies : List RejectedInput) → table.routes ≡ [] → tallies ≡ []
    → LeavesTable (record { texts = []; limit = limit; batch = batch }) table.routes tallies
unfolding table_of_journal
leaves_nothing limit batch table tallies is none = record {
  journal = [];
  outcomes = [];
  history = record { lawful = IsLawfulJournal-nil limit; explained = tt; no_other = All-nil _ };
  left = is;
  tallied = none;
}

-- one more text
pub leaves_more : (texts : List (List ℕ)) (text : List ℕ) (limit batch feed : ℕ) (old new : TableState) (tallies tallies' : List RejectedInput) (tally : RejectedInput)
    → 1 ≤ batch → feed ≡ length texts + 1 → old.limit ≡ limit → LeavesTable (record { texts = texts; limit = limit; batch = batch }) old.routes tallies
    → ExecutesText feed text old new tally → tallies' ≡ tallies ++ tally ∷ []
    → LeavesTable (record { texts = texts ++ text ∷ []; limit = limit; batch = batch }) new.routes tallies'
leaves_more texts text limit batch feed old new tallies tallies' tally some is limited so_far executed pushed =
    let journal = so_far.journal in
    let own = entries feed (visit_of (commands_of executed.outcomes)) in
    let by : AllBy feed own = entries_by feed (visit_of (commands_of executed.outcomes)) in
    let Fits : List (List ℕ) → Entry → Type 0 = λ ts e. (1 ≤ e.feed) × (e.feed ≤ length ts) in
    let more = length-append texts (text ∷ []) in
    let others : NoneBy feed journal =
    All-weaker (Fits texts) (λ (e : Entry). e.feed ≢ feed) (λ e of same. absurd (omega (arith, of.1, same, is))) journal so_far.history.no_other in
    let now : IsLeftBy limit new (journal ++ own) =
    rw limited at (executed.continued.1 journal (rw limited so_far.history.lawful) (rw limited so_far.left)) in
    record {
      journal = journal ++ own;
      outcomes = so_far.outcomes ++ executed.outcomes ∷ [];
      history = record {
        lawful = now.0;
        explained = explains_more batch feed journal own text executed.outcomes by
            (explained_last batch feed journal text executed.outcomes some others executed.becomes) 1 texts so_far.outcomes (omega (arith, is)) so_far.history.explained;
        no_other = All-append (Fits (texts ++ text ∷ [])) journal own
            (All-weaker (Fits texts) (Fits (texts ++ text ∷ [])) (λ e of. omega (arith, of, more)) journal so_far.history.no_other)
            (All-weaker (λ (e : Entry). e.feed ≡ feed) (Fits (texts ++ text ∷ [])) (λ e of. omega (arith, of, is, more)) own by);
      };
      left = now.1;
      tallied = map_more tally_of tallies tallies' (reports_of so_far.outcomes) (report_lines 1 executed.outcomes) tally so_far.tallied pushed executed.tallied
          ∙ ap (map tally_of) (sym (map-append (report_lines 1) so_far.outcomes (executed.outcomes ∷ [])));
    }
