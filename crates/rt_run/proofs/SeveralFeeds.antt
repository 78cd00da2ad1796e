-- Several feeds over one table: the journal to which the table settles explains their reports.
use Rattle.std.proofs.Common.{◌≡◌, ℕ, suc, ◌+◌, ◌-◌, ◌<◌, ◌≤◌, inl, inr, Option, Some, None, List, [], ◌∷◌, ◌++◌, All, length, map, take, drop, get_or, refl}
use Rattle.std.proofs.Common.{sym, ap, subst, ◌∙◌, arith, length-append, length-drop}
use Rattle.std.specs.Prelude.{MatchOption}
use Rattle.std.proofs.lemmas.Bool.{cases_lt}
use Rattle.std.proofs.lemmas.List.{get_or-map, get_or-drop, get_or-append_right, get_or_append_left, length-map, length-take-le, get_or-take, get_or_default}
use Rattle.std.proofs.lemmas.List.Elements.{All-nil}
use Rattle.std.proofs.lemmas.Option.{slice_get-get_or, slice_get_within, same_Some}
use Rattle.rt_rib.specs.declared.commands.Entry.{Entry}
use Rattle.rt_rib.specs.Book.{BookContents, table_of}
use Rattle.rt_shared.specs.SharedTable.{SharedId, HeldPass, ArePassesOf, Settles}
use Rattle.rt_shared.specs.JournalVisits.{NoneBy, Since, IsContiguousIn, AnsweredBatch, visit_of, entries}
use Rattle.rt_feed.specs.declared.report.Line.{Line}
use Rattle.rt_feed.specs.declared.feeds.Feed.{Feed}
use Rattle.rt_feed.specs.Lines.{LineOutcome, report_lines}
use Rattle.rt_feed.specs.FeedRuns.{RunsFeed, RunsPrefixOf, RunsOne}
use Rattle.rt_print.specs.Routes.{table_text}
use Rattle.rt_shared.proofs.Promised.{uncut_since}
use Rattle.rt_run.specs.RunText.{RunContents, Explains, ExplainsFrom, reports_of, reports_text, reports_status, IsRunText}
use Rattle.rt_run.specs.inside.Runs.{RunOverBook}

-- the visits that a gate to the table holds, and its name
abbrev pub holds : HeldPass → List AnsweredBatch → Type 0
holds gate visits = IsContiguousIn gate.feed (map (entries gate.feed) visits) gate.seen

abbrev pub name : HeldPass → SharedId × ℕ
name gate = (gate.table, gate.feed)

-- a feed's report and its text, which the journal explains
record IsExplained (batch feed : ℕ) (journal : List Entry) (text : List ℕ) (report : List Line) : Type 0 where
  lines : List LineOutcome
  explains : Explains batch feed journal text lines
  reported : report ≡ report_lines 1 lines

-- the settled journal explains what a feed executed through the gate of a fresh pass
explained : (batch feed : ℕ) (journal : List Entry) (text : List ℕ) (old new : HeldPass) (report : List Line)
    → RunsFeed holds batch text old new report → old.seen ≡ [] → new.feed ≡ feed
    → Since feed new.seen journal → IsExplained batch feed journal text report
explained batch feed journal text old new report runs fresh same since =
    let pieces = runs.asks.pieces in
    let held : holds new (map visit_of pieces) = runs.asks.gained [] (rw fresh (All-nil _)) in
    let mine : IsContiguousIn feed (map (entries feed) (map visit_of pieces)) new.seen = rw same at held in
    record {
      lines = runs.outcomes;
      explains = record {
        becomes = runs.asks.becomes;
        pieces = pieces;
        cut = runs.asks.cut;
        uncut = uncut_since feed _ new.seen journal mine since;
      };
      reported = runs.reported;
    }

-- one feed after another
record AreExplained (batch feed : ℕ) (journal : List Entry) (texts : List (List ℕ)) (reports : List (List Line)) : Type 0 where
  outcomes : List (List LineOutcome)
  explained : ExplainsFrom batch feed journal texts outcomes
  reported : reports ≡ reports_of outcomes

all_explained : {V : Type 0} (items : V → List ℕ) (batch feed : ℕ) (journal : List Entry) (texts : List V) (reports : List (List Line))
    → length reports ≡ length texts
    → ((i m : ℕ) (t : V) (r : List Line) → i < length texts → m ≡ feed + i → IsExplained batch m journal (items (get_or texts i t)) (get_or reports i r))
    → AreExplained batch feed journal (map items texts) reports
all_explained items batch feed journal [] [] same each = record { outcomes = []; explained = tt; reported = refl }
all_explained items batch feed journal (text ∷ texts) (report ∷ reports) same each =
    let head = each 0 feed text report (omega arith) (omega arith) in
    let rest = all_explained items batch (feed + 1) journal texts reports
    (omega (arith, same)) (λ i m t r here is. each (suc i) m t r (omega (arith, here)) (omega (arith, is))) in
    record {
      outcomes = head.lines ∷ rest.outcomes;
      explained = (head.explains, rest.explained);
      reported = cc (head.reported, rest.reported);
    }
all_explained items batch feed journal texts reports same each = absurd (omega (arith, same))

-- there is a text at each position below the number of texts
some_text : {V : Type 0} (texts : List V) (i : ℕ) → i < length texts → V
some_text [] i here = absurd (omega (arith, here))
some_text (text ∷ texts) i here = text

-- each text was run through the gate of the pass at its place: the gates before and after
pub record WereRun {V : Type 0} (items : V → List ℕ) (texts : List V) (batch : ℕ) (passes : List HeldPass) (feeds feeds' : List (Feed HeldPass)) : Type 0 where
  pub few : length texts ≤ length passes
  pub opened : feeds ≡ map (λ p. record { gate = p; report = None }) (take (length texts) passes)
  pub as_many : length feeds' ≡ length feeds
  pub ran : (i : ℕ) (t : V) (d : Feed HeldPass) → i < length texts
      → RunsOne name holds batch (items (get_or texts i t)) (get_or feeds i d).gate (get_or feeds' i d).gate (get_or feeds' i d).report

module _ {V : Type 0} (items : V → List ℕ) (texts : List V) (table : SharedId) (batch : ℕ) (passes : List HeldPass) (dealt : ArePassesOf table passes)
    (fresh : All (λ (p : HeldPass). p.seen ≡ []) passes) (feeds feeds' : List (Feed HeldPass)) (were : WereRun items texts batch passes feeds feeds') where
  -- a pass and a feed for positions outside of the lists
  abbrev no_pass : HeldPass
  no_pass = record { table = table; feed = 0; seen = []; room = 0 }

  abbrev open_feed : HeldPass → Feed HeldPass
  open_feed p = record { gate = p; report = None }

  abbrev no_feed : Feed HeldPass
  no_feed = open_feed no_pass

  n_feeds : length feeds' ≡ length texts
  n_feeds = were.as_many ∙ (ap length were.opened ∙ (length-map (take (length texts) passes) open_feed ∙ length-take-le (length texts) passes were.few))

  -- the gate of a feed before the run is its pass
  gate_before : (i : ℕ) → i < length texts → (get_or feeds i no_feed).gate ≡ get_or passes i no_pass
  gate_before i here =
      let within : i < length (take (length texts) passes) = omega (arith, length-take-le (length texts) passes were.few, here) in
      ap (λ (fs : List (Feed HeldPass)). (get_or fs i no_feed).gate) were.opened
      ∙ (ap (λ (f : Feed HeldPass). f.gate) (get_or-map open_feed (take (length texts) passes) i no_pass no_feed within)
      ∙ get_or-take (length texts) passes i no_pass here)

  -- the passes after the run: those of the gates, and those that were idle
  abbrev back : List HeldPass
  back = map (λ (f : Feed HeldPass). f.gate) feeds' ++ drop (length texts) passes

  n_gates : length (map (λ (f : Feed HeldPass). f.gate) feeds') ≡ length texts
  n_gates = length-map feeds' (λ (f : Feed HeldPass). f.gate) ∙ n_feeds

  n_back : length back ≡ length passes
  n_back = omega (arith, length-append (map (λ (f : Feed HeldPass). f.gate) feeds') (drop (length texts) passes), n_gates, length-drop (length texts) passes)

  -- the first passes are those of the gates
  ran_back : (i : ℕ) → i < length texts → get_or back i no_pass ≡ (get_or feeds' i no_feed).gate
  ran_back i here =
      get_or_append_left (map (λ (f : Feed HeldPass). f.gate) feeds') (drop (length texts) passes) no_pass i (omega (arith, n_gates, here))
      ∙ get_or-map (λ (f : Feed HeldPass). f.gate) feeds' i no_feed no_pass (omega (arith, n_feeds, here))

  -- the other passes are unchanged
  idle_back : (i : ℕ) → length texts ≤ i → get_or back i no_pass ≡ get_or passes i no_pass
  idle_back i idle =
      let at : length texts + (i - length texts) ≡ i = omega (arith, idle) in
      get_or-append_right (map (λ (f : Feed HeldPass). f.gate) feeds') (drop (length texts) passes) (length texts) i no_pass n_gates idle
      ∙ (get_or-drop (length texts) passes (i - length texts) no_pass ∙ ap (λ (k : ℕ). get_or passes k no_pass) at)

  -- all passes keep their names
  named_back : (i : ℕ) → name (get_or back i no_pass) ≡ name (get_or passes i no_pass)
  named_back i = elim (cases_lt i (length texts)) [
    | inr idle ↦ ap name (idle_back i idle)
    | inl here ↦ ap name (ran_back i here) ∙ ((were.ran i (some_text texts i here) no_feed here).named ∙ ap name (gate_before i here))
  ]

  feed_back : (i : ℕ) → i < length passes → (get_or back i no_pass).feed ≡ i + 1
  feed_back i here = ap (λ (p : SharedId × ℕ). p.1) (named_back i) ∙ dealt.feeds i (get_or passes i no_pass) (slice_get-get_or passes i no_pass here)

  -- they are the passes of the table
  pub are_back : ArePassesOf table back
  are_back = record {
    count = n_back ∙ dealt.count;
    tables = λ k d here.
        let within : k < length passes = omega (arith, n_back, here) in
        ap (λ (p : HeldPass). p.table) (get_or_default back k d no_pass here) ∙ (ap (λ (p : SharedId × ℕ). p.0) (named_back k) ∙ dealt.tables k no_pass within);
    feeds = λ i p is.
        let here = slice_get_within back i p is in
        let found : p ≡ get_or back i no_pass = same_Some _ _ (sym is ∙ slice_get-get_or back i no_pass here) in
        ap (λ (q : HeldPass). q.feed) found ∙ feed_back i (omega (arith, n_back, here));
  }

  module _ (journal : List Entry) (settled : Settles table back journal) where
    -- an entry that a pass has not seen isn't its feed's
    since_back : (i : ℕ) → i < length passes → Since (i + 1) (get_or back i no_pass).seen journal
    since_back i here =
        subst (λ (feed : ℕ). Since feed (get_or back i no_pass).seen journal) (feed_back i here) (settled.since i no_pass (omega (arith, n_back, here)))

    -- hence no entry is of a feed without a text
    pub no_other : All (λ (e : Entry). (1 ≤ e.feed) × (e.feed ≤ length texts)) journal
    no_other k d here =
        let of = settled.of_feeds k d here in
        let feed = (get_or journal k d).feed in
        elim (cases_lt (length texts) feed) [
          | inr within ↦ (of.0, within)
          | inl past ↦
              let i = feed - 1 in
              let next : i + 1 ≡ feed = omega (arith, of) in
              let within : i < length passes = omega (arith, dealt.count, of) in
              let since = since_back i within in
              let unseen : (get_or back i no_pass).seen ≡ [] =
              ap (λ (p : HeldPass). p.seen) (idle_back i (omega (arith, past))) ∙ fresh i no_pass within in
              let all : since.others ≡ journal = sym (since.grown ∙ ap (λ (seen : List Entry). seen ++ since.others) unseen) in
              let others : NoneBy (i + 1) journal = rw all at since.by_others in absurd (others k d here (sym next))
        ]

    -- each report is explained
    module _ (reports : List (List Line)) (reported : map Some reports ≡ map (λ (f : Feed HeldPass). f.report) feeds') where
      n_reports : length reports ≡ length texts
      n_reports = sym (length-map reports Some) ∙ (ap length reported ∙ (length-map feeds' (λ (f : Feed HeldPass). f.report) ∙ n_feeds))

      report_at : (i : ℕ) (r : List Line) → i < length texts → (get_or feeds' i no_feed).report ≡ Some (get_or reports i r)
      report_at i r here =
          sym (get_or-map (λ (f : Feed HeldPass). f.report) feeds' i no_feed None (omega (arith, n_feeds, here)))
          ∙ (ap (λ (rs : List (Option (List Line))). get_or rs i None) (sym reported) ∙ get_or-map Some reports i r None (omega (arith, n_reports, here)))

      explained_at : (i m : ℕ) (t' : V) (r : List Line) → i < length texts
          → m ≡ 1 + i → IsExplained batch m journal (items (get_or texts i t')) (get_or reports i r)
      explained_at i m t' r here is =
          let within : i < length passes = omega (arith, here, were.few) in
          let one = were.ran i t' no_feed here in
          let old = (get_or feeds i no_feed).gate in
          let new = (get_or feeds' i no_feed).gate in
          let report = get_or reports i r in
          let runs : RunsFeed holds batch (items (get_or texts i t')) old new report =
          subst (λ (o : Option (List Line)). MatchOption o (RunsPrefixOf holds batch (items (get_or texts i t')) old new)
          (λ lines. RunsFeed holds batch (items (get_or texts i t')) old new lines)) (report_at i r here) one.runs in
          let unseen : old.seen ≡ [] = ap (λ (p : HeldPass). p.seen) (gate_before i here) ∙ fresh i no_pass within in
          let next : m ≡ i + 1 = omega (arith, is) in
          let mine : new.feed ≡ m = ap (λ (p : HeldPass). p.feed) (sym (ran_back i here)) ∙ (feed_back i within ∙ sym next) in
          let since : Since m new.seen journal = rw next (subst (λ (p : HeldPass). Since (i + 1) p.seen journal) (ran_back i here) (since_back i within)) in
          explained batch m journal (items (get_or texts i t')) old new report runs unseen mine since

      -- hence the texts were run to their ends
      pub run_over_book : (book : BookContents) → book.journal ≡ journal
          → book.limit ≡ table.limit → RunOverBook (record { texts = map items texts; limit = table.limit; batch = batch }) reports book
      run_over_book book journaled limited =
          let all = all_explained items batch 1 journal texts reports n_reports explained_at in
          record {
            limited = limited;
            outcomes = all.outcomes;
            history = record {
              lawful = rw journaled settled.lawful;
              explained = rw journaled all.explained;
              no_other = rw (journaled, length-map texts items) no_other;
            };
            reported = all.reported;
            counted = n_reports ∙ sym (length-map texts items);
          }

-- their output is a run's text
pub run_text : (asked : RunContents) (reports : List (List Line)) (book : BookContents) → RunOverBook asked reports book
    → IsRunText asked.texts asked.limit asked.batch (reports_text 1 reports ++ table_text (table_of book)) (reports_status reports)
run_text asked reports book ran = record {
  journal = book.journal;
  outcomes = ran.outcomes;
  history = ran.history;
  printed = rw (ran.reported, ran.limited) refl;
  is_status = rw ran.reported refl;
}
