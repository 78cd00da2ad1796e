use denote.Param.Send.{sendable}
use Rattle.std.proofs.Common.{◌≡◌, ◌≤◌, ◌++◌, ℕ, List, Some, None, map, take, drop, length, get_or, sym, ap, subst, ◌∙◌, refl, arith}
use Rattle.std.proofs.lemmas.List.{length-map, length-take-le}
use Rattle.std.specs.declared.vec.Vec.{Vec}
use Rattle.std.specs.declared.alloc.Global.{Global}
use Rattle.rt_shared.specs.SharedTable.{HeldPass}
use Rattle.rt_shared.proofs.Promised.{pass_send, rib_sync}
use Rattle.rt_feed.specs.declared.feeds.Feed.{Feed}
use Rattle.rt_feed.specs.FeedRuns.{RunsOne}
use Rattle.rt_run.specs.inside.Runs.{RunOverBook}
use Rattle.rt_run.proofs.Lists.{all_written}
use Rattle.rt_run.proofs.SeveralFeeds.{name, holds, WereRun, are_back, run_over_book}
use Rattle.rt_run.proofs.runs.run_in_tree.Given.{Over}
use Rattle.rt_run.proofs.runs.run_in_tree.Goals.{In_ok-append}
use Rattle.rt_run.proofs.runs.run_in_tree.Goals as goal

pub run_feeds-requires-send-G : goal.run_feeds-requires-send-G
run_feeds-requires-send-G g c = search (pass_send, rib_sync, sendable) depth 60

abbrev items : Vec ℕ Global → List ℕ
items text = text.items

abbrev gates_of : List (Feed HeldPass) → List HeldPass
gates_of feeds = map (λ (f : Feed HeldPass). f.gate) feeds

-- each text was run with the pass at its place
were_run : (g : Over) (c : In_ok-append g) → WereRun items c.args.texts.now c.args.batch c.in_ok-table.passes.items c.in_ok-feeds.feeds.items c.run_feeds.new.feeds
were_run g c =
    let texts : List (Vec ℕ Global) = c.args.texts.now in
    let passes : List HeldPass = c.in_ok-table.passes.items in
    let feeds : List (Feed HeldPass) = c.in_ok-feeds.feeds.items in
    let feeds' : List (Feed HeldPass) = c.run_feeds.new.feeds in
    let few : length texts ≤ length passes = omega (arith, c.requires.placed, ((c.in_ok-table.ensures {u = tt}).passes).count, (c.in_ok-table.ensures {u = tt}).table) in
    let value : c.deref_mut.result.now ≡ feeds = c.deref_mut.ensures.value in
    let opened : feeds ≡ map (λ p. record { gate = p; report = None }) (take (length texts) passes) =
    rw (← (c.in_ok-idle.ensures {u = tt}).items) (c.in_ok-feeds.ensures {u = tt}) in
    let n_feeds : length feeds ≡ length texts = ap length opened
    ∙ (length-map (take (length texts) passes) (λ p. record { gate = p; report = None }) ∙ length-take-le (length texts) passes few) in
    record {
      few = few;
      opened = opened;
      as_many = c.run_feeds.auto.feeds ∙ ap length value;
      ran = λ i t d here.
          subst (λ (fs : List (Feed HeldPass)). RunsOne name holds c.args.batch
          (items (get_or texts i t)) (get_or fs i d).gate (get_or feeds' i d).gate (get_or feeds' i d).report) value
          ((c.in-Ok.ensures {u = tt}).each (sym (ap length value ∙ n_feeds)) i t d here);
    }

-- the feeds were all written
written : (g : Over) (c : In_ok-append g) → take c.in_ok-feeds.feeds.len (c.run_feeds.new.feeds ++ drop (length c.run_feeds.new.feeds) c.in_ok-feeds.feeds.items) ≡ c.run_feeds.new.feeds
written g c = all_written c.in_ok-feeds.feeds.len c.run_feeds.new.feeds c.in_ok-feeds.feeds.items c.in_ok-feeds.feeds.ok.0 (were_run g c).as_many

-- these passes are returned: those of the gates, and then the idle ones
ended : (g : Over) (c : In_ok-append g) → c.append.new.self.items ≡ gates_of c.run_feeds.new.feeds ++ drop (length c.args.texts.now) c.in_ok-table.passes.items
ended g c =
    (c.in_ok-append.ensures {u = tt}).items ∙ (ap (λ (ps : List HeldPass). ps ++ c.in_ok-idle.idle.items) (c.close_gates.ensures.passes ∙ ap gates_of (written g c))
    ∙ ap (λ (ps : List HeldPass). gates_of c.run_feeds.new.feeds ++ ps) (c.in_ok-idle.ensures {u = tt}).tail)

pub settle-requires : goal.settle-requires
settle-requires g c =
    let made = c.in_ok-table.ensures {u = tt} in
    (omega arith, rw (ended g c) (are_back items c.args.texts.now c.in_ok-table.table c.args.batch c.in_ok-table.passes.items made.passes made.seen _ _ (were_run g c)))

pub returns : goal.returns
returns g c =
    let made = c.in_ok-table.ensures {u = tt} in
    let at : In_ok-append g = c.before.before in
    let reported : map Some c.close_gates.new.reports.items ≡ map (λ (f : Feed HeldPass). f.report) c.run_feeds.new.feeds =
    c.close_gates.ensures.reports ∙ ap (map (λ (f : Feed HeldPass). f.report)) (written g at) in
    let as_back = rw (ended g at) at c.settle.ensures.settled in
    subst (λ (limit : ℕ). RunOverBook (record { texts = map items c.args.texts.now; limit = limit; batch = c.args.batch }) c.close_gates.new.reports.items c.settle.result)
    made.table.0 (run_over_book items c.args.texts.now c.in_ok-table.table c.args.batch c.in_ok-table.passes.items made.passes made.seen _ _ (were_run g at)
    c.settle.result.journal as_back c.close_gates.new.reports.items reported c.settle.result refl c.settle.ensures.limit)
