use Rattle.std.proofs.Common.{◌≡◌, ◌≤◌, ◌<◌, ◌++◌, ◌+◌, length, refl, sym, ap, ◌∙◌, arith, All, subst}
use Rattle.std.proofs.lemmas.Result.{err_from_is_err_and}
use Rattle.rt_feed.specs.declared.report.Line.{Line}
use Rattle.rt_feed.proofs.LinesYield.{length-cut, report_lines-below}
use Rattle.rt_feed.proofs.RunSteps.{nothing_read, length-read, first-within, line_read, length-gathered, batch_asked, all_asked, stopped}
use Rattle.rt_feed.proofs.running.run_feed.Goals as goal

pub loop-line-init : goal.loop-line-init
loop-line-init g c = record {
  named = refl;
  read = nothing_read c.requires c.new.ensures refl c.new-2.ensures.items c.text_body-version.ensures (omega (arith, c.first_line-number.ensures));
  few = omega (arith, c.requires, ap length c.new-2.ensures.items);
}

pub overflow_add-number : goal.overflow_add-number
overflow_add-number g c =
    let some = length-cut c.loop-line.rest.now c.in-Some.line.now c.in-Some.next.now (c.in-Some.ensures {u = tt}) in
    let small : c.loop-line.number + 1 ≤ length c.args.text.now = omega (arith, length-read c.loop-line.invariant.read, some) in
    omega (arith, small)

pub gather-requires : goal.gather-requires
gather-requires g c =
    let read = c.loop-line.invariant.read in
    let below = subst (All (λ (line : Line). line.number < 1 + length (read.settled ++ read.waiting))) (sym read.reported) (report_lines-below 1 _) in
    λ k d here. omega (arith, read.counted, below k d here)

pub returns-in_err-gather-clause-err : goal.returns-in_err-gather-clause-err
returns-in_err-gather-clause-err g c =
    let fault = err_from_is_err_and c.from_residual.result c.from_residual.ensures.1 in
    rw fault.1 (stopped c.loop-line.invariant.read (c.in-Some.ensures {u = tt}) (c.in_err-gather.ensures {u = tt}).err)

pub returns-in_err-gather-clause-nothing : goal.returns-in_err-gather-clause-nothing
returns-in_err-gather-clause-nothing g c empty =
    let some = length-cut c.loop-line.rest.now c.in-Some.line.now c.in-Some.next.now (c.in-Some.ensures {u = tt}) in
    absurd (omega (arith, length-read c.loop-line.invariant.read, some, ap length empty))

pub returns-clause-ok : goal.returns-clause-ok
returns-clause-ok g c =
    let none = c.in_default.ensures {u = tt} in
    all_asked {new = c.ask-2.new.gate} (rw none at c.loop-line.invariant.read) c.loop-line.invariant.few c.ask-2.ensures.waiting

pub loop-line-preserved-then-len-batch : goal.loop-line-preserved-then-len-batch
loop-line-preserved-then-len-batch g c =
    let gathers = (c.in_ok-gather.ensures {u = tt}).ok in
    let read = line_read c.loop-line.invariant.read (c.in-Some.ensures {u = tt}) c.gather.new.self gathers in
    let whole : length c.gather.new.self.gathered.items ≡ c.args.batch =
    sym c.gather.new.self.gathered.ok.0 ∙ (sym c.len.ensures ∙ c.if-len-batch.true) in
    record {
      named = c.ask.ensures.name ∙ c.loop-line.invariant.named;
      read = batch_asked read c.ask.ensures.waiting c.ask.new.self whole refl c.ask.ensures.emptied c.ask.ensures.none_waits c.ask.ensures.version;
      few = omega (arith, c.requires, ap length c.ask.ensures.emptied);
    }

pub loop-line-preserved : goal.loop-line-preserved
loop-line-preserved g c =
    let gathers = (c.in_ok-gather.ensures {u = tt}).ok in
    record {
      named = c.loop-line.invariant.named;
      read = line_read c.loop-line.invariant.read (c.in-Some.ensures {u = tt}) c.gather.new.self gathers;
      few = omega (arith, c.loop-line.invariant.few, length-gathered c.loop-line.run c.gather.new.self gathers, c.gather.new.self.gathered.ok.0, c.len.ensures, c.if-len-batch.false);
    }

pub ask-requires-after_bounds : goal.ask-requires-after_bounds
ask-requires-after_bounds g c κs bounds =
    first-within (line_read c.loop-line.invariant.read (c.in-Some.ensures {u = tt}) c.gather.new.self (c.in_ok-gather.ensures {u = tt}).ok)

pub ask-requires-2-after_bounds : goal.ask-requires-2-after_bounds
ask-requires-2-after_bounds g c κs bounds = first-within c.loop-line.invariant.read
