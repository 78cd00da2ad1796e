use Rattle.std.proofs.Common.{◌≡◌, ◌+◌, ◌<◌, [], length, get_or, take, ap, ◌∙◌, arith}
use Rattle.std.proofs.lemmas.List.{length-take-le, take_more, take_all}
use Rattle.rt_rib.specs.Book.{TableState, table_state}
use Rattle.rt_run.specs.RunText.{InputContents}
use Rattle.rt_run.proofs.InTurn.{leaves_nothing, leaves_more}
use Rattle.rt_run.proofs.GivenBack.{given_none, given_faulty, given_more, given_all, none_faulty, some_faulty}
use Rattle.rt_run.proofs.turns.execute_texts.Goals.{then-tally-eq0, else-tally-eq0}
use Rattle.rt_run.proofs.turns.execute_texts.Goals as goal

pub loop-index-init : goal.loop-index-init
loop-index-init c =
    let made = c.in_ok-tallies.ensures {u = tt} in
    let input = c.args.input.now in
    record {
      left = λ batch some.
          leaves_nothing input.limit batch (table_state c.new-table.result) c.in_ok-tallies.tallies.items (ap (λ (t : TableState). t.routes) c.new-table.ensures) made.items;
      given = given_none input c.in_ok-tallies.tallies.items;
      limited = ap (λ (t : TableState). t.limit) c.new-table.ensures ∙ ap (λ (t : InputContents). t.limit) c.input.view_is;
      counted = made.len;
      room = omega (arith, made.capacity, c.count.ensures.count);
    }

pub loop-index-preserved : goal.loop-index-preserved
loop-index-preserved c =
    let input = c.args.input.now in
    let texts = input.texts in
    let i = c.loop-index.index in
    let so_far = c.loop-index.invariant in
    let here : i < length texts = omega (arith, c.loop-index-test.true, c.count-index-end.ensures.count) in
    let text : c.text.result.now ≡ get_or texts i [] = c.text.ensures ∙ so_far.given.later i (omega arith) in
    let counted : length c.loop-index.tallies.items ≡ i = omega (arith, so_far.counted, c.loop-index.tallies.ok.0) in
    record {
      left = λ batch some.
          rw (take_more texts i [] here, ← text) (leaves_more _ c.text.result.now input.limit batch (i + 1) _ _ _ _ _ some
          (omega (arith, length-take-le i texts, here)) so_far.limited (so_far.left batch some) c.execute_text-tally.ensures c.push_reserved.ensures.items);
      given = elim c.if-tally-eq0.branch [
        | then-tally-eq0 w ↦
            given_more input i c.loop-index.tallies.items c.push_reserved.new.self.items c.execute_text-tally.result c.loop-index.input so_far.given counted c.push_reserved.ensures.items
            c.if-tally-eq0.input (none_faulty c.execute_text-tally.result (omega (arith, w.if-tally-eq0.true))) (omega (arith, here, so_far.given.as_many)) cc
        | else-tally-eq0 w ↦
            rw w.input-is (given_faulty input i c.loop-index.tallies.items c.push_reserved.new.self.items c.execute_text-tally.result c.loop-index.input so_far.given counted
            c.push_reserved.ensures.items (some_faulty c.execute_text-tally.result w.if-tally-eq0.false))
      ];
      limited = c.execute_text-tally.ensures.continued.0 ∙ so_far.limited;
      counted = omega (arith, so_far.counted, c.push_reserved.ensures.len);
      room = omega (arith, so_far.room, c.push_reserved.ensures.capacity);
    }

pub returns-clause-ran : goal.returns-clause-ran
returns-clause-ran c =
    let texts = c.args.input.now.texts in
    let all : take c.loop-index.index texts ≡ texts = take_all c.loop-index.index texts (omega (arith, c.loop-index-test.false, c.count-index-end.ensures.count)) in
    λ batch some. rw (← all) (c.loop-index.invariant.left batch some)

pub returns-clause-given_back : goal.returns-clause-given_back
returns-clause-given_back c =
    given_all c.args.input.now c.loop-index.index c.loop-index.tallies.items c.loop-index.input c.loop-index.invariant.given
    (omega (arith, c.loop-index-test.false, c.count-index-end.ensures.count))
