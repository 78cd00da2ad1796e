use Rattle.std.proofs.Common.{◌≡◌, ℕ, length, refl, arith}
use Rattle.rt_run.specs.ChosenFeeds.{is_left_out}
use Rattle.rt_app.proofs.EmptyTexts.{empty_more}
use Rattle.rt_app.proofs.program.Program.texts_of.Goals as goal

pub returns-clause-left_out : goal.returns-clause-left_out
returns-clause-left_out g c = record { as_many = refl; others = λ k stays. refl; empty = c.loop-index.invariant.empty }

pub loop-index-preserved : goal.loop-index-preserved
loop-index-preserved g c =
    let so_far = c.loop-index.invariant in
    let pushed = c.in_ok-push.ensures {u = tt} in
    record {
      counted = omega (arith, so_far.counted, pushed.len);
      empty = empty_more (is_left_out c.args.only.now c.args.without.now) c.loop-index.texts.items c.push.new.self.items c.in_ok-text.text c.loop-index.index
          (omega (arith, so_far.counted, c.loop-index.texts.ok.0)) so_far.empty (c.in_ok-text.ensures {u = tt}) pushed.items;
    }
