use Rattle.std.proofs.Common.{◌≡◌, List, ℕ, [], length, replicate, ap, subst, ◌∙◌, arith}
use Rattle.rt_run.specs.RunText.{InputContents}
use Rattle.rt_run.specs.inside.Runs.{AreExchanged}
use Rattle.rt_run.proofs.TakenTexts.{left_after, taken_part, first_parts_more}
use Rattle.rt_run.proofs.parts.take_parts.Goals as goal

pub loop-share-preserved : goal.loop-share-preserved
loop-share-preserved c =
    let all = c.args.input.now in
    let dealt = c.args.dealt.now in
    let share = c.loop-share.share in
    let texts = c.loop-share.input.texts in
    let so_far = c.loop-share.invariant in
    let empty = c.in_ok-part.ensures {u = tt} in
    let has_none : c.in_ok-part.part.texts ≡ replicate (length texts) [] = ap (λ (i : InputContents). i.texts) empty in
    let exchanged : AreExchanged dealt share texts (replicate (length texts) []) c.exchange.new.self.texts c.exchange.new.other.texts =
    subst (λ (other : List (List ℕ)). AreExchanged dealt share texts other c.exchange.new.self.texts c.exchange.new.other.texts) has_none c.exchange.ensures.texts in
    let limited : c.exchange.new.other.limit ≡ all.limit = c.exchange.ensures.limits.1 ∙ (ap (λ (i : InputContents). i.limit) empty ∙ so_far.limited) in
    let part = taken_part all dealt share texts c.exchange.new.self.texts c.exchange.new.other so_far.left exchanged limited in
    record {
      left = left_after dealt share all.texts texts _ c.exchange.new.self.texts _ so_far.left exchanged;
      parts = first_parts_more all dealt c.loop-share.parts.items c.push_reserved.new.self.items c.exchange.new.other share
          (omega (arith, so_far.counted, c.loop-share.parts.ok.0)) so_far.parts part c.push_reserved.ensures.items;
      counted = omega (arith, so_far.counted, c.push_reserved.ensures.len);
      room = omega (arith, so_far.room, c.push_reserved.ensures.capacity);
      limited = c.exchange.ensures.limits.0 ∙ so_far.limited;
    }
