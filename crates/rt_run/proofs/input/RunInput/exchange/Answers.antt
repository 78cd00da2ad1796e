use Rattle.std.proofs.Common.{◌≡◌, length, ap, arith}
use Rattle.std.proofs.lemmas.List.{length-map}
use Rattle.rt_run.specs.RunText.{InputContents}
use Rattle.rt_run.proofs.TakenTexts.{exchanged_map}
use Rattle.rt_run.proofs.input.RunInput.exchange.Goals as goal

pub returns-clause-texts : goal.returns-clause-texts
returns-clause-texts c =
    let one = c.self.inside.texts.items in
    let other = c.other.inside.texts.items in
    let one_is = ap (λ (i : InputContents). i.texts) c.self.view_is in
    let other_is = ap (λ (i : InputContents). i.texts) c.other.view_is in
    let same : length one ≡ length other =
    omega (arith, c.requires, ap length one_is, ap length other_is, length-map one (λ text. text.items), length-map other (λ text. text.items)) in
    rw (← one_is, ← other_is) (exchanged_map (λ text. text.items) c.args.dealt.now c.args.share one other c.exchange.new.one.items c.exchange.new.other.items same c.exchange.ensures)
