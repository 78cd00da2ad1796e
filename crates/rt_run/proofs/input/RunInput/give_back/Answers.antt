use Rattle.std.proofs.Common.{ap}
use Rattle.std.proofs.lemmas.List.{map-set}
use Rattle.rt_run.specs.RunText.{InputContents}
use Rattle.rt_run.proofs.input.RunInput.give_back.Goals as goal

pub returns : goal.returns
returns c =
    let texts = map-set (λ text. text.items) c.self.inside.texts.items c.args.index c.new.result in
    cc (texts, c.new.ensures.items, ap (λ (asked : InputContents). asked.texts) c.self.view_is, ap (λ (asked : InputContents). asked.limit) c.self.view_is)
