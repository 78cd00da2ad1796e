-- Outcomes of commands, one command after another.
use Rattle.std.proofs.Common.{ℕ, ◌+◌, ◌<◌, List, [], ◌∷◌, ◌++◌, length, take, set, get_or, refl, subst}
use Rattle.std.proofs.lemmas.List.{take_more, take_more_set}
use Rattle.yarib_c.specs.declared.held.Held.{Held}
use Rattle.yarib_c.specs.declared.commands.YaribCommand.{YaribCommand}
use Rattle.yarib_c.specs.declared.commands.YaribReply.{YaribReply}
use Rattle.yarib_c.specs.Calls.{HasOutcome, HaveOutcomes}

-- one more at the end
outcomes-push : (old before new : Held) (cs : List YaribCommand) (rs : List YaribReply) (c : YaribCommand) (r : YaribReply)
    → HaveOutcomes old before cs rs → HasOutcome before new c r → HaveOutcomes old new (cs ++ c ∷ []) (rs ++ r ∷ [])
outcomes-push old before new [] [] c r same one = (new, subst (λ h. HasOutcome h new c r) same one, refl)
outcomes-push old before new (c0 ∷ cs) (r0 ∷ rs) c r (next, first, rest) one = (next, first, outcomes-push next before new cs rs c r rest one)
outcomes-push old before new [] (r0 ∷ rs) c r wrong one = absurd wrong
outcomes-push old before new (c0 ∷ cs) [] c r wrong one = absurd wrong

-- the next one, whose reply takes its place
pub outcomes_more : (old before new : Held) (cs : List YaribCommand) (rs : List YaribReply) (k : ℕ) (d : YaribCommand) (r : YaribReply)
    → k < length cs → k < length rs → HaveOutcomes old before (take k cs) (take k rs) → HasOutcome before new (get_or cs k d) r
    → HaveOutcomes old new (take (k + 1) cs) (take (k + 1) (set rs k r))
outcomes_more old before new cs rs k d r there room done one =
    rw (take_more cs k d there, take_more_set rs k r room) (outcomes-push old before new (take k cs) (take k rs) (get_or cs k d) r done one)
