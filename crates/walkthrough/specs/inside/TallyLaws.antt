-- A place's part is unchanged while others change theirs.
use Rattle.std.proofs.Common.{◌≢◌, ℕ, sym, ◌∙◌}
use Rattle.walkthrough.specs.declared.lock.Tally.{Tally}
use Rattle.walkthrough.specs.Tally.{KeepsPart, KeepsOthers}

-- another place's change keeps this one's part
pub keeps_after : (place other : ℕ) (a b c : Tally) → other ≢ place → KeepsPart place a b → KeepsOthers other b c → KeepsPart place a c
keeps_after place other a b c apart since done = done place (λ e. apart (sym e)) ∙ since
