use Rattle.std.proofs.Common.{◌≡◌, ◌+◌, ℕ, true, [], map, get_or, vec_len}
use Rattle.rt_run.specs.ChosenFeeds.{is_left_out}
use Rattle.rt_app.proofs.program.Program.texts_of.Given as goal

-- each file so far has a text, and the text of a feed that is left out is empty
abbrev pub invariant-loop-index : goal.invariant-loop-index
invariant-loop-index g l = record {
  counted : vec_len l.texts ≡ l.index;
  empty : (k : ℕ) → is_left_out l.only l.without (k + 1) ≡ true → get_or (map (λ text. text.items) l.texts.items) k [] ≡ [];
}
