use Rattle.std.proofs.Common.{◌≡◌, ◌<◌, ◌≤◌, ℕ, [], length, get_or}
use Rattle.rt_run.specs.RunText.{InputContents}
use Rattle.rt_run.specs.Shares.{share_with}
use Rattle.rt_run.proofs.parts.put_back.Given as goal

-- the texts of the earlier parts were put back, and the other parts are unchanged
abbrev pub invariant-loop-share : goal.invariant-loop-share
invariant-loop-share l = record {
  back : (k : ℕ) (none : InputContents) → k < length l.initial.input.texts → share_with l.dealt k < l.share
      → get_or l.input.texts k [] ≡ get_or (get_or l.initial.parts (share_with l.dealt k) none).texts k [];
  others : (share : ℕ) (none : InputContents) → l.share ≤ share → get_or l.parts share none ≡ get_or l.initial.parts share none;
  parts_count : length l.parts ≡ length l.initial.parts;
  as_many : length l.input.texts ≡ length l.initial.input.texts;
  limited : l.input.limit ≡ l.initial.input.limit;
}
