use Rattle.std.proofs.Common.{◌≡◌, ◌<◌, length, All, vec_len}
use Rattle.rt_run.proofs.dealing.deal_by_address.Given as goal

-- each text so far has a share, and there is a length for each share
abbrev pub invariant-loop-index : goal.invariant-loop-index
invariant-loop-index l = record {
  dealt : All (λ share. share < l.fn.shares) l.dealt.items;
  counted : vec_len l.dealt ≡ length l.input.texts;
  lengths : vec_len l.lengths ≡ l.fn.shares;
}
