use Rattle.std.proofs.Common.{◌≡◌, ◌==◌, ℕ, ◌+◌, ◌-◌, ◌<◌, ◌≤◌, true, false, not, List, length, get_or, drop, ap, rules, arith}
use Rattle.std.specs.List.{after_last}
use Rattle.std.proofs.lemmas.List.{take_rest}
use Rattle.std.proofs.lemmas.List.Sums.{suffix_len_is}
use Rattle.rt_cidr.specs.Text.{slash}
use Rattle.rt_print.specs.Labels.{feed_name}
use Rattle.rt_print.proofs.labels.feed_name.Goals.{in-Some, in-None}
use Rattle.rt_print.proofs.labels.feed_name.Goals as goal

-- the name begins where no slash comes later, right after one
starts : (path : List ℕ) (n : ℕ) → n ≤ length path → ((k : ℕ) → n ≤ k → k < length path → not (get_or path k 0 == slash) ≡ true)
    → (0 < n → not (get_or path (n - 1) 0 == slash) ≡ false) → after_last (λ byte. byte == slash) path ≡ drop n path
starts path n inside later before =
    rw (suffix_len_is (λ byte. not (byte == slash)) path n 0 inside later before) (ap (λ m. drop m path) (omega (arith, inside)))

pub returns : goal.returns
unfolding feed_name
returns c =
    let path = c.args.path.now in
    let named : c.match-rposition.name.now ≡ after_last (λ byte. byte == slash) path = elim c.match-rposition.branch [
      | in-Some w ↦ rw (w.name-is, take_rest, starts path (w.in-Some.slash + 1) (search rules) (search rules) (search rules))
      | in-None w ↦ rw (w.name-is, starts path 0 (omega arith) (search rules) (λ some. absurd (omega (arith, some))))
    ] in
    rw (← named) (search rules)
