use Rattle.std.proofs.Common.{◌≡◌, ◌+◌, length, codes, decimal, ap, arith, rules}
use Rattle.rt_rib.specs.declared.limits.TheConstants.{MAX_FEEDS}
use Rattle.rt_print.specs.declared.counts.TheConstants.{MAX_BITS}
use Rattle.rt_print.specs.Counts.{count_as, counts_as}
use Rattle.rt_print.specs.Styles.{label_of}
use Rattle.rt_print.proofs.Counting.{each_same}
use Rattle.rt_print.proofs.Writing.{stops_within, writes_after}
use Rattle.rt_print.proofs.counts.write_counts.Goals as goal

pub returns-in_err-put_numbers : goal.returns-in_err-put_numbers
unfolding counts_as
returns-in_err-put_numbers g c =
    let style = c.args.style.now in
    let counts = c.counts_of-prefixes in
    let size : length counts.result.feeds ≡ MAX_FEEDS + 1 = search rules in
    let feeds = each_same _ _ 0 (MAX_FEEDS + 1) (λ k below. ap (count_as style.syntax (codes "feed") (label_of style.labels k)) (counts.ensures.feeds k (omega (arith, below)))) in
    rw (← feeds)
    (writes_after _ _ _ _ _ _ (rw (c.syntax-syntax.ensures, counts.ensures.prefixes) at c.in_ok-put_totals.ensures.ok)
    (stops_within _ _ _ _ _ c.from_residual-in_err-put_numbers.ensures.0 (rw (c.syntax-syntax.ensures, c.labels.ensures, size) at c.in_err-put_numbers.ensures.err)))

pub returns : goal.returns
unfolding counts_as
returns g c =
    let style = c.args.style.now in
    let counts = c.counts_of-prefixes in
    let size : length counts.result.feeds ≡ MAX_FEEDS + 1 = search rules in
    let size-2 : length counts.result.lengths ≡ MAX_BITS + 1 = search rules in
    let feeds = each_same _ _ 0 (MAX_FEEDS + 1) (λ k below. ap (count_as style.syntax (codes "feed") (label_of style.labels k)) (counts.ensures.feeds k (omega (arith, below)))) in
    let lengths = each_same _ _ 0 (MAX_BITS + 1) (λ k below. ap (count_as style.syntax (codes "length") (decimal k)) (counts.ensures.lengths k (omega (arith, below)))) in
    rw (← feeds, ← lengths)
    (writes_after _ _ _ _ _ _ (rw (c.syntax-syntax.ensures, counts.ensures.prefixes) at c.in_ok-put_totals.ensures.ok)
    (writes_after _ _ _ _ _ _ (rw (c.syntax-syntax.ensures, c.labels.ensures, size) at c.in_ok-put_numbers.ensures.ok)
    (rw (c.syntax-syntax.ensures, size-2) at c.put_numbers-2.ensures)))
