use Rattle.std.proofs.Common.{◌+◌, ◌-◌, ℕ, Some, None, sym, ap, ◌∙◌}
use Rattle.std.specs.Option.{option_copied}
use Rattle.rt_print.proofs.ChangeMaps.{counts_one_more}
use Rattle.rt_print.proofs.change_counts.count_one.Goals.{in-Some, in-None}
use Rattle.rt_print.proofs.change_counts.count_one.Goals as goal

pub returns : goal.returns
returns c =
    let d = c.args.difference.now in
    let es = c.args.counts.now.entries in
    elim c.match-get.branch [
      | in-Some w ↦
          counts_one_more es c.insert.new.self.entries d _ _ (Some w.in-Some.count.now) c.requires.keyed c.in_ok-insert.ensures.was_ordered (c.hop_position.ensures, c.hop_position-2.ensures)
          c.hop_of-old.ensures c.hop_of-new.ensures (sym c.get.ensures.value ∙ ap option_copied w.in-Some.is) (ap (λ (p : ℕ × ℕ). p.0 + 1) w.ranges-is)
          (ap (λ (p : ℕ × ℕ). p.1 + (d.last.0 + 1 - d.first.0)) w.ranges-is) (rw (c.from.ensures, c.from-2.ensures) at c.in_ok-insert.ensures.entries)
      | in-None w ↦
          counts_one_more es c.insert.new.self.entries d _ _ None c.requires.keyed c.in_ok-insert.ensures.was_ordered (c.hop_position.ensures, c.hop_position-2.ensures)
          c.hop_of-old.ensures c.hop_of-new.ensures (sym c.get.ensures.value ∙ ap option_copied w.in-None.is) (ap (λ (p : ℕ × ℕ). p.0 + 1) w.ranges-is)
          (ap (λ (p : ℕ × ℕ). p.1 + (d.last.0 + 1 - d.first.0)) w.ranges-is) (rw (c.from.ensures, c.from-2.ensures) at c.in_ok-insert.ensures.entries)
    ]
