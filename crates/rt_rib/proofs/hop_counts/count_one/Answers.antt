use Rattle.std.proofs.Common.{◌+◌, Some, None, sym, ap, ◌∙◌}
use Rattle.std.specs.Option.{option_copied}
use Rattle.rt_rib.proofs.HopMaps.{counts_one_more}
use Rattle.rt_rib.proofs.hop_counts.count_one.Goals.{in-Some, in-None}
use Rattle.rt_rib.proofs.hop_counts.count_one.Goals as goal

pub returns : goal.returns
returns g c =
    let es = c.args.counts.now.entries in
    let was = c.in_ok-insert.ensures.was_ordered in
    elim c.match-get.branch [
      | in-Some w ↦
          counts_one_more es c.insert.new.self.entries _ _ (Some w.in-Some.count.now) c.requires.keyed was c.hop_position-position.ensures
          (sym c.get.ensures.value ∙ ap option_copied w.in-Some.is) (ap (λ n. n + 1) w.routes-is) c.in_ok-insert.ensures.entries
      | in-None w ↦
          counts_one_more es c.insert.new.self.entries _ _ None c.requires.keyed was c.hop_position-position.ensures
          (sym c.get.ensures.value ∙ ap option_copied w.in-None.is) (ap (λ n. n + 1) w.routes-is) c.in_ok-insert.ensures.entries
    ]
