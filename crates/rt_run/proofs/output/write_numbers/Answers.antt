use Rattle.std.proofs.Common.{rules}
use Rattle.rt_run.proofs.Comparing.{changes-some}
use Rattle.rt_run.proofs.Outputs.{has_byte}
use Rattle.rt_run.proofs.output.write_numbers.Goals as goal

pub returns : goal.returns
returns g c = c.write_through.ensures.text _ (has_byte _ (changes-some c.args.options.now c.args.counts.now)) (λ old written new called. search rules)
