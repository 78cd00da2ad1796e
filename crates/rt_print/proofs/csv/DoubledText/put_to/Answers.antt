use Rattle.std.proofs.Common.{refl, flat_map}
use Rattle.std.proofs.lemmas.List.{get_or_default}
use Rattle.rt_print.specs.Csv.{doubled}
use Rattle.rt_print.proofs.Writing.{stops_all}
use Rattle.rt_print.proofs.csv.DoubledText.put_to.Goals as goal

pub returns-in_err-put_doubled : goal.returns-in_err-put_doubled
returns-in_err-put_doubled g c =
    stops_all (λ n. doubled) (λ n. flat_map doubled) (λ n. refl) (λ n x xs. refl) c.args.self.now.0.now c.loop-byte.byte-index _ c.loop-byte-test.true
    (get_or_default _ _ _ _ c.loop-byte-test.true) _ _ _ c.loop-byte.invariant _ c.from_residual.ensures.0 c.in_err-put_doubled.ensures.err
