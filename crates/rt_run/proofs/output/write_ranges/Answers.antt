use Rattle.std.proofs.Common.{refl}
use Rattle.rt_print.specs.DifferenceText.{difference_as, differences_as}
use Rattle.rt_print.proofs.Promised.{stops_all}
use Rattle.rt_run.proofs.output.write_ranges.Goals as goal

pub returns-in_err-write_difference : goal.returns-in_err-write_difference
returns-in_err-write_difference g c =
    stops_all (λ n. difference_as c.args.options.now) (λ n. differences_as c.args.options.now) (λ n. refl)
    (λ n x xs. refl) c.args.list.now c.loop-difference.difference-index c.difference-item.result c.loop-difference-test.true c.difference-item.is _ _ _
    c.loop-difference.invariant _ c.from_residual.ensures.0 c.in_err-write_difference.ensures.err
