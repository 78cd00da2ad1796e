use Rattle.std.proofs.Common.{refl, flat_map}
use Rattle.std.proofs.lemmas.List.{get_or_default}
use Rattle.rt_print.specs.Routes.{escaped}
use Rattle.rt_print.proofs.Writing.{stops_all}
use Rattle.rt_print.proofs.labels.EscapedText.put_to.Goals as goal

pub returns-in_err-put_escaped : goal.returns-in_err-put_escaped
returns-in_err-put_escaped g c =
    stops_all (λ n. escaped) (λ n. flat_map escaped) (λ n. refl) (λ n x xs. refl) c.args.self.now.0.now c.loop-byte.byte-index _ c.loop-byte-test.true
    (get_or_default _ _ _ _ c.loop-byte-test.true) _ _ _ c.loop-byte.invariant _ c.from_residual.ensures.0 c.in_err-put_escaped.ensures.err
