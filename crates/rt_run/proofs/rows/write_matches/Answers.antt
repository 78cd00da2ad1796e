use Rattle.std.proofs.Common.{ℕ, List, refl}
use Rattle.rt_print.specs.Styles.{label_of, all_found_as}
use Rattle.std.specs.declared.vec.Vec.{Vec}
use Rattle.std.specs.declared.alloc.Global.{Global}
use Rattle.rt_cidr.specs.declared.address.Addr.{Addr}
use Rattle.rt_rib.specs.declared.routes.Route.{Route}
use Rattle.rt_run.specs.inside.Outputs.{matches_text}
use Rattle.rt_print.proofs.Promised.{stops_all}
use Rattle.rt_run.proofs.rows.write_matches.Goals as goal

pub returns-in_err-write_all_matches : goal.returns-in_err-write_all_matches
returns-in_err-write_all_matches g c =
    let text : (Addr × Vec Route Global) → List ℕ = λ one. all_found_as c.args.style.now.syntax (label_of c.args.style.now.labels) one.0 one.1.items in
    stops_all (λ n. text) (λ n. matches_text c.args.style.now) (λ n. refl)
    (λ n x xs. refl) c.args.all.now c.loop-one.one-index c.one-item.result c.loop-one-test.true c.one-item.is _ _ _
    c.loop-one.invariant _ c.from_residual.ensures.0 (rw (← c.as_slice.ensures.value) c.in_err-write_all_matches.ensures.err)
