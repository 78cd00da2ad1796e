use Rattle.std.proofs.Common.{◌∷◌, [], ◌++◌, ap, subst, ◌∙◌, List}
use Rattle.std.specs.Arc.{arc_value}
use Rattle.rt_rib.specs.declared.routes.Route.{Route}
use Rattle.fib_readers.specs.Readers.{BeginWith}
use Rattle.fib_readers.proofs.Publishing.{shown}
use Rattle.fib_readers.proofs.readers.FibWriter.publish.Goals as goal

pub publish_as-writer-requires : goal.publish_as-writer-requires
publish_as-writer-requires g c next is_next views is there =
    let after = shown _ _ _ views is there (arc_value next.fib) in
    (is.0 ++ arc_value next.fib ∷ [], after.0, (after.1, after.2))

pub returns-in-Ok-done-clause-seen : goal.returns-in-Ok-done-clause-seen
returns-in-Ok-done-clause-seen g c =
    let then = rw c.in-Ok-done.is at c.publish_as-writer.ensures.rule in
    let published = c.publish_as-writer.result.0.desk.place.me.0.client in
    let before = ap (λ desk. desk.place.me.0.client) c.append.ensures.desk ∙ ap (λ found. found.published) c.self.view_is in
    (subst (λ (seen : List (List Route)). BeginWith published seen) before then.0, then.1)
