use Rattle.std.proofs.Common.{◌≡◌, subst, refl, Option, Some}
use Rattle.ya_core.specs.declared.word.Access.{Access}
use Rattle.ya_core.specs.WalkerModel.{Walk, walk, due_of}
use Rattle.ya_core.specs.inside.WalkerModel.{DueIsWithin}
use Rattle.ya_core.proofs.Counting.{due_within}
use Rattle.ya_core.proofs.walker.Walker.due.Goals as goal

pub returns-clause-within : goal.returns-clause-within
returns-clause-within c =
    let w = c.self.inside in
    let is : due_of w.shape w.place w.process w.begun ≡ Some c.access.result =
    rw (c.access.ensures, c.levels.ensures.value) (c.if-is_at_rest.ensures.goes refl w.shape w.place) in
    let within = due_within (walk w.shape w.place w.process w.begun w.remote) c.self.invariant in
    let due_is : DueIsWithin w.shape (Some c.access.result) =
    subst (λ (d : Option Access). DueIsWithin w.shape d) is within in
    subst (λ (v : Walk). DueIsWithin v.levels (Some c.access.result)) c.self.view_is due_is
