use Rattle.std.proofs.Common.{rules, sym, subst}
use Rattle.ya_core.specs.WalkerModel.{MayBeTold}
use Rattle.ya_core.proofs.DueAccess.{store_due}
use Rattle.ya_core.proofs.walker.Walker.done.Goals as goal

pub returns-clause-after : goal.returns-clause-after
returns-clause-after c = search rules

pub returns-clause-onward : goal.returns-clause-onward
returns-clause-onward c = search rules

pub go_on-requires : goal.go_on-requires
go_on-requires c =
    subst (λ d. MayBeTold d 0) (sym (store_due c.args.self.now c.requires.0 c.requires.1 c.requires.2).3) tt
