use Rattle.std.proofs.Common.{inl, subst, sym}
use Rattle.rt_rib.specs.declared.commands.Reply.{Reply}
use Rattle.yarib_c.specs.Kinds.{SaysChange}
use Rattle.yarib_c.proofs.AnsweredCommands.{purge_says}
use Rattle.yarib_c.proofs.plain.PlainTable.apply.Goals as goal

pub returns-in-Purge-clause-followed : goal.returns-in-Purge-clause-followed
returns-in-Purge-clause-followed c = λ _.
    inl (subst (λ (r : Reply). SaysChange r) (sym c.purge.ensures.replied) (purge_says _ _ _))
