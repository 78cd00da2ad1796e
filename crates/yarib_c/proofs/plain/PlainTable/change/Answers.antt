use Rattle.std.proofs.Common.{◌≡◌, List, subst, sym, ap, ◌∙◌}
use Rattle.std.proofs.lemmas.Bool.{false≢true}
use Rattle.rt_rib.specs.declared.routes.Route.{Route}
use Rattle.rt_rib.specs.declared.commands.Reply.{Reply}
use Rattle.rt_rib.specs.Book.{TableState, table_state}
use Rattle.yarib_c.specs.Kinds.{SaysChange}
use Rattle.yarib_c.specs.inside.AttachedFib.{FibHasRoutes}
use Rattle.yarib_c.proofs.AnsweredCommands.{no_change}
use Rattle.yarib_c.proofs.AttachedFib.{may_follow}
use Rattle.yarib_c.proofs.plain.PlainTable.change.Goals as goal

pub follow-requires : goal.follow-requires
follow-requires c =
    let old = c.self.inside.table in
    let new = c.apply.new.self in
    let keeps = c.commands_preserve_other_routes.ensures (table_state old) (table_state new) c.args.feed c.args.cmd c.in_ok-reply.reply c.in_ok-reply.ensures.ok in
    may_follow c.args.cmd c.self.inside.beside old.routes new.routes c.holds.ensures.once c.self.invariant keeps

pub invariant_of-self-then-not-is_change : goal.invariant_of-self-then-not-is_change
invariant_of-self-then-not-is_change c =
    let old = c.self.inside.table in
    let served = c.in_ok-reply.ensures.ok in
    let same : c.apply.new.self.routes ≡ old.routes =
    ap (λ (s : TableState). s.routes) served.changed
    ∙ no_change old.limit old.routes c.args.feed c.args.cmd (λ says.
    false≢true (sym c.if-not-is_change.true ∙ c.is_change.ensures.1 (subst (λ (r : Reply). SaysChange r) (sym served.replied) says))) in
    subst (λ (routes : List Route). FibHasRoutes c.self.inside.beside routes) (sym same) c.self.invariant
