use Rattle.std.proofs.Common.{◌≡◌, ℕ, ◌∷◌, ◌++◌, [], List, take, arith, sym, subst, ap, ◌∙◌, add-one, length, zip}
use Rattle.std.proofs.Math.Seq.{take-suc, take-length}
use Rattle.rt_rib.specs.declared.commands.Cmd.{Cmd}
use Rattle.rt_shared.specs.declared.outcome.Outcome.{Outcome}
use Rattle.rt_shared.specs.JournalVisits.{visit_of}
use Rattle.rt_feed.proofs.Remembered.{HasAnswered, answered_more, gains_visit, refuses_batch}
use Rattle.walkthrough.specs.inside.JournalTold.{told}
use Rattle.walkthrough.proofs.gate.OwnBookGate.apply_batch.Goals as goal

pub returns-in_err-try_reserve-clause-err : goal.returns-in_err-try_reserve-clause-err
returns-in_err-try_reserve-clause-err g c =
    refuses_batch c.from_residual.result (told c.args.self.now.book.journal) c.args.out.now.items c.try_reserve.new.self.items c.try_reserve.ensures.items

pub loop-cmd-preserved : goal.loop-cmd-preserved
loop-cmd-preserved g c =
    let i = c.loop-cmd.invariant in let s = c.serve-outcome.ensures in let p = c.push_reserved.ensures in
    let n : ℕ = c.loop-cmd.cmd-index in let cmds : List Cmd = c.args.cmds.now in let cmd : Cmd = c.cmd-item.result in
    let old = told c.args.self.now.book.journal in let before = c.try_reserve.new.self.items in let next = told c.serve-outcome.new.self.book.journal in
    record {
      answered = subst (λ (xs : List Cmd). HasAnswered xs old before next c.push_reserved.new.self.items)
          (sym (rw add-one (take-suc cmds n cmd c.loop-cmd-test.true ∙ ap (λ (x : Cmd). take n cmds ++ x ∷ []) (sym c.cmd-item.is))))
          (subst (λ (os : List Outcome). HasAnswered (take n cmds ++ cmd ∷ []) old before next os) (sym p.items)
          (answered_more (take n cmds) cmd old before (told c.loop-cmd.self.book.journal) next c.loop-cmd.out.items c.serve-outcome.result i.answered s));
      room = omega (arith, p.len, p.capacity, i.room);
    }

pub returns-clause-ok : goal.returns-clause-ok
returns-clause-ok g c =
    let cmds : List Cmd = c.args.cmds.now in let n : ℕ = c.loop-cmd.cmd-index in let old = told c.args.self.now.book.journal in
    let before = c.try_reserve.new.self.items in let now = told c.loop-cmd.self.book.journal in let after = c.loop-cmd.out.items in
    let all : n ≡ length cmds = omega (arith, c.loop-cmd-test.false, c.loop-cmd.auto.cmd-index-end) in
    let s : HasAnswered cmds old before now after =
    subst (λ (xs : List Cmd). HasAnswered xs old before now after) (ap (λ (k : ℕ). take k cmds) all ∙ take-length cmds) c.loop-cmd.invariant.answered in
    record {
      outcomes = s.outcomes;
      each = s.each;
      appended = s.appended ∙ ap (λ (l : List Outcome). l ++ s.outcomes) c.try_reserve.ensures.items;
      gained = gains_visit old now (visit_of (zip cmds s.outcomes)) s.added;
    }
