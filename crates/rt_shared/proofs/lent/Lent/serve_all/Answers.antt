use Rattle.std.proofs.Common.{ℕ, ◌∷◌, ◌++◌, [], take, arith, sym, subst, ap, ◌∙◌, add-one, List}
use Rattle.std.proofs.Math.Seq.{take-suc}
use Rattle.rt_rib.specs.declared.commands.Cmd.{Cmd}
use Rattle.rt_shared.specs.inside.ServedBatch.{AreServed}
use Rattle.rt_shared.specs.declared.outcome.Outcome.{Outcome}
use Rattle.rt_shared.proofs.EntriesInPieces.{served_more}
use Rattle.rt_shared.proofs.lent.Lent.serve_all.Goals as goal

pub loop-index-preserved : goal.loop-index-preserved
loop-index-preserved c =
    let i = c.loop-index.invariant in let s = c.serve-outcome.ensures in let p = c.push_reserved.ensures in
    let n : ℕ = c.loop-index.index in let cmds : List Cmd = c.args.cmds.now in let cmd : Cmd = c.index-cmds-index.result in
    record {
      same = record { limit = s.same.limit ∙ i.same.limit; feeds = s.same.feeds ∙ i.same.feeds };
      served = subst (λ (xs : List Cmd). AreServed c.args.feed xs c.args.self.now.book.journal c.args.out.now.items
          c.serve-outcome.new.self.book.journal c.push_reserved.new.self.items)
          (sym (rw add-one (take-suc cmds n cmd c.loop-index-test.true ∙ ap (λ (x : Cmd). take n cmds ++ x ∷ []) (sym c.index-cmds-index.is))))
          (subst (λ (os : List Outcome). AreServed c.args.feed
          (take n cmds ++ cmd ∷ []) c.args.self.now.book.journal c.args.out.now.items c.serve-outcome.new.self.book.journal os) (sym p.items)
          (served_more c.args.feed (take n cmds) cmd c.args.self.now.book.journal c.args.out.now.items c.loop-index.self.book.journal
          c.serve-outcome.new.self.book.journal c.loop-index.out.items c.serve-outcome.result i.served s.entry));
      room = omega (arith, p.len, p.capacity, i.room);
    }
