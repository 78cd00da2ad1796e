use Rattle.std.proofs.Common.{◌≡◌, ◌+◌, ◌-◌, take, drop, ap, sym, subst, ◌∙◌, arith}
use Rattle.std.proofs.lemmas.List.{take_all}
use borrow.Rule.Slice.PartMut.{put_mid}
use Rattle.rt_rib.specs.Chunks.{answered}
use Rattle.rt_rib.proofs.ChunkAnswers.{answered_chunk}
use Rattle.rt_rib.proofs.chunks.look_up_in_chunks.Goals as goal

pub loop-start-preserved : goal.loop-start-preserved
loop-start-preserved g c =
    let answer = g.L.ChunkLookup.answer c.args.lookup.now in
    let addresses = c.args.addresses.now in
    let start = c.loop-start.start in
    let end = start + c.min.result in
    let size = end - start in
    record {
      done =
          ap (put_mid start size c.loop-start.answers) c.look_up_chunk.ensures
          ∙ subst (λ l. put_mid start size l (answered answer (take size (drop start addresses)) (take size (drop start l)))
          ≡ answered answer (take end addresses) c.args.answers.now) (sym c.loop-start.invariant.done)
          (answered_chunk answer start size end addresses c.args.answers.now (omega arith) (omega (arith, c.min.ensures)) c.requires);
      within = omega (arith, c.min.ensures);
    }

pub returns : goal.returns
returns g c =
    let answer = g.L.ChunkLookup.answer c.args.lookup.now in
    c.loop-start.invariant.done
    ∙ ap (λ l. answered answer l c.args.answers.now) (take_all c.loop-start.start c.args.addresses.now c.loop-start-test.false)
