use Rattle.std.proofs.Common.{◌<◌, ℕ, [], List, map, length, get_or, sym, ap, ◌∙◌, arith}
use Rattle.std.specs.declared.vec.Vec.{Vec}
use Rattle.std.specs.declared.alloc.Global.{Global}
use Rattle.std.proofs.lemmas.List.{length-map, get_or_read}
use Rattle.rt_run.specs.declared.tallies.RejectedInput.{RejectedInput}
use Rattle.rt_run.proofs.Dealt.{told_by, tallies_at, told_more}
use Rattle.rt_run.proofs.parallel.tallies_of.Goals as goal

pub index-requires : goal.index-requires
index-requires c =
    let one = c.index-told-share_with.result in
    let within : c.loop-index.index < c.args.count = omega (arith, c.loop-index-test.true) in
    let dealt = c.requires.dealt_to_some c.loop-index.index within in
    let here : c.share_with.result < length c.args.told.now =
    omega (arith, dealt, length-map c.args.told.now (λ (tallies : Vec RejectedInput Global). tallies.items), c.share_with.ensures) in
    let there = c.requires.as_many c.share_with.result (omega (arith, dealt, c.share_with.ensures)) in
    omega (arith, within, there, ap length (tallies_at c.args.told.now c.share_with.result one here c.index-told-share_with.is), one.ok.0)

pub loop-index-preserved : goal.loop-index-preserved
loop-index-preserved c =
    let told = c.args.told.now in
    let dealt = c.args.dealt.now in
    let i = c.loop-index.index in
    let one = c.index-told-share_with.result in
    let so_far = c.loop-index.invariant in
    let within : i < c.args.count = omega (arith, c.loop-index-test.true) in
    let some = c.requires.dealt_to_some i within in
    let here : c.share_with.result < length told = omega (arith, some, length-map told (λ (tallies : Vec RejectedInput Global). tallies.items), c.share_with.ensures) in
    let at = tallies_at told c.share_with.result one here c.index-told-share_with.is in
    let count = c.requires.as_many c.share_with.result (omega (arith, some, c.share_with.ensures)) in
    record {
      each = told_more (told_by told dealt) c.loop-index.all.items c.push_reserved.new.self.items i c.index.result.now (omega (arith, so_far.counted, c.loop-index.all.ok.0))
          so_far.each c.push_reserved.ensures.items
          (λ none. get_or_read one.items i c.index.result.now (omega (arith, within, count, ap length at)) c.index.ensures none
          ∙ (ap (λ (l : List RejectedInput). get_or l i none) (sym at)
          ∙ ap (λ (s : ℕ). get_or (get_or (map (λ (tallies : Vec RejectedInput Global). tallies.items) told) s []) i none) c.share_with.ensures));
      counted = omega (arith, so_far.counted, c.push_reserved.ensures.len);
      room = omega (arith, so_far.room, c.push_reserved.ensures.capacity);
    }
