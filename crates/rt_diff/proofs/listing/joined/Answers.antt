use Rattle.std.proofs.Common.{◌+◌, ◌*◌, ◌^◌, arith}
use Rattle.rt_diff.proofs.Parts.{parts_joined, none_joined, listed_block, list_of_all}
use Rattle.rt_diff.proofs.listing.joined.Goals as goal

pub loop-block-init : goal.loop-block-init
loop-block-init c = rw c.new-all.ensures.items (none_joined c.args.tables.now)

pub loop-block-preserved : goal.loop-block-preserved
loop-block-preserved c =
    let tables = c.args.tables.now in
    let block = c.loop-block.block in
    let listed = listed_block tables c.args.lists.now block c.index-lists-block.result c.in-Ok.list c.requires.each c.loop-block-test.true c.requires.count
    c.index-lists-block.is c.in-Ok.is in
    parts_joined tables 0 (block * 2 ^ 26) ((block + 1) * 2 ^ 26) c.loop-block.all.items c.in-Ok.list.items _
    (omega arith) (omega arith) c.loop-block.invariant listed (rw c.as_slice.ensures.value at c.in_ok-join.ensures)

pub returns : goal.returns
returns c =
    list_of_all c.args.tables.now (c.loop-block.block * 2 ^ 26) c.loop-block.all.items (omega (arith, c.loop-block-test.false, c.requires.count)) c.loop-block.invariant
