use Rattle.std.proofs.Common.{refl, sym}
use Rattle.rt_trie.specs.declared.nodes.Position.TheVariants.{Above, Apart}
use Rattle.rt_trie.proofs.Insertions.{insert_left_of_fork, insert_right_of_fork, insert_left_of_full, insert_right_of_full, insert_here}
use Rattle.rt_trie.proofs.LinkOrder.{key_of_fork, key_of_full, seen_from, short_fork, short_full}
use Rattle.rt_trie.proofs.insertion.+insert.Goals as goal

pub returns-in-Left : goal.returns-in-Left
returns-in-Left g t c =
    insert_left_of_fork c.in-Fork.is c.deref_mut.ensures.value c.requires.lawful c.args.given.now c.insert.new.given _ _ c.in-Left.ensures c.insert.ensures

pub returns-in-Right : goal.returns-in-Right
returns-in-Right g t c =
    insert_right_of_fork c.in-Fork.is c.deref_mut-in-Right.ensures.value c.requires.lawful
    c.args.given.now c.insert-in-Right.new.given _ _ c.in-Right.ensures c.insert-in-Right.ensures

pub returns-in-Left-position_of : goal.returns-in-Left-position_of
returns-in-Left-position_of g t c =
    insert_left_of_full c.in-Full.is c.deref_mut-in-Left-position_of.ensures.value c.requires.lawful
    c.args.given.now c.insert-in-Left-position_of.new.given _ _ c.in-Left-position_of.ensures c.insert-in-Left-position_of.ensures

pub returns-in-Right-position_of : goal.returns-in-Right-position_of
returns-in-Right-position_of g t c =
    insert_right_of_full c.in-Full.is c.deref_mut-in-Right-position_of.ensures.value c.requires.lawful
    c.args.given.now c.insert-in-Right-position_of.new.given _ _ c.in-Right-position_of.ensures c.insert-in-Right-position_of.ensures

pub returns-in-Here : goal.returns-in-Here
returns-in-Here g t c = rw c.in-Fork.is c.insert_at_fork.ensures

pub returns-in-Here-position_of : goal.returns-in-Here-position_of
returns-in-Here-position_of g t c =
    let d = c.deref_mut-in-Here-position_of in
    let m = d.result.now in
    let p = c.args.p in
    let position = c.in-Here-position_of.ensures m.prefix (key_of_full c.in-Full.full m c.args.link.now c.in-Full.is d.ensures.value c.requires.lawful.0) in
    insert_here c.in-Full.full m c.args.link.now c.args.given.now.nodes p c.args.given.now.value c.swap.new.x c.swap.new.y c.in-Full.is d.ensures.value
    c.requires.lawful position c.swap.ensures.x_after c.swap.ensures.y_after

pub insert_at_fork-requires-clause-fork : goal.insert_at_fork-requires-clause-fork
insert_at_fork-requires-clause-fork g t c =
    let f = c.in-Fork.fork in
    sym (c.in-Here.ensures f.value.prefix (key_of_fork f f.value c.args.link.now c.in-Fork.is refl c.requires.lawful.0))

pub insert_above-requires-clause-seen : goal.insert_above-requires-clause-seen
insert_above-requires-clause-seen g t c =
    seen_from _ _ c.args.p Above refl (key_of_fork c.in-Fork.fork c.in-Fork.fork.value c.args.link.now c.in-Fork.is refl c.requires.lawful.0)
    c.in-Above.ensures

pub insert_beside-requires-clause-seen : goal.insert_beside-requires-clause-seen
insert_beside-requires-clause-seen g t c =
    seen_from _ _ c.args.p Apart refl (key_of_fork c.in-Fork.fork c.in-Fork.fork.value c.args.link.now c.in-Fork.is refl c.requires.lawful.0)
    c.in-Apart.ensures

pub insert_above-requires-in-Above-position_of-clause-seen : goal.insert_above-requires-in-Above-position_of-clause-seen
insert_above-requires-in-Above-position_of-clause-seen g t c =
    seen_from _ _ c.args.p Above refl (key_of_full c.in-Full.full c.in-Full.full.value c.args.link.now c.in-Full.is refl c.requires.lawful.0)
    c.in-Above-position_of.ensures

pub insert_beside-requires-in-Apart-position_of-clause-seen : goal.insert_beside-requires-in-Apart-position_of-clause-seen
insert_beside-requires-in-Apart-position_of-clause-seen g t c =
    seen_from _ _ c.args.p Apart refl (key_of_full c.in-Full.full c.in-Full.full.value c.args.link.now c.in-Full.is refl c.requires.lawful.0)
    c.in-Apart-position_of.ensures

pub position_of-requires : goal.position_of-requires
position_of-requires g t c = short_fork c.in-Fork.fork c.args.link.now c.in-Fork.is c.requires.lawful.0

pub position_of-requires-in-Full : goal.position_of-requires-in-Full
position_of-requires-in-Full g t c = short_full c.in-Full.full c.args.link.now c.in-Full.is c.requires.lawful.0

pub returns-in-Above : goal.returns-in-Above
returns-in-Above g t c = rw c.in-Fork.is c.insert_above.ensures

pub returns-in-Apart : goal.returns-in-Apart
returns-in-Apart g t c = rw c.in-Fork.is c.insert_beside.ensures

pub returns-in-Above-position_of : goal.returns-in-Above-position_of
returns-in-Above-position_of g t c = rw c.in-Full.is c.insert_above-in-Above-position_of.ensures

pub returns-in-Apart-position_of : goal.returns-in-Apart-position_of
returns-in-Apart-position_of g t c = rw c.in-Full.is c.insert_beside-in-Apart-position_of.ensures

pub insert_at_leaf-requires-clause-leaf : goal.insert_at_leaf-requires-clause-leaf
insert_at_leaf-requires-clause-leaf g t c = rw c.in-Leaf.is (c.in-Leaf.field-2.value.prefix, refl)
