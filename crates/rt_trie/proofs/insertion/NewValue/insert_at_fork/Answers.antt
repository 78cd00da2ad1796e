use Rattle.std.proofs.Common.{refl, sym}
use Rattle.std.specs.Box.{with_value}
use Rattle.rt_trie.proofs.Insertions.{at_fork_insert, refused}
use Rattle.rt_trie.proofs.LinkOrder.{fork_prefix, fork_absent}
use Rattle.rt_trie.proofs.insertion.NewValue.insert_at_fork.Goals as goal

pub returns : goal.returns
returns g c =
    let n = c.args.self.now.nodes in
    let m = c.into_inner-left.result in
    let old = c.args.link.now in
    let p = c.args.p in
    let is = sym c.in-Fork.ensures.value in
    rw c.fill.ensures (at_fork_insert c.in-Fork.fork m old n p c.args.self.now.value c.take.new.self c.take.result
    is c.into_inner-left.ensures c.requires.lawful
    (fork_prefix c.in-Fork.fork m old is c.into_inner-left.ensures p c.requires.fork) c.take.ensures.value c.take.ensures.after
    (with_value c.in-Some.full (record { prefix = p; value = c.take.result; left = m.left; right = m.right })) refl refl refl refl)

pub returns-in_default : goal.returns-in_default
returns-in_default g c =
    refused c.args.link.now c.args.self.now.nodes c.args.p c.args.self.now.value (fork_absent c.args.link.now c.args.p c.requires.lawful c.requires.fork)
