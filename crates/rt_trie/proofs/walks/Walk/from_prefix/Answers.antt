use Rattle.std.proofs.Common.{◌≡◌, suc, ◌+◌, ◌≤◌, ◌++◌, sym, ap, ◌∙◌, append_assoc, arith}
use Rattle.rt_trie.specs.FromPrefix.{from_prefix}
use Rattle.rt_trie.specs.inside.Links.{pairs}
use Rattle.rt_trie.specs.inside.WalkStack.{stack_pairs}
use Rattle.rt_trie.proofs.FromPrefixes.{filled_room, from_less, pushed}
use Rattle.rt_trie.proofs.walks.Walk.from_prefix.Goals as goal

pub returns-in-Whole : goal.returns-in-Whole
returns-in-Whole g c =
    let i = c.loop-stack.invariant in
    let k = c.loop-stack.len in
    let xs = c.loop-stack.stack in
    let link = c.loop-stack.link.now in
    let whole = c.in-Whole.ensures in
    let room = filled_room link k i.link whole.1 in
    let put = c.put.ensures in
    let s = pushed xs c.put.new.stack k (k + 1) link i.stack (omega arith) (omega (arith, room)) i.link put.here put.below put.size in
    s.1 ∙ ap (λ m. m ++ stack_pairs xs k) (sym whole.0) ∙ sym i.same

pub loop-stack-preserved-in-Lower : goal.loop-stack-preserved-in-Lower
loop-stack-preserved-in-Lower g c =
    let i = c.loop-stack.invariant in
    let k = c.loop-stack.len in
    let xs = c.loop-stack.stack in
    let left = c.in-Lower.left.now in
    let right = c.in-Lower.right.now in
    let step = c.in-Lower.ensures in
    let behind = step.2.above k i.link in
    let put = c.put-in-Lower.ensures in
    let s = pushed xs c.put-in-Lower.new.stack k (k + 1) right i.stack (omega arith) (omega (arith, behind.0)) (from_less right k behind.1)
    put.here put.below put.size in
    let below = from_prefix (pairs left) c.args.p in
    record {
      stack = s.0;
      link = (step.1.above k i.link).1;
      same = i.same ∙ ap (λ m. m ++ stack_pairs xs k) step.0 ∙ append_assoc below (pairs right) (stack_pairs xs k) ∙ ap (λ m. below ++ m) (sym s.1);
    }
