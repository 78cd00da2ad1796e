use Rattle.std.proofs.Common.{refl, ap, ◌∙◌, ◌<◌, ◌≤◌, arith}
use Rattle.std.specs.Box.{with_value}
use Rattle.rt_trie.specs.declared.nodes.Link.{Link, Empty}
use Rattle.rt_trie.specs.Halves.{middle}
use Rattle.rt_trie.proofs.Insertions.{above_insert, get_above, refused}
use Rattle.rt_trie.proofs.insertion.NewValue.insert_above.Goals as goal

pub returns : goal.returns
returns g c =
    let r = c.requires in
    let q = r.seen.node in
    let s = c.on_side-left.result in
    let e = c.replace.ensures.value in
    rw c.fill.ensures (above_insert c.args.link.now c.args.self.now.nodes _ q c.args.p c.args.self.now.value c.take.new.self c.take.result
    r.lawful r.seen.root_is r.seen.stands c.take.ensures.value c.take.ensures.after refl s
    (λ (h : q.base < middle c.args.p). c.on_side-left.ensures.left (omega (arith, r.seen.base_is, h)) ∙ ap (λ (x : Link _ _). (x, Empty)) e)
    (λ (h : middle c.args.p ≤ q.base). c.on_side-left.ensures.right (omega (arith, r.seen.base_is, h)) ∙ ap (λ (x : Link _ _). (Empty, x)) e)
    (with_value c.in-Some.full (record { prefix = c.args.p; value = c.take.result; left = s.0; right = s.1 })) refl refl refl refl)

pub returns-in_default : goal.returns-in_default
returns-in_default g c =
    let r = c.requires in
    refused c.args.link.now c.args.self.now.nodes c.args.p c.args.self.now.value
    (get_above c.args.link.now r.seen.node c.args.p r.lawful r.seen.root_is r.seen.stands)
