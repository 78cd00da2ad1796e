use Rattle.std.proofs.Common.{◌≡◌, ℕ, ◌+◌, refl, sym, ap, ◌∙◌, inl, inr}
use Rattle.std.specs.Box.{with_value}
use Rattle.rt_trie.specs.declared.nodes.Link.{Link}
use Rattle.rt_trie.specs.declared.nodes.Position.TheVariants.{Left, Right}
use Rattle.rt_trie.specs.Map.{get}
use Rattle.rt_trie.specs.inside.Links.{pairs, count}
use Rattle.rt_trie.proofs.Removals.{IsHalfway, taken_left_of_fork, taken_right_of_fork, taken_left_of_full, taken_right_of_full, halfway_full_here}
use Rattle.rt_trie.proofs.Removals.{erased_of, erased_same, erased_leaf, fork_none, full_none}
use Rattle.rt_trie.proofs.LinkOrder.{short_fork, short_full, key_of_fork, key_of_full, of_full, get_own}
use Rattle.rt_trie.proofs.removal.+remove.Given.{Over}
use Rattle.rt_trie.proofs.removal.+remove.Goals as goal
use Rattle.rt_trie.proofs.removal.+remove.Goals.{Joined-link, in-Fork+in-Left, in-Fork+in-Right}
use Rattle.rt_trie.proofs.removal.+remove.Goals.{in-Full+in-Here-position_of, in-Full+in-Left-position_of, in-Full+in-Right-position_of}

pub is_leaf_of-requires : goal.is_leaf_of-requires
is_leaf_of-requires g t c = rw c.in-Leaf.is (c.in-Leaf.field-2.value.prefix, refl)

pub remove_leaf-requires-clause-leaf : goal.remove_leaf-requires-clause-leaf
remove_leaf-requires-clause-leaf g t c = (c.args.p, c.is_leaf_of.ensures.here c.if-is_leaf_of.true)

pub returns-then-is_leaf_of-clause-erased : goal.returns-then-is_leaf_of-clause-erased
returns-then-is_leaf_of-clause-erased g t c =
    erased_leaf c.args.link.now _ c.args.p (c.is_leaf_of.ensures.here c.if-is_leaf_of.true) c.remove_leaf.ensures.empty

pub returns-else-is_leaf_of-clause-erased : goal.returns-else-is_leaf_of-clause-erased
returns-else-is_leaf_of-clause-erased g t c =
    erased_same c.args.link.now _ c.args.p c.requires.lawful (c.is_leaf_of.ensures.other c.if-is_leaf_of.false) refl

pub returns-in-Here : goal.returns-in-Here
returns-in-Here g t c =
    let old = c.args.link.now in
    let p = c.args.p in
    let not_left : c.position_of.result ≡ Left → ⊥ = λ e. elim c.in-Here.is [ inl h ↦ cc | inr h ↦ elim h [ inl k ↦ cc | inr k ↦ cc ] ] in
    let not_right : c.position_of.result ≡ Right → ⊥ = λ e. elim c.in-Here.is [ inl h ↦ cc | inr h ↦ elim h [ inl k ↦ cc | inr k ↦ cc ] ] in
    let q = c.in-Fork.fork.value.prefix in
    let position = c.position_of.ensures q (key_of_fork c.in-Fork.fork c.in-Fork.fork.value old c.in-Fork.is refl c.requires.lawful.0) in
    let none = fork_none c.in-Fork.fork c.in-Fork.fork.value old p c.position_of.result c.in-Fork.is refl c.requires.lawful position not_left not_right in
    record {
      erased = erased_same old _ p c.requires.lawful none c.in-Fork.is;
      value = sym none;
      counted = ap (λ (x : Link _ _). c.args.nodes.now + count x) c.in-Fork.is;
    }

pub returns-in-Above-clause-value : goal.returns-in-Above-clause-value
returns-in-Above-clause-value g t c =
    let old = c.args.link.now in
    let p = c.args.p in
    let key = key_of_full c.in-Full.full c.in-Full.full.value old c.in-Full.is refl c.requires.lawful.0 in
    sym (full_none c.in-Full.full c.in-Full.full.value old p _ c.in-Full.is refl c.requires.lawful
    (c.position_of-in-Full.ensures c.in-Full.full.value.prefix key) c.in-Above.is)

pub returns-in-Above-clause-erased : goal.returns-in-Above-clause-erased
returns-in-Above-clause-erased g t c =
    let old = c.args.link.now in
    let p = c.args.p in
    let key = key_of_full c.in-Full.full c.in-Full.full.value old c.in-Full.is refl c.requires.lawful.0 in
    erased_same old _ p c.requires.lawful
    (full_none c.in-Full.full c.in-Full.full.value old p _ c.in-Full.is refl c.requires.lawful
    (c.position_of-in-Full.ensures c.in-Full.full.value.prefix key) c.in-Above.is) c.in-Full.is

-- the link before a node that isn't needed is removed, and the old value at p
halfway : (g : Over) (t : ℕ) (c : Joined-link g t) → IsHalfway c.args.link.now c.match-link.link c.args.p
    × (c.match-link.gone ≡ get (pairs c.args.link.now) c.args.p)
halfway g t c =
    let old = c.args.link.now in
    let p = c.args.p in
    let h = c.requires.lawful.0 in
    elim c.match-link.branch [
      | in-Fork+in-Left w ↦
          rw (w.link-is, w.gone-is) (taken_left_of_fork w.in-Fork.is w.deref_mut.ensures.value h w.in-Left.ensures
          w.remove.ensures.erased w.remove.ensures.value)
      | in-Fork+in-Right w ↦
          rw (w.link-is, w.gone-is) (taken_right_of_fork w.in-Fork.is w.deref_mut-in-Right.ensures.value h w.in-Right.ensures
          w.remove-in-Right.ensures.erased w.remove-in-Right.ensures.value)
      | in-Full+in-Left-position_of w ↦
          rw (w.link-is, w.gone-is) (taken_left_of_full w.in-Full.is w.deref_mut-in-Left-position_of.ensures.value h w.in-Left-position_of.ensures
          w.remove-in-Left-position_of.ensures.erased w.remove-in-Left-position_of.ensures.value)
      | in-Full+in-Right-position_of w ↦
          rw (w.link-is, w.gone-is) (taken_right_of_full w.in-Full.is w.deref_mut-in-Right-position_of.ensures.value h w.in-Right-position_of.ensures
          w.remove-in-Right-position_of.ensures.erased w.remove-in-Right-position_of.ensures.value)
      | in-Full+in-Here-position_of w ↦
          let m = w.deref_mut-in-Here-position_of.result.now in
          let same = w.deref_mut-in-Here-position_of.ensures.value in
          let position = w.in-Here-position_of.ensures m.prefix (key_of_full w.in-Full.full m old w.in-Full.is same h) in (
            rw w.link-is (halfway_full_here w.in-Full.full m old p w.in-Full.is same c.requires.lawful position
                (with_value w.in-Full.full (record { prefix = m.prefix; value = w.take.new.self; left = m.left; right = m.right }))
                refl w.take.ensures.after refl refl),
            w.gone-is ∙ w.take.ensures.value
                ∙ sym (get_own old m.prefix _ m.left m.right (of_full w.in-Full.full m old w.in-Full.is same h) p position),
          )
    ]

pub splice-requires-clause-lawful : goal.splice-requires-clause-lawful
splice-requires-clause-lawful g t c = (halfway g t (goal.at.splice-requires-clause-lawful g t c).Joined-link).0.below

pub returns-clause-erased : goal.returns-clause-erased
returns-clause-erased g t c =
    erased_of c.args.link.now c.match-link.link c.splice.new.link c.args.p
    (halfway g t (goal.at.returns-clause-erased g t c).Joined-link).0 c.splice.ensures.spliced

pub returns-clause-value : goal.returns-clause-value
returns-clause-value g t c = (halfway g t (goal.at.returns-clause-value g t c).Joined-link).1

pub position_of-requires : goal.position_of-requires
position_of-requires g t c = short_fork c.in-Fork.fork c.args.link.now c.in-Fork.is c.requires.lawful.0

pub position_of-requires-in-Full : goal.position_of-requires-in-Full
position_of-requires-in-Full g t c = short_full c.in-Full.full c.args.link.now c.in-Full.is c.requires.lawful.0
