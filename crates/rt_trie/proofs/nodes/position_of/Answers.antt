use Rattle.std.proofs.Common.{◌≡◌, ◌<◌, ◌≤◌, true, sym, ◌∙◌, inl, inr, arith}
use Rattle.rt_trie.proofs.Blocks.{longer_of, range_of_covers, outside_of_covers, not_covered, lower_half, upper_half, ends_before}
use Rattle.rt_trie.proofs.PrefixOrder.{same_tells}
use Rattle.std.proofs.lemmas.Bool.{cases_lt, false≢true}
use Rattle.rt_cidr.specs.declared.prefixes.Prefix.{Prefix}
use Rattle.rt_cidr.proofs.Promised.{prefix_by_parts}
use Rattle.rt_cidr.specs.Prefix.{covers}
use Rattle.rt_trie.specs.Halves.{middle, past}
use Rattle.rt_trie.specs.inside.Lawful.{IsKeyOf}
use Rattle.rt_trie.proofs.nodes.position_of.Goals as goal
use Rattle.rt_trie.proofs.nodes.position_of.Goals.{Then-offset-lt-END, else-len-via-then-len+else-offset-lt-END}
use Rattle.rt_trie.proofs.nodes.position_of.Goals.{else-len-via-else-len, else-len-2-via-then-len-2+else-covers}
use Rattle.rt_trie.proofs.nodes.position_of.Goals.{else-len-2-via-else-len-2}

-- a prefix whose base the key covers begins in the key's block
begins_inside : (c : Then-offset-lt-END) (q : Prefix) → IsKeyOf c.args.len c.args.base q
    → (covers q (record { 0 = c.base.result }) ≡ true) × (q.base ≤ c.args.p.now.base) × (c.args.p.now.base < past q) × (c.args.p.now.len ≤ 32)
begins_inside c q k =
    let covered = (c.offset-offset.ensures.covered q k).1 c.if-offset-lt-END.true in
    let r = range_of_covers q (record { 0 = c.base.result }) covered in
    (covered, omega arith, omega arith, c.args.p.now.is_prefix.short)

pub returns-then-offset-lt-HALF : goal.returns-then-offset-lt-HALF
returns-then-offset-lt-HALF c = λ q k.
    let p = c.args.p.now in
    let r = begins_inside (goal.at.returns-then-offset-lt-HALF c).Then-offset-lt-END q k in
    let lt : q.len < 32 = omega (arith, k.len_is) in
    let low : p.base < middle q = elim (cases_lt p.base (middle q)) [
      | inl l ↦ l
      | inr ge ↦ absurd (omega (arith, (c.offset-offset.ensures.half q k r.0 lt).1 (omega arith)))
    ] in
    record { long = omega (arith, k.len_is); from = omega arith; to = lower_half q p (omega (arith, k.len_is)) low }

pub returns-else-offset-lt-HALF : goal.returns-else-offset-lt-HALF
returns-else-offset-lt-HALF c = λ q k.
    let p = c.args.p.now in
    let r = begins_inside (goal.at.returns-else-offset-lt-HALF c).Then-offset-lt-END q k in
    let m = (c.offset-offset.ensures.half q k r.0 (omega (arith, k.len_is))).0 c.if-offset-lt-HALF.false in
    record { long = omega (arith, k.len_is); from = omega arith; to = upper_half q p (omega (arith, k.len_is)) (omega arith) }

pub returns-then-is_key_of : goal.returns-then-is_key_of
returns-then-is_key_of c = λ q k.
    elim (same_tells q c.args.p.now) [
      | inl e ↦ prefix_by_parts c.args.p.now q (sym e.1) (sym e.2)
      | inr n ↦ absurd (false≢true (sym n.0 ∙ sym (c.if-is_key_of.ensures.key q k)))
    ]

pub returns-then-covers : goal.returns-then-covers
returns-then-covers c = λ q k.
    let p = c.args.p.now in
    let r = range_of_covers p (record { 0 = c.args.base }) (sym c.if-covers.ensures) in
    elim (same_tells q p) [
      | inl e ↦ absurd (false≢true (c.if-is_key_of.ensures.key q k ∙ e.0))
      | inr n ↦
          let longer : p.len < q.len = longer_of p q (omega (arith, k.len_is), omega (arith, k.base_is), omega (arith, k.base_is)) n.1 in
          record { long = omega arith; from = omega (arith, k.base_is); to = upper_half p q longer (omega (arith, k.base_is)) }
    ]

pub returns-else-len-2 : goal.returns-else-len-2
returns-else-len-2 c = λ q k.
    let p = c.args.p.now in
    elim c.else-len.branch [
      | else-len-via-then-len+else-offset-lt-END w ↦
          elim (outside_of_covers q (record { 0 = c.base.result })
          (not_covered q (record { 0 = c.base.result }) _ (c.offset-offset.ensures.covered q k) w.if-offset-lt-END.false)) [
            | inl lt ↦ inr (ends_before q p (omega (arith, k.len_is)) (omega arith))
            | inr ge ↦ inl (omega arith)
          ]
      | else-len-via-else-len w ↦ elim c.else-len-2.branch [
        | else-len-2-via-then-len-2+else-covers x ↦
            elim (outside_of_covers p (record { 0 = c.args.base }) (sym x.if-covers.ensures)) [
              | inl lt ↦ inl (ends_before p q (omega (arith, k.len_is)) (omega (arith, k.base_is)))
              | inr ge ↦ inr (omega (arith, k.base_is))
            ]
        | else-len-2-via-else-len-2 x ↦ absurd (omega arith)
      ]
    ]
