use Rattle.std.proofs.Common.{arith}
use Rattle.rt_trie.specs.inside.Lawful.{IsKeyOf}
use Rattle.rt_trie.proofs.Blocks.{middle_of_key}
use Rattle.rt_trie.proofs.covering.half.Goals as goal

pub returns-then-from-middle-clause-upper : goal.returns-then-from-middle-clause-upper
returns-then-from-middle-clause-upper g c = λ h.
    let k : IsKeyOf c.len.result c.base.result c.args.prefix.now = record { len_is = c.len.ensures; base_is = c.base.ensures } in
    absurd (omega (arith, c.from.ensures, c.middle.ensures, middle_of_key k))

pub returns-else-from-middle-clause-lower : goal.returns-else-from-middle-clause-lower
returns-else-from-middle-clause-lower g c = λ h.
    let k : IsKeyOf c.len.result c.base.result c.args.prefix.now = record { len_is = c.len.ensures; base_is = c.base.ensures } in
    absurd (omega (arith, c.from.ensures, c.middle.ensures, middle_of_key k))
