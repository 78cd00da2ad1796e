use Rattle.std.proofs.Common.{sym, ◌∙◌, arith}
use Rattle.std.proofs.lemmas.Bool.{false≢true}
use Rattle.rt_trie.proofs.Removals.{right_moves_up, left_moves_up}
use Rattle.rt_trie.proofs.removal.move_up.Goals.{then-is_empty, else-is_empty}
use Rattle.rt_trie.proofs.removal.move_up.Goals as goal

pub returns-clause-spliced : goal.returns-clause-spliced
returns-clause-spliced g c = elim c.if-is_empty.branch [
  | then-is_empty w ↦ rw w.rest-is (right_moves_up c.replace.ensures.value c.into_sides-left.ensures (c.is_empty.ensures.0 w.if-is_empty.true)).0
  | else-is_empty w ↦ rw w.rest-is (left_moves_up c.replace.ensures.value c.into_sides-left.ensures
      (λ vacant. false≢true (sym w.if-is_empty.false ∙ c.is_empty.ensures.1 vacant))).0
]

pub returns-clause-counted : goal.returns-clause-counted
returns-clause-counted g c = elim c.if-is_empty.branch [
  | then-is_empty w ↦
      let fewer = (right_moves_up c.replace.ensures.value c.into_sides-left.ensures (c.is_empty.ensures.0 w.if-is_empty.true)).1 in
      rw w.rest-is (omega (arith, fewer, c.requires.counted))
  | else-is_empty w ↦
      let fewer = (left_moves_up c.replace.ensures.value c.into_sides-left.ensures
      (λ vacant. false≢true (sym w.if-is_empty.false ∙ c.is_empty.ensures.1 vacant))).1 in
      rw w.rest-is (omega (arith, fewer, c.requires.counted))
]
