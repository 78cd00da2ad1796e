use Rattle.std.proofs.Common.{sym, subst}
use Rattle.rt_trie.specs.Map.{Pairs, IsOrdered}
use Rattle.rt_trie.proofs.LinkOrder.{pairs_ordered}
use Rattle.rt_trie.proofs.FromPrefixes.{ordered_from}
use Rattle.rt_trie.proofs.tries.Trie.walk_from.Goals as goal

pub returns-clause-ordered : goal.returns-clause-ordered
returns-clause-ordered g c =
    subst (λ (m : Pairs _). IsOrdered m) (sym c.from_prefix.ensures)
    (ordered_from c.args.p _ (pairs_ordered c.self.inside.root c.self.invariant.lawful.0))
