use Rattle.std.proofs.Common.{◌≡◌, Some, None, cond, sym, ap, ◌∙◌}
use Rattle.rt_trie.specs.Map.{get, pair_copied}
use Rattle.rt_trie.specs.inside.Links.{pairs}
use Rattle.rt_trie.proofs.LinkOrder.{pairs_ordered}
use Rattle.rt_trie.proofs.LongestMatches.{value_at, get_of_found}
use Rattle.rt_trie.proofs.search.get.Given.{Over}
use Rattle.rt_trie.proofs.search.get.Goals.{After-longest_to}
use Rattle.rt_trie.proofs.search.get.Goals as goal
use Rattle.rt_trie.proofs.search.get.Goals.{in_default-via-in-Some+else-eq, in_default-via-in_default}

-- the value at the prefix is the value of the pair found, if its prefix is the same
found : (g : Over) (c : After-longest_to g) → get (pairs c.args.root.now) c.args.p ≡ value_at c.args.p (pair_copied c.longest_to.result)
found g c =
    get_of_found (pairs c.args.root.now) c.args.p c.len.result c.base.result _ (pairs_ordered c.args.root.now c.requires.0)
    c.len.ensures c.base.ensures c.longest_to.ensures

pub returns-in-Some : goal.returns-in-Some
returns-in-Some g c =
    let e = rw c.in-Some.is at (found g (goal.at.returns-in-Some g c).After-longest_to) in
    sym (e ∙ ap (λ same. cond same (Some c.in-Some.value.now) None) (sym c.if-eq.ensures))

pub returns-in_default : goal.returns-in_default
returns-in_default g c =
    let f = found g (goal.at.returns-in_default g c).After-longest_to in
    elim c.in_default.branch [
      | in_default-via-in-Some+else-eq w ↦
          sym ((rw w.in-Some.is at f) ∙ ap (λ same. cond same (Some w.in-Some.value.now) None) (sym w.if-eq.ensures))
      | in_default-via-in_default w ↦ sym (rw w.in_default.is at f)
    ]
