use Rattle.std.proofs.Common.{◌≡◌, ◌≤◌, sym, ◌∙◌, arith}
use Rattle.std.specs.Option.{option_copied}
use Rattle.rt_cidr.specs.declared.address.Addr.{Addr}
use Rattle.rt_trie.specs.inside.Links.{or_else, last_cover, own_pair}
use Rattle.rt_trie.specs.inside.Lawful.{IsKeyOf}
use Rattle.rt_trie.specs.Map.{pair_copied}
use Rattle.rt_trie.proofs.Blocks.{middle_of_key}
use Rattle.rt_trie.proofs.NodePairs.{step_left, step_upper, step_none}
use Rattle.rt_trie.proofs.LinkOrder.{joined}
use Rattle.rt_trie.proofs.places.step_at_branch.Given.{Over}
use Rattle.rt_trie.proofs.places.step_at_branch.Goals.{After-middle}
use Rattle.rt_trie.proofs.places.step_at_branch.Goals as goal

pub returns-then-not-covers : goal.returns-then-not-covers
returns-then-not-covers g c = λ link n.
    let best = pair_copied c.args.place.now.best in
    let least = c.min-last.ensures in
    record {
      lawful = tt;
      down = omega arith;
      onward = omega (arith, c.requires.reached, c.reach.ensures.onward);
      within = omega (arith, least);
      same = λ b from to.
          let alike = c.reach.ensures.alike b from (omega (arith, least)) in
          sym (step_none _ _ _ _ _ (joined _ _ _ _ _ n) b best (alike ∙ sym c.if-not-covers.ensures));
    }

-- the best answer down to the node, for each address up to the prefix's reach
own_found : (g : Over) (c : After-middle g) (b : Addr) → c.args.address.0 ≤ b.0 → b.0 ≤ c.min-last.result
    → or_else (last_cover (own_pair c.args.prefix (option_copied c.args.value)) b) (pair_copied c.args.place.now.best) ≡ pair_copied c.best_from-best.result
own_found g c b from to =
    let alike = c.reach.ensures.alike b from (omega (arith, c.min-last.ensures)) in
    c.best_from-best.ensures b (alike ∙ sym c.if-not-covers.ensures)

pub returns-then-from-middle : goal.returns-then-from-middle
returns-then-from-middle g c = λ link n.
    let least = c.min.ensures in
    record {
      lawful = n.left_lawful.0;
      down = omega (arith, n.count_is);
      onward = omega (arith, c.requires.reached, c.reach.ensures.onward, c.last_before.ensures.onward);
      within = omega (arith, least, c.min-last.ensures);
      same = λ b from to.
          sym (step_left _ _ _ _ _ (joined _ _ _ _ _ n) b (pair_copied c.args.place.now.best) _ (c.last_before.ensures.none b (omega (arith, least)))
          (own_found g (goal.at.returns-then-from-middle g c).After-middle b from (omega (arith, least))));
    }

pub returns-else-from-middle : goal.returns-else-from-middle
returns-else-from-middle g c = λ link n.
    let k : IsKeyOf c.len.result c.base.result c.args.prefix = record { len_is = c.len.ensures; base_is = c.base.ensures } in
    record {
      lawful = n.right_lawful.0;
      down = omega (arith, n.count_is);
      onward = omega (arith, c.requires.reached, c.reach.ensures.onward);
      within = omega (arith, c.min-last.ensures);
      same = λ b from to.
          sym (step_upper _ _ _ _ _ (joined _ _ _ _ _ n) b (pair_copied c.args.place.now.best) _ (omega (arith, c.middle.ensures, middle_of_key k))
          (own_found g (goal.at.returns-else-from-middle g c).After-middle b from to));
    }
