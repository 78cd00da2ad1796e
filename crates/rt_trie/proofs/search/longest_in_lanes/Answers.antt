use Rattle.std.proofs.Common.{◌<◌, ◌+◌, Option, None, refl, sym, subst, ap, ◌∙◌, inl, inr, arith, length-set, get_or, get_or-set_other}
use Rattle.std.specs.Prelude.{IfSome}
use Rattle.std.specs.Borrow.{Bor}
use Rattle.rt_trie.specs.declared.nodes.Link.{Link}
use Rattle.rt_trie.specs.inside.Links.{or_else, last_cover, pairs_below, pairs, count}
use Rattle.rt_trie.specs.declared.search.TheConstants.{LANES}
use Rattle.rt_trie.specs.Map.{pair_copied, address_at}
use Rattle.rt_trie.specs.inside.Lawful.{root, IsLawfulBelow}
use Rattle.rt_trie.proofs.LinkOrder.{longest_of}
use Rattle.rt_trie.proofs.NodePairs.{no_root_longer, found_of_all}
use Rattle.rt_trie.proofs.Lanes.{set_out, link_read, as_read, in_lanes, in_answers, gone_on, gone_less, ended_here}
use Rattle.rt_trie.proofs.search.longest_in_lanes.Goals as goal
use Rattle.rt_trie.proofs.search.longest_in_lanes.Goals.{in-Some, in-None}

pub loop-going-init : goal.loop-going-init
loop-going-init g c =
    let i = c.loop-k.invariant in
    record {
      way = set_out c.args.root c.args.addresses.now c.args.start c.args.size LANES c.loop-k.order c.loop-k.answers c.requires.lawful.0 c.requires.lanes
          (omega (arith, c.requires.lanes)) i.order_long (omega (arith, c.requires.within, i.long))
          (λ j h. i.listed j (omega arith)) (λ j h. i.none j (omega arith));
      turn = λ h. h;
      rest = i.rest;
      long = i.long;
    }

pub step-requires : goal.step-requires
step-requires g c =
    let i = c.loop-going.invariant in
    let first = i.turn c.loop-going-test.true in
    let l = in_lanes _ _ _ _ _ _ _ c.loop-going.k _ _ i.way first refl in
    subst IsLawfulBelow (link_read c.loop-going.lanes _ _ l) (i.way.lawful _ (i.way.listed c.loop-going.k first))

pub loop-going-smaller : goal.loop-going-smaller
loop-going-smaller g c =
    let i = c.loop-going.invariant in
    let first = i.turn c.loop-going-test.true in
    elim c.match-step.branch [
      | in-Some w ↦
          let down = subst (λ o. IfSome o (λ n. count n.now < count
          (get_or c.loop-going.lanes (get_or c.loop-going.order c.loop-going.k 0) c.index-lanes-lane.result).now))
          w.in-Some.is c.step.ensures.down in
          rw (w.lanes-is, w.going-is) (gone_less _ _ _ _ _ _ _ c.loop-going.k _ _ i.way first refl w.in-Some.below c.index-lanes-lane.result down)
      | in-None w ↦ rw (w.lanes-is, w.going-is) (omega arith)
    ]

pub loop-going-preserved : goal.loop-going-preserved
loop-going-preserved g c =
    let i = c.loop-going.invariant in
    let first = i.turn c.loop-going-test.true in
    let lanes = c.loop-going.lanes in
    let lane = get_or c.loop-going.order c.loop-going.k 0 in
    let start = c.args.start in
    let us = c.args.addresses.now in
    let answers = c.loop-going.answers in
    let best = c.step.new.best in
    let at = address_at us (start + lane) in
    let from = (get_or lanes lane c.index-lanes-lane.result).now in
    let before = pair_copied (get_or answers (start + lane) c.index-answers-start.result) in
    let sought = c.step.ensures.sought 32 (no_root_longer (root from)) in
    let same = found_of_all (pairs_below c.step.result) (pairs from) at (pair_copied best) before sought
    ∙ as_read lanes us answers start lane c.index-lanes-lane.result c.index-answers-start.result
    (in_lanes _ _ _ _ _ _ _ c.loop-going.k _ _ i.way first refl) (in_answers _ _ _ _ _ _ _ c.loop-going.k _ _ i.way first refl) in
    record {
      way = elim c.match-step.branch [
        | in-Some w ↦ rw (w.lanes-is, w.order-is, w.going-is) (gone_on _ _ _ _ _ _ _ c.loop-going.k _ _ i.way first refl best w.in-Some.below
            (subst (λ o. IfSome o (λ n. IsLawfulBelow n.now)) w.in-Some.is c.step.ensures.lawful)
            (sym (ap (λ (o : Option (Bor (Link _ _))). or_else (last_cover (pairs_below o) at) (pair_copied best)) w.in-Some.is) ∙ same))
        | in-None w ↦ rw (w.lanes-is, w.order-is, w.going-is) (ended_here _ _ _ _ _ _ _ c.loop-going.k _ _ i.way first refl best _ (omega arith)
            (sym (ap (λ (o : Option (Bor (Link _ _))). or_else (last_cover (pairs_below o) at) (pair_copied best)) w.in-None.is) ∙ same))
      ];
      turn = c.turn-k.ensures;
      rest = λ k h. ap pair_copied (get_or-set_other answers (start + lane) k best None (λ e. omega arith)) ∙ i.rest k h;
      long = length-set answers (start + lane) best ∙ i.long;
    }

pub returns-clause-each : goal.returns-clause-each
returns-clause-each g c = λ j h.
    longest_of c.args.root.now _ _ c.requires.lawful.0 (sym (elim (c.loop-going.invariant.way.ended j h) [
      | inl w ↦ absurd (omega (arith, w.1))
      | inr d ↦ d
    ]))
