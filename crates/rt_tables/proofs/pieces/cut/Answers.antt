use Rattle.std.proofs.Common.{◌≡◌, ◌<◌, ◌/◌, true, false, not, length, subst, arith, rules, of_calls}
use Rattle.std.proofs.lemmas.List.Sorted.{IsPartitionPoint-from_clause}
use Rattle.std.specs.List.Sorted.{IsPartitionPoint}
use Rattle.rt_rib.specs.Table.{precedes}
use Rattle.rt_rib.proofs.Order.{precedes-trans}
use Rattle.rt_tables.proofs.Cutting.{parted_before, parted_after, cut_at_first, cut_at_second}
use Rattle.rt_tables.proofs.pieces.cut.Goals as goal

pub returns-then-first-second-clause-parts : goal.returns-then-first-second-clause-parts
returns-then-first-second-clause-parts c =
    let first = c.args.first.now in
    let second = c.args.second.now in
    let middle = length second / 2 in
    let there = c.index-second-middle.result in
    let i = c.partition_point.result in
    let within : middle < length second = omega (arith, c.if-first-second.true) in
    let point =
    IsPartitionPoint-from_clause (λ r. not (precedes there r)) first i c.partition_point.ensures.partitioned
    (parted_after precedes precedes-trans first there c.requires.first) (λ a r f k. search (rules, of_calls)) in
    cut_at_second precedes precedes-trans first second i middle there c.requires.second within c.partition_point.ensures.bound
    (subst (λ p. IsPartitionPoint (λ x. not (precedes p x) ≡ true) (λ x. not (precedes p x) ≡ false) first i) c.index-second-middle.is point)

pub returns-else-first-second-clause-parts : goal.returns-else-first-second-clause-parts
returns-else-first-second-clause-parts c =
    let first = c.args.first.now in
    let second = c.args.second.now in
    let middle = length first / 2 in
    let there = c.index-first-middle.result in
    let j = c.partition_point-else-first-second.result in
    let within : middle < length first = omega (arith, c.if-first-second.false, c.requires.some) in
    let point =
    IsPartitionPoint-from_clause (λ r. precedes r there) second j c.partition_point-else-first-second.ensures.partitioned
    (parted_before precedes precedes-trans second there c.requires.second) (λ a r f k. search (rules, of_calls)) in
    cut_at_first precedes precedes-trans first second middle j there c.requires.first within c.partition_point-else-first-second.ensures.bound
    (subst (λ p. IsPartitionPoint (λ x. precedes x p ≡ true) (λ x. precedes x p ≡ false) second j) c.index-first-middle.is point)
