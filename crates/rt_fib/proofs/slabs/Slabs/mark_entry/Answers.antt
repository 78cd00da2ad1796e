use Rattle.std.proofs.Common.{◌≡◌, ◌+◌, inl, inr, arith}
use Rattle.std.proofs.lemmas.Bool.{cases_lt}
use Rattle.rt_fib.proofs.Placing.{keeps_same, keeps_twice}
use Rattle.rt_fib.proofs.Leading.{group_on}
use Rattle.rt_fib.proofs.slabs.Slabs.mark_entry.Goals as goal

pub numbers-init : goal.numbers-init
numbers-init g c = record {
  keeps = record { groups = c.mark_used.ensures.keeps; routes = keeps_same _ _; codes = λ coded. coded };
  group = c.mark_used.ensures.marked c.args.epoch.number;
  on = λ i answer below has. absurd (omega (arith, below));
}

pub numbers-preserved : goal.numbers-preserved
numbers-preserved g c =
    let v = c.numbers.invariant in
    let marked = c.mark_used-in-numbers.ensures in
    let epoch = c.args.epoch.number in
    record {
      keeps = record {
        groups = v.keeps.groups;
        routes = keeps_twice _ _ _ _ v.keeps.routes marked.keeps;
        codes = λ coded. rw marked.values (v.keeps.codes coded);
      };
      group = v.group;
      on = λ i answer below has. elim (cases_lt i c.numbers.k) [
        | inl before ↦ marked.keeps.each (epoch + 1) _ answer (omega arith) (v.on i answer before has)
        | inr from ↦
            let last : i ≡ c.numbers.k = omega (arith, below, from) in
            rw last (marked.marked epoch answer (rw last at (v.keeps.routes.each epoch _ answer (omega arith) has)))
      ];
    }

pub returns-clause-leads : goal.returns-clause-leads
returns-clause-leads g c =
    let v = c.numbers.invariant in
    let all : c.numbers.k ≡ 256 = omega (arith, c.numbers.auto.k-end, c.numbers-test.false) in
    group_on _ _ c.args.epoch.number c.args.entry c.get.result.now c.if-entry-lt-GROUP_FLAG.false c.get.ensures v.group
    (λ k answer below has. v.on k answer (omega (arith, all, below)) has)
