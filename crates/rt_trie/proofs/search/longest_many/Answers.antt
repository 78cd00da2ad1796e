use Rattle.std.proofs.Common.{◌≡◌, ◌+◌, ◌-◌, inl, inr, sym, subst, ◌∙◌, arith}
use Rattle.std.proofs.lemmas.Bool.{cases_lt}
use Rattle.rt_trie.specs.Map.{IsLongest, address_at, answer_at}
use Rattle.rt_trie.specs.inside.Links.{pairs}
use Rattle.rt_trie.proofs.search.longest_many.Goals as goal

pub loop-start-preserved : goal.loop-start-preserved
loop-start-preserved g c =
    let i = c.loop-start.invariant in
    let start = c.loop-start.start in
    let m = pairs c.args.root.now in
    let us = c.args.addresses.now in
    let cs = c.longest_in_lanes.new.answers in
    record {
      each = λ k h. elim (cases_lt k start) [
        | inl lt ↦ subst (λ o. IsLongest m (address_at us k) o) (sym (c.longest_in_lanes.ensures.rest k lt)) (i.each k lt)
        | inr ge ↦
            let e : start + (k - start) ≡ k = omega arith in
            subst (λ n. IsLongest m (address_at us n) (answer_at cs n)) e (c.longest_in_lanes.ensures.each (k - start) (omega arith))
      ];
      within = omega arith;
      long = c.longest_in_lanes.auto.answers ∙ i.long;
    }
