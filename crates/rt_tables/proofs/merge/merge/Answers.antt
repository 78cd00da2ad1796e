use Rattle.std.proofs.Common.{◌≡◌, [], ◌++◌, inr, sym, ap, ◌∙◌, append-nil, eqb-true, arith}
use Rattle.std.proofs.lemmas.List.{nil_from_length}
use Rattle.rt_tables.specs.inside.Merging.{goes_before}
use Rattle.rt_tables.proofs.Merging.{merged_ends}
use Rattle.rt_tables.proofs.merge.merge.Goals as goal

pub returns-then-is_empty : goal.returns-then-is_empty
returns-then-is_empty g c =
    let first = c.args.first.items in
    let second = c.args.second.items in
    let none : second ≡ [] =
    nil_from_length second (omega (arith, eqb-true c.args.second.len 0 (sym c.if-is_empty.ensures), c.args.second.ok.0)) in
    sym (merged_ends (goes_before c.args.order) first second (inr none) ∙ ap (λ l. first ++ l) none ∙ append-nil first)
