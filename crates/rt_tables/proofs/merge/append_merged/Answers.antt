use Rattle.std.proofs.Common.{◌≡◌, ◌-◌, ◌⊎◌, inl, inr, [], ◌++◌, length, take, drop, ap, ◌∙◌, sym, append_assoc, arith}
use Rattle.std.proofs.lemmas.List.{drop_all, take_all, length-drop}
use Rattle.rt_tables.specs.inside.Merging.{goes_before}
use Rattle.rt_tables.proofs.Merging.{merged_ends}
use Rattle.rt_tables.proofs.merge.append_merged.Goals as goal
use Rattle.rt_tables.proofs.merge.append_merged.Goals.{then-loop-i-test+else-j-second, else-loop-i-test}

pub returns : goal.returns
returns g c =
    let all = c.args.first.now in
    let others = c.args.second.now in
    let i = c.loop-i.i in
    let j = c.loop-i.j in
    let first = drop i all in
    let second = drop j others in
    let ends : (first ≡ []) ⊎ (second ≡ []) = elim c.loop-i-test.branch [
      | then-loop-i-test+else-j-second w ↦ inr (drop_all j others w.if-j-second.false)
      | else-loop-i-test w ↦ inl (drop_all i all w.loop-i-test.false)
    ] in
    let rest = merged_ends (goes_before c.args.order) first second ends in
    let routes = c.loop-i.routes.items in
    let one : take (length all - i) first ≡ first = take_all (length all - i) first (omega (arith, length-drop i all)) in
    let other : take (length others - j) second ≡ second = take_all (length others - j) second (omega (arith, length-drop j others)) in
    c.in_ok-extend_from_slice-2.ensures.items ∙ ap (λ l. l ++ take (length others - j) second) c.in_ok-extend_from_slice.ensures.items
    ∙ append_assoc routes (take (length all - i) first) (take (length others - j) second)
    ∙ ap (λ l. routes ++ (l ++ take (length others - j) second)) one ∙ ap (λ l. routes ++ (first ++ l)) other
    ∙ ap (λ l. routes ++ l) (sym rest) ∙ c.loop-i.invariant.rest
