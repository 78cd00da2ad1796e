use Rattle.std.proofs.Common.{◌≡◌, ◌∙◌, ◌∷◌, [], All, refl, subst, arith}
use Rattle.rt_shared.specs.SharedTable.{HeldPass, ArePassesOf}
use Rattle.rt_shared.proofs.Promised.{both_popped}
use Rattle.walkthrough.proofs.shared.table_of_two.Goals as goal

pub returns : goal.returns
returns c =
    let made = c.in_ok-table in let e = made.ensures in let first = c.in-Some-pop.first in let second = c.in-Some.second in
    let both = both_popped made.passes.items _ c.pop-2.new.self.items _ _ first second (e.passes.count ∙ e.table.1)
    c.pop.ensures.items c.in-Some.is c.pop-2.ensures.items c.in-Some-pop.is in
    let are : ArePassesOf made.table (first ∷ second ∷ []) = subst (ArePassesOf made.table) both e.passes in
    let seen : All (λ (p : HeldPass). p.seen ≡ []) (first ∷ second ∷ []) = subst (All (λ (p : HeldPass). p.seen ≡ [])) both e.seen in (
      e.table.0,
      record {
        two = e.table.1;
        tables = (are.tables 0 first (omega arith), are.tables 1 second (omega arith));
        feeds = (are.feeds 0 first refl, are.feeds 1 second refl);
        unseen = (seen 0 first (omega arith), seen 1 second (omega arith));
      },
    )
