use Rattle.std.proofs.Common.{◌≡◌, ◌∙◌, ap, ◌∷◌, [], List, ℕ, subst}
use Rattle.rt_rib.specs.Sequential.{table_of_journal}
use Rattle.rt_shared.specs.SharedTable.{HeldPass, Settles}
use Rattle.walkthrough.specs.Shared.{AreRoutesOfBoth}
use Rattle.walkthrough.specs.declared.shared.TheConstants.{LIMIT}
use Rattle.std.proofs.lemmas.Result.{IfOk-weaker}
use Rattle.walkthrough.proofs.Batches.{left_by_both}
use Rattle.walkthrough.proofs.shared.routes_of_both.Goals as goal

pub returns : goal.returns
returns g c =
    let made = c.in_ok-table.ensures in let table = c.in_ok-table.table in let law = c.visits.ensures in
    let one = c.in_ok-table.one in let two = c.in_ok-table.two in let one' = c.in_ok-one.one in let two' = c.in_ok-two.two in
    let book = c.settle.result in let same : book.limit ≡ LIMIT = c.settle.ensures.limit ∙ made.0 in
    let settled : Settles table (one' ∷ two' ∷ []) book.journal =
    subst (λ (ps : List HeldPass). Settles table ps book.journal) c.in_ok-passes.ensures.items c.settle.ensures.settled in
    let left = left_by_both law.first law.call law.away table LIMIT c.args.first.now c.args.second.now one two one' two' book.journal
    made.0 made.1 c.in_ok-one.ensures.feed c.in_ok-two.ensures.feed c.in_ok-one.ensures.visit c.in_ok-two.ensures.visit settled in
    IfOk-weaker c.routes-2.result (λ routes. routes.items ≡ table_of_journal book.limit book.journal)
    (λ routes. AreRoutesOfBoth LIMIT c.args.first.now c.args.second.now routes.items)
    (λ routes is. left routes.items (is ∙ ap (λ (l : ℕ). table_of_journal l book.journal) same))
    c.routes-2.ensures.routes
