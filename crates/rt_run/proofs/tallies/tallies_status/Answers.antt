use Rattle.std.proofs.Common.{◌≡◌, refl, rules}
use borrow.Author.Tests.{tests}
use Rattle.std.specs.List.{list_any}
use Rattle.std.proofs.lemmas.Iterator.{YieldsList-from_slice}
use Rattle.std.proofs.lemmas.Iterator.Search.{any_from_yields_List}
use Rattle.rt_run.specs.TableText.{has_refused, has_rejected}
use Rattle.rt_run.proofs.tallies.tallies_status.Goals as goal

pub returns : goal.returns
returns c =
    let refused : c.any-refused.result ≡ list_any has_refused c.args.tallies.now =
    any_from_yields_List has_refused _ _ _ c.any-refused.ensures.ran (YieldsList-from_slice c.args.tallies.now cc) (λ x b q k. search (rules, tests)) in
    let rejected : c.any-rejected.result ≡ list_any has_rejected c.args.tallies.now =
    any_from_yields_List has_rejected _ _ _ c.any-rejected.ensures.ran (YieldsList-from_slice c.args.tallies.now cc) (λ x b q k. search (rules, tests)) in
    rw (c.status_where.ensures, refused, rejected) refl
