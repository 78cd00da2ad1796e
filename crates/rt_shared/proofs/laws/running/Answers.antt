use Rattle.std.proofs.Common.{◌≡◌, List, [], ◌∷◌, Some, sym, ◌∙◌}
use Rattle.std.specs.Prelude as std
use mathlib.Core.Option.{Option, none, some}
use Rattle.rt_shared.specs.declared.lent.Lent.{Lent}
use Rattle.rt_shared.proofs.RunJournals.{finds_best}
use Rattle.rt_shared.proofs.laws.running.Goals as goal

-- a slot that is out has no book
no_book : (lent : Lent) → ◌≡◌ {A = List (Option (std.Option Lent))} (none ∷ []) (some (Some lent) ∷ []) → ⊥
no_book lent e = cc

pub returns : goal.returns
returns g c = λ s holds.
    let lock = c.rule.ensures s holds in
    record {
      exclusion = lock.exclusion;
      at_rest = λ lent at.
          record {
            nobody = λ seat place value inside. no_book lent (sym (lock.value.0 seat place value inside) ∙ at);
            holds = lent.holds;
            lawful = lent.lawful;
            best = finds_best c.look_up_finds_best.ensures c.table_by_entry.ensures
                lent.book.limit lent.book.journal lent.lawful;
            since = λ seat place seen known. ((lock.fresh seat place seen lent known).0 at).since;
          };
      at_home = lock.value.1;
    }
