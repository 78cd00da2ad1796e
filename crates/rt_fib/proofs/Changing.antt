-- What entries and groups lead to while they are changed in place.
use Rattle.std.proofs.Common.{◌≡◌, ◌≢◌, ℕ, ◌+◌, ◌*◌, ◌-◌, ◌^◌, ◌<◌, ◌≤◌, List, length, get_or, Option, subst, sym, refl, ◌∙◌, inl, inr, arith}
use Rattle.std.proofs.Math.ListN.{set}
use Rattle.std.proofs.lemmas.Grind.{common_steps}
use Rattle.std.proofs.lemmas.Bool.{cases_lt}
use Rattle.std.proofs.lemmas.List.{length-set}
use Rattle.rt_rib.specs.declared.routes.Route.{Route}
use Rattle.rt_rib.specs.LookUp.{look_up}
use Rattle.rt_fib.specs.declared.slabs.Group.{Group}
use Rattle.rt_fib.specs.declared.slabs.Slabs.{Slabs}
use Rattle.rt_fib.specs.declared.following.Change.{Change}
use Rattle.rt_fib.specs.declared.bounds.Span.{Span}
use Rattle.rt_fib.specs.inside.Slab.{SlabState, Has}
use Rattle.rt_fib.specs.inside.Entries.{at, IsSince, Leads, IsEntry, AreMarked}
use Rattle.rt_fib.specs.inside.Changes.{IsChange, IsNumberAfter, AreNumbersAfter, KeepsOthers, LeadsAfter, AreUntil}
use Rattle.rt_fib.proofs.Placing.{each_set}
use Rattle.rt_fib.proofs.Leading.{group_read, leads_still}

-- what a replaced group of this slab has
replaced : (old new : SlabState Group) (t place : ℕ) (was next : Group) → new.places.values ≡ set old.places.values place next
    → new.places.epochs ≡ old.places.epochs → Has old.places t place was → Has new.places t place next
replaced old new t place was next values epochs has = grind (arith, common_steps)

module _ {A : Type 0} where
  -- an entry that is a number
  pub entry_goes : (slabs : Slabs A) (epoch i entry next : ℕ) (change : Change) → entry < 2 ^ 31
      → IsNumberAfter slabs epoch change entry next → LeadsAfter slabs slabs epoch change i entry next
  entry_goes slabs epoch i entry next change short goes t k answer within before leads =
      record { short = λ _. goes.after t answer before (leads.short short); long = λ long. absurd (omega (arith, goes.short short, long)) }

  -- and the entry that names it
  pub group_goes : (old new : Slabs A) (epoch i entry : ℕ) (change : Change) (group : Group) (numbers : List ℕ)
      → 2 ^ 31 ≤ entry → group ≡ get_or old.groups.places.values (entry - 2 ^ 31) group → AreNumbersAfter old epoch change group.numbers numbers 256
      → new.routes ≡ old.routes → new.groups.places.epochs ≡ old.groups.places.epochs
      → new.groups.places.values ≡ set old.groups.places.values (entry - 2 ^ 31) (record { numbers = numbers; owner = i })
      → LeadsAfter old new epoch change i entry entry
  group_goes old new epoch i entry change group numbers long is are routes epochs values t k answer within before leads =
      let was = group_read old t i entry k answer group (leads.long long) is in
      record {
        short = λ short. absurd (omega (arith, short, long));
        long = λ _. record {
          group = record { numbers = numbers; owner = i };
          named = replaced old.groups new.groups t (entry - 2 ^ 31) group _ values epochs was.0;
          own = refl;
          number = rw routes ((are.each k within).after t answer before was.2);
        };
      }

  -- the entries of others lead where they led
  leads_others : (old new : Slabs A) (i t j entry k : ℕ) (answer : Option Route)
      → KeepsOthers i old new → j ≢ i → Leads old t j entry k answer → Leads new t j entry k answer
  leads_others old new i t j entry k answer keeps other =
      leads_still old new t t j entry k answer (λ n has. rw keeps.routes has) (λ n group own. keeps.groups t n group (λ e. other (sym own ∙ e)))

  -- one more entry is changed
  pub until_more : (entries : List ℕ) (slabs more : Slabs A) (epoch marked entry next place : ℕ) (change : Change) (span : Span) (old new : List Route)
      → IsChange change.len change.answer span old new → span.first ≤ place → place < span.end → KeepsOthers place slabs more → place < length entries
      → entry ≡ get_or entries place 0 → LeadsAfter slabs more epoch change place entry next
      → AreUntil entries slabs epoch marked old new place → AreUntil (set entries place next) more epoch marked old new (place + 1)
  until_more entries slabs more epoch marked entry next place change span old new is from below keeps within e goes are =
      let others : (table : List Route) (t i : ℕ) → i ≢ place → IsEntry table slabs t i (get_or entries i 0) → IsEntry table more t i (get_or entries i 0) =
      λ table t i other entry_is k small. leads_others slabs more place t i (get_or entries i 0) k (look_up (at (i * 256 + k)) table) keeps other (entry_is k small) in
      record {
        size = length-set entries place next ∙ are.size;
        coded = rw (keeps.codes, keeps.routes) are.coded;
        before = λ t. each_set (λ i x. i < place + 1 → i < 2 ^ 24 → IsSince epoch marked i t → IsEntry new more t i x) entries place next within
            (λ _ fits since k small.
            subst (λ (a : Option Route). Leads more t place next k a) (sym (is.within place k from below small))
            (goes t k (look_up (at (place * 256 + k)) old) small since.upto
            (subst (λ (x : ℕ). Leads slabs t place x k (look_up (at (place * 256 + k)) old)) (sym e) (are.behind t place (omega arith) fits since k small))))
            (λ i other earlier here since. others new t i other (are.before t i (omega (arith, earlier, other)) here since));
        behind = λ t. each_set (λ i x. place + 1 ≤ i → i < 2 ^ 24 → IsSince epoch marked i t → IsEntry old more t i x) entries place next within
            (λ later fits since. absurd (omega (arith, later)))
            (λ i other later here since. others old t i other (are.behind t i (omega (arith, later)) here since));
      }

  -- all of the span's are
  pub until_all : (entries : List ℕ) (slabs : Slabs A) (epoch marked : ℕ) (change : Change) (span : Span) (old new : List Route)
      → IsChange change.len change.answer span old new → marked ≤ 2 ^ 24 → AreUntil entries slabs epoch marked old new span.end
      → AreMarked entries slabs epoch marked new
  until_all entries slabs epoch marked change span old new is within are = record {
    size = are.size;
    within = within;
    coded = are.coded;
    each = λ t i here since. elim (cases_lt i span.end) [
      | inl before ↦ are.before t i before here since
      | inr behind ↦ λ k small. subst (λ (a : Option Route). Leads slabs t i (get_or entries i 0) k a) (is.outside i k here small (inr behind))
          (are.behind t i behind here since k small)
    ];
  }

  -- one more number of a group
  pub numbers_more : (slabs : Slabs A) (epoch : ℕ) (change : Change) (old new : List ℕ) (k number : ℕ) → k < 256
      → IsNumberAfter slabs epoch change (get_or old k 0) number → AreNumbersAfter slabs epoch change old new k
      → AreNumbersAfter slabs epoch change old (set new k number) (k + 1)
  numbers_more slabs epoch change old new k number below goes are = record {
    size = length-set new k number ∙ are.size;
    each = each_set (λ j n. j < k + 1 → IsNumberAfter slabs epoch change (get_or old j 0) n) new k number (omega (arith, below, are.size)) (λ _. goes)
        (λ j other earlier. are.each j (omega (arith, earlier, other)));
  }
