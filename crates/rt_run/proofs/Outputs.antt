-- The effect of a call on its writer, from its output, and which output is empty.
use Rattle.std.proofs.Common.{◌≡◌, ◌==◌, ℕ, ◌<◌, Bool, false, List, [], ◌∷◌, ◌++◌, length, Option, None, Some, Result, Ok, Err, IfErr, refl, sym, subst, ◌∙◌, arith, length-append}
use Rattle.std.proofs.Common.{◌≤◌}
use Rattle.std.specs.Prelude.{◌&&◌}
use Rattle.std.specs.List.{flat_map}
use Rattle.std.proofs.lemmas.Bool.Decides.{nat_tests}
use Rattle.std.proofs.lemmas.Grind.{common_steps}
use Rattle.rt_cidr.specs.declared.address.Addr.{Addr}
use Rattle.rt_rib.specs.declared.routes.Route.{Route}
use Rattle.rt_rib.specs.LookUp.{look_up}
use Rattle.rt_feed.specs.declared.faults.RunFault.TheVariants as refusal
use Rattle.rt_print.specs.declared.format.Syntax.{Syntax}
use Rattle.rt_print.specs.declared.format.Syntax.TheVariants.{Line, Json, Csv}
use Rattle.rt_print.specs.Routes.{table_text, count_text}
use Rattle.rt_print.specs.Counts.{prefix_count, totals_as, counts_as, total_as, rows_and_total_as}
use Rattle.rt_print.specs.Styles.{StyleContents, label_of, row_as, rows_as, address_head, found_as, all_found_as}
use Rattle.rt_run.specs.declared.faults.AppFault.{AppFault}
use Rattle.rt_run.specs.declared.faults.AppFault.TheVariants.{Run, Replay, Write}
use Rattle.std.specs.declared.vec.Vec.{Vec}
use Rattle.std.specs.declared.alloc.Global.{Global}
use Rattle.rt_run.specs.declared.tallies.RejectedInput.{RejectedInput}
use Rattle.rt_run.specs.declared.tallies.RunSummary.{RunSummary}
use Rattle.rt_run.specs.declared.question.Question.{Question}
use Rattle.rt_run.specs.RunText.{RunContents, WritesOrFails}
use Rattle.rt_run.specs.TableText.{question_text, tallies_status, LeavesTable, AsksAbout, IsAnswer}
use Rattle.rt_run.specs.Replayed.{IsReplayText, LeavesReplay}
use Rattle.rt_feed.specs.Addresses.{AddressRow}
use Rattle.rt_run.specs.inside.Outputs.{Writes, found_text, matches_text}
use Rattle.ya_core.specs.declared.step.Step.{Step}
use Rattle.ya_core.specs.Steps.{State, opening}
use Rattle.ya_core.specs.ArbitrationTree.{HasShape}
use Rattle.ya_core.specs.Machines.{ReplaysTo, Replays}
use Rattle.ya_core.specs.Worlds.{ReportsInside}
use Rattle.rt_print.specs.ReplayText.{replay_text_of}

-- the effect of a call that wrote a text of the given kind, with what it returns
pub writes_or_fails : {X : Type 0} (IsSuch : List ℕ → X → Type 0) (text : List ℕ) (given : X) (old new : Option (List ℕ)) (result : Result X AppFault)
    → IsSuch text given → Writes text given old new result → WritesOrFails IsSuch old new result
writes_or_fails IsSuch text given old new (Ok done) is wrote = (text, subst (IsSuch text) (sym wrote.0) is, wrote.1)
writes_or_fails IsSuch text given old new (Err (Run why)) is wrote =
    (λ same. let other : refusal.Memory ≡ refusal.FeedCount = sym wrote.0 ∙ same in absurd cc, wrote.1)
writes_or_fails IsSuch text given old new (Err (Replay why)) is wrote = absurd wrote
writes_or_fails IsSuch text given old new (Err Write) is wrote = (text, given, is, wrote)

-- the same of a replay
pub leaves_replay : (levels : ℕ) (picks text : List ℕ) (old new : Option (List ℕ)) (result : Result ℕ AppFault) → IsReplayText levels picks text
    → IfErr result (λ fault. fault ≡ Write) → Writes text 0 old new result → LeavesReplay levels picks old new result
leaves_replay levels picks text old new (Ok status) is only wrote = (wrote.0, text, is, wrote.1)
leaves_replay levels picks text old new (Err (Run why)) is only wrote = absurd cc
leaves_replay levels picks text old new (Err (Replay why)) is only wrote = absurd wrote
leaves_replay levels picks text old new (Err Write) is only wrote = (text, is, wrote)

-- the text for the question's rows is the answer
pub is_answer : (asked : RunContents) (style : StyleContents) (question : Question) (table : List Route) (tallies : List RejectedInput)
    (rows : List AddressRow) (others : List RejectedInput) (given : RunSummary) → AsksAbout question rows others
    → LeavesTable asked table tallies → given.tallies.items ≡ tallies ++ others → given.status ≡ tallies_status given.tallies.items
    → IsAnswer asked style question (question_text style question rows table) given
is_answer asked style question table tallies rows others given asks leaves tallied status = record {
  rows = rows;
  others = others;
  asks = asks;
  tallies = tallies;
  shown = record { table = table; leaves = leaves; shown = refl };
  tallied = tallied;
  is_status = status;
}

-- a text with a byte isn't empty
pub has_byte : (text : List ℕ) → 0 < length text → false ≡ (length text == 0)
has_byte text some = grind (arith, nat_tests)

-- no run's text is empty
pub run_text-some : (reports : List ℕ) (routes : List Route) → 0 < length (reports ++ table_text routes)
unfolding count_text
run_text-some reports routes = simp length-append (omega arith)

-- a list of texts that aren't empty joins to the empty text if and only if the list is empty
texts-empty : {X : Type 0} (text : X → List ℕ) → ((x : X) → 0 < length (text x)) → (empty : Bool) (xs : List X) → empty ≡ (length xs == 0) → empty ≡ (length (flat_map text xs) == 0)
texts-empty text some empty [] is = is
texts-empty text some empty (x ∷ xs) is = grind (arith, nat_tests, some x, length-append (text x) (flat_map text xs))

-- nor is the text of a look-up, in any style
row_as-some : (syntax : Syntax) (label : ℕ → List ℕ) (route : Route) → 0 < length (row_as syntax label route)
unfolding row_as
row_as-some Line label route = grind (arith, common_steps)
row_as-some Json label route = grind (arith, common_steps)
row_as-some Csv label route = grind (arith, common_steps)

found_as-some : (syntax : Syntax) (label : ℕ → List ℕ) (addr : Addr) (found : Option Route) → 0 < length (found_as syntax label addr found)
unfolding found_as address_head
found_as-some Line label addr None = grind (arith, common_steps)
found_as-some Line label addr (Some r) = grind (arith, common_steps)
found_as-some Json label addr None = grind (arith, common_steps)
found_as-some Json label addr (Some r) = grind (arith, common_steps)
found_as-some Csv label addr None = grind (arith, common_steps)
found_as-some Csv label addr (Some r) = grind (arith, common_steps)

all_found_as-some : (syntax : Syntax) (label : ℕ → List ℕ) (addr : Addr) (found : List Route) → 0 < length (all_found_as syntax label addr found)
unfolding all_found_as address_head
all_found_as-some Line label addr [] = grind (arith, common_steps, found_as-some)
all_found_as-some Line label addr (first ∷ others) = grind (arith, common_steps, found_as-some)
all_found_as-some Json label addr [] = grind (arith, common_steps, found_as-some)
all_found_as-some Json label addr (first ∷ others) = grind (arith, common_steps, found_as-some)
all_found_as-some Csv label addr [] = grind (arith, common_steps, found_as-some)
all_found_as-some Csv label addr (first ∷ others) = grind (arith, common_steps, found_as-some)

module _ (style : StyleContents) where
  pub rows-empty : (empty : Bool) (routes : List Route) → empty ≡ (length routes == 0) → empty ≡ (length (rows_as style routes) == 0)
  rows-empty = texts-empty (row_as style.syntax (label_of style.labels)) (row_as-some style.syntax (label_of style.labels))

  pub answers-empty : (table : List Route) (addresses : List Addr) → (length addresses == 0) ≡ (length (found_text style addresses table) == 0)
  answers-empty table addresses =
      texts-empty (λ addr. found_as style.syntax (label_of style.labels) addr (look_up addr table))
      (λ addr. found_as-some style.syntax (label_of style.labels) addr (look_up addr table)) _ addresses refl

  pub matches-empty : (all : List (Addr × Vec Route Global)) → (length all == 0) ≡ (length (matches_text style all) == 0)
  matches-empty all =
      texts-empty (λ one. all_found_as style.syntax (label_of style.labels) one.0 one.1.items)
      (λ one. all_found_as-some style.syntax (label_of style.labels) one.0 one.1.items) _ all refl

-- a text isn't empty if its beginning isn't
pub first-some : (front rest : List ℕ) → 0 < length front → 0 < length (front ++ rest)
first-some front rest some = omega (arith, some, length-append front rest)

-- a text is empty if and only if its header and its rest are
pub headed-empty : (header rest : List ℕ) (empty : Bool) → empty ≡ (length rest == 0) → ((length header == 0) && empty) ≡ (length (header ++ rest) == 0)
headed-empty [] rest empty is = is
headed-empty (byte ∷ header) rest empty is =
    rw (sym (has_byte (byte ∷ header) (omega arith))) (has_byte ((byte ∷ header) ++ rest) (omega (arith, length-append (byte ∷ header) rest)))

-- the text of the counts isn't empty
totals-some : (syntax : Syntax) (routes prefixes : ℕ) → 0 < length (totals_as syntax routes prefixes)
unfolding totals_as
totals-some Line routes prefixes = grind (arith, common_steps)
totals-some Json routes prefixes = grind (arith, common_steps)
totals-some Csv routes prefixes = grind (arith, common_steps)

pub counts-some : (style : StyleContents) (routes : List Route) → 0 < length (counts_as style routes)
unfolding counts_as
counts-some style routes =
    first-some (totals_as style.syntax (length routes) (prefix_count routes)) _ (totals-some style.syntax (length routes) (prefix_count routes))

-- nor is a text that ends with a total
total-some : (syntax : Syntax) (count : ℕ) → 0 < length (total_as syntax count)
unfolding total_as
total-some Line count = grind (arith, common_steps)
total-some Json count = grind (arith, common_steps)
total-some Csv count = grind (arith, common_steps)

pub rows_and_total-some : (style : StyleContents) (routes : List Route) → 0 < length (rows_and_total_as style routes)
rows_and_total-some style routes = omega (arith, length-append (rows_as style routes) (total_as style.syntax (length routes)), total-some style.syntax (length routes))

-- the text of the steps of a run from the start, and of the place that is inside after them, is its replay text
pub is_replay_text : (levels : ℕ) (picks : List ℕ) (steps : List Step) (inside : Option ℕ) → ((HasShape levels → ⊥) → ⊥) → Replays levels opening picks steps
    → ((levels : ℕ) (picks : List ℕ) (last : State) → 1 ≤ levels → ReplaysTo levels opening picks steps last → ReportsInside last inside)
    → IsReplayText levels picks (replay_text_of steps inside)
is_replay_text levels picks steps inside shaped run tells =
    record {
      steps = steps;
      last = run.0;
      taken = run.1;
      inside = inside;
      told = tells levels picks run.0 (grind arith) run.1;
      printed = refl;
    }
