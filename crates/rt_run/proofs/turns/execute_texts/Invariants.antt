use Rattle.std.proofs.Common.{◌≡◌, ◌≤◌, ℕ, length, take, vec_len, vec_capacity}
use Rattle.rt_run.specs.TableText.{LeavesTable}
use Rattle.rt_run.proofs.GivenBack.{IsGivenSoFar}
use Rattle.rt_run.proofs.turns.execute_texts.Given as goal

-- the texts so far left the table, their memory was given back, and there is capacity for the tallies of the others
abbrev pub invariant-loop-index : goal.invariant-loop-index
invariant-loop-index l = record {
  left : (batch : ℕ) → 1 ≤ batch
      → LeavesTable (record { texts = take l.index l.initial.input.texts; limit = l.initial.input.limit; batch = batch }) l.table.routes l.tallies.items;
  given : IsGivenSoFar l.initial.input l.index l.tallies.items l.input;
  limited : l.table.limit ≡ l.initial.input.limit;
  counted : vec_len l.tallies ≡ l.index;
  room : length l.initial.input.texts ≤ vec_capacity l.tallies;
}
