use Rattle.std.proofs.Common.{refl}
use Rattle.rt_run.proofs.comparisons.compare.Goals as goal

pub returns-clause-compared : goal.returns-clause-compared
returns-clause-compared g c old_batch new_batch old_some new_some =
    let both = c.in_ok-old_tables.ensures.ran old_batch new_batch old_some new_some in
    record {
      old_table = _;
      new_table = _;
      old_tallies = both.old_tallies;
      new_tallies = both.new_tallies;
      old_left = both.old_left;
      new_left = both.new_left;
      tallied = both.tallied;
      list = _;
      differences = rw c.compared_tables-tables.ensures at (c.in-Ok.ensures {u = tt});
      printed = refl;
      is_status = rw (c.as_slice.ensures.value, c.as_slice-2.ensures.value) at c.status_with-status.ensures;
    }
