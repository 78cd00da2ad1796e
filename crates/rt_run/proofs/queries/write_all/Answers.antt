use Rattle.rt_run.proofs.InvalidLines.{matches_rows}
use Rattle.rt_run.proofs.Outputs.{matches-empty}
use Rattle.rt_run.proofs.queries.write_all.Goals as goal

pub write_rows_through-requires-clause-empty : goal.write_rows_through-requires-clause-empty
write_rows_through-requires-clause-empty g c lifetimes outlive = matches-empty c.args.style.now c.as_slice.result.now

pub returns : goal.returns
returns g c =
    let rows = matches_rows c.args.style.now c.args.tables.now c.as_slice-addresses.result.now c.as_slice-invalid.result.now c.in_ok-all.all.items (c.in_ok-all.ensures {u = tt}) in
    rw (← c.as_slice-addresses.ensures.value, ← c.as_slice-invalid.ensures.value, ← rows, ← c.as_slice.ensures.value, ← c.all_found_header-header.ensures)
    c.write_rows_through.ensures
