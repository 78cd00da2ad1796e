use Rattle.rt_run.proofs.Outputs.{answers-empty}
use Rattle.rt_run.proofs.queries.write_best.Goals as goal

pub write_rows_through-requires-clause-empty : goal.write_rows_through-requires-clause-empty
write_rows_through-requires-clause-empty g c lifetimes outlive = answers-empty c.args.style.now c.args.tables.now c.as_slice-addresses.result.now

pub returns : goal.returns
returns g c = rw (← c.found_header-header.ensures, ← c.as_slice-addresses.ensures.value, ← c.as_slice-invalid.ensures.value) c.write_rows_through.ensures
