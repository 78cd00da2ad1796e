use Rattle.std.proofs.Common.{length, arith}
use Rattle.rt_run.specs.RunText.{in_batches}
use Rattle.rt_run.proofs.Dealt.{as_many_tallies}
use Rattle.rt_run.proofs.GivenBack.{given_with_more, given_behind}
use Rattle.rt_run.proofs.sides.run_both.Goals as goal

pub returns-clause-ran : goal.returns-clause-ran
returns-clause-ran g c old_batch new_batch old_some new_some = record {
  old_tallies = c.in_ok-old_tables.tallies.items;
  new_tallies = c.in_ok-new_tables.new_tallies.items;
  old_left = (rw (c.in_ok-old_tables.was {u = tt}) at c.run_sides-old_run.ensures.old.ran) old_batch old_some;
  new_left = (rw (c.in_ok-new_tables.was {u = tt}) at c.run_sides-old_run.ensures.new.ran) new_batch new_some;
  tallied = (c.in-Ok.ensures {u = tt}).items;
}

pub returns-clause-old_given_back : goal.returns-clause-old_given_back
returns-clause-old_given_back g c =
    let input = c.args.old_input.now in
    let left = (rw (c.in_ok-old_tables.was {u = tt}) at c.run_sides-old_run.ensures.old.ran) 1 (omega arith) in
    given_with_more input c.in_ok-old_tables.tallies.items c.in_ok-new_tables.new_tallies.items _ _
    (as_many_tallies (in_batches 1 input) _ c.in_ok-old_tables.tallies.items left) (c.in-Ok.ensures {u = tt}).items
    (rw (c.in_ok-old_tables.was {u = tt}) at c.run_sides-old_run.ensures.old.given_back)

pub returns-clause-new_given_back : goal.returns-clause-new_given_back
returns-clause-new_given_back g c =
    let input = c.args.old_input.now in
    let left = (rw (c.in_ok-old_tables.was {u = tt}) at c.run_sides-old_run.ensures.old.ran) 1 (omega arith) in
    given_behind (length input.texts) c.args.new_input.now c.in_ok-old_tables.tallies.items c.in_ok-new_tables.new_tallies.items _ _
    (as_many_tallies (in_batches 1 input) _ c.in_ok-old_tables.tallies.items left) (c.in-Ok.ensures {u = tt}).items
    (rw (c.in_ok-new_tables.was {u = tt}) at c.run_sides-old_run.ensures.new.given_back)
