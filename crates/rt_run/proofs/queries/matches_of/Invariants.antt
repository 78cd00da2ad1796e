use Rattle.std.proofs.Common.{◌≡◌, ◌≤◌, length, take, vec_len, vec_capacity}
use Rattle.rt_run.specs.inside.Outputs.{matches_found, matches_in}
use Rattle.rt_run.proofs.queries.matches_of.Given as goal

-- all covering routes of each address so far, and capacity for the others
abbrev pub invariant-loop-addr : goal.invariant-loop-addr
invariant-loop-addr l = record {
  found : matches_found l.all.items ≡ matches_in l.tables (take l.addr-index l.addresses);
  counted : vec_len l.all ≡ l.addr-index;
  room : length l.addresses ≤ vec_capacity l.all;
}
