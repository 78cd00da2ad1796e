-- Two tables that send packets the same way.
use Rattle.std.specs.Prelude.{◌^◌, ◌<◌, List}
use Rattle.rt_cidr.specs.declared.address.Addr.{Addr}
use Rattle.rt_rib.specs.declared.routes.Route.{Route}
use Rattle.rt_diff.specs.declared.table_answers.CompareBy.TheVariants as by
use Rattle.rt_diff.specs.Answers.{own_numbers}
use Rattle.rt_diff.specs.Differences.{IsAlike}

-- each address has the same next hop in both tables, or no route
abbrev pub GoAlike : List Route → List Route → Type 0
GoAlike old new = (addr : Addr) → addr.0 < 2 ^ 32 → IsAlike by.Hop (own_numbers old) (own_numbers new) addr
