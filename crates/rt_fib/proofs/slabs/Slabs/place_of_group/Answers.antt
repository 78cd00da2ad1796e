use Rattle.rt_fib.proofs.Placing.{fills_same, fills_twice}
use Rattle.rt_fib.proofs.slabs.Slabs.place_of_group.Goals as goal

pub returns-clause-fills : goal.returns-clause-fills
returns-clause-fills g c = record {
  groups = fills_twice _ _ _ _ c.reuse_if_same.ensures.fills c.put.ensures.fills;
  routes = fills_same _ _;
  codes = λ coded. coded;
}
