use Rattle.std.proofs.Common.{◌≡◌, length, map, take}
use Rattle.yarib_c.specs.declared.lookups.TheConstants.{CHUNK}
use Rattle.yarib_c.specs.Calls.{addr}
use Rattle.yarib_c.proofs.lookups.look_up_numbers.Given as goal

-- the first k addresses are copied
abbrev pub invariant-loop-k : goal.invariant-loop-k
invariant-loop-k l = record { copied : take l.k l.asked ≡ map addr (take l.k l.addresses); long : length l.asked ≡ CHUNK }
