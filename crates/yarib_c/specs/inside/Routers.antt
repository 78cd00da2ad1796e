-- The router of a next hop.
use Rattle.std.specs.Prelude.{ℕ, Option, Some, None}
use Rattle.rt_rib.specs.declared.routes.Hop.{Hop}
use Rattle.yarib_c.specs.Forms.{router_of}

-- the router of an answer's next hop, or the number for no route or for discarding
abbrev pub router_by : ℕ → ℕ → Option Hop → ℕ
router_by none discard None = none
router_by none discard (Some hop) = router_of discard hop
