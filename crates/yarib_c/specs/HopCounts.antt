-- How many best routes use each next hop, as C sees it.
use Rattle.std.specs.Prelude.{ℕ, List}
use Rattle.rt_rib.specs.declared.routes.Route.{Route}
use Rattle.rt_rib.specs.declared.hop_counts.HopCount.{HopCount}
use Rattle.rt_rib.specs.HopCounts.{AreHopCounts}
use Rattle.yarib_c.specs.declared.hop_counts.YaribHopCount.{YaribHopCount}
use Rattle.yarib_c.specs.Forms.{hop_number, via_number}
use Rattle.yarib_c.specs.Lists.{ShowsPart}

-- a next hop and the number of its routes
abbrev pub hop_count_as : HopCount → YaribHopCount
hop_count_as c = record { hop = hop_number c.hop; via = via_number c.hop; routes = c.routes }

-- of the next hops that best routes use, those from index `skip` on are shown with their counts, and `total` is their number
pub record ShowsHopCounts (routes : List Route) (skip : ℕ) (shown : List YaribHopCount) (total : ℕ) : Type 0 where
  pub counts : List HopCount
  pub are : AreHopCounts routes counts
  pub shows : ShowsPart hop_count_as counts skip shown total
