-- The places on the descent of a look-up that also returns how far its answer holds.
use Rattle.std.specs.Prelude.{◌≡◌, ℕ, ◌+◌, ◌≤◌, Option, None, Some, All}
use Rattle.std.specs.Borrow.{Bor}
use Rattle.rt_cidr.specs.declared.address.Addr.{Addr}
use Rattle.rt_trie.specs.declared.nodes.Link.{Link}
use Rattle.rt_trie.specs.declared.places.Place.{Place}
use Rattle.rt_trie.specs.declared.matches.Way.{Way}
use Rattle.rt_trie.specs.declared.nodes.TheConstants.{PLACES}
use Rattle.rt_trie.specs.Map.{Pairs, pair_copied}
use Rattle.rt_trie.specs.inside.Lawful.{IsLawfulTrie}
use Rattle.rt_trie.specs.inside.Links.{pairs, count, or_else, last_cover, sought, IsLawfulOn}

-- the number of links from the place down
abbrev pub links_below : {V A : Type 0} → Option (Bor (Link V A)) → ℕ
links_below None = 0
links_below (Some link) = count link.now + 1

-- for each address from this one to the place's last, the answer in the map is the answer below the place, or else the
-- place's best
pub record IsPlace {V A : Type 0} (m : Pairs V) (from : Addr) (place : Place V A) : Type 0 where
  pub lawful : IsLawfulOn place.below
  pub found : (b : Addr) → from.0 ≤ b.0 → b.0 ≤ place.last → last_cover m b ≡ sought place.below b (pair_copied place.best)

-- a step down at the link, from one place to the next: it reaches the address, and not further than the first place
-- did, and each address up to its last has the same answer from there
pub record IsNextPlace {V A : Type 0} (link : Link V A) (place : Place V A) (from : Addr) (next : Place V A) : Type 0 where
  pub lawful : IsLawfulOn next.below
  pub down : links_below next.below ≤ count link
  pub onward : from.0 ≤ next.last
  pub within : next.last ≤ place.last
  pub same : (b : Addr) → from.0 ≤ b.0 → b.0 ≤ next.last
      → or_else (last_cover (pairs link) b) (pair_copied place.best) ≡ sought next.below b (pair_copied next.best)

-- all places of the path belong to this trie, for addresses from this one on
pub record AreMatches {V A : Type 0} (root : Link V A) (from : Addr) (way : Way V A) : Type 0 where
  pub lawful : IsLawfulTrie root
  pub few : way.len ≤ PLACES
  pub places : All (IsPlace (pairs root) from) way.places
