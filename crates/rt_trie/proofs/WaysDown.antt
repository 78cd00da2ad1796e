-- Places of a path, as addresses rise and steps are made.
use Rattle.std.proofs.Common.{◌≡◌, ℕ, ◌≤◌, ◌⊎◌, inl, inr, List, set, Some, ap, ◌∙◌, arith}
use Rattle.std.specs.Prelude.{All}
use Rattle.std.specs.Borrow.{Bor}
use Rattle.std.proofs.lemmas.List.Elements.{All-set, All-weaker}
use Rattle.rt_cidr.specs.declared.address.Addr.{Addr}
use Rattle.rt_trie.specs.declared.nodes.Link.{Link}
use Rattle.rt_trie.specs.declared.places.Place.{Place}
use Rattle.rt_trie.specs.Map.{Pairs, pair_copied}
use Rattle.rt_trie.specs.inside.Links.{sought}
use Rattle.rt_trie.specs.inside.Places.{IsPlace, IsNextPlace}

module _ {V A : Type 0} (m : Pairs V) where
  -- a place for an address is a place for each later address
  pub later_place : (from to : Addr) (place : Place V A) → from.0 ≤ to.0 → IsPlace m from place → IsPlace m to place
  later_place from to place h p = record { lawful = p.lawful; found = λ b k l. p.found b (omega (arith, h)) l }

  pub later_places : (from to : Addr) (places : List (Place V A)) → from.0 ≤ to.0 → All (IsPlace m from) places → All (IsPlace m to) places
  later_places from to places h a = All-weaker (IsPlace m from) (IsPlace m to) (λ p. later_place from to p h) places a

  -- a step down from a place leads to a place
  pub next_place : (from : Addr) (link : Bor (Link V A)) (place next : Place V A) → place.below ≡ Some link → IsPlace m from place
      → IsNextPlace link.now place from next → IsPlace m from next
  next_place from link place next e p n = record {
    lawful = n.lawful;
    found = λ b h k. p.found b h (omega (arith, n.within)) ∙ ap (λ o. sought o b (pair_copied place.best)) e ∙ n.same b h k;
  }

  -- a list of places stays one if a place is stored in it
  pub with_place : (from : Addr) (places others : List (Place V A)) (k : ℕ) (place : Place V A)
      → (others ≡ places) ⊎ (others ≡ set places k place) → IsPlace m from place → All (IsPlace m from) places → All (IsPlace m from) others
  with_place from places others k place e p a = elim e [ inl s ↦ rw s a | inr s ↦ rw s (All-set (IsPlace m from) places k place p a) ]
