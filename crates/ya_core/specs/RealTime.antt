-- The real-time order of a run's content.
use Rattle.std.specs.Prelude.{◌≡◌, ℕ, List, ◌++◌}
use Rattle.ya_core.specs.Worlds.{Marked, World, entries_of}

-- from the early world to the late one: the early content is a prefix of the late one and contains all entries made by
-- then; after it come the entries that each place has made since
pub record KeepsRealTimeOrder {X : Type 0} (early late : World X) : Type 0 where
  pub since : List (Marked X)
  pub content : late.content ≡ early.content ++ since
  pub made : (place : ℕ) → entries_of place early.content ≡ early.made place
  pub made_since : (place : ℕ) → late.made place ≡ early.made place ++ entries_of place since
