-- Processes that change a shared list while they are inside: worlds, events and runs. Nothing here excludes that two
-- are inside.
use Rattle.std.specs.Prelude.{◌≡◌, ◌≢◌, ◌↔◌, ℕ, ◌==◌, Bool, true, false, if◌then◌else◌, IsTrue, List, [], ◌∷◌, ◌++◌}
use Rattle.std.specs.Prelude.{Option, Some}
use Rattle.ya_core.specs.declared.process.Process.{Process}
use Rattle.ya_core.specs.declared.process.Process.TheVariants.{Inside}
use Rattle.ya_core.specs.Steps.{State, StepsTo, opening}

-- the process is inside
abbrev pub is_inside : Process → Bool
is_inside Inside = true
is_inside _ = false

-- the place is inside
abbrev pub IsInside : State → ℕ → Type 0
IsInside s place = IsTrue (is_inside (s.processes place))

-- the place that is inside, or `None` if no place is
abbrev pub ReportsInside : State → Option ℕ → Type 0
ReportsInside s inside = (place : ℕ) → (inside ≡ Some place) ↔ IsInside s place

-- an entry of the content, marked with the place that made it
abbrev pub Marked : Type 0 → Type 0
Marked X = ℕ × X

-- words and processes; the content; for each place its copy of the content, its entries in this passage, and all
-- entries that it has made
pub record World (X : Type 0) : Type 0 where
  pub state : State
  pub content : List (Marked X)
  pub copies : ℕ → List (Marked X)
  pub doing : ℕ → List X
  pub made : ℕ → List X

-- a place takes a step, or appends an entry
pub data Event (X : Type 0) : Type 0 where
  Steps : ℕ → Event X
  Appends : ℕ → X → Event X

-- at the start nothing was made
abbrev pub opening_world : {X : Type 0} → World X
opening_world {X} = record { state = opening; content = []; copies = λ _. []; doing = λ _. []; made = λ _. [] }

-- a step of the place. The step that wins the root copies the content, and begins an empty list of entries of this
-- passage. The step that gives up the root replaces the content by the copy, and the entries of the passage are made
pub record WorldSteps {X : Type 0} (levels place : ℕ) (old new : World X) : Type 0 where
  pub state : StepsTo levels place old.state new.state
  pub copy : new.copies place ≡ (if is_inside (new.state.processes place) then old.content else old.copies place)
  pub doing : new.doing place ≡ (if is_inside (new.state.processes place) then [] else old.doing place)
  pub content : new.content ≡ (if is_inside (old.state.processes place) then old.copies place else old.content)
  pub made : new.made place ≡ (if is_inside (old.state.processes place) then old.made place ++ old.doing place
      else old.made place)
  pub others_copy : (other : ℕ) → other ≢ place → new.copies other ≡ old.copies other
  pub others_doing : (other : ℕ) → other ≢ place → new.doing other ≡ old.doing other
  pub others_made : (other : ℕ) → other ≢ place → new.made other ≡ old.made other

-- a place that is inside appends an entry to its copy, which the entry may follow
pub record WorldAppends {X : Type 0} (may : List (Marked X) → Marked X → Type 0) (place : ℕ) (entry : X)
    (old new : World X) : Type 0 where
  pub inside : IsInside old.state place
  pub may_follow : may (old.copies place) (place, entry)
  pub state : new.state ≡ old.state
  pub content : new.content ≡ old.content
  pub copy : new.copies place ≡ old.copies place ++ (place, entry) ∷ []
  pub doing : new.doing place ≡ old.doing place ++ entry ∷ []
  pub made : new.made place ≡ old.made place
  pub others_copy : (other : ℕ) → other ≢ place → new.copies other ≡ old.copies other
  pub others_doing : (other : ℕ) → other ≢ place → new.doing other ≡ old.doing other
  pub others_made : (other : ℕ) → other ≢ place → new.made other ≡ old.made other

-- the event leads from the old world to the new one
abbrev pub Happens : {X : Type 0} → ℕ → (List (Marked X) → Marked X → Type 0) → Event X → World X → World X → Type 0
Happens levels may (Steps place) old new = WorldSteps levels place old new
Happens levels may (Appends place entry) old new = WorldAppends may place entry old new

-- these events, one after another, lead from the old world to the new one
abbrev pub Runs : {X : Type 0} → ℕ → (List (Marked X) → Marked X → Type 0) → World X → List (Event X) → World X → Type 0
Runs {X} levels may old [] new = new ≡ old
Runs {X} levels may old (event ∷ events) new =
    (next : World X) × Happens levels may event old next × Runs levels may next events new

-- some list of events leads from the opening world to the world; each appended entry `may` follow the copy before it
abbrev pub IsReached : {X : Type 0} → ℕ → (List (Marked X) → Marked X → Type 0) → List (Event X) → World X → Type 0
IsReached levels may events world = Runs levels may opening_world events world

-- the places that step in these events
abbrev pub places_of : {X : Type 0} → List (Event X) → List ℕ
places_of [] = []
places_of (Steps place ∷ events) = place ∷ places_of events
places_of (Appends place entry ∷ events) = places_of events

-- any entry may follow
abbrev pub any_entry : {X : Type 0} → List (Marked X) → Marked X → Type 0
any_entry before entry = Unit {0}

-- the entries that a place made, in order
abbrev pub entries_of : {X : Type 0} → ℕ → List (Marked X) → List X
entries_of place [] = []
entries_of place (entry ∷ entries) =
    if entry.0 == place then entry.1 ∷ entries_of place entries else entries_of place entries

-- each entry may follow `before` and the entries before it in the list
abbrev pub FollowsFrom : {X : Type 0} → (List (Marked X) → Marked X → Type 0) → List (Marked X) → List (Marked X)
    → Type 0
FollowsFrom ok before [] = Unit {0}
FollowsFrom ok before (entry ∷ entries) = ok before entry × FollowsFrom ok (before ++ entry ∷ []) entries

-- each entry may follow those before it
abbrev pub EachMayFollow : {X : Type 0} → (List (Marked X) → Marked X → Type 0) → List (Marked X) → Type 0
EachMayFollow ok entries = FollowsFrom ok [] entries
