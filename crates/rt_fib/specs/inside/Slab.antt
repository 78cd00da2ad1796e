-- A slab: a list whose places are used again once nothing leads to them.
use Rattle.std.specs.Prelude.{◌≡◌, ℕ, ◌+◌, ◌^◌, ◌<◌, ◌≤◌, ◌⊎◌, List, [], ◌∷◌, ◌++◌, length, get_or, take, drop}
use Rattle.std.specs.List.{Contains}

-- the value at each place, and the epoch in which the place was last seen in use
pub record Places (T : Type 0) : Type 0 where
  pub values : List T
  pub epochs : List ℕ

-- places, and the free ones that the change under way has filled
pub record SlabState (T : Type 0) : Type 0 where
  pub places : Places T
  pub undo_log : List ℕ

-- the first `count` places of the log have epoch 0, and no epoch of a place outside the log changed
pub record AreCleared (old new log : List ℕ) (count : ℕ) : Type 0 where
  pub size : length new ≡ length old
  pub others : (n : ℕ) → (get_or new n 0 ≡ get_or old n 0) ⊎ (Contains log n × (get_or new n 0 ≡ 0))
  pub cleared : (k : ℕ) → k < count → get_or new (get_or log k 0) 0 ≡ 0

module _ {T : Type 0} where
  -- the list with the value at this place, or at its end
  abbrev pub with_value : List T → ℕ → T → List T
  with_value values n value = take n values ++ value ∷ drop (n + 1) values

  -- the place is there, in use since this epoch or a later one, and has this value
  pub record Has (places : Places T) (epoch n : ℕ) (value : T) : Type 0 where
    pub within : n < length places.values
    pub used : epoch ≤ get_or places.epochs n 0
    pub there : (d : T) → get_or places.values n d ≡ value

  -- the number of such a place is no group's
  pub record IsNumberOf (places : Places T) (epoch n : ℕ) (value : T) : Type 0 where
    pub short : n < 2 ^ 31
    pub has : Has places epoch n value

  -- the place is there, and not in use since this epoch
  pub record IsFree (places : Places T) (epoch n : ℕ) : Type 0 where
    pub within : n < length places.values
    pub unused : get_or places.epochs n 0 < epoch

  -- what is in use since this epoch or a later one stays so, with its value
  pub record Keeps (epoch : ℕ) (old new : Places T) : Type 0 where
    pub each : (t n : ℕ) (value : T) → epoch ≤ t → Has old t n value → Has new t n value

  -- when a change begins, the log is empty
  abbrev pub begun : Places T → SlabState T
  begun places = record { places = places; undo_log = [] }

  -- the place stays: with its value, and free if it was
  pub record Stays (epoch : ℕ) (old new : Places T) (n : ℕ) : Type 0 where
    pub value : (d : T) → get_or new.values n d ≡ get_or old.values n d
    pub used : get_or old.epochs n 0 ≤ get_or new.epochs n 0
    pub free : get_or old.epochs n 0 < epoch → get_or new.epochs n 0 < epoch

  -- each place stays, or it was free and the log has it, and the log gained only free places
  pub record Fills (epoch : ℕ) (old new : SlabState T) : Type 0 where
    pub longer : length old.places.values ≤ length new.places.values
    pub each : (n : ℕ) → n < length old.places.values
        → Stays epoch old.places new.places n ⊎ (Contains new.undo_log n × (get_or old.places.epochs n 0 < epoch))
    pub logged : (n : ℕ) → Contains old.undo_log n → Contains new.undo_log n
    pub gained : (n : ℕ) → n < length old.places.values → Contains new.undo_log n
        → Contains old.undo_log n ⊎ (get_or old.places.epochs n 0 < epoch)

  -- all in use is kept, all free places are free, and there are no more of them
  pub record IsBack (epoch : ℕ) (old new : Places T) : Type 0 where
    pub keeps : Keeps epoch old new
    pub free : (n : ℕ) → IsFree old epoch n → IsFree new epoch n
    pub no_more : length new.values ≤ length old.values
