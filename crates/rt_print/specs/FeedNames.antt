-- Which names feeds may have if they are printed by their names.
use Rattle.std.specs.Prelude.{◌≡◌, ℕ, ◌<◌, ◌==◌, ◌&&◌, Bool, true, false, not, ◌||◌, nat_le, List, [], length, take, get_or, Some, None, Result, Ok, Err}
use Rattle.std.specs.List.{list_any}
use Rattle.rt_print.specs.declared.names.NameFault.{NameFault}
use Rattle.rt_print.specs.declared.names.NameFault.TheVariants.{Invalid, Duplicate}
use Rattle.rt_print.specs.Labels.{feed_name, index_of_name}

-- a name is valid: it isn't empty, and contains no space and no control character
abbrev pub is_name : List ℕ → Bool
is_name name = not (length name == 0) && not (list_any (λ byte. nat_le byte 32 || byte == 127) name)

-- the name of the feed of the path at this index
abbrev pub name_at : List (List ℕ) → ℕ → List ℕ
name_at paths at = feed_name (get_or paths at [])

-- the feed of the path at this index has a valid name, which no feed before it has
pub record HasOwnName (paths : List (List ℕ)) (at : ℕ) : Type 0 where
  pub valid : is_name (name_at paths at) ≡ true
  pub new : index_of_name (take at paths) (name_at paths at) ≡ None

-- this is the index of a path, and each feed before it has a name of its own
pub record IsFirstWithout (paths : List (List ℕ)) (at : ℕ) : Type 0 where
  pub within : at < length paths
  pub before : (earlier : ℕ) → earlier < at → HasOwnName paths earlier

-- each feed has a name of its own; or the first without one has no valid name, or the name of this earlier feed
abbrev pub ChecksNames : List (List ℕ) → Result Unit NameFault → Type 0
ChecksNames paths (Ok done) = (at : ℕ) → at < length paths → HasOwnName paths at
ChecksNames paths (Err (Invalid at)) = IsFirstWithout paths at × (is_name (name_at paths at) ≡ false)
ChecksNames paths (Err (Duplicate earlier at)) =
    IsFirstWithout paths at × (is_name (name_at paths at) ≡ true) × (index_of_name (take at paths) (name_at paths at) ≡ Some earlier)
