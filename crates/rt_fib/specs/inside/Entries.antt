-- How the entries of tbl24, the groups and the routes represent the table's answer to each address.
use Rattle.std.specs.Prelude.{◌≡◌, ℕ, ◌+◌, ◌-◌, ◌*◌, ◌/◌, ◌^◌, ◌<◌, ◌≤◌, List, length, get_or, map, max, Option, Some, None}
use Rattle.rt_cidr.specs.declared.address.Addr.{Addr}
use Rattle.rt_rib.specs.declared.routes.Hop.{Hop}
use Rattle.rt_rib.specs.declared.routes.Hop.TheVariants.{Via, Discard}
use Rattle.rt_rib.specs.declared.routes.Route.{Route}
use Rattle.rt_rib.specs.LookUp.{look_up}
use Rattle.rt_fib.specs.declared.dir24_8.Dir24_8.{Dir24_8}
use Rattle.rt_fib.specs.declared.filling.Filling.{Filling}
use Rattle.rt_fib.specs.declared.filling.Piece.{Piece}
use Rattle.rt_fib.specs.declared.slabs.Counts.{Counts}
use Rattle.rt_fib.specs.declared.slabs.Group.{Group}
use Rattle.rt_fib.specs.declared.slabs.Slabs.{Slabs}
use Rattle.rt_fib.specs.inside.Slab.{begun, Fills, Has, IsBack, Keeps}

-- the address of this number
abbrev pub at : ℕ → Addr
at n = record { 0 = n }

-- the entry of the address's first 24 bits
abbrev pub entry_at : List ℕ → Addr → ℕ
entry_at entries addr = get_or entries (addr.0 / 256) 0

-- a next hop's code: 1 if packets are discarded, else the router's address, or 2 in place of a lower one
abbrev pub code_of : Hop → ℕ
code_of (Via a) = max a.0 2
code_of Discard = 1

-- the code of an answer's next hop: 0 if there is no route
abbrev pub hop_code : Option Route → ℕ
hop_code None = 0
hop_code (Some r) = code_of r.hop

-- what the i-th entry leads to is in use since the epoch t, which is the next one only for the first `marked` entries
pub record IsSince (epoch marked i t : ℕ) : Type 0 where
  pub from : epoch ≤ t
  pub upto : t ≤ epoch + 1
  pub unmarked : marked ≤ i → t ≤ epoch

module _ {A : Type 0} where
  -- the codes are those of the answers' next hops
  abbrev pub IsCoded : Slabs A → Type 0
  IsCoded slabs = slabs.codes.items ≡ map hop_code slabs.routes.places.values

  -- all places and codes are the same
  pub record SamePlaces (old new : Slabs A) : Type 0 where
    pub groups : new.groups.places ≡ old.groups.places
    pub routes : new.routes.places ≡ old.routes.places
    pub codes : new.codes.items ≡ old.codes.items

  -- what is in use in both slabs since this epoch or a later one stays so, with its value
  pub record KeepsBoth (epoch : ℕ) (old new : Slabs A) : Type 0 where
    pub groups : Keeps epoch old.groups.places new.groups.places
    pub routes : Keeps epoch old.routes.places new.routes.places
    pub codes : IsCoded old → IsCoded new

  -- and the logs have whatever free places were filled
  pub record FillsBoth (epoch : ℕ) (old new : Slabs A) : Type 0 where
    pub groups : Fills epoch old.groups new.groups
    pub routes : Fills epoch old.routes new.routes
    pub codes : IsCoded old → IsCoded new

  -- a change begins with these counts, and the logs are empty
  pub record HasBegun (old new : Slabs A) (counts : Counts) : Type 0 where
    pub groups : new.groups ≡ begun old.groups.places
    pub routes : new.routes ≡ begun old.routes.places
    pub codes : new.codes.items ≡ old.codes.items
    pub group_count : counts.groups ≡ length old.groups.places.values
    pub route_count : counts.routes ≡ length old.routes.places.values

  -- all in use is kept, all free places are free, and there are no more of them
  pub record AreBack (epoch : ℕ) (old new : Slabs A) : Type 0 where
    pub groups : IsBack epoch old.groups.places new.groups.places
    pub routes : IsBack epoch old.routes.places new.routes.places
    pub codes : IsCoded old → IsCoded new

  -- the number is that of the answer's place
  abbrev pub HasRoute : Slabs A → ℕ → ℕ → Option Route → Type 0
  HasRoute slabs epoch number answer = Has slabs.routes.places epoch number answer

  -- the i-th entry names its own group, which has the number of the answer at this place
  pub record NamesGroup (slabs : Slabs A) (epoch i entry k : ℕ) (answer : Option Route) : Type 0 where
    pub group : Group
    pub named : Has slabs.groups.places epoch (entry - 2 ^ 31) group
    pub own : group.owner ≡ i
    pub number : HasRoute slabs epoch (get_or group.numbers k 0) answer

  -- the i-th entry leads to the answer at this place: it is the answer's number, or it names a group
  pub record Leads (slabs : Slabs A) (epoch i entry k : ℕ) (answer : Option Route) : Type 0 where
    pub short : entry < 2 ^ 31 → HasRoute slabs epoch entry answer
    pub long : 2 ^ 31 ≤ entry → NamesGroup slabs epoch i entry k answer

  -- the entry leads to the table's answer to each of the 256 addresses whose first 24 bits are i
  abbrev pub IsEntry : List Route → Slabs A → ℕ → ℕ → ℕ → Type 0
  IsEntry table slabs epoch i entry =
      (k : ℕ) → k < 256 → Leads slabs epoch i entry k (look_up (at (i * 256 + k)) table)

  -- these are the `count` entries from the entry `first` on
  pub record AreFrom (first : ℕ) (entries : List ℕ) (slabs : Slabs A) (epoch : ℕ) (table : List Route) (count : ℕ) : Type 0 where
    pub size : length entries ≡ count
    pub each : (i : ℕ) → i < count → IsEntry table slabs epoch (first + i) (get_or entries i 0)

  -- the entries lead each address to the table's answer, and the first `marked` of them to what is in use in the next epoch too
  pub record AreMarked (entries : List ℕ) (slabs : Slabs A) (epoch marked : ℕ) (table : List Route) : Type 0 where
    pub size : length entries ≡ 2 ^ 24
    pub within : marked ≤ 2 ^ 24
    pub coded : IsCoded slabs
    pub each : (t i : ℕ) → i < 2 ^ 24 → IsSince epoch marked i t → IsEntry table slabs t i (get_or entries i 0)

  -- `next` leads to every answer to which `entry` led, in use in the next epoch too
  abbrev pub LeadsOn : Slabs A → Slabs A → ℕ → ℕ → ℕ → Type 0
  LeadsOn old new epoch entry next =
      (i k : ℕ) (answer : Option Route) → k < 256 → Leads old epoch i entry k answer → Leads new (epoch + 1) i next k answer

  -- each address from this number to the piece's end has the answer of the piece's number
  pub record IsNumberedFrom (table : List Route) (slabs : Slabs A) (epoch from : ℕ) (piece : Piece) : Type 0 where
    pub short : piece.number < 2 ^ 31
    pub each : (n : ℕ) → from ≤ n → n < piece.end → HasRoute slabs epoch piece.number (look_up (at n) table)

  -- the first `count` numbers are those of the table's answers to the addresses from `first` on
  abbrev pub AreNumbers : List Route → List ℕ → Slabs A → ℕ → ℕ → ℕ → Type 0
  AreNumbers table numbers slabs epoch first count =
      (k : ℕ) → k < count → HasRoute slabs epoch (get_or numbers k 0) (look_up (at (first + k)) table)

module _ {A B : Type 0} where
  -- the table leads each address to the answer of the table that it follows
  abbrev pub IsForwarding : Dir24_8 A B → Type 0
  IsForwarding dir = AreMarked dir.tbl24.items dir.slabs dir.epoch.number dir.marked dir.table.value.routes

  -- the filling goes on from this address by its piece
  abbrev pub IsFrom : Filling B → Slabs A → ℕ → Type 0
  IsFrom filling slabs from = IsNumberedFrom filling.table slabs (filling.epoch.number + 1) from filling.piece

  -- the filling goes on by the same table and epoch, and what it filled is logged
  pub record GoesOn (old new : Filling B) (slabs more : Slabs A) : Type 0 where
    pub table : new.table ≡ old.table
    pub epoch : new.epoch.number ≡ old.epoch.number
    pub fills : FillsBoth old.epoch.number slabs more
