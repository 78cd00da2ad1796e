-- The next hops of a table as arrays of numbers. A look-up reads one number of the first array, and then perhaps one of the second.
use Rattle.std.specs.Prelude.{◌≡◌, ℕ, ◌+◌, ◌*◌, ◌/◌, ◌%◌, ◌^◌, ◌<◌, ◌⊎◌, List, length, get_or, Option, Some, None}
use Rattle.rt_cidr.specs.declared.address.Addr.{Addr}
use Rattle.rt_rib.specs.declared.routes.Hop.{Hop}
use Rattle.rt_rib.specs.declared.routes.Hop.TheVariants.{Via, Discard}
use Rattle.rt_rib.specs.declared.routes.Route.{Route}
use Rattle.rt_rib.specs.LookUp.{look_up}

-- the number denotes the next hop: 1 if packets are discarded, else a higher number, which is the router's index in the list
abbrev pub IsHopNumber : List ℕ → ℕ → Hop → Type 0
IsHopNumber routers number (Via a) = (1 < number) × (number < length routers) × (get_or routers number 0 ≡ a.0)
IsHopNumber routers number Discard = number ≡ 1

-- the number denotes the next hop of the answer, and 0 that there is no route
abbrev pub IsAnswerNumber : List ℕ → ℕ → Option Route → Type 0
IsAnswerNumber routers number None = number ≡ 0
IsAnswerNumber routers number (Some r) = IsHopNumber routers number r.hop

-- the entry is the number of the answer
pub record IsNumber (routers : List ℕ) (entry : ℕ) (answer : Option Route) : Type 0 where
  pub short : entry < 2 ^ 31
  pub number : IsAnswerNumber routers entry answer

-- the entry names a block of 256 numbers, and the k-th of them is the number of the answer
pub record IsBlock (blocks routers : List ℕ) (entry k : ℕ) (answer : Option Route) : Type 0 where
  pub block : ℕ
  pub long : entry ≡ 2 ^ 31 + block
  pub within : block * 256 + k < length blocks
  pub number : IsAnswerNumber routers (get_or blocks (block * 256 + k) 0) answer

-- the entry leads to the number of the answer
abbrev pub LeadsToNumber : List ℕ → List ℕ → ℕ → ℕ → Option Route → Type 0
LeadsToNumber blocks routers entry k answer = IsNumber routers entry answer ⊎ IsBlock blocks routers entry k answer

-- the entry of each address's first 24 bits leads to the number of the table's answer to the address
pub record ViewShows (entries blocks routers : List ℕ) (table : List Route) : Type 0 where
  pub size : length entries ≡ 2 ^ 24
  pub each : (addr : Addr) → addr.0 < 2 ^ 32
      → LeadsToNumber blocks routers (get_or entries (addr.0 / 256) 0) (addr.0 % 256) (look_up addr table)
