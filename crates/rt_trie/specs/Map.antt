-- A finite map from prefixes, as the list of its pairs ordered by base and then by length.
use Rattle.std.specs.Prelude.{◌≡◌, ℕ, ◌<◌, ◌≤◌, nat_lt, Bool, false, ◌==◌, ◌&&◌, ◌||◌, if◌then◌else◌, IsTrue}
use Rattle.std.specs.Prelude.{length, slice_index_or, filter, List, [], ◌∷◌, Option, Some, None, IsSome, All, Contains}
use Rattle.std.specs.Borrow.{Bor}
use Rattle.rt_cidr.specs.declared.address.Addr.{Addr}
use Rattle.rt_cidr.specs.declared.prefixes.Prefix.{Prefix}
use Rattle.rt_cidr.specs.Prefix.{covers, contains}
pub use Rattle.rt_cidr.specs.Prefix.{same_prefix}

-- pairs of a prefix and a value
abbrev pub Pairs : Type 0 → Type 0
Pairs V = List (Prefix × V)

-- p comes before q: by base, then by length
abbrev pub before : Prefix → Prefix → Bool
before p q = nat_lt p.base q.base || p.base == q.base && nat_lt p.len q.len

-- p comes before every prefix of the list
abbrev pub IsBeforeAll : {V : Type 0} → Prefix → Pairs V → Type 0
IsBeforeAll p [] = Unit {0}
IsBeforeAll p ((q, v) ∷ rest) = IsTrue (before p q) × IsBeforeAll p rest

-- each prefix comes before all that follow it, so no prefix is stored twice
abbrev pub IsOrdered : {V : Type 0} → Pairs V → Type 0
IsOrdered [] = Unit {0}
IsOrdered ((p, v) ∷ rest) = IsBeforeAll p rest × IsOrdered rest

-- the value at p
abbrev pub get : {V : Type 0} → Pairs V → Prefix → Option V
get [] p = None
get ((q, v) ∷ rest) p = if same_prefix q p then Some v else get rest p

-- p has a value
abbrev pub IsStored : {V : Type 0} → Pairs V → Prefix → Type 0
IsStored m p = IsSome (get m p)

-- the map with v at p, replacing the old value if there is one
abbrev pub put : {V : Type 0} → Pairs V → Prefix → V → Pairs V
put [] p v = (p, v) ∷ []
put ((q, w) ∷ rest) p v =
    if before p q then (p, v) ∷ ((q, w) ∷ rest) else (if same_prefix q p then (q, v) ∷ rest else (q, w) ∷ put rest p v)

-- the map without p
abbrev pub erase : {V : Type 0} → Pairs V → Prefix → Pairs V
erase [] p = []
erase ((q, v) ∷ rest) p = if same_prefix q p then rest else (q, v) ∷ erase rest p

-- the lowest prefix
abbrev pub first : {V : Type 0} → Pairs V → Option Prefix
first [] = None
first ((p, v) ∷ rest) = Some p

-- the lowest prefix that comes after p
abbrev pub next_after : {V : Type 0} → Pairs V → Prefix → Option Prefix
next_after [] p = None
next_after ((q, v) ∷ rest) p = if before p q then Some q else next_after rest p

-- the pair with the value that the reference points to
abbrev pub pair_copied : {V : Type 0} → Option (Prefix × Bor V) → Option (Prefix × V)
pair_copied None = None
pair_copied (Some x) = Some (x.0, x.1.now)

-- the longest pair that covers the address, or None if no pair covers it (RFC 1812, section 5.2.4.3, Longest Match)
abbrev pub IsLongest : {V : Type 0} → Pairs V → Addr → Option (Prefix × V) → Type 0
IsLongest m a None = All (λ y. covers y.0 a ≡ false) m
IsLongest m a (Some x) =
    Contains m x × IsTrue (covers x.0 a) × All (λ y. IsTrue (covers y.0 a) → y.0.len ≤ x.0.len) m

-- the pairs whose prefix covers the address (RFC 1812, section 5.2.4.3, Basic Match), in the order of the list: the
-- shortest first
abbrev pub covering : {V : Type 0} → Pairs V → Addr → Pairs V
covering m a = filter (λ x. covers x.0 a) m

-- the pairs of p and of the longer prefixes in it, in the order of the list
abbrev pub within : {V : Type 0} → Pairs V → Prefix → Pairs V
within m p = filter (λ x. contains p x.0) m

-- the pairs of p and of the shorter prefixes that contain p, in the order of the list: the shortest first
abbrev pub containing : {V : Type 0} → Pairs V → Prefix → Pairs V
containing m p = filter (λ x. contains x.0 p) m

-- the address at an index
abbrev pub address_at : List Addr → ℕ → Addr
address_at addresses k = slice_index_or addresses k (record { 0 = 0 })

-- the answer at an index
abbrev pub answer_at : {V : Type 0} → List (Option (Prefix × Bor V)) → ℕ → Option (Prefix × V)
answer_at answers k = pair_copied (slice_index_or answers k None)

-- each answer is the longest match of the address at its index
abbrev pub AreLongest : {V : Type 0} → Pairs V → List Addr → List (Option (Prefix × Bor V)) → Type 0
AreLongest m addresses answers =
    (k : ℕ) → k < length addresses → IsLongest m (address_at addresses k) (answer_at answers k)
