-- What entries, pieces and numbers lead to, while places are filled and marked, and entries are renewed.
use Rattle.std.proofs.Common.{◌≡◌, ℕ, ◌+◌, ◌*◌, ◌-◌, ◌/◌, ◌%◌, ◌^◌, ◌<◌, ◌≤◌, ◌⊎◌, List, ◌++◌, length, take, drop, get_or, Option, subst, sym, refl, ◌∙◌, zero-add, inl, inr, arith}
use Rattle.std.proofs.Math.ListN.{set}
use Rattle.std.proofs.lemmas.Grind.{common_steps}
use Rattle.std.proofs.lemmas.List.{length-set}
use Rattle.std.proofs.lemmas.Bool.{cases_lt}
use Rattle.rt_cidr.specs.declared.prefixes.Prefix.{Prefix}
use Rattle.rt_rib.specs.declared.routes.Route.{Route}
use Rattle.rt_rib.specs.LookUp.{look_up}
use Rattle.rt_fib.specs.declared.filling.Filling.{Filling}
use Rattle.rt_fib.specs.declared.filling.Piece.{Piece}
use Rattle.rt_fib.specs.declared.slabs.Group.{Group}
use Rattle.rt_fib.specs.declared.slabs.Slabs.{Slabs}
use Rattle.rt_fib.specs.declared.bounds.Span.{Span}
use Rattle.rt_fib.specs.inside.Slab.{Has}
use Rattle.rt_fib.specs.inside.Entries.{at, AreFrom, AreMarked, AreNumbers, FillsBoth, GoesOn, HasRoute, IsEntry, IsCoded, IsNumberedFrom, IsSince, KeepsBoth, Leads, LeadsOn, NamesGroup}
use Rattle.rt_fib.specs.inside.Changes.{AreEntriesOf, ArePut, PreservesLookupsOutside}
use Rattle.rt_fib.proofs.Placing.{both_fill_same, each_set}

-- a slice that was lent whole
pub lent_whole : (old new : List ℕ) (n : ℕ) → n ≡ length old → length new ≡ length old → take n (new ++ drop (length new) old) ≡ new
lent_whole old new n size same = grind (arith, common_steps)

module _ {A : Type 0} where
  -- an address's entry leads to its answer
  pub entry_leads : (entries : List ℕ) (slabs : Slabs A) (epoch marked : ℕ) (table : List Route) (n entry : ℕ)
      → AreMarked entries slabs epoch marked table → n < 2 ^ 32 → entry ≡ get_or entries (n / 256) 0
      → Leads slabs epoch (n / 256) entry (n % 256) (look_up (at n) table)
  entry_leads entries slabs epoch marked table n entry are fits is =
      let whole : n / 256 * 256 + n % 256 ≡ n = omega arith in
      let since : IsSince epoch marked (n / 256) epoch = record { from = omega arith; upto = omega arith; unmarked = λ _. omega arith } in
      subst (λ (m : ℕ). Leads slabs epoch (n / 256) entry (n % 256) (look_up (at m) table)) whole
      (subst (λ (m : ℕ). Leads slabs epoch (n / 256) m (n % 256) (look_up (at (n / 256 * 256 + n % 256)) table)) (sym is)
      (are.each epoch (n / 256) (omega arith) since (n % 256) (omega arith)))

  -- what stands in the place that the entry names is its group
  pub group_read : (slabs : Slabs A) (epoch i entry k : ℕ) (answer : Option Route) (read : Group) → NamesGroup slabs epoch i entry k answer
      → read ≡ get_or slabs.groups.places.values (entry - 2 ^ 31) read
      → Has slabs.groups.places epoch (entry - 2 ^ 31) read × (read.owner ≡ i) × HasRoute slabs epoch (get_or read.numbers k 0) answer
  group_read slabs epoch i entry k answer read names is = grind arith

  -- an entry leads where it led, if the answers and its group stay
  pub leads_still : (old new : Slabs A) (s t i entry k : ℕ) (answer : Option Route)
      → ((n : ℕ) → HasRoute old s n answer → HasRoute new t n answer)
      → ((n : ℕ) (group : Group) → group.owner ≡ i → Has old.groups.places s n group → Has new.groups.places t n group)
      → Leads old s i entry k answer → Leads new t i entry k answer
  leads_still old new s t i entry k answer routes groups leads = record {
    short = λ short. routes entry (leads.short short);
    long = λ long.
        let names = leads.long long in
        record {
          group = names.group;
          named = groups (entry - 2 ^ 31) names.group names.own names.named;
          own = names.own;
          number = routes (get_or names.group.numbers k 0) names.number;
        };
  }

  pub leads_keeps : (old new : Slabs A) (epoch t i entry k : ℕ) (answer : Option Route)
      → KeepsBoth epoch old new → epoch ≤ t → Leads old t i entry k answer → Leads new t i entry k answer
  leads_keeps old new epoch t i entry k answer keeps lo =
      leads_still old new t t i entry k answer (λ n. keeps.routes.each t n answer lo) (λ n group _. keeps.groups.each t n group lo)

  -- to what is in use since an earlier epoch too
  pub leads_weaker : (slabs : Slabs A) (s t i entry k : ℕ) (answer : Option Route)
      → s ≤ t → Leads slabs t i entry k answer → Leads slabs s i entry k answer
  leads_weaker slabs s t i entry k answer before = grind arith

  -- an entry that names its group of the numbers
  pub group_entry : (table : List Route) (slabs : Slabs A) (epoch i j place : ℕ) (group : Group)
      → j ≡ i → group.owner ≡ i → Has slabs.groups.places epoch place group → AreNumbers table group.numbers slabs epoch (i * 256) 256
      → IsEntry table slabs epoch j (2 ^ 31 + place)
  group_entry table slabs epoch i j place group same own has are k within = grind arith

  -- an answer's number, which is marked
  pub whole_on : (old new : Slabs A) (epoch entry : ℕ) → entry < 2 ^ 31
      → ((answer : Option Route) → HasRoute old epoch entry answer → HasRoute new (epoch + 1) entry answer) → LeadsOn old new epoch entry entry
  whole_on old new epoch entry short marked i k answer within leads =
      record { short = λ _. marked answer (leads.short short); long = λ long. absurd (omega (arith, short, long)) }

  -- a group's number
  pub group_on : (old new : Slabs A) (epoch entry : ℕ) (read : Group)
      → 2 ^ 31 ≤ entry → read ≡ get_or old.groups.places.values (entry - 2 ^ 31) read
      → ((group : Group) → Has old.groups.places epoch (entry - 2 ^ 31) group → Has new.groups.places (epoch + 1) (entry - 2 ^ 31) group)
      → ((k : ℕ) (answer : Option Route) → k < 256 → HasRoute old epoch (get_or read.numbers k 0) answer
      → HasRoute new (epoch + 1) (get_or read.numbers k 0) answer)
      → LeadsOn old new epoch entry entry
  group_on old new epoch entry read long is marked on i k answer within leads =
      let was = group_read old epoch i entry k answer read (leads.long long) is in
      record {
        short = λ short. absurd (omega (arith, short, long));
        long = λ _. record { group = read; named = marked read was.0; own = was.1; number = on k answer within was.2 };
      }

  -- a piece is one from each later address too
  pub piece_later : (table : List Route) (slabs : Slabs A) (t from later : ℕ) (piece : Piece)
      → from ≤ later → IsNumberedFrom table slabs t from piece → IsNumberedFrom table slabs t later piece
  piece_later table slabs t from later piece onward is = record { short = is.short; each = λ n here there. is.each n (omega (arith, onward, here)) there }

  -- one more number in its place
  pub numbers_set : (table : List Route) (numbers : List ℕ) (old new : Slabs A) (epoch t first k number : ℕ)
      → KeepsBoth epoch old new → epoch ≤ t → k < length numbers → AreNumbers table numbers old t first k
      → HasRoute new t number (look_up (at (first + k)) table) → AreNumbers table (set numbers k number) new t first (k + 1)
  numbers_set table numbers old new epoch t first k number keeps lo within are one =
      each_set (λ j n. j < k + 1 → HasRoute new t n (look_up (at (first + j)) table)) numbers k number within (λ _. one)
      (λ j other below. keeps.routes.each t (get_or numbers j 0) (look_up (at (first + j)) table) lo (are j (omega (arith, below, other))))

  -- more entries, which are the same
  pub from_run : (first : ℕ) (entries longer : List ℕ) (old new : Slabs A) (table : List Route)
      → (epoch t count upto entry : ℕ) → KeepsBoth epoch old new → epoch ≤ t → AreFrom first entries old t table count → length longer ≡ upto
      → ((k d : ℕ) → k < upto → k < length entries → get_or longer k d ≡ get_or entries k d)
      → ((k d : ℕ) → length entries ≤ k → k < upto → get_or longer k d ≡ entry)
      → ((j : ℕ) → first + count ≤ j → j < first + upto → IsEntry table new t j entry) → AreFrom first longer new t table upto
  from_run first entries longer old new table epoch t count upto entry keeps lo are size same filled each = record {
    size = size;
    each = λ i here. elim (cases_lt i count) [
      | inl before ↦
          subst (λ (e : ℕ). IsEntry table new t (first + i) e) (sym (same i 0 here (omega (arith, are.size, before))))
          (λ k within. leads_keeps old new epoch t (first + i) (get_or entries i 0) k (look_up (at ((first + i) * 256 + k)) table) keeps lo
          (are.each i before k within))
      | inr behind ↦
          subst (λ (e : ℕ). IsEntry table new t (first + i) e) (sym (filled i 0 (omega (arith, are.size, behind)) here))
          (each (first + i) (omega (arith, behind)) (omega (arith, here)))
    ];
  }

  -- all of them, from the first on
  pub all_from : (entries : List ℕ) (slabs : Slabs A) (table : List Route)
      → IsCoded slabs → AreFrom 0 entries slabs 1 table (2 ^ 24) → AreMarked entries slabs 0 0 table
  all_from entries slabs table coded are = record {
    size = are.size;
    within = omega arith;
    coded = coded;
    each = λ t i here since k within. leads_weaker slabs t 1 i (get_or entries i 0) k (look_up (at (i * 256 + k)) table) (omega (arith, since.upto))
        (subst (λ (n : ℕ). Leads slabs 1 n (get_or entries i 0) k (look_up (at (n * 256 + k)) table)) (zero-add i) (are.each i here k within));
  }

  -- the same entries lead where they led
  pub all_keep : (entries : List ℕ) (old new : Slabs A) (epoch marked : ℕ) (table : List Route)
      → KeepsBoth epoch old new → AreMarked entries old epoch marked table → AreMarked entries new epoch marked table
  all_keep entries old new epoch marked table keeps are = grind (arith, leads_keeps)

  -- one more of them is marked
  pub marked_more : (entries : List ℕ) (old new : Slabs A) (epoch marked entry next : ℕ) (table : List Route)
      → KeepsBoth epoch old new → marked < 2 ^ 24 → entry ≡ get_or entries marked 0 → LeadsOn old new epoch entry next
      → AreMarked entries old epoch marked table → AreMarked (set entries marked next) new epoch (marked + 1) table
  marked_more entries old new epoch marked entry next table keeps below is on are =
      let kept = all_keep entries old new epoch marked table keeps are in
      let first : IsSince epoch marked marked epoch = record { from = omega arith; upto = omega arith; unmarked = λ _. omega arith } in
      record {
        size = length-set entries marked next ∙ are.size;
        within = omega (arith, below);
        coded = kept.coded;
        each = λ t. each_set (λ i e. i < 2 ^ 24 → IsSince epoch (marked + 1) i t → IsEntry table new t i e) entries marked next (omega (arith, below, are.size))
            (λ here since k within. leads_weaker new t (epoch + 1) marked next k (look_up (at (marked * 256 + k)) table) since.upto
            (on marked k (look_up (at (marked * 256 + k)) table) within
            (subst (λ (e : ℕ). Leads old epoch marked e k (look_up (at (marked * 256 + k)) table)) (sym is) (are.each epoch marked below first k within))))
            (λ i other here since.
            kept.each t i here (record { from = since.from; upto = since.upto; unmarked = λ after. since.unmarked (omega (arith, after, other)) }));
      }

module _ {A B : Type 0} where
  -- the filling, step by step
  pub goes_same : (f : Filling B) (xs : Slabs A) → GoesOn f f xs xs
  goes_same f xs = record { table = refl; epoch = refl; fills = both_fill_same f.epoch.number xs }

  pub goes_fills : (f g : Filling B) (xs ys zs : Slabs A) → GoesOn f g xs ys → FillsBoth g.epoch.number ys zs → GoesOn f g xs zs
  goes_fills f g xs ys zs goes fills = grind arith

  pub goes_twice : (f g h : Filling B) (xs ys zs : Slabs A) → GoesOn f g xs ys → GoesOn g h ys zs → GoesOn f h xs zs
  goes_twice f g h xs ys zs first then = grind arith

module _ {A : Type 0} (prefix : Prefix) (span : Span) (old new fresh : List ℕ) (slabs more : Slabs A) (epoch : ℕ) (table next : List Route) where
  -- the span's entries are those that were put
  entry_put : ArePut old new fresh span.first (length fresh) → AreFrom span.first fresh more (epoch + 1) next (span.end - span.first)
      → (i : ℕ) → span.first ≤ i → i < span.end → IsEntry next more (epoch + 1) i (get_or new i 0)
  entry_put put are i from below =
      let whole : span.first + (i - span.first) ≡ i = omega (arith, from) in
      let within : i - span.first < span.end - span.first = omega (arith, from, below) in
      let placed : get_or new (span.first + (i - span.first)) 0 ≡ get_or fresh (i - span.first) 0 =
      put.there (i - span.first) (omega (arith, are.size, within)) in
      subst (λ (n : ℕ). IsEntry next more (epoch + 1) n (get_or new n 0)) whole
      (subst (λ (m : ℕ). IsEntry next more (epoch + 1) (span.first + (i - span.first)) m) (sym placed) (are.each (i - span.first) within))

  -- all entries, once those of the prefix are renewed
  pub renewed_all : (marked : ℕ) → AreEntriesOf prefix span → AreMarked old slabs epoch marked table
      → KeepsBoth epoch slabs more → ArePut old new fresh span.first (length fresh)
      → AreFrom span.first fresh more (epoch + 1) next (span.end - span.first) → PreservesLookupsOutside prefix table next
      → AreMarked new more epoch marked next
  renewed_all marked of_prefix was keeps put are kept =
      let stays : (t i : ℕ) → i < 2 ^ 24 → IsSince epoch marked i t → (i < span.first) ⊎ (span.end ≤ i) → get_or new i 0 ≡ get_or old i 0
      → IsEntry next more t i (get_or new i 0) =
      λ t i here since out same k within.
      let lead = leads_keeps slabs more epoch t i (get_or old i 0) k (look_up (at (i * 256 + k)) table) keeps since.from (was.each t i here since k within) in
      let alike : look_up (at (i * 256 + k)) table ≡ look_up (at (i * 256 + k)) next = kept (at (i * 256 + k)) (of_prefix i k here within out) in
      subst (λ (e : ℕ). Leads more t i e k (look_up (at (i * 256 + k)) next)) (sym same)
      (subst (λ (a : Option Route). Leads more t i (get_or old i 0) k a) alike lead) in
      record {
        size = put.size ∙ was.size;
        within = was.within;
        coded = keeps.codes was.coded;
        each = λ t i here since. elim (cases_lt i span.first) [
          | inl before ↦ stays t i here since (inl before) (put.before i before)
          | inr from ↦ elim (cases_lt i span.end) [
            | inl below ↦ λ k within. leads_weaker more t (epoch + 1) i (get_or new i 0) k (look_up (at (i * 256 + k)) next) since.upto
                (entry_put put are i from below k within)
            | inr behind ↦ stays t i here since (inr behind) (put.behind i (omega (arith, are.size, behind, span.ordered)))
          ]
        ];
      }
