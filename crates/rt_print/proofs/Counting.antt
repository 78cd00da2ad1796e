-- Numbers of routes: those that are counted in one pass, by a number of each route; and their texts.
use Rattle.std.proofs.Common.{◌≡◌, ◌==◌, ℕ, ◌+◌, ◌<◌, ◌≤◌, List, length, get_or, set, take, replicate, nat_le, if◌then◌else◌, count_by, refl, arith, zero, suc, ◌∷◌, Bool, true, false, not, Bor, Option, None, Some}
use Rattle.std.proofs.lemmas.Grind.{get_or-set_at}
use Rattle.std.proofs.lemmas.Bool.{cases_eq}
use Rattle.std.proofs.lemmas.Bool.Decides.{nat_tests}
use Rattle.std.proofs.lemmas.List.{get_or-set_other, length-set, length-replicate, get_or-replicate}
use Rattle.std.proofs.lemmas.List.Sums.{count_by_more_yes, count_by_more_no}
use Rattle.rt_rib.specs.declared.routes.Route.{Route}
use Rattle.std.specs.List.{flat_map, range_with_len}
use Rattle.std.specs.Option.{option_map_or}
use Rattle.rt_cidr.specs.Prefix.{same_prefix}
use Rattle.rt_print.specs.Counts.{prefix_count}

-- the counts of the routes so far: one for each number up to the maximum, and none of them is above the number of routes
pub record AreCounts (number : Route → ℕ) (max i : ℕ) (routes : List Route) (counts : List ℕ) : Type 0 where
  pub sized : length counts ≡ max + 1
  pub counted : (k : ℕ) → k ≤ max → get_or counts k 0 ≡ count_by (λ r. number r == k) (take i routes)
  pub few : (k : ℕ) → k ≤ max → get_or counts k 0 ≤ i

pub no_counts : (number : Route → ℕ) (max : ℕ) (routes : List Route) → AreCounts number max 0 routes (replicate (max + 1) 0)
no_counts number max routes =
    let none = λ (k : ℕ) (low : k ≤ max). get_or-replicate (max + 1) k 0 0 (omega (arith, low)) in
    record { sized = length-replicate (max + 1) 0; counted = none; few = λ k low. omega (arith, none k low) }

-- one more route is counted at its number, unless that is above the maximum
pub one_counted : (number : Route → ℕ) (max i : ℕ) (routes : List Route) (route : Route) (counts : List ℕ) → AreCounts number max i routes counts
    → i < length routes → route ≡ get_or routes i route
    → (counts' : List ℕ) → counts' ≡ (if nat_le (number route) max then set counts (number route) (get_or counts (number route) 0 + 1) else counts)
    → AreCounts number max (i + 1) routes counts'
one_counted number max i routes route counts so_far here is counts' more = rw more (record {
  sized = grind (arith, length-set, so_far.sized);
  counted = λ k within. grind (arith, nat_tests, count_by_more_yes (λ r. number r == k) routes i route here, count_by_more_no (λ r. number r == k) routes i route here, is, get_or-set_at, get_or-set_other, so_far.counted k within, so_far.sized);
  few = λ k within. grind (arith, cases_eq k (number route), get_or-set_at, get_or-set_other, so_far.few, so_far.sized);
})

-- a route has one prefix more, unless its prefix is that of the route that was kept
pub prefix_more : (last : Option (Bor Route)) (route : Route) (rest : List Route) (new : Bool)
    → (last ≡ None → new ≡ true) → ((kept : Bor Route) → last ≡ Some kept → same_prefix route.prefix kept.now.prefix ≡ not new)
    → option_map_or (λ kept. prefix_count (kept.now ∷ route ∷ rest)) last (1 + prefix_count (route ∷ rest))
    ≡ (if new then 1 + prefix_count (route ∷ rest) else option_map_or (λ kept. prefix_count (kept.now ∷ rest)) last (1 + prefix_count rest))
prefix_more None route rest new first others = rw (first refl) refl
prefix_more (Some kept) route rest true first others = rw (others kept refl) (omega arith)
prefix_more (Some kept) route rest false first others = rw (others kept refl) refl

-- texts of the same numbers are the same
pub each_same : (f g : ℕ → List ℕ) (from count : ℕ) → ((n : ℕ) → n < from + count → f n ≡ g n)
    → flat_map f (range_with_len from count) ≡ flat_map g (range_with_len from count)
each_same f g from zero same = refl
each_same f g from (suc count) same = rw (same from (omega arith), each_same f g (from + 1) count (λ n below. same n (omega (arith, below))))
