-- A list whose front is filled, one place after another, with the routes of another.
use Rattle.std.proofs.Common.{◌≡◌, ℕ, suc, ◌<◌, ◌≤◌, List, [], ◌∷◌, ◌++◌, length, map, take, drop, set, get_or, inl, inr, ap, sym, ◌∙◌, arith}
use Rattle.std.proofs.Common.{append_assoc}
use Rattle.std.proofs.Math.Seq.{drop-cons, take-suc, set-append_seam}
use Rattle.std.proofs.lemmas.Bool.{cases_lt}
use Rattle.std.proofs.lemmas.List.{take_all, drop_all, length-take-le, map-append, length-map, length-drop}
use Rattle.rt_rib.specs.declared.routes.Route.{Route}
use Rattle.yarib_c.specs.declared.routes.YaribRoute.{YaribRoute}
use Rattle.yarib_c.specs.Forms.{route_as}
use Rattle.yarib_c.specs.Lists.{PutsRoutes}

-- the first `used` elements of the list were replaced by the first routes
pub record IsFilled (all : List Route) (old new : List YaribRoute) (used : ℕ) : Type 0 where
  pub within : used ≤ length old
  pub short : used ≤ length all
  pub shown : new ≡ map route_as (take used all) ++ drop used old

-- two lists that are one have one first element and one rest
head-is : {X : Type 0} (x y : X) (xs ys : List X) → x ∷ xs ≡ y ∷ ys → x ≡ y
head-is x y xs ys e = cc

tail-is : {X : Type 0} (x y : X) (xs ys : List X) → x ∷ xs ≡ y ∷ ys → xs ≡ ys
tail-is x y xs ys e = cc

nothing-left : {X : Type 0} (x : X) (xs ys : List X) → ys ≡ [] → ys ≡ x ∷ xs → ⊥
nothing-left x xs ys e f = cc

module _ (all : List Route) (old new : List YaribRoute) (used : ℕ) (h : IsFilled all old new used) where
  -- one more
  filled_more : (r : Route) (rest : List Route) → used < length old → drop used all ≡ r ∷ rest
      → IsFilled all old (set new used (route_as r)) (suc used) × (drop (suc used) all ≡ rest)
  filled_more r rest room e =
      let l : used < length all = elim (cases_lt used (length all)) [
        | inl less ↦ less
        | inr past ↦ absurd (nothing-left r rest (drop used all) (drop_all used all past) e)
      ] in
      let parts = sym (drop-cons all used r l) ∙ e in
      let front = map route_as (take used all) in
      let behind = drop (suc used) old in
      let size : length front ≡ used = length-map (take used all) route_as ∙ length-take-le used all h.short in
      let made : map route_as (take (suc used) all) ≡ front ++ route_as r ∷ [] =
      ap (map route_as) (take-suc all used r l) ∙ map-append route_as (take used all) (get_or all used r ∷ [])
      ∙ ap (λ x. front ++ route_as x ∷ []) (head-is (get_or all used r) r (drop (suc used) all) rest parts) in
      let here = get_or old used (route_as r) in (
        record {
          within = omega arith;
          short = omega arith;
          shown =
              ap (λ l. set l used (route_as r)) (h.shown ∙ ap (λ l. front ++ l) (drop-cons old used (route_as r) room))
              ∙ ap (λ k. set (front ++ here ∷ behind) k (route_as r)) (sym size)
              ∙ set-append_seam front here behind (route_as r) ∙ sym (append_assoc front (route_as r ∷ []) behind)
              ∙ ap (λ l. l ++ behind) (sym made);
        },
        tail-is (get_or all used r) r (drop (suc used) all) rest parts,
      )

  -- one more, of a route as C has it
  pub filled_next : (r : Route) (rest : List Route) (n : ℕ) (x : YaribRoute) → used < length old → drop used all ≡ r ∷ rest → n ≡ suc used
      → x ≡ route_as r → IsFilled all old (set new used x) n × (drop n all ≡ rest)
  filled_next r rest n x room e more made = rw (more, made) (filled_more r rest room e)

  -- all that there are
  pub filled_all : drop used all ≡ [] → PutsRoutes all old new used
  filled_all e =
      let left = length-drop used all in
      let n : used ≡ length all = omega (arith, h.short, sym left ∙ ap length e) in
      let whole : take (length old) all ≡ all = take_all (length old) all (omega (arith, h.within)) in
      let same : take used all ≡ all = take_all used all (omega arith) in
      record { counted = n ∙ ap length (sym whole); put = h.shown ∙ ap (λ l. map route_as l ++ drop used old) (same ∙ sym whole) }

  -- as many as there is room for
  pub filled_up : length old ≤ used → PutsRoutes all old new used
  filled_up full =
      let n : length old ≡ used = omega (arith, h.within) in
      record {
        counted = sym (ap (λ k. length (take k all)) n ∙ length-take-le used all h.short);
        put = h.shown ∙ ap (λ k. map route_as (take k all) ++ drop used old) (sym n);
      }
