-- Places that are filled and marked, and what then stays in use.
use Rattle.std.proofs.Common.{◌≡◌, ◌≢◌, ℕ, ◌+◌, ◌<◌, ◌≤◌, List, [], ◌∷◌, ◌++◌, length, take, drop, add-one, get_or, get_or-set_other, get_or-take, sym, inl, inr, arith}
use Rattle.std.proofs.Math.ListN.{set}
use Rattle.std.proofs.lemmas.Grind.{common_steps}
use Rattle.std.proofs.lemmas.List.{length-set, length-take, set_split, get_or_default}
use Rattle.std.proofs.lemmas.List.Elements.{Contains-append_left, Contains-push, Contains-push_cases}
use Rattle.std.proofs.lemmas.Bool.{cases_eq}
use Rattle.rt_fib.specs.declared.slabs.Slabs.{Slabs}
use Rattle.rt_fib.specs.inside.Slab.{with_value, begun, AreCleared, Fills, Has, IsBack, Keeps, Places, SlabState, Stays}
use Rattle.rt_fib.specs.inside.Entries.{AreBack, FillsBoth, KeepsBoth, SamePlaces}

-- what holds of each number of a list, once one is set
pub each_set : (P : ℕ → ℕ → Type 0) (xs : List ℕ) (i x : ℕ) → i < length xs → P i x → ((j : ℕ) → j ≢ i → P j (get_or xs j 0))
    → (j : ℕ) → P j (get_or (set xs i x) j 0)
each_set P xs i x within here others j = grind (arith, common_steps)

module _ {T : Type 0} where
  -- a value that is put into a place of the list
  pub value_set : (values : List T) (n : ℕ) (value : T) → n < length values → with_value values n value ≡ set values n value
  value_set values n value below =
      let split : set values n value ≡ take n values ++ value ∷ drop (n + 1) values = rw add-one (set_split values n value below) in
      sym split

  -- and one that is put at its end
  pub value_pushed : (values : List T) (n : ℕ) (value : T) → n ≡ length values → with_value values n value ≡ values ++ value ∷ []
  value_pushed values n value is = grind (arith, common_steps)

  -- what is in use since a later epoch is so since an earlier one
  pub weaker : (places : Places T) (s t n : ℕ) (value : T) → s ≤ t → Has places t n value → Has places s n value
  weaker places s t n value before has = record { within = has.within; used = omega (arith, before, has.used); there = has.there }

  pub keeps_same : (epoch : ℕ) (xs : Places T) → Keeps epoch xs xs
  keeps_same epoch xs = record { each = λ t n value lo has. has }

  pub keeps_twice : (epoch : ℕ) (xs ys zs : Places T) → Keeps epoch xs ys → Keeps epoch ys zs → Keeps epoch xs zs
  keeps_twice epoch xs ys zs first then = record { each = λ t n value lo has. then.each t n value lo (first.each t n value lo has) }

  pub fills_twice : (epoch : ℕ) (xs ys zs : SlabState T) → Fills epoch xs ys → Fills epoch ys zs → Fills epoch xs zs
  fills_twice epoch xs ys zs first then = grind arith

  -- what is filled is kept
  pub fills_kept : (epoch : ℕ) (old new : SlabState T) → Fills epoch old new → Keeps epoch old.places new.places
  fills_kept epoch old new fills = grind arith

  -- places that stay, and perhaps more of them
  stays_fill : (epoch : ℕ) (old : SlabState T) (places : Places T) → length old.places.values ≤ length places.values
      → ((n : ℕ) → n < length old.places.values → Stays epoch old.places places n)
      → Fills epoch old (record { places = places; undo_log = old.undo_log })
  stays_fill epoch old places longer stays = grind arith

  -- nothing changed
  pub fills_same : (epoch : ℕ) (xs : SlabState T) → Fills epoch xs xs
  fills_same epoch xs = grind arith

  -- a place in use that is marked
  pub mark_fills : (epoch n next : ℕ) (old : SlabState T) → n < length old.places.epochs → epoch ≤ get_or old.places.epochs n 0
      → get_or old.places.epochs n 0 ≤ next
      → Fills epoch old (record { places = record { values = old.places.values; epochs = set old.places.epochs n next }; undo_log = old.undo_log })
  mark_fills epoch n next old within used low = grind (arith, common_steps)

  -- a value at the end of the list
  pub append_fills : (epoch next : ℕ) (old : SlabState T) (value : T) → length old.places.epochs ≡ length old.places.values
      → Fills epoch old (record { places = record { values = old.places.values ++ value ∷ []; epochs = old.places.epochs ++ next ∷ [] }; undo_log = old.undo_log })
  append_fills epoch next old value size = grind (arith, common_steps)

  -- a free place that is filled
  pub filled_fills : (epoch n next : ℕ) (old : SlabState T) (value : T) → get_or old.places.epochs n 0 < epoch
      → Fills epoch old (record { places = record { values = set old.places.values n value; epochs = set old.places.epochs n next }; undo_log = old.undo_log ++ n ∷ [] })
  filled_fills epoch n next old value unused = record {
    longer = omega (arith, length-set old.places.values n value);
    each = λ m below. elim (cases_eq m n) [
      | inl same ↦ inr (rw same (Contains-push old.undo_log n), rw same unused)
      | inr other ↦
          let is = get_or-set_other old.places.epochs n m next 0 other in
          inl (record { value = λ d. get_or-set_other old.places.values n m value d other; used = omega (arith, is); free = λ free. omega (arith, is, free) })
    ];
    logged = λ m. Contains-append_left old.undo_log (n ∷ []) m;
    gained = λ m below filled. elim (Contains-push_cases old.undo_log n m filled) [
      | inl before ↦ inl before
      | inr same ↦ inr (rw same at unused)
    ];
  }

  -- a refused change is rolled back
  pub back_again : (epoch count : ℕ) (start : Places T) (new : SlabState T) (epochs : List ℕ) → count ≡ length start.values
      → Fills epoch (begun start) new → AreCleared new.places.epochs epochs new.undo_log (length new.undo_log)
      → IsBack epoch start (record { values = take count new.places.values; epochs = take count epochs })
  back_again epoch count start new epochs size fills are = grind (arith, get_or-take, length-take, get_or_default, fills_kept)

module _ {A : Type 0} where
  -- the same of both slabs
  pub same_keep : (epoch : ℕ) (old new : Slabs A) → SamePlaces old new → KeepsBoth epoch old new
  same_keep epoch old new same = grind arith

  pub both_fill_same : (epoch : ℕ) (xs : Slabs A) → FillsBoth epoch xs xs
  both_fill_same epoch xs = record { groups = fills_same epoch xs.groups; routes = fills_same epoch xs.routes; codes = λ coded. coded }

  pub both_fill_twice : (epoch : ℕ) (xs ys zs : Slabs A) → FillsBoth epoch xs ys → FillsBoth epoch ys zs → FillsBoth epoch xs zs
  both_fill_twice epoch xs ys zs first then = grind arith

  -- what fills only the routes, and none with another answer
  pub routes_fill : (epoch : ℕ) (old new : Slabs A) → new.groups ≡ old.groups → new.codes.items ≡ old.codes.items
      → Fills epoch old.routes new.routes → new.routes.places.values ≡ old.routes.places.values → FillsBoth epoch old new
  routes_fill epoch old new groups codes fills values = grind arith

  pub fills_keep : (epoch : ℕ) (old new : Slabs A) → FillsBoth epoch old new → KeepsBoth epoch old new
  fills_keep epoch old new fills = grind arith

  -- a change that was rolled back kept all in use
  pub back_keep : (epoch : ℕ) (start new : Slabs A) → AreBack epoch start new → KeepsBoth epoch start new
  back_keep epoch start new back = record { groups = back.groups.keeps; routes = back.routes.keeps; codes = back.codes }
