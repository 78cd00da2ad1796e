-- The effect of a step on the only slot of a lock.
use Rattle.std.proofs.Common.{◌≡◌, ℕ, zero, suc, List, [], ◌∷◌, length, set, sym, refl, ap, ◌∙◌, subst, arith, ◌⊎◌, inl, inr}
use Rattle.std.proofs.Common.{Some, None}
use Rattle.std.specs.Prelude as std
use mathlib.Core.Option.{Option, none, some, some-injective, some-ne-none}
use lib.ListN.{get_elem?}
use Rattle.atomic_table.specs.Table.{Act, keeps, takes, gives, chain, Valid, carried_after, homes_after}
use Rattle.atomic_table.proofs.Lists.{set_again}
use Rattle.ya_lock.specs.Rule.{Slots}
use Rattle.ya_lock.specs.StepKinds.{HasSlot}

-- the second of two sets counts
set_twice : {A : Type 0} (l : List A) (i : ℕ) (a b : A) → set (set l i a) i b ≡ set l i b
set_twice [] i a b = refl
set_twice (x ∷ xs) zero a b = refl
set_twice (x ∷ xs) (suc i) a b = ap (λ l. x ∷ l) (set_twice xs i a b)

-- the slots that are at home
abbrev pub Homes : Type 0 → Type 0
Homes V = List (Option (std.Option V))

module _ {V : Type 0} where
  -- the contents of the first slot
  first_home : Homes V → Option (std.Option V)
  first_home [] = none
  first_home (h ∷ hs) = h

  -- a slot that is home has one value
  pub home_is : (a b : V) → ◌≡◌ {A = Homes V} (some (Some a) ∷ []) (some (Some b) ∷ []) → a ≡ b
  unfolding first_home
  home_is a b e = let inner : Some a ≡ Some b = some-injective (Some a) (Some b) (ap first_home e) in cc

  -- a slot that is out has none
  pub home_not : (a : V) → ◌≡◌ {A = Homes V} (none ∷ []) (some (Some a) ∷ []) → ⊥
  unfolding first_home
  home_not a e = some-ne-none (Some a) (sym (ap first_home e))

  -- nor is an empty slot one with a value
  pub home_empty : (a : V) → ◌≡◌ {A = Homes V} (some None ∷ []) (some (Some a) ∷ []) → ⊥
  unfolding first_home
  home_empty a e = let inner : None ≡ Some a = some-injective None (Some a) (ap first_home e) in cc

  -- nor is an empty slot out
  pub empty_is_home : ◌≡◌ {A = Homes V} (none ∷ []) (some None ∷ []) → ⊥
  unfolding first_home
  empty_is_home e = some-ne-none None (sym (ap first_home e))

  -- all slots of a seat put back, the last taken first
  abbrev pub put_all : Homes V → Slots V → Homes V
  put_all homes [] = homes
  put_all homes (x ∷ xs) = put_all (set homes x.0 (some x.1)) xs

  -- any access of a seat keeps the result of putting all its slots back
  pub conserved : (act : Act (std.Option V)) (homes : Homes V) (slots : Slots V) → Valid homes slots act
      → put_all (homes_after homes slots act) (carried_after slots act) ≡ put_all homes slots
  conserved keeps homes slots valid = refl
  conserved (takes k y) homes slots valid =
      ap (λ (l : Homes V). put_all l slots) (set_twice homes k none (some y) ∙ set_again homes k (some y) valid)
  conserved gives homes [] valid = refl
  conserved gives homes (x ∷ xs) valid = refl
  conserved (chain a b) homes slots valid =
      conserved b (homes_after homes slots a) (carried_after slots a) valid.1 ∙ conserved a homes slots valid.0

  -- the only slot, with its contents, is out with the seat, or at home
  abbrev pub OneSlot : std.Option V → Homes V → Slots V → Type 0
  OneSlot held homes slots =
      ((homes ≡ none ∷ []) × (slots ≡ (0, held) ∷ [])) ⊎ ((homes ≡ some held ∷ []) × (slots ≡ []))

  -- a slot that is out can't be taken
  not_out : (k : ℕ) (y : std.Option V) → get_elem? {A = Option (std.Option V)} (none ∷ []) k ≡ some (some y) → ⊥
  not_out zero y e = some-ne-none y (sym (some-injective none (some y) e))
  not_out (suc k) y e = some-ne-none (some y) (sym e)

  -- the slot leaves home with its contents
  taken : (k : ℕ) (held y : std.Option V) → get_elem? {A = Option (std.Option V)} (some held ∷ []) k ≡ some (some y)
      → OneSlot held (set (some held ∷ []) k none) ((k, y) ∷ [])
  taken zero held y e =
      inl (
        refl,
        ap (λ (z : std.Option V). (0, z) ∷ [])
            (sym (some-injective held y (some-injective (some held) (some y) e))),
      )
  taken (suc k) held y e = absurd (some-ne-none (some y) (sym e))

  -- after any access of the seat it is still the only slot
  pub one_slot : (act : Act (std.Option V)) (held : std.Option V) (homes : Homes V) (slots : Slots V)
      → OneSlot held homes slots → Valid homes slots act
      → OneSlot held (homes_after homes slots act) (carried_after slots act)
  one_slot keeps held homes slots one valid = one
  one_slot (takes k y) held homes slots (inl out) valid =
      absurd (not_out k y (subst (λ (h : Homes V). get_elem? h k ≡ some (some y)) out.0 valid))
  one_slot (takes k y) held homes slots (inr at) valid =
      subst (λ (h : Homes V). OneSlot held (set h k none) ((k, y) ∷ slots)) (sym at.0)
      (subst (λ (c : Slots V). OneSlot held (set (some held ∷ []) k none) ((k, y) ∷ c)) (sym at.1)
      (taken k held y (subst (λ (h : Homes V). get_elem? h k ≡ some (some y)) at.0 valid)))
  one_slot gives held homes slots (inl out) valid =
      subst (λ (h : Homes V). OneSlot held (homes_after h slots gives) (carried_after slots gives)) (sym out.0)
      (subst (λ (c : Slots V). OneSlot held (homes_after (none ∷ []) c gives) (carried_after c gives)) (sym out.1)
      (inr (refl, refl)))
  one_slot gives held homes slots (inr at) valid =
      subst (λ (h : Homes V). OneSlot held (homes_after h slots gives) (carried_after slots gives)) (sym at.0)
      (subst (λ (c : Slots V). OneSlot held (homes_after (some held ∷ []) c gives) (carried_after c gives)) (sym at.1)
      (inr (refl, refl)))
  one_slot (chain a b) held homes slots one valid =
      one_slot b held (homes_after homes slots a) (carried_after slots a) (one_slot a held homes slots one valid.0) valid.1

  -- one slot is not none
  pub no_slot : (x : ℕ × std.Option V) (xs : Slots V) → ◌≡◌ {A = Slots V} [] (x ∷ xs) → ⊥
  no_slot x xs e = let n : ◌≡◌ {A = ℕ} 0 (suc (length xs)) = ap length e in omega (arith, n)

  -- a seat that has no slot afterwards and had one has given it home
  pub given : (act : Act (std.Option V)) (held : std.Option V) (homes : Homes V) (slots : Slots V) → HasSlot slots homes
      → Valid homes slots act → slots ≡ (0, held) ∷ [] → carried_after slots act ≡ []
      → homes_after homes slots act ≡ some held ∷ []
  given act held homes slots (inl nothing) valid is after = absurd (no_slot _ _ (sym nothing ∙ is))
  given act held homes slots (inr (other, has, out)) valid is after =
      by_case (one_slot act held homes slots (inl (out, is)) valid)
    where
      by_case : OneSlot held (homes_after homes slots act) (carried_after slots act)
          → homes_after homes slots act ≡ some held ∷ []
      by_case (inl still) = absurd (no_slot _ _ (sym after ∙ still.1))
      by_case (inr home) = home.0

  -- a seat that has the slot afterwards took it from home, or it was out before
  pub was_home : (act : Act (std.Option V)) (held : std.Option V) (homes : Homes V) (slots : Slots V)
      → HasSlot slots homes → Valid homes slots act → carried_after slots act ≡ (0, held) ∷ []
      → homes_after homes slots act ≡ none ∷ [] → (homes ≡ some held ∷ []) ⊎ (homes ≡ none ∷ [])
  was_home act held homes slots (inl nothing) valid after out =
      let all : put_all (homes_after homes slots act) (carried_after slots act) ≡ put_all homes slots =
      conserved act homes slots valid in
      let left : put_all homes slots ≡ homes = ap (λ (c : Slots V). put_all homes c) nothing in
      let back : put_all (homes_after homes slots act) (carried_after slots act) ≡ some held ∷ [] =
      (λ i. put_all (out i) (after i)) in
      inl (sym left ∙ (sym all ∙ back))
  was_home act held homes slots (inr (other, has, gone)) valid after out = inr gone

  -- a seat whose slots stay leaves the homes as they are
  pub same_homes : (act : Act (std.Option V)) (homes : Homes V) (slots : Slots V) → HasSlot slots homes
      → Valid homes slots act → carried_after slots act ≡ slots → homes_after homes slots act ≡ homes
  same_homes act homes slots (inl nothing) valid same =
      let all : put_all (homes_after homes slots act) (carried_after slots act) ≡ put_all homes slots =
      conserved act homes slots valid in
      let none_after : carried_after slots act ≡ [] = same ∙ nothing in
      let left : put_all (homes_after homes slots act) (carried_after slots act) ≡ homes_after homes slots act =
      ap (λ (c : Slots V). put_all (homes_after homes slots act) c) none_after in
      let right : put_all homes slots ≡ homes = ap (λ (c : Slots V). put_all homes c) nothing in
      sym left ∙ (all ∙ right)
  same_homes act homes slots (inr (held, has, out)) valid same =
      by_case (one_slot act held homes slots (inl (out, has)) valid)
    where
      by_case : OneSlot held (homes_after homes slots act) (carried_after slots act) → homes_after homes slots act ≡ homes
      by_case (inl still) = still.0 ∙ sym out
      by_case (inr home) = absurd (no_slot _ _ (sym home.1 ∙ (same ∙ has)))
