-- The feed that owes a ring is another than the one that may be asleep.
use Rattle.std.proofs.Common.{◌≡◌, ◌≢◌, ℕ, sym, refl, ap, ◌∙◌}
use mathlib.Core.Option.{some, some-injective}
use lib.ListN.{get_elem?}
use Rattle.ya_core.specs.declared.process.Process.{Process}
use Rattle.ya_lock.specs.declared.rule.View.{View}
use Rattle.ya_lock.specs.declared.rule.View.TheVariants.{Unused, Making, Filling, HandingOut, Seated, Watching, Owes, Joining, Spent}
use Rattle.ya_lock.specs.Rule.{OwesRing, IsOwedRing}
use Rattle.ya_lock.specs.LockState.{OneSeatAPlace}
use Rattle.rt_shared.specs.declared.lent.Lent.{Lent}
use Rattle.rt_shared.specs.Moments.{Moment}
use Rattle.rt_shared.specs.WakeUps.{MayBeAsleep, OwesRingTo}

-- a seat that owes a ring has such a view
in_debt : (view : View Lent) (rival : ℕ) → OwesRing view rival
    → (place : ℕ) × ((process : Process) × ((seen : Lent) × ((count : ℕ) × (view ≡ Owes place process seen count rival))))
in_debt (Owes place process seen count other) rival owes =
    (place, (process, (seen, (count, ap (λ (r : ℕ). Owes place process seen count r) owes))))
in_debt Unused rival owes = absurd owes
in_debt Making rival owes = absurd owes
in_debt Filling rival owes = absurd owes
in_debt (HandingOut first given) rival owes = absurd owes
in_debt (Seated place process seen count) rival owes = absurd owes
in_debt (Watching place process seen count) rival owes = absurd owes
in_debt (Joining place found other seen count) rival owes = absurd owes
in_debt Spent rival owes = absurd owes

pub owed_by_another : (s : Moment) (place : ℕ) (process : Process) → OneSeatAPlace s → MayBeAsleep s place process
    → IsOwedRing s.views place → (other : ℕ) × (other ≢ place) × OwesRingTo s other place
owed_by_another s place process one asleep owed =
    let debt = in_debt owed.1.0 place owed.1.2 in
    let owing : View Lent = Owes debt.0 debt.1.0 debt.1.1.0 debt.1.1.1.0 place in
    let at : get_elem? s.views owed.0 ≡ some owing = owed.1.1 ∙ ap some debt.1.1.1.1 in
    let sleeping : View Lent = Watching place process asleep.1.0 asleep.1.1.0 in (
      debt.0,
      λ same.
          let seat = one asleep.0 owed.0 place process debt.1.0 asleep.1.0 debt.1.1.0 (sleeping, asleep.1.1.1, (refl, refl, refl))
          (owing, at, (same, refl, refl)) in
          let clash = some-injective sleeping owing
          (sym asleep.1.1.1 ∙ (ap (λ (k : ℕ). get_elem? s.views k) seat ∙ at)) in cc,
      (owed.0, (debt.1.0, (debt.1.1.0, (debt.1.1.1.0, at)))),
    )
