-- Kinds of phases, and the inclusions between them.
use Rattle.std.proofs.Common.{◌≡◌, ℕ, ◌||◌, not, Bool, true, false, refl, ap, IsTrue}
use Rattle.ya_core.specs.declared.process.EntryPoint.{EntryPoint}
use Rattle.ya_core.specs.Soundness.{Phase, Away, Named, Announced, Waiting, Holding, Releasing, LettingIn, claims, has_announced}
use Rattle.ya_core.specs.Soundness.{waits, holds, awaits_wake, saw_itself_last, was_woken, awaits_release, wakes_next}
use Rattle.ya_core.specs.Soundness.{is_to_let_in}
use Rattle.ya_core.proofs.Cases.{each_point}

-- if this phase has the first kind, it has the second
abbrev pub Also : (kind other : Phase → Bool) → Phase → Type 0
Also kind other x = IsTrue (other x || not (kind x))

-- one kind includes another if it does so at each of the seven phases
pub by_phases : (kind other : Phase → Bool) → Also kind other Away → Also kind other Named → Also kind other Announced
    → ((point : EntryPoint) → Also kind other (Waiting point)) → Also kind other Holding
    → Also kind other Releasing → ((rival : ℕ) → Also kind other (LettingIn rival)) → (x : Phase) → IsTrue (kind x)
    → IsTrue (other x)
by_phases kind other away named announced waiting holding releasing letting x = has (kind x) (other x) (at x)
  where
    at : (x : Phase) → Also kind other x
    at Away = away
    at Named = named
    at Announced = announced
    at (Waiting point) = waiting point
    at Holding = holding
    at Releasing = releasing
    at (LettingIn rival) = letting rival

    has : (a b : Bool) → IsTrue (b || not a) → IsTrue a → IsTrue b
    has a true both h = refl
    has true false both h = absurd cc
    has false false both h = absurd cc

-- a phase that is past claims
pub claims_announced : (x : Phase) → IsTrue (has_announced x) → IsTrue (claims x)
claims_announced = by_phases has_announced claims refl refl refl (λ point. refl) refl refl (λ rival. refl)

-- a phase that holds is past, and so claims
pub announced_holds : (x : Phase) → IsTrue (holds x) → IsTrue (has_announced x)
announced_holds = by_phases holds has_announced refl refl refl (λ point. refl) refl refl (λ rival. refl)

pub claims_holds : (x : Phase) → IsTrue (holds x) → IsTrue (claims x)
claims_holds x h = claims_announced x (announced_holds x h)

-- a phase that waits is past
pub announced_waits : (x : Phase) → IsTrue (waits x) → IsTrue (has_announced x)
announced_waits = by_phases waits has_announced refl refl refl (λ point. refl) refl refl (λ rival. refl)

-- it takes part at the node
abbrev pub competes : Phase → Bool
competes Away = false
competes _ = true

-- so does a phase of any kind that excludes `Away`
competes_of : (kind : Phase → Bool) → kind Away ≡ false → (x : Phase) → IsTrue (kind x) → IsTrue (competes x)
competes_of kind none =
    by_phases kind competes (ap not none) refl refl (λ point. refl) refl refl (λ rival. refl)

pub competes_claims : (x : Phase) → IsTrue (claims x) → IsTrue (competes x)
competes_claims = competes_of claims refl

pub competes_unwoken : (turn p : ℕ) (x : Phase) → IsTrue (claims x || is_to_let_in turn p x) → IsTrue (competes x)
competes_unwoken turn p = competes_of (λ x. claims x || is_to_let_in turn p x) refl

pub competes_unreleased : (turn p : ℕ) (x : Phase) → IsTrue (has_announced x || is_to_let_in turn p x)
    → IsTrue (competes x)
competes_unreleased turn p = competes_of (λ x. has_announced x || is_to_let_in turn p x) refl

pub competes_wakes_next : (p : ℕ) (x : Phase) → IsTrue (wakes_next p x) → IsTrue (competes x)
competes_wakes_next p = competes_of (wakes_next p) refl

-- a phase that awaits the 1 waits; so does one that saw itself last or was woken
pub waits_awaits_wake : (x : Phase) → IsTrue (awaits_wake x) → IsTrue (waits x)
waits_awaits_wake = by_phases awaits_wake waits refl refl refl (λ point. refl) refl refl (λ rival. refl)

pub waits_saw_itself_last : (x : Phase) → IsTrue (saw_itself_last x) → IsTrue (waits x)
waits_saw_itself_last = by_phases saw_itself_last waits refl refl refl (λ point. refl) refl refl (λ rival. refl)

pub waits_was_woken : (x : Phase) → IsTrue (was_woken x) → IsTrue (waits x)
waits_was_woken = by_phases was_woken waits refl refl refl (λ point. refl) refl refl (λ rival. refl)

-- a phase that awaits the 2 was woken, and so waits
pub was_woken_awaits_release : (x : Phase) → IsTrue (awaits_release x) → IsTrue (was_woken x)
was_woken_awaits_release =
    by_phases awaits_release was_woken refl refl refl
    (each_point (λ point. Also awaits_release was_woken (Waiting point)) refl refl refl refl (λ rival. refl)
    (λ rival. refl) (λ rival. refl) refl refl refl) refl refl (λ rival. refl)

pub waits_awaits_release : (x : Phase) → IsTrue (awaits_release x) → IsTrue (waits x)
waits_awaits_release x h = waits_was_woken x (was_woken_awaits_release x h)
