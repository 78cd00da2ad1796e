-- One level: each step that changes no word T or P keeps the owed words there.
use Rattle.std.proofs.Common.{◌≡◌, ◌≢◌, ℕ, ◌+◌, ◌-◌, ◌<◌, ◌==◌, ◌||◌, Bool, true, false, refl, arith, ap, sym, ◌∙◌}
use Rattle.std.proofs.Common.{subst, ◌⊎◌, inl, inr, IsTrue}
use Rattle.std.proofs.lemmas.Bool.Decides.{nat_tests}
use Rattle.ya_core.specs.declared.process.EntryPoint.{EntryPoint}
use Rattle.ya_core.specs.declared.process.EntryPoint.TheVariants.{E4, E5, E6, E7, E8, E9, E10}
use Rattle.ya_core.specs.ArbitrationTree.{Rivals}
use Rattle.ya_core.specs.Soundness.{Away, Named, Waiting, Holding, Releasing, LettingIn, claims, has_announced, waits, holds}
use Rattle.ya_core.specs.Soundness.{awaits_wake, saw_itself_last, was_woken, awaits_release, is_to_wake, wakes_next}
use Rattle.ya_core.specs.Soundness.{is_to_let_in, SomeRival}
use Rattle.ya_core.proofs.PhaseKinds.{announced_waits, waits_awaits_wake, waits_saw_itself_last}
use Rattle.ya_core.proofs.WakeFrame.{ActsAtLevel, Now, nothing, others, itself, everyone, named, past}

module _ (c : ActsAtLevel) where
  open c use {node, side, two, phase, claim, turn, spin, is, owed, a, phase', turn', spin'}

  module _ (turns : (n : ℕ) → turn' n ≡ turn n) (spins : (q : ℕ) → spin' q ≡ spin q) where
    -- a load after which the place waits on, at the next point or at the same one
    waits_on : (x y : EntryPoint) → phase a ≡ Waiting x → phase' a ≡ Waiting y
        → (IsTrue (awaits_wake (Waiting y))
        → IsTrue (awaits_wake (Waiting x)) ⊎ SomeRival node side phase a (λ z. claims z || is_to_let_in (turn (node a)) a z))
        → (IsTrue (was_woken (Waiting y)) → spin a ≢ 0)
        → (IsTrue (saw_itself_last (Waiting y)) → IsTrue (saw_itself_last (Waiting x)) ⊎ (turn (node a) ≡ a + 1))
        → (IsTrue (awaits_release (Waiting y)) → turn (node a) ≡ a + 1)
        → ((p : ℕ) → Rivals node side p a → IsTrue (saw_itself_last (phase p)) → spin p ≡ 0
        → IsTrue (is_to_wake p (Waiting x)) → IsTrue (is_to_wake p (Waiting y)))
        → ((p : ℕ) → turn (node p) ≢ p + 1 → IsTrue (awaits_release (phase p)) → wakes_next p (Waiting y) ≡ false)
        → (p : ℕ) → Now c p
    waits_on x y was now one woken saw let_in wakes quiet =
        everyone c
        (itself c (Waiting x) (Waiting y) was now (turns (node a)) (spins a) refl one woken saw let_in)
        (λ p apart. others c (Waiting x) (Waiting y) was now p apart (turns (node p)) (spins p)
        (λ rivals. past c p (Waiting x) (Waiting y) refl refl (λ other h zero k. wakes p rivals h zero k) (quiet p)))

    -- e1: a place names itself
    pub owed_named : phase a ≡ Away → phase' a ≡ Named → (p : ℕ) → Now c p
    owed_named was now =
        everyone c (nothing c a (ap waits now))
        (λ p apart. others c Away Named was now p apart (turns (node p)) (spins p)
        (λ rivals. record {
          unwoken = λ h zero k. absurd cc;
          unreleased = λ h one k. absurd cc;
          owed_one = λ other h zero k. absurd cc;
          keeps_two = λ other h. refl;
        }))

    -- e4: the other side names a place
    pub owed_found : (rival : ℕ) → phase a ≡ Waiting E4 → phase' a ≡ Waiting (E5 rival)
        → claim (node a) (1 - side a) ≡ rival + 1 → (p : ℕ) → Now c p
    owed_found rival was now found =
        waits_on E4 (E5 rival) was now (λ h. inr (rival, there, competing)) (λ h. absurd cc) (λ h. absurd cc)
        (λ h. absurd cc) (λ p rivals h zero k. same_rival p rivals (waits_saw_itself_last (phase p) h))
        (λ p other h. refl)
      where
        owner : (node rival ≡ node a) × (side rival ≡ 1 - side a) × IsTrue (claims (phase rival))
        owner = is.claimant (node a) (1 - side a) rival found

        there : Rivals node side a rival
        there = (
          sym owner.0,
          λ e. let s = side a in let low : s < 2 = two a in let across : s ≡ 1 - s = e ∙ owner.1 in
              omega (arith, low, across),
        )

        competing : IsTrue (claims (phase rival) || is_to_let_in (turn (node a)) a (phase rival))
        competing = subst (λ b. IsTrue (b || is_to_let_in (turn (node a)) a (phase rival))) (sym owner.2) refl

        same_rival : (p : ℕ) → Rivals node side p a → IsTrue (waits (phase p)) → IsTrue (rival == p)
        same_rival p rivals h = grind (arith, nat_tests, named c p h, rivals.0, rivals.1, two p, two a, found)

    -- e5: the place announced itself last
    pub owed_last : (rival : ℕ) → phase a ≡ Waiting (E5 rival) → phase' a ≡ Waiting (E6 rival) → turn (node a) ≡ a + 1
        → (p : ℕ) → Now c p
    owed_last rival was now own =
        waits_on (E5 rival) (E6 rival) was now (λ h. inl refl) (λ h. absurd cc) (λ h. inr own) (λ h. absurd cc)
        (λ p rivals h zero k. k) (λ p other h. refl)

    -- e6: the rival sleeps
    pub owed_asleep : (rival : ℕ) → phase a ≡ Waiting (E6 rival) → phase' a ≡ Waiting (E7 rival) → spin rival ≡ 0
        → (p : ℕ) → Now c p
    owed_asleep rival was now zero =
        waits_on (E6 rival) (E7 rival) was now (λ h. inl refl) (λ h. absurd cc) (λ h. inl refl) (λ h. absurd cc)
        (λ p rivals h z k. k) (λ p other h. another p other h (rival == p) refl)
      where
        another : (p : ℕ) → turn (node p) ≢ p + 1 → IsTrue (awaits_release (phase p)) → (b : Bool) → (rival == p) ≡ b
            → (rival == p) ≡ false
        another p other h false e = e
        another p other h true e =
            let one : rival ≡ p = grind (arith, nat_tests) in
            let has : spin p ≡ 2 = (owed p).has_two other h in
            let none : spin p ≡ 0 = subst (λ q. spin q ≡ 0) one zero in absurd (omega (arith, has, none))

    -- e6: the rival was woken
    pub owed_awake : (rival : ℕ) → phase a ≡ Waiting (E6 rival) → phase' a ≡ Waiting E8 → spin rival ≢ 0 → (p : ℕ)
        → Now c p
    owed_awake rival was now some_word =
        waits_on (E6 rival) E8 was now (λ h. inl refl) (λ h. absurd cc) (λ h. inl refl) (λ h. absurd cc)
        (λ p rivals h z k. absurd
        (some_word (let one : rival ≡ p = grind (arith, nat_tests) in subst (λ q. spin q ≡ 0) (sym one) z)))
        (λ p other h. refl)

    -- e8: the place was woken
    pub owed_woken : phase a ≡ Waiting E8 → phase' a ≡ Waiting E9 → spin a ≢ 0 → (p : ℕ) → Now c p
    owed_woken was now some_word =
        waits_on E8 E9 was now (λ h. absurd cc) (λ h. some_word) (λ h. absurd cc) (λ h. absurd cc)
        (λ p rivals h z k. absurd cc) (λ p other h. refl)

    -- e9: the place announced itself last
    pub owed_waits : phase a ≡ Waiting E9 → phase' a ≡ Waiting E10 → turn (node a) ≡ a + 1 → (p : ℕ) → Now c p
    owed_waits was now own =
        waits_on E9 E10 was now (λ h. absurd cc) (λ h. (owed a).woken (ap was_woken was)) (λ h. absurd cc) (λ h. own)
        (λ p rivals h z k. absurd cc) (λ p other h. refl)

    -- e4, e5, e9, e10: a place wins if no rival depends on its 1
    pub owed_wins : (point : EntryPoint) → phase a ≡ Waiting point → phase' a ≡ Holding
        → ((p : ℕ) → Rivals node side p a → turn (node p) ≢ p + 1 → IsTrue (saw_itself_last (phase p)) → spin p ≡ 0
        → IsTrue (is_to_wake p (Waiting point)) → ⊥) → (p : ℕ) → Now c p
    owed_wins point was now none =
        everyone c (nothing c a (ap waits now))
        (λ p apart. others c (Waiting point) Holding was now p apart (turns (node p)) (spins p)
        (λ rivals. past c p (Waiting point) Holding refl refl
        (λ other h z k. absurd (none p rivals other h z k)) (λ other h. refl)))

    -- at e4 the other side is nil, so no rival waits
    pub none_unclaimed : claim (node a) (1 - side a) ≡ 0 → (p : ℕ) → Rivals node side p a
        → IsTrue (saw_itself_last (phase p)) → ⊥
    none_unclaimed nil p rivals h =
        let across : 1 - side a ≡ side p = omega (arith, two p, two a, rivals.1) in
        let claim_is : claim (node p) (side p) ≡ p + 1 = named c p (waits_saw_itself_last (phase p) h) in
        let claim_nil : claim (node p) (side p) ≡ 0 =
        subst (λ s. claim (node p) s ≡ 0) across (subst (λ n. claim n (1 - side a) ≡ 0) (sym rivals.0) nil) in
        omega (arith, claim_is, claim_nil)

    -- at e5 another place announced itself last, so it is the rival
    pub none_last : IsTrue (has_announced (phase a)) → turn (node a) ≢ a + 1 → (p : ℕ) → Rivals node side p a
        → turn (node p) ≢ p + 1 → IsTrue (saw_itself_last (phase p)) → ⊥
    none_last past other p rivals not_own h =
        cases (is.one_of_two p a rivals (announced_waits (phase p) (waits_saw_itself_last (phase p) h)) past)
      where
        cases : (turn (node p) ≡ p + 1) ⊎ (turn (node p) ≡ a + 1) → ⊥
        cases (inl own) = not_own own
        cases (inr last) = other (ap turn (sym rivals.0) ∙ last)

    -- x1: a place that holds gives up its claim; the clause on waiters says that it is to free each waiting place
    pub owed_given_up : phase a ≡ Holding → phase' a ≡ Releasing → (p : ℕ) → Now c p
    owed_given_up was now =
        everyone c (nothing c a (ap waits now))
        (λ p apart. others c Holding Releasing was now p apart (turns (node p)) (spins p)
        (λ rivals. record {
          unwoken = λ h z k. last p rivals (waits_awaits_wake (phase p) h);
          unreleased = λ h one k. last p rivals h;
          owed_one = λ other h z k. absurd cc;
          keeps_two = λ other h. refl;
        }))
      where
        last : (p : ℕ) → Rivals node side p a → IsTrue (waits (phase p)) → IsTrue (turn (node p) == p + 1)
        last p rivals h =
            let named_last : turn (node a) ≡ p + 1 =
            is.waiter a p (sym rivals.0, λ e. rivals.1 (sym e))
            (let holding : IsTrue (holds (phase a)) = ap holds was in holding) (announced_waits (phase p) h) in
            let same_word : turn (node p) ≡ p + 1 = ap turn rivals.0 ∙ named_last in grind (arith, nat_tests)

    -- x2: the place announced itself last
    pub owed_released : phase a ≡ Releasing → phase' a ≡ Away → turn (node a) ≡ a + 1 → (p : ℕ) → Now c p
    owed_released was now own =
        everyone c (nothing c a (ap waits now))
        (λ p apart. others c Releasing Away was now p apart (turns (node p)) (spins p)
        (λ rivals. record {
          unwoken = λ h z k. absurd (one p apart rivals k);
          unreleased = λ h single k. absurd (one p apart rivals k);
          owed_one = λ other h z k. absurd cc;
          keeps_two =
              λ other h. refl;
        }))
      where
        one : (p : ℕ) → p ≢ a → Rivals node side p a → IsTrue (turn (node p) == p + 1) → ⊥
        one p apart rivals k =
            let there : turn (node p) ≡ p + 1 = grind (arith, nat_tests) in
            let here : turn (node p) ≡ a + 1 = ap turn rivals.0 ∙ own in
            apart (omega (arith, there, here))

    -- x2: another place announced itself last
    pub owed_letting_in : phase a ≡ Releasing → phase' a ≡ LettingIn (turn (node a) - 1) → (p : ℕ) → Now c p
    owed_letting_in was now =
        everyone c (nothing c a (ap waits now))
        (λ p apart. others c Releasing (LettingIn (turn (node a) - 1)) was now p apart (turns (node p)) (spins p)
        (λ rivals. record {
          unwoken = λ h z k. one p rivals k;
          unreleased = λ h single k. one p rivals k;
          owed_one = λ other h z k. absurd cc;
          keeps_two = λ other h. refl;
        }))
      where
        one : (p : ℕ) → Rivals node side p a → IsTrue (turn (node p) == p + 1) → IsTrue (turn (node a) - 1 == p)
        one p rivals k =
            let there : turn (node p) ≡ p + 1 = grind (arith, nat_tests) in
            let here : turn (node a) ≡ p + 1 = ap turn (sym rivals.0) ∙ there in
            grind (arith, nat_tests)
