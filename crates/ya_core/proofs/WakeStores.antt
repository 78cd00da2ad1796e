-- One level: each store in a word T or P keeps the owed words there.
use Rattle.std.proofs.Common.{◌≡◌, ◌≢◌, ℕ, ◌+◌, ◌==◌, ◌||◌, Bool, true, false, refl, arith, ap, sym, ◌∙◌, subst, ◌⊎◌}
use Rattle.std.proofs.Common.{inl, inr, IsTrue}
use Rattle.std.proofs.lemmas.Bool.Decides.{nat_tests}
use Rattle.ya_core.specs.declared.process.EntryPoint.TheVariants.{E4, E7, E8}
use Rattle.ya_core.specs.ArbitrationTree.{Rivals}
use Rattle.ya_core.specs.Soundness.{Phase, Away, Named, Announced, Waiting, LettingIn, claims, has_announced, waits}
use Rattle.ya_core.specs.Soundness.{awaits_wake, saw_itself_last, was_woken, awaits_release, is_to_wake, wakes_next}
use Rattle.ya_core.specs.Soundness.{is_to_let_in, SomeRival}
use Rattle.ya_core.proofs.Cases.{the_second, everywhere}
use Rattle.ya_core.proofs.LevelClauses.{SameWords}
use Rattle.ya_core.proofs.PhaseKinds.{competes, competes_claims, claims_announced, announced_waits, waits_awaits_release}
use Rattle.ya_core.proofs.PhaseKinds.{was_woken_awaits_release, competes_unreleased, competes_wakes_next}
use Rattle.ya_core.proofs.WakeFrame.{ActsAtLevel, Now, nothing, had, others, itself, everyone, past}

module _ (c : ActsAtLevel) where
  open c use {node, side, two, phase, turn, spin, is, owed, a, phase', same, turn', spin'}

  -- e3: the place clears its spin word
  pub owed_cleared : ((n : ℕ) → turn' n ≡ turn n) → phase a ≡ Announced → phase' a ≡ Waiting E4 → spin' a ≡ 0
      → SameWords a spin spin' → (p : ℕ) → Now c p
  owed_cleared turns was now zero others_stay =
      everyone c
      (record {
        unwoken = λ h z. absurd (none awaits_wake refl h);
        unreleased = λ h one. absurd (omega (arith, zero, one));
        woken = λ h z. absurd (none was_woken refl h);
        owed_one = λ other h z. absurd (none saw_itself_last refl h);
        has_two = λ other h. absurd (none awaits_release refl h);
        keeps_two = λ other h q rivals. absurd (none awaits_release refl h);
      })
      (λ p apart. others c Announced (Waiting E4) was now p apart (turns (node p)) (the_second (others_stay p) apart)
      (λ rivals. past c p Announced (Waiting E4) refl refl (λ other h z k. refl) (λ other h. refl)))
    where
      none : (kind : Phase → Bool) → kind (Waiting E4) ≡ false → IsTrue (kind (phase' a)) → ⊥
      none kind off h = let both : true ≡ false = sym h ∙ ap kind now ∙ off in cc

  module _ (rival : ℕ) (turns : (n : ℕ) → turn' n ≡ turn n) (rest : SameWords rival spin spin')
      (elsewhere : rival ≢ a) where
    -- the other words P stay
    spin_stays : (p : ℕ) → p ≢ rival → spin' p ≡ spin p
    spin_stays p apart = the_second (rest p) apart

    -- the words owed to each place: to the place whose spin word changed, to the place itself, and to the others
    by_rival : Now c rival → Now c a → ((p : ℕ) → p ≢ rival → p ≢ a → Now c p) → (p : ℕ) → Now c p
    by_rival of_rival own of_others =
        everywhere (Now c) rival of_rival
        (everywhere (λ p. p ≢ rival → Now c p) a (λ not_rival. own) (λ p apart not_rival. of_others p not_rival apart))

    -- e7: the place wakes its rival
    pub owed_wakes : phase a ≡ Waiting (E7 rival) → phase' a ≡ Waiting E8 → Rivals node side a rival → spin' rival ≡ 1
        → (p : ℕ) → Now c p
    owed_wakes was now there stored =
        by_rival woken
        (itself c (Waiting (E7 rival)) (Waiting E8) was now (turns (node a)) (spin_stays a (λ e. elsewhere (sym e))) refl
        (λ h. inl refl) (λ h. absurd cc) (λ h. inl refl) (λ h. absurd cc))
        (λ p not_rival apart. others c (Waiting (E7 rival)) (Waiting E8) was now p apart (turns (node p))
        (spin_stays p not_rival)
        (λ rivals. past c p (Waiting (E7 rival)) (Waiting E8) refl refl
        (λ aside h z k. absurd (not_rival (let one : rival ≡ p = grind (arith, nat_tests) in sym one)))
        (λ aside h. refl)))
      where
        woken : Now c rival
        woken =
            record {
              unwoken = λ h zero. absurd (omega (arith, stored, zero));
              unreleased = λ h one. (
                a,
                (sym there.0, λ e. there.1 (sym e)),
                subst (λ z. IsTrue (has_announced z || is_to_let_in (turn' (node rival)) rival z)) (sym now) refl,
              );
              woken = λ h zero. absurd (omega (arith, stored, zero));
              owed_one = λ other h zero. absurd (omega (arith, stored, zero));
              has_two = λ other h. absurd (disturbed other h);
              keeps_two = λ other h q rivals. absurd (disturbed other h);
            }
          where
            disturbed : turn' (node rival) ≢ rival + 1 → IsTrue (awaits_release (phase' rival)) → ⊥
            disturbed other h =
                let quiet : wakes_next rival (phase a) ≡ false =
                (owed rival).keeps_two (λ e. other (turns (node rival) ∙ e))
                (had c rival elsewhere awaits_release h) a (sym there.0, λ e. there.1 (sym e)) in
                let loud : (rival == rival) ≡ false = sym (ap (wakes_next rival) was) ∙ quiet in
                let self : (rival == rival) ≡ true = grind (arith, nat_tests) in
                let both : true ≡ false = sym self ∙ loud in cc

    -- x3: the place lets another one in
    pub owed_let_in : phase a ≡ LettingIn rival → phase' a ≡ Away → spin' rival ≡ 2 → (p : ℕ) → Now c p
    owed_let_in was now stored =
        by_rival freed (nothing c a (ap waits now))
        (λ p not_rival apart. others c (LettingIn rival) Away was now p apart (turns (node p)) (spin_stays p not_rival)
        (λ rivals. record {
          unwoken = λ h z k. absurd (aside p not_rival k);
          unreleased = λ h one k. absurd (aside p not_rival k);
          owed_one = λ other h z k. absurd cc;
          keeps_two = λ other h. refl;
        }))
      where
        aside : (p : ℕ) → p ≢ rival → IsTrue (rival == p) → ⊥
        aside p not_rival k = not_rival (let one : rival ≡ p = grind (arith, nat_tests) in sym one)

        freed : Now c rival
        freed =
            record {
              unwoken = λ h zero. absurd (omega (arith, stored, zero));
              unreleased = λ h one. absurd (omega (arith, stored, one));
              woken = λ h zero. absurd (omega (arith, stored, zero));
              owed_one = λ other h zero. absurd (omega (arith, stored, zero));
              has_two = λ other h. stored;
              keeps_two = λ other h q rivals. quiet other h q rivals (same q);
            }
          where
            quiet : turn' (node rival) ≢ rival + 1 → IsTrue (awaits_release (phase' rival)) → (q : ℕ)
                → Rivals node side rival q → (q ≡ a) ⊎ (phase' q ≡ phase q) → wakes_next rival (phase' q) ≡ false
            quiet other h q rivals (inl one) =
                subst (λ r. wakes_next rival (phase' r) ≡ false) (sym one) (ap (wakes_next rival) now)
            quiet other h q rivals (inr still) =
                ap (wakes_next rival) still ∙ (owed rival).keeps_two (λ e. other (turns (node rival) ∙ e))
                (had c rival elsewhere awaits_release h) q rivals

  -- e2: the place announces itself, and is owing from then on to each rival that waits
  pub owed_announced : ((q : ℕ) → spin' q ≡ spin q) → phase a ≡ Named → phase' a ≡ Announced → turn' (node a) ≡ a + 1
      → SameWords (node a) turn turn'
      → ((q : ℕ) → node q ≡ node a → side q ≡ side a → IsTrue (competes (phase q)) → q ≡ a) → (p : ℕ) → Now c p
  owed_announced spins was now stored rest alone =
      everyone c (nothing c a (ap waits now)) (λ p apart. by_node p apart (node p == node a) refl)
    where
      by_node : (p : ℕ) → p ≢ a → (b : Bool) → (node p == node a) ≡ b → Now c p
      by_node p apart false elsewhere =
          let far : node p ≢ node a = grind (arith, nat_tests) in
          others c Named Announced was now p apart (the_second (rest (node p)) far) (spins p)
          (λ rivals. absurd (far rivals.0))
      by_node p apart true here =
          let at : node p ≡ node a = grind (arith, nat_tests) in
          by_side p apart at (side p == side a) refl
        where
          by_side : (p : ℕ) → p ≢ a → node p ≡ node a → (b : Bool) → (side p == side a) ≡ b → Now c p
          by_side p apart at true one =
              let beside : side p ≡ side a = grind (arith, nat_tests) in
              nothing c p (idle (waits (phase' p)) refl)
            where
              idle : (b : Bool) → waits (phase' p) ≡ b → waits (phase' p) ≡ false
              idle false e = e
              idle true e =
                  let beside : side p ≡ side a = grind (arith, nat_tests) in
                  let waiting : IsTrue (waits (phase p)) = had c p apart waits e in
                  absurd (apart
                  (alone p at beside
                  (competes_claims (phase p) (claims_announced (phase p) (announced_waits (phase p) waiting)))))
          by_side p apart at false one =
              let across : side p ≢ side a = grind (arith, nat_tests) in
              opposite p apart at across
            where
              opposite : (p : ℕ) → p ≢ a → node p ≡ node a → side p ≢ side a → Now c p
              opposite p apart at across =
                  record {
                    unwoken = λ h zero. (
                      a,
                      (at, across),
                      subst (λ z. IsTrue (claims z || is_to_let_in (turn' (node p)) p z)) (sym now) refl,
                    );
                    unreleased = λ h one. (
                      a,
                      (at, across),
                      subst (λ z. IsTrue (has_announced z || is_to_let_in (turn' (node p)) p z)) (sym now) refl,
                    );
                    woken = λ h zero. (owed p).woken (had c p apart was_woken h) (sym (spins p) ∙ zero);
                    owed_one = λ other h zero. (a, (at, across), subst (λ z. IsTrue (is_to_wake p z)) (sym now) refl);
                    has_two = λ other h. spins p ∙ has_two h (turn (node p) == p + 1) refl;
                    keeps_two = λ other h q rivals. quiet q rivals (same q) (wakes_next p (phase' q)) refl;
                  }
                where
                  -- the only rival of the place that takes part is the place that announces itself
                  only : (q : ℕ) → Rivals node side p q → IsTrue (competes (phase q)) → q ≡ a
                  only q rivals h = alone q (sym rivals.0 ∙ at) (omega (arith, two p, two q, two a, rivals.1, across)) h

                  no_rival : SomeRival node side phase p (λ z. has_announced z || is_to_let_in (turn (node p)) p z) → ⊥
                  no_rival rival =
                      let one : rival.0 ≡ a =
                      only rival.0 rival.1 (competes_unreleased (turn (node p)) p (phase rival.0) rival.2) in
                      let k : IsTrue (has_announced Named || is_to_let_in (turn (node p)) p Named) =
                      subst (λ z. IsTrue (has_announced z || is_to_let_in (turn (node p)) p z))
                      (ap phase one ∙ was) rival.2 in
                      cc

                  has_two : IsTrue (awaits_release (phase' p)) → (b : Bool) → (turn (node p) == p + 1) ≡ b → spin p ≡ 2
                  has_two h false e = (owed p).has_two (grind (arith, nat_tests)) (had c p apart awaits_release h)
                  has_two h true e = by_word (spin p) refl
                    where
                      woken : spin p ≢ 0
                      woken = (owed p).woken (was_woken_awaits_release (phase p) (had c p apart awaits_release h))

                      single : spin p ≡ 1 → ⊥
                      single one_word =
                          no_rival
                          ((owed p).unreleased (waits_awaits_release (phase p) (had c p apart awaits_release h)) one_word)

                      by_word : (n : ℕ) → spin p ≡ n → spin p ≡ 2
                      by_word n e = grind (arith, woken, single, is.in_range p)

                  quiet : (q : ℕ) → Rivals node side p q → (q ≡ a) ⊎ (phase' q ≡ phase q) → (b : Bool)
                      → wakes_next p (phase' q) ≡ b → wakes_next p (phase' q) ≡ false
                  quiet q rivals s false e = e
                  quiet q rivals (inl one) true e =
                      let k : IsTrue (wakes_next p Announced) =
                      subst (λ z. IsTrue (wakes_next p z)) (ap phase' one ∙ now) e in absurd cc
                  quiet q rivals (inr stays) true e =
                      let k : IsTrue (wakes_next p (phase q)) = subst (λ z. IsTrue (wakes_next p z)) stays e in
                      let one : q ≡ a = only q rivals (competes_wakes_next p (phase q) k) in
                      let n : IsTrue (wakes_next p Named) =
                      subst (λ z. IsTrue (wakes_next p z)) (ap phase one ∙ was) k in absurd cc
