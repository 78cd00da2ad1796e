-- One level: the owed words that a step keeps if it changes one phase.
use Rattle.std.proofs.Common.{◌≡◌, ◌≢◌, ℕ, ◌+◌, ◌<◌, ◌||◌, Bool, true, false, refl, ap, sym, ◌∙◌, subst}
use Rattle.std.proofs.Common.{◌⊎◌, inl, inr, IsTrue}
use Rattle.std.proofs.Math.Path.{fun_ext}
use Rattle.ya_core.specs.ArbitrationTree.{Rivals}
use Rattle.ya_core.specs.Soundness.{Phase, claims, has_announced, waits, awaits_wake, saw_itself_last, was_woken, awaits_release}
use Rattle.ya_core.specs.Soundness.{is_to_wake, wakes_next, is_to_let_in, IsSoundLevel, SomeRival, IsOwed}
use Rattle.ya_core.proofs.Cases.{the_second, everywhere}
use Rattle.ya_core.proofs.LevelClauses.{Same}
use Rattle.ya_core.proofs.PhaseKinds.{claims_announced, announced_waits, waits_awaits_wake, waits_saw_itself_last}
use Rattle.ya_core.proofs.PhaseKinds.{waits_was_woken, waits_awaits_release}

-- the properties that a step keeps for a waiting rival when it changes the phase of its place from the one to the other
pub record Keeps (turn spin : ℕ → ℕ) (node : ℕ → ℕ) (phase : ℕ → Phase) (p : ℕ) (x y : Phase) : Type 0 where
  pub unwoken : IsTrue (awaits_wake (phase p)) → spin p ≡ 0 → IsTrue (claims x || is_to_let_in (turn (node p)) p x)
      → IsTrue (claims y || is_to_let_in (turn (node p)) p y)
  pub unreleased : IsTrue (waits (phase p)) → spin p ≡ 1 → IsTrue (has_announced x || is_to_let_in (turn (node p)) p x)
      → IsTrue (has_announced y || is_to_let_in (turn (node p)) p y)
  pub owed_one : turn (node p) ≢ p + 1 → IsTrue (saw_itself_last (phase p)) → spin p ≡ 0 → IsTrue (is_to_wake p x)
      → IsTrue (is_to_wake p y)
  pub keeps_two : turn (node p) ≢ p + 1 → IsTrue (awaits_release (phase p)) → wakes_next p y ≡ false

-- owed words stay if words and phases stay
pub owed_stays : (node side : ℕ → ℕ) (phase phase' : ℕ → Phase) (turn turn' spin spin' : ℕ → ℕ)
    → ((q : ℕ) → phase' q ≡ phase q) → ((n : ℕ) → turn' n ≡ turn n) → ((q : ℕ) → spin' q ≡ spin q)
    → ((p : ℕ) → IsOwed node side phase turn spin p) → (p : ℕ) → IsOwed node side phase' turn' spin' p
owed_stays node side phase phase' turn turn' spin spin' phases turns spins owed p =
    subst (λ (f : ℕ → Phase). IsOwed node side f turn' spin' p) (sym (fun_ext phases))
    (subst (λ (f : ℕ → ℕ). IsOwed node side phase f spin' p) (sym (fun_ext turns))
    (subst (λ (f : ℕ → ℕ). IsOwed node side phase turn f p) (sym (fun_ext spins)) (owed p)))

-- one level at which the place `a` acts: what holds before, and the phases and the words T and P after it
pub record ActsAtLevel : Type 0 where
  pub node : ℕ → ℕ
  pub side : ℕ → ℕ
  pub two : (q : ℕ) → side q < 2
  pub phase : ℕ → Phase
  pub claim : ℕ → ℕ → ℕ
  pub turn : ℕ → ℕ
  pub spin : ℕ → ℕ
  pub is : IsSoundLevel node side phase claim turn spin
  pub owed : (p : ℕ) → IsOwed node side phase turn spin p
  pub a : ℕ
  pub phase' : ℕ → Phase
  pub same : Same a phase phase'
  pub turn' : ℕ → ℕ
  pub spin' : ℕ → ℕ

module _ (c : ActsAtLevel) where
  open c use {node, side, phase, claim, turn, spin, is, owed, a, phase', same, turn', spin'}

  -- the words owed to a place after the step
  abbrev pub Now : ℕ → Type 0
  Now = IsOwed node side phase' turn' spin'

  -- no word is owed to a place that doesn't wait
  pub nothing : (p : ℕ) → waits (phase' p) ≡ false → Now p
  nothing p none =
      record {
        unwoken = λ h zero. absurd (no (waits_awaits_wake (phase' p) h));
        unreleased = λ h one. absurd (no h);
        woken = λ h zero. absurd (no (waits_was_woken (phase' p) h));
        owed_one = λ apart h zero. absurd (no (waits_saw_itself_last (phase' p) h));
        has_two = λ apart h. absurd (no (waits_awaits_release (phase' p) h));
        keeps_two = λ apart h q rivals. absurd (no (waits_awaits_release (phase' p) h));
      }
    where
      no : IsTrue (waits (phase' p)) → ⊥
      no h = let both : true ≡ false = sym h ∙ none in cc

  -- a rival of a kind stays one if the step of the place keeps the kind
  some : (p : ℕ) (kind : Phase → Bool) → (Rivals node side p a → IsTrue (kind (phase a)) → IsTrue (kind (phase' a)))
      → SomeRival node side phase p kind → SomeRival node side phase' p kind
  some p kind keeps rival = cases (same rival.0)
    where
      cases : (rival.0 ≡ a) ⊎ (phase' rival.0 ≡ phase rival.0) → SomeRival node side phase' p kind
      cases (inl one) =
          let rivals : Rivals node side p a = subst (Rivals node side p) one rival.1 in
          (a, rivals, keeps rivals (subst (λ q. IsTrue (kind (phase q))) one rival.2))
      cases (inr still) = (rival.0, rival.1, subst (λ x. IsTrue (kind x)) (sym still) rival.2)

  -- if the word T stays, a rival of the kind, or that is to let the place in, remains one
  let_in_by : (p : ℕ) (kind : Phase → Bool) → turn' (node p) ≡ turn (node p)
      → SomeRival node side phase' p (λ z. kind z || is_to_let_in (turn (node p)) p z)
      → SomeRival node side phase' p (λ z. kind z || is_to_let_in (turn' (node p)) p z)
  let_in_by p kind turns =
      subst (λ t. SomeRival node side phase' p (λ z. kind z || is_to_let_in t p z)) (sym turns)

  -- the phase of another place stays
  still : (p : ℕ) → p ≢ a → phase' p ≡ phase p
  still p apart = the_second (same p) apart

  pub had : (p : ℕ) → p ≢ a → (kind : Phase → Bool) → IsTrue (kind (phase' p)) → IsTrue (kind (phase p))
  had p apart kind h = subst (λ z. IsTrue (kind z)) (still p apart) h

  -- the words owed to another place, if its words and its phase stay
  pub others : (x y : Phase) → phase a ≡ x → phase' a ≡ y → (p : ℕ) → p ≢ a → turn' (node p) ≡ turn (node p)
      → spin' p ≡ spin p → (Rivals node side p a → Keeps turn spin node phase p x y) → Now p
  others x y was now p apart turns spins keeps =
      record {
        unwoken = λ h zero. let_in_still claims
            (λ rivals. (keeps rivals).unwoken (had p apart awaits_wake h) (sym spins ∙ zero))
            ((owed p).unwoken (had p apart awaits_wake h) (sym spins ∙ zero));
        unreleased = λ h one. let_in_still has_announced
            (λ rivals. (keeps rivals).unreleased (had p apart waits h) (sym spins ∙ one))
            ((owed p).unreleased (had p apart waits h) (sym spins ∙ one));
        woken = λ h zero. (owed p).woken (had p apart was_woken h) (sym spins ∙ zero);
        owed_one = λ other h zero. rival_still (is_to_wake p)
            (λ rivals. (keeps rivals).owed_one (not_own other) (had p apart saw_itself_last h) (sym spins ∙ zero))
            ((owed p).owed_one (not_own other) (had p apart saw_itself_last h) (sym spins ∙ zero));
        has_two = λ other h. spins ∙ (owed p).has_two (not_own other) (had p apart awaits_release h);
        keeps_two = λ other h q rivals. quiet other h q rivals (same q);
      }
    where
      -- some rival is still of the kind, if the step keeps it
      rival_still : (kind : Phase → Bool) → (Rivals node side p a → IsTrue (kind x) → IsTrue (kind y))
          → SomeRival node side phase p kind → SomeRival node side phase' p kind
      rival_still kind kept =
          some p kind
          (λ rivals k. subst (λ z. IsTrue (kind z)) (sym now) (kept rivals (subst (λ z. IsTrue (kind z)) was k)))

      -- or is still to let the place in
      let_in_still : (kind : Phase → Bool)
          → (Rivals node side p a → IsTrue (kind x || is_to_let_in (turn (node p)) p x)
          → IsTrue (kind y || is_to_let_in (turn (node p)) p y))
          → SomeRival node side phase p (λ z. kind z || is_to_let_in (turn (node p)) p z)
          → SomeRival node side phase' p (λ z. kind z || is_to_let_in (turn' (node p)) p z)
      let_in_still kind kept rival =
          let_in_by p kind turns (rival_still (λ z. kind z || is_to_let_in (turn (node p)) p z) kept rival)

      not_own : turn' (node p) ≢ p + 1 → turn (node p) ≢ p + 1
      not_own other e = other (turns ∙ e)

      quiet : turn' (node p) ≢ p + 1 → IsTrue (awaits_release (phase' p)) → (q : ℕ) → Rivals node side p q
          → (q ≡ a) ⊎ (phase' q ≡ phase q) → wakes_next p (phase' q) ≡ false
      quiet other h q rivals (inl one) =
          subst (λ r. wakes_next p (phase' r) ≡ false) (sym one)
          (ap (wakes_next p) now
          ∙ (keeps (subst (Rivals node side p) one rivals)).keeps_two (not_own other) (had p apart awaits_release h))
      quiet other h q rivals (inr stays) =
          ap (wakes_next p) stays ∙ (owed p).keeps_two (not_own other) (had p apart awaits_release h) q rivals

  -- the words owed to the place itself, which still waits
  pub itself : (x y : Phase) → phase a ≡ x → phase' a ≡ y → turn' (node a) ≡ turn (node a) → spin' a ≡ spin a
      → IsTrue (waits x)
      → (IsTrue (awaits_wake y)
      → IsTrue (awaits_wake x) ⊎ SomeRival node side phase a (λ z. claims z || is_to_let_in (turn (node a)) a z))
      → (IsTrue (was_woken y) → spin a ≢ 0)
      → (IsTrue (saw_itself_last y) → IsTrue (saw_itself_last x) ⊎ (turn (node a) ≡ a + 1))
      → (IsTrue (awaits_release y) → turn (node a) ≡ a + 1) → Now a
  itself x y was now turns spins waiting one woken saw let_in =
      record {
        unwoken = λ h zero. let_in_by a claims turns
            (its_rivals (λ z. claims z || is_to_let_in (turn (node a)) a z)
            (unwoken (one (has awaits_wake h)) (sym spins ∙ zero)));
        unreleased = λ h single. let_in_by a has_announced turns
            (its_rivals (λ z. has_announced z || is_to_let_in (turn (node a)) a z)
            ((owed a).unreleased (subst (λ z. IsTrue (waits z)) (sym was) waiting) (sym spins ∙ single)));
        woken = λ h zero. woken (has was_woken h) (sym spins ∙ zero);
        owed_one = λ other h zero. its_rivals (is_to_wake a)
            (owed_one (saw (has saw_itself_last h)) (λ e. other (turns ∙ e)) (sym spins ∙ zero));
        has_two = λ other h. absurd (other (turns ∙ let_in (has awaits_release h)));
        keeps_two = λ other h q rivals. absurd (other (turns ∙ let_in (has awaits_release h)));
      }
    where
      -- no place is its own rival
      its_rivals : (kind : Phase → Bool) → SomeRival node side phase a kind → SomeRival node side phase' a kind
      its_rivals kind = some a kind (λ rivals k. absurd (rivals.1 refl))

      has : (kind : Phase → Bool) → IsTrue (kind (phase' a)) → IsTrue (kind y)
      has kind h = subst (λ z. IsTrue (kind z)) now h

      unwoken : IsTrue (awaits_wake x) ⊎ SomeRival node side phase a (λ z. claims z || is_to_let_in (turn (node a)) a z)
          → spin a ≡ 0 → SomeRival node side phase a (λ z. claims z || is_to_let_in (turn (node a)) a z)
      unwoken (inl before) zero = (owed a).unwoken (subst (λ z. IsTrue (awaits_wake z)) (sym was) before) zero
      unwoken (inr rival) zero = rival

      owed_one : IsTrue (saw_itself_last x) ⊎ (turn (node a) ≡ a + 1) → turn (node a) ≢ a + 1 → spin a ≡ 0
          → SomeRival node side phase a (is_to_wake a)
      owed_one (inl before) other zero =
          (owed a).owed_one other (subst (λ z. IsTrue (saw_itself_last z)) (sym was) before) zero
      owed_one (inr own) other zero = absurd (other own)

  -- the words owed to each place
  pub everyone : Now a → ((p : ℕ) → p ≢ a → Now p) → (p : ℕ) → Now p
  everyone = everywhere Now a

  -- a waiting place claims, and so a word C names it
  pub named : (p : ℕ) → IsTrue (waits (phase p)) → claim (node p) (side p) ≡ p + 1
  named p h = is.claimed p (claims_announced (phase p) (announced_waits (phase p) h))

  -- the properties kept for a rival if the place is past after the step. Still to be shown: whether the place is to
  -- wake the rival, and that it doesn't overwrite the rival's 2
  pub past : (p : ℕ) (x y : Phase) → IsTrue (claims y) → IsTrue (has_announced y)
      → (turn (node p) ≢ p + 1 → IsTrue (saw_itself_last (phase p)) → spin p ≡ 0 → IsTrue (is_to_wake p x)
      → IsTrue (is_to_wake p y))
      → (turn (node p) ≢ p + 1 → IsTrue (awaits_release (phase p)) → wakes_next p y ≡ false)
      → Keeps turn spin node phase p x y
  past p x y claiming announced_now wakes quiet =
      record {
        unwoken = λ h zero k. subst (λ b. IsTrue (b || is_to_let_in (turn (node p)) p y)) (sym claiming) refl;
        unreleased = λ h one k. subst (λ b. IsTrue (b || is_to_let_in (turn (node p)) p y)) (sym announced_now) refl;
        owed_one = wakes;
        keeps_two = quiet;
      }
