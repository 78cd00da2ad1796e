-- The passes that are made in order.
use Rattle.std.proofs.Common.{◌≡◌, ℕ, zero, suc, ◌+◌, ◌<◌, List, [], ◌∷◌, ◌++◌, length, slice_get, Some, refl, sym, ap}
use Rattle.std.proofs.Common.{◌∙◌, arith, subst}
use Rattle.ya_core.specs.declared.process.Process.TheVariants.{Idle}
use Rattle.ya_lock.specs.declared.rule.View.TheVariants.{Seated}
use Rattle.ya_lock.specs.Lock.{LockId, IdlePass, new_pass}
use native.Mathlib.Decide.{ℕ_discrete}

module _ {X : Type 0} where
  -- an element that was there stays where it was
  get_old : (l : List X) (x : X) (k : ℕ) → k < length l → slice_get (l ++ x ∷ []) k ≡ slice_get l k
  get_old [] x k h = absurd (omega arith)
  get_old (y ∷ ys) x zero h = refl
  get_old (y ∷ ys) x (suc k) h = get_old ys x k (omega arith)

  -- the last element comes after all others
  get_last : (l : List X) (x : X) (k : ℕ) → k ≡ length l → slice_get (l ++ x ∷ []) k ≡ Some x
  get_last [] x zero e = refl
  get_last [] x (suc k) e = absurd (omega arith)
  get_last (y ∷ ys) x zero e = absurd (omega arith)
  get_last (y ∷ ys) x (suc k) e = get_last ys x k (omega arith)

  -- if each of the first n places has its own, and the next one is made, each of the first n + 1 has its own
  pub one_more : (f : ℕ → X) (l : List X) (n : ℕ) (x : X) → length l ≡ n → x ≡ f n
      → ((k : ℕ) → k < n → slice_get l k ≡ Some (f k)) → (k : ℕ) → k < n + 1 → slice_get (l ++ x ∷ []) k ≡ Some (f k)
  one_more f l n x long is all k h = elim (ℕ_discrete k n) [
    | yes same ↦ get_last l x k (same ∙ sym long) ∙ ap Some (is ∙ ap f (sym same))
    | no ne ↦ get_old l x k (let m : ℕ = length l in let long' : m ≡ n = long in omega arith) ∙ all k (omega arith)
  ]

-- the same for the passes that `new` makes, given part by part
pub one_more_pass : {V : Type 0} (lock : LockId) (seen : V) (l items : List (IdlePass V)) (n : ℕ) (x : IdlePass V)
    → items ≡ l ++ x ∷ [] → length l ≡ n → x.lock ≡ lock → x.place ≡ n → x.seen ≡ seen → x.remote ≡ 0
    → x.view ≡ Seated n Idle seen 0 → ((k : ℕ) → k < n → slice_get l k ≡ Some (new_pass lock k seen)) → (k : ℕ)
    → k < n + 1 → slice_get items k ≡ Some (new_pass lock k seen)
one_more_pass {V} lock seen l items n x e long a b c d v all k h =
    let f : ℕ → IdlePass V = λ j. new_pass lock j seen in
    subst (λ (m : List (IdlePass V)). slice_get m k ≡ Some (f k)) (sym e)
    (one_more f l n x long (λ j. record { lock = a j; place = b j; seen = c j; remote = d j; view = v j }) all k h)
