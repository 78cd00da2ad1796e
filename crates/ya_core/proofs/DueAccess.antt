-- The due access of a walker, by its request.
use Rattle.std.proofs.Common.{◌≡◌, ◌≢◌, ℕ, Bool, true, false, refl, ap, ◌∙◌, Option, Some, None}
use Rattle.ya_core.specs.declared.word.Word.{Word}
use Rattle.ya_core.specs.declared.word.Access.{Access}
use Rattle.ya_core.specs.declared.word.Access.TheVariants.{Load, Store}
use Rattle.ya_core.specs.declared.process.Process.{Process}
use Rattle.ya_core.specs.declared.process.Process.TheVariants.{Idle, Entering, Inside, Leaving}
use Rattle.ya_core.specs.declared.walker.Op.TheVariants as op
use Rattle.ya_core.specs.ArbitrationTree.{number_of}
use Rattle.ya_core.specs.Steps.{access_of}
use Rattle.ya_core.specs.WalkerModel.{Walk, due, due_of, op_of, op_of_due, op_of_access, op_at_rest}

-- a process at rest requests neither a load nor a store
at_rest_asks_nothing : (x : Process) → ((n : ℕ) → op_at_rest x ≢ op.Load n) × ((n v : ℕ) → op_at_rest x ≢ op.Store n v)
at_rest_asks_nothing Idle = (λ n e. cc, λ n v e. cc)
at_rest_asks_nothing (Entering level point) = (λ n e. cc, λ n v e. cc)
at_rest_asks_nothing Inside = (λ n e. cc, λ n v e. cc)
at_rest_asks_nothing (Leaving level point) = (λ n e. cc, λ n v e. cc)

-- the access that is due, if one is
pub due_is : (levels place : ℕ) (x : Process) (begun : Bool) (a : Access) → due_of levels place x begun ≡ Some a
    → access_of levels place x ≡ a
due_is levels place Idle true a e = cc
due_is levels place Idle false a e = absurd cc
due_is levels place (Entering level point) begun a e = cc
due_is levels place Inside true a e = cc
due_is levels place Inside false a e = absurd cc
due_is levels place (Leaving level point) begun a e = cc

load_named : (levels : ℕ) (a : Access) (n : ℕ) → op_of_access levels a ≡ op.Load n
    → (word : Word) × (a ≡ Load word) × (n ≡ number_of levels word)
load_named levels (Load word) n e = (word, refl, cc)
load_named levels (Store word value) n e = absurd cc

store_named : (levels : ℕ) (a : Access) (n v : ℕ) → op_of_access levels a ≡ op.Store n v
    → (word : Word) × (a ≡ Store word v) × (n ≡ number_of levels word)
store_named levels (Load word) n v e = absurd cc
store_named levels (Store word value) n v e =
    let same : value ≡ v = cc in
    (word, ap (Store word) same, cc)

-- the due access of a walker that requests a load
pub load_due : (w : Walk) (n : ℕ) → op_of w ≡ op.Load n
    → (word : Word) × (access_of w.levels w.place w.process ≡ Load word) × (n ≡ number_of w.levels word)
    × (due w ≡ Some (Load word))
load_due w n asks = by_due (due w) refl asks
  where
    by_due : (d : Option Access) → due w ≡ d → op_of_due w.levels w.process d ≡ op.Load n
        → (word : Word) × (access_of w.levels w.place w.process ≡ Load word) × (n ≡ number_of w.levels word)
        × (due w ≡ Some (Load word))
    by_due None is e = absurd ((at_rest_asks_nothing w.process).0 n e)
    by_due (Some a) is e =
        let named = load_named w.levels a n e in (
          named.0,
          due_is w.levels w.place w.process w.begun a is ∙ named.1,
          named.2,
          is ∙ ap (λ b. Some b) named.1,
        )

-- the due access of a walker that requests a store
pub store_due : (w : Walk) (n v : ℕ) → op_of w ≡ op.Store n v
    → (word : Word) × (access_of w.levels w.place w.process ≡ Store word v) × (n ≡ number_of w.levels word)
    × (due w ≡ Some (Store word v))
store_due w n v asks = by_due (due w) refl asks
  where
    by_due : (d : Option Access) → due w ≡ d → op_of_due w.levels w.process d ≡ op.Store n v
        → (word : Word) × (access_of w.levels w.place w.process ≡ Store word v) × (n ≡ number_of w.levels word)
        × (due w ≡ Some (Store word v))
    by_due None is e = absurd ((at_rest_asks_nothing w.process).1 n v e)
    by_due (Some a) is e =
        let named = store_named w.levels a n v e in (
          named.0,
          due_is w.levels w.place w.process w.begun a is ∙ named.1,
          named.2,
          is ∙ ap (λ b. Some b) named.1,
        )
