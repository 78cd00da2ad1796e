-- The due access of a walk: its index, and that the table allows the seat of the walk to make it.
use Rattle.std.proofs.Common.{arith, ◌≡◌, ◌≢◌, ℕ, ◌+◌, ◌*◌, ◌^◌, ◌<◌, ◌≤◌, sym, ap, ◌∙◌, subst, Option}
use Rattle.ya_core.specs.declared.limits.TheConstants.{MAX_LEVELS}
use Rattle.atomic_table.specs.Table.{Me, Allows}
use Rattle.ya_core.specs.declared.word.Word.{Word}
use Rattle.ya_core.specs.declared.word.Access.{Access}
use Rattle.ya_core.specs.declared.walker.Op.TheVariants as op
use Rattle.ya_core.specs.ArbitrationTree.{IsWord, number_of}
use Rattle.ya_core.specs.Steps.{access_of}
use Rattle.ya_core.specs.Machines.{word_of}
use Rattle.ya_core.specs.WalkerModel.{Walk, IsWalk, walk_after, op_of, due, MayBeTold, most_remote, AccessIsWithin}
use Rattle.ya_core.specs.inside.Ahead.{ComesNearer}
use Rattle.ya_core.proofs.Promised.{within_access, told_nearer, told_counted}
use Rattle.ya_lock.specs.declared.rule.View.{View}
use Rattle.ya_lock.specs.Rule.{index_of, making_index, row_length, Rule}
use Rattle.ya_lock.specs.Lock.{LockId, WalksTo}
use Rattle.ya_lock.specs.inside.Lock.{IsLockTable, OnWay, SeatOf}
use Rattle.ya_lock.specs.StepEffects.{ProcessSteps}
use Rattle.ya_lock.specs.inside.Rule.{value_after}
use Rattle.ya_lock.proofs.WordsInRow.{making_small, index_below, index_is}
use Rattle.ya_lock.proofs.ProcessSteps.{counted, allows}
use Rattle.ya_lock.proofs.PassageSteps.{ready_by}
use Rattle.ya_lock.proofs.Ways.{walks_once}

-- the due access is of a word of the tree
pub due_word : (w : Walk) (a : Access) → IsWalk w → access_of w.levels w.place w.process ≡ a → AccessIsWithin w.levels a
due_word w a p is = subst (AccessIsWithin w.levels) is (within_access w.levels w.place w.process p.least p.in_tree p.proper)

-- which lies before the making word, at a small index
pub due_index : (levels number : ℕ) (word : Word) → levels ≤ MAX_LEVELS → IsWord levels word → number ≡ number_of levels word
    → (8 * number ≡ index_of levels word) × (8 * number + 8 ≤ making_index levels) × (8 * number < 4294967296)
due_index levels number word most within is =
    let m : ℕ = making_index levels in let small : m ≤ 4294967296 = making_small levels most in
    let i : ℕ = index_of levels word in let below : i + 8 ≤ m = index_below levels word within in
    let at : 8 * number ≡ i = ap (λ (k : ℕ). 8 * k) is ∙ index_is levels word in (at, omega arith, omega arith)

-- so the table allows the seat of the walk's place to make it
pub may_step : {V : Type 0} (since done : ℕ → V → V → Type 0) (since_same : (place : ℕ) (a : V) → since place a a)
    (since_done : (place other : ℕ) (a b c : V) → other ≢ place → since place a b → done other b c → since place a c)
    (w : Walk) (a : Access) (L number key id : ℕ) (table : LockId) (me : Me (Option V) (View V)) (seen : V)
    → (op_of w ≢ op.Idle) × (op_of w ≢ op.Inside) → SeatOf since done seen w me → IsWalk w
    → access_of w.levels w.place w.process ≡ a → IsWord w.levels (word_of a)
    → number ≡ number_of w.levels (word_of a) → w.levels ≡ L → IsLockTable L key table
    → (8 * number < table.words) × Allows (Rule since key) table.slots id me (8 * number) (value_after a)
    (λ n then'. ProcessSteps since L (value_after a n) me.0 me.1 then')
may_step since done since_same since_done w a L number key id table me seen due seat p is word at same own =
    let ready = ready_by since done w.levels w.place w.process w.begun w.remote seen me due seat in
    let index = due_index w.levels number (word_of a) p.most word at in
    let m : ℕ = making_index w.levels in let below : 8 * number + 8 ≤ m = index.1 in let places : ℕ = 2 ^ w.levels in
    let wide : table.words ≡ m + 8 * (1 + places) = own.words ∙ ap row_length (sym same) in
    let view = counted w.place ready.0 w.process w.remote me.0 ready.1 in
    let G : ℕ → ℕ → Type 0 =
    λ l k. Allows (Rule since k) table.slots id me (8 * number) (value_after a)
    (λ n then'. ProcessSteps since l (value_after a n) me.0 me.1 then') in (
      omega arith,
      subst (λ (k : ℕ). G L k) (sym own.told) (subst (λ (l : ℕ). G l l) same
          (allows since done since_same since_done w.levels p.least table.slots id (8 * number) w.place w.process view.0 ready.0
          view.1.0 me a is p.in_tree word index.0 view.1.1 ready.2)),
    )

-- the walk in the clauses is the walk of the fields
pub due_to : {V : Type 0} (inside seen : OnWay V) → inside ≡ seen
    → (op_of seen.walk ≢ op.Idle) × (op_of seen.walk ≢ op.Inside) → (op_of inside.walk ≢ op.Idle) × (op_of inside.walk ≢ op.Inside)
due_to {V} inside seen is due =
    subst (λ (p : OnWay V). (op_of p.walk ≢ op.Idle) × (op_of p.walk ≢ op.Inside)) (sym is) due

-- the place comes nearer, its count rises by no more than its bound, and its walk leads there, with the value passed to it
pub goes_by : {V : Type 0} (inside seen : OnWay V) (new : Walk) (value : ℕ) → inside ≡ seen → IsWalk inside.walk
    → MayBeTold (due inside.walk) value → new ≡ walk_after inside.walk value
    → ComesNearer seen.walk new × (new.remote + most_remote seen.walk ≤ seen.walk.remote + most_remote new)
    × WalksTo seen.walk new
goes_by {V} inside seen new value is walks told goes =
    subst (λ (p : OnWay V). ComesNearer p.walk new × (new.remote + most_remote p.walk ≤ p.walk.remote + most_remote new)
    × WalksTo p.walk new) is (
      told_nearer inside.walk new value walks told goes,
      told_counted inside.walk new value walks told goes,
      walks_once inside.walk new value told goes,
    )
