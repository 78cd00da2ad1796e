-- No wake-up is lost: the clause of the rule on bells, kept by each step of a seat.
use Rattle.std.proofs.Common.{◌≡◌, ◌≢◌, ℕ, ◌+◌, ◌<◌, ◌≤◌, ◌==◌, Bool, true, false, List, [], ◌∷◌, ◌++◌, length, set, sym, refl}
use Rattle.std.proofs.Common.{ap, ◌∙◌, subst, arith, inl, inr, ⊎_elim, ◌⊎◌, slice_index}
use Rattle.std.specs.Prelude.{if◌then◌else◌}
use Rattle.std.proofs.lemmas.Bool.{false≢true}
use Rattle.std.proofs.lemmas.List.{get_or-set_other, get_or-set_same}
use mathlib.Core.Option.{some, some-injective}
use native.Mathlib.Decide.{ℕ_discrete}
use lib.ListN.{get_elem?}
use Rattle.atomic_table.proofs.Lists.{at_set, set_else, at_longer, at_snoc}
use Rattle.ya_core.specs.declared.word.Word.{Word}
use Rattle.ya_core.specs.declared.word.Word.TheVariants.{P}
use Rattle.ya_core.specs.declared.word.Access.{Access}
use Rattle.ya_core.specs.declared.word.Access.TheVariants.{Load, Store}
use Rattle.ya_core.specs.declared.process.Process.{Process}
use Rattle.ya_core.specs.declared.process.Process.TheVariants.{Idle, Entering, Inside, Leaving}
use Rattle.ya_core.specs.declared.process.EntryPoint.TheVariants.{E1, E2, E3, E4, E5, E6, E7, E8, E9, E10}
use Rattle.ya_core.specs.declared.process.ExitPoint.TheVariants.{X1, X2, X3}
use Rattle.ya_core.specs.ArbitrationTree.{IsWord}
use Rattle.ya_core.specs.Machines.{word_of}
use Rattle.ya_core.specs.Steps.{Accesses, access_of, next_of, value_of, after_entry}
use Rattle.ya_core.specs.WalkerModel.{is_waiting}
use Rattle.ya_lock.specs.declared.rule.View.{View}
use Rattle.ya_lock.specs.declared.rule.View.TheVariants.{Seated, Owes}
use Rattle.ya_lock.specs.Rule.{index_of, making_index, bell_index, words_in, BellKnowledge, Quiet, Vain, Debt, free, view_at, bell_after}
use Rattle.ya_lock.specs.Rule.{OwesRing, IsWatching, IsOwedRing, CanGoOn, NoneIsForgotten}
use Rattle.ya_lock.specs.inside.Rule.{value_after}
use Rattle.ya_lock.proofs.WordsInRow.{index_below, bell_behind, words_behind, value_is, accesses, set_at}

-- different places have different bells
pub bells_apart : (levels p q : ℕ) → p ≢ q → bell_index levels p ≢ bell_index levels q
unfolding bell_index
bells_apart levels p q ne e = ne (omega arith)

-- a process that waits can go on by its spin word alone
goes_by_spin : (levels p : ℕ) (x : Process) (old new : Word → ℕ) → is_waiting x ≡ true
    → ((level : ℕ) → new (P level p) ≡ old (P level p)) → CanGoOn levels new p x → CanGoOn levels old p x
goes_by_spin levels p (Entering level E8) old new waits same moves =
    subst (λ (n : ℕ). next_of levels p (Entering level E8) n ≢ Entering level E8) (same level) moves
goes_by_spin levels p (Entering level E10) old new waits same moves =
    subst (λ (n : ℕ). next_of levels p (Entering level E10) n ≢ Entering level E10) (same level) moves
goes_by_spin levels p x old new waits same moves = absurd (false≢true waits)

-- the due access of a place leaves the spin words of another place as they are, or owes it a ring
abbrev SpinsStay : Access → ℕ → Type 0
SpinsStay a p = (old new : Word → ℕ) → Accesses a old new → (level : ℕ) → new (P level p) ≡ old (P level p)

stored_for : (level p rival value : ℕ) → Dec (rival ≡ p)
    → SpinsStay (Store (P level rival) value) p ⊎ (Debt rival ≡ Debt p)
stored_for level p rival value (yes same) = inr (ap Debt same)
stored_for level p rival value (no ne) =
    inl (λ old new stored l. stored.1 (P l p) (λ e. let same : P l p ≡ P level rival = e in let one : p ≡ rival = cc in ne (sym one)))

spins_or_debt : (levels place p n : ℕ) (x : Process) → p ≢ place
    → SpinsStay (access_of levels place x) p ⊎ (bell_after x n ≡ Debt p)
spins_or_debt levels place p n Idle ne = inl (λ old new stored l. stored.1 (P l p) (λ e. cc))
spins_or_debt levels place p n (Entering level E1) ne = inl (λ old new stored l. stored.1 (P l p) (λ e. cc))
spins_or_debt levels place p n (Entering level E2) ne = inl (λ old new stored l. stored.1 (P l p) (λ e. cc))
spins_or_debt levels place p n (Entering level E3) ne =
    inl (λ old new stored l. stored.1 (P l p) (λ e. let same : P l p ≡ P level place = e in let one : p ≡ place = cc in ne one))
spins_or_debt levels place p n (Entering level E4) ne = inl (λ old new stored l. stored (P l p))
spins_or_debt levels place p n (Entering level (E5 rival)) ne = inl (λ old new stored l. stored (P l p))
spins_or_debt levels place p n (Entering level (E6 rival)) ne = inl (λ old new stored l. stored (P l p))
spins_or_debt levels place p n (Entering level (E7 rival)) ne = stored_for level p rival 1 (ℕ_discrete rival p)
spins_or_debt levels place p n (Entering level E8) ne = inl (λ old new stored l. stored (P l p))
spins_or_debt levels place p n (Entering level E9) ne = inl (λ old new stored l. stored (P l p))
spins_or_debt levels place p n (Entering level E10) ne = inl (λ old new stored l. stored (P l p))
spins_or_debt levels place p n Inside ne = inl (λ old new stored l. stored.1 (P l p) (λ e. cc))
spins_or_debt levels place p n (Leaving level X1) ne = inl (λ old new stored l. stored.1 (P l p) (λ e. cc))
spins_or_debt levels place p n (Leaving level X2) ne = inl (λ old new stored l. stored (P l p))
spins_or_debt levels place p n (Leaving level (X3 rival)) ne = stored_for level p rival 2 (ℕ_discrete rival p)

-- the number that an access has found or stored is in its word afterwards
n_again : (a : Access) (row : List ℕ) (i n : ℕ) → i < length row → n ≡ value_after a (slice_index row i)
    → value_after a (slice_index (set row i n) i) ≡ n
n_again (Load w) row i n l e = get_or-set_same row i n 0 l
n_again (Store w m) row i n l e = sym e

-- a store in a bell changes no word of the tree
tree_stays : (levels : ℕ) (row : List ℕ) (place n : ℕ) → words_in levels (set row (bell_index levels place) n) ≡ words_in levels row
tree_stays levels row place n =
    let m : ℕ = making_index levels in let b : ℕ = bell_index levels place in let behind : m < b = bell_behind levels place in
    words_behind levels b row n (let le : m ≤ b = omega arith in le)

-- nor another bell
other_bell : (levels : ℕ) (row : List ℕ) (place p n : ℕ) → p ≢ place
    → slice_index (set row (bell_index levels place) n) (bell_index levels p) ≡ slice_index row (bell_index levels p)
other_bell levels row place p n ne =
    let b : ℕ = bell_index levels place in let c : ℕ = bell_index levels p in
    let apart : c ≢ b = bells_apart levels p place ne in get_or-set_other row b c n 0 (λ e. apart (omega arith))

-- a place that watches after its own due access has looked in vain just then
abbrev IsStuck : ℕ → ℕ → ℕ → Process → ℕ → Process → Type 0
IsStuck levels place n process p x =
    (place ≡ p) × (process ≡ x) × (next_of levels place process n ≡ process) × (is_waiting process ≡ true)

module _ {V : Type 0} (levels : ℕ) where
  -- a seat that owes no ring doesn't
  pub free_owes : (vain : Bool) (place : ℕ) (process : Process) (value : V) (count p : ℕ)
      → ¬ OwesRing (view_at (free vain) place process value count) p
  free_owes true place process value count p h = h
  free_owes false place process value count p h = h

  -- its view is another one than that of a seat that owes
  pub debt_owes : (b : BellKnowledge) (place : ℕ) (process : Process) (value : V) (count p : ℕ) → b ≡ Debt p
      → OwesRing (view_at b place process value count) p
  debt_owes b place process value count p e =
      subst (λ (c : BellKnowledge). OwesRing (view_at c place process value count) p) (sym e) refl

  -- whoever owes a place a ring still does if another seat's view changes
  still_owed : (views : List (View V)) (id : ℕ) (old new : View V) (p : ℕ) → get_elem? views id ≡ some old
      → ¬ OwesRing old p → IsOwedRing views p → IsOwedRing (set views id new) p
  still_owed views id old new p at none owed = (
    owed.0,
    (
      owed.1.0,
      set_else views id owed.0 new (λ same. none (subst (λ (v : View V). OwesRing v p)
          (some-injective owed.1.0 old (sym owed.1.1 ∙ (ap (λ (k : ℕ). get_elem? views k) same ∙ at))) owed.1.2)) ∙ owed.1.1,
      owed.1.2,
    ),
  )

  -- the clause holds of other words and views if the words of the tree and the bells are the same, no more seats watch,
  -- and no seat that owes a ring has changed
  pub frames : (row row' : List ℕ) (views views' : List (View V)) → words_in levels row' ≡ words_in levels row
      → ((place : ℕ) → slice_index row' (bell_index levels place) ≡ slice_index row (bell_index levels place))
      → ((seat : ℕ) (view : View V) (place : ℕ) (process : Process) → get_elem? views' seat ≡ some view
      → IsWatching view place process → get_elem? views seat ≡ some view)
      → ((place : ℕ) → IsOwedRing views place → IsOwedRing views' place)
      → NoneIsForgotten levels row views → NoneIsForgotten levels row' views'
  frames row row' views views' words bells watch owe rung seat place process view at watches =
      let old = rung seat place process view (watch seat view place process at watches) watches in (
        old.0,
        λ moves. ⊎_elim (λ bell. inl (λ e. bell (sym (bells place) ∙ e))) (λ owed. inr (owe place owed))
            (old.1 (subst (λ (w : Word → ℕ). CanGoOn levels w place process) words moves)),
      )

  -- a seat that owes nothing gets a view that doesn't watch
  pub set_quiet : (row : List ℕ) (views : List (View V)) (id : ℕ) (old new : View V) → get_elem? views id ≡ some old
      → ((p : ℕ) → ¬ OwesRing old p) → ((p : ℕ) (x : Process) → ¬ IsWatching new p x) → NoneIsForgotten levels row views
      → NoneIsForgotten levels row (set views id new)
  set_quiet row views id old new at none quiet rung =
      frames row row views (set views id new) refl (λ p. refl)
      (λ seat view p x there watches. ⊎_elim
      (λ q. absurd (quiet p x (subst (λ (v : View V). IsWatching v p x) (sym q.1) watches))) (λ q. q.1)
      (at_set views id seat new view there)) (λ p owed. still_owed views id old new p at (none p) owed) rung

  -- a seat that doesn't watch is added
  pub add_quiet : (row : List ℕ) (views : List (View V)) (new : View V) → ((p : ℕ) (x : Process) → ¬ IsWatching new p x)
      → NoneIsForgotten levels row views → NoneIsForgotten levels row (views ++ new ∷ [])
  add_quiet row views new quiet rung =
      frames row row views (views ++ new ∷ []) refl (λ p. refl)
      (λ seat view p x there watches. ⊎_elim (λ h. h)
      (λ e. absurd (quiet p x (subst (λ (v : View V). IsWatching v p x) (sym e) watches)))
      (at_snoc views new view seat there))
      (λ p owed. (owed.0, (owed.1.0, at_longer views (new ∷ []) owed.0 owed.1.0 owed.1.1, owed.1.2))) rung

  -- a store in the making word changes neither the tree nor a bell
  pub set_making : (row : List ℕ) (views : List (View V)) (n : ℕ) → NoneIsForgotten levels row views
      → NoneIsForgotten levels (set row (making_index levels) n) views
  set_making row views n rung =
      let m : ℕ = making_index levels in
      frames row (set row m n) views views (words_behind levels m row n (let here : m ≤ m = omega arith in here))
      (λ p. let b : ℕ = bell_index levels p in let behind : m < b = bell_behind levels p in
      get_or-set_other row m b n 0 (λ e. omega arith)) (λ seat view p x there watches. there) (λ p owed. owed) rung

  -- only one seat watches for a place, and no other seat has it
  abbrev pub OnlyHere : List (View V) → ℕ → ℕ → Type 0
  OnlyHere views id place =
      (seat : ℕ) (view : View V) (p : ℕ) (x : Process) → seat ≢ id → get_elem? views seat ≡ some view → IsWatching view p x
      → p ≢ place

  -- the store of a place in its own bell: it doesn't watch afterwards
  pub own_bell : (row : List ℕ) (views : List (View V)) (id n place : ℕ) (vain : Bool) (process : Process) (value : V)
      (count : ℕ) → get_elem? views id ≡ some (view_at (free vain) place process value count) → OnlyHere views id place
      → NoneIsForgotten levels row views
      → NoneIsForgotten levels (set row (bell_index levels place) n) (set views id (Seated place process value count))
  own_bell row views id n place vain process value count at only rung seat p x view there watches =
      ⊎_elim (λ q. absurd (subst (λ (v : View V). IsWatching v p x) (sym q.1) watches))
      (λ q. let old = rung seat p x view q.1 watches in (
        old.0,
        λ moves. ⊎_elim (λ bell. inl (λ e. bell (sym (other_bell levels row place p n (only seat view p x q.0 q.1 watches)) ∙ e)))
            (λ owed. inr (still_owed views id (view_at (free vain) place process value count)
            (Seated place process value count) p at (free_owes vain place process value count p) owed))
            (old.1 (subst (λ (w : Word → ℕ). CanGoOn levels w p x) (tree_stays levels row place n) moves)),
      ))
      (at_set views id seat (Seated place process value count) view there)

  -- a seat that owed a ring to one place owes another none
  pays_else : (views : List (View V)) (id q : ℕ) (y : Process) (value : V) (count rival p : ℕ)
      → get_elem? views id ≡ some (Owes q y value count rival) → rival ≢ p → IsOwedRing views p
      → IsOwedRing (set views id (Seated q y value count)) p
  pays_else views id q y value count rival p at ne owed =
      still_owed views id (Owes q y value count rival) (Seated q y value count) p at ne owed

  -- it finds the rival's bell other than 1
  pub finds_bell : (row : List ℕ) (views : List (View V)) (id q : ℕ) (y : Process) (value : V) (count rival : ℕ)
      → get_elem? views id ≡ some (Owes q y value count rival) → slice_index row (bell_index levels rival) ≢ 1
      → NoneIsForgotten levels row views → NoneIsForgotten levels row (set views id (Seated q y value count))
  finds_bell row views id q y value count rival at off rung seat p x view there watches =
      ⊎_elim (λ k. absurd (subst (λ (v : View V). IsWatching v p x) (sym k.1) watches))
      (λ k. let old = rung seat p x view k.1 watches in (
        old.0,
        λ moves. ⊎_elim (λ bell. inl bell) (λ owed. by_rival owed (ℕ_discrete rival p)) (old.1 moves),
      ))
      (at_set views id seat (Seated q y value count) view there)
    where
      by_rival : IsOwedRing views p → Dec (rival ≡ p)
          → (slice_index row (bell_index levels p) ≢ 1) ⊎ IsOwedRing (set views id (Seated q y value count)) p
      by_rival owed (yes same) = inl (subst (λ (k : ℕ). slice_index row (bell_index levels k) ≢ 1) same off)
      by_rival owed (no ne) = inr (pays_else views id q y value count rival p at ne owed)

  -- or stores 0 there
  pub clears_bell : (row : List ℕ) (views : List (View V)) (id q : ℕ) (y : Process) (value : V) (count rival : ℕ)
      → get_elem? views id ≡ some (Owes q y value count rival) → bell_index levels rival < length row
      → NoneIsForgotten levels row views
      → NoneIsForgotten levels (set row (bell_index levels rival) 0) (set views id (Seated q y value count))
  clears_bell row views id q y value count rival at within rung seat p x view there watches =
      ⊎_elim (λ k. absurd (subst (λ (v : View V). IsWatching v p x) (sym k.1) watches))
      (λ k. let old = rung seat p x view k.1 watches in (
        old.0,
        λ moves. by_rival (old.1 (subst (λ (w : Word → ℕ). CanGoOn levels w p x) (tree_stays levels row rival 0) moves))
            (ℕ_discrete rival p),
      ))
      (at_set views id seat (Seated q y value count) view there)
    where
      by_rival : (slice_index row (bell_index levels p) ≢ 1) ⊎ IsOwedRing views p → Dec (rival ≡ p)
          → (slice_index (set row (bell_index levels rival) 0) (bell_index levels p) ≢ 1)
          ⊎ IsOwedRing (set views id (Seated q y value count)) p
      by_rival h (yes same) =
          inl (subst (λ (k : ℕ). slice_index (set row (bell_index levels rival) 0) (bell_index levels k) ≢ 1) same
          (λ e. let zero : ◌≡◌ {A = ℕ} 0 1 = sym (get_or-set_same row (bell_index levels rival) 0 0 within) ∙ e in omega arith))
      by_rival (inl bell) (no ne) = inl (λ e. bell (sym (other_bell levels row rival p 0 (λ same. ne (sym same))) ∙ e))
      by_rival (inr owed) (no ne) = inr (pays_else views id q y value count rival p at ne owed)

  stuck_e8 : (b : Bool) (place level total p : ℕ) (next : V) (x : Process)
      → IsWatching (view_at (free b) place (if b then Entering level E8 else Entering level E9) next total) p x
      → (place ≡ p) × (Entering level E8 ≡ x) × (b ≡ true)
  stuck_e8 true place level total p next x h = (h.0, h.1, refl)
  stuck_e8 false place level total p next x h = absurd h

  stuck_e10 : (b : Bool) (place level total p : ℕ) (next : V) (x : Process)
      → IsWatching (view_at (if b then Quiet else Vain) place (if b then after_entry levels level else Entering level E10) next total) p x
      → (place ≡ p) × (Entering level E10 ≡ x) × (b ≡ false)
  stuck_e10 true place level total p next x h = absurd h
  stuck_e10 false place level total p next x h = (h.0, h.1, refl)

  stuck : (place n total p : ℕ) (next : V) (process x : Process)
      → IsWatching (view_at (bell_after process n) place (next_of levels place process n) next total) p x
      → IsStuck levels place n process p x
  stuck place n total p next (Entering level E8) x h =
      let s = stuck_e8 (n == 0) place level total p next x h in
      (s.0, s.1, ap (λ (b : Bool). if b then Entering level E8 else Entering level E9) s.2, refl)
  stuck place n total p next (Entering level E10) x h =
      let s = stuck_e10 (n == 2) place level total p next x h in
      (s.0, s.1, ap (λ (b : Bool). if b then after_entry levels level else Entering level E10) s.2, refl)
  stuck place n total p next (Leaving level X1) x h = absurd h
  stuck place n total p next (Leaving level X2) x h = absurd h
  stuck place n total p next (Leaving level (X3 rival)) x h = absurd h
  stuck place n total p next process x h = absurd h

  -- the due access of a process keeps the clause
  pub due_rung : (row : List ℕ) (views : List (View V)) (id place i n : ℕ) (vain : Bool) (process : Process)
      (value next : V) (count total : ℕ) → get_elem? views id ≡ some (view_at (free vain) place process value count)
      → IsWord levels (word_of (access_of levels place process)) → i ≡ index_of levels (word_of (access_of levels place process))
      → i < length row → n ≡ value_after (access_of levels place process) (slice_index row i) → OnlyHere views id place
      → NoneIsForgotten levels row views
      → NoneIsForgotten levels (set row i n)
      (set views id (view_at (bell_after process n) place (next_of levels place process n) next total))
  due_rung row views id place i n vain process value next count total at word index within is only rung seat p x view there
      watches =
      ⊎_elim (λ q. own (stuck place n total p next process x (subst (λ (v : View V). IsWatching v p x) (sym q.1) watches)))
      (λ q. other (only seat view p x q.0 q.1 watches) (rung seat p x view q.1 watches))
      (at_set views id seat new view there)
    where
      a : Access
      a = access_of levels place process

      new : View V
      new = view_at (bell_after process n) place (next_of levels place process n) next total

      -- the clause for the place
      Kept : Type 0
      Kept = (is_waiting x ≡ true) × (CanGoOn levels (words_in levels (set row i n)) p x
          → (slice_index (set row i n) (bell_index levels p) ≢ 1) ⊎ IsOwedRing (set views id new) p)

      again : value_of (words_in levels (set row i n)) a ≡ n
      again = value_is levels i (set row i n) a word index ∙ n_again a row i n within is

      own : IsStuck levels place n process p x → Kept
      own s = (
        ap is_waiting (sym s.1) ∙ s.3,
        λ moves. absurd (subst (λ (k : ℕ). CanGoOn levels (words_in levels (set row i n)) k process → ⊥) s.0
            (λ goes. goes (ap (next_of levels place process) again ∙ s.2))
            (subst (λ (y : Process). CanGoOn levels (words_in levels (set row i n)) p y) (sym s.1) moves)),
      )

      stored : Accesses a (words_in levels row) (words_in levels (set row i n))
      stored = subst (λ (m : ℕ). Accesses a (words_in levels row) (words_in levels (set row i m))) (sym is)
          (accesses levels i row a word index within)

      bell_stays : slice_index (set row i n) (bell_index levels p) ≡ slice_index row (bell_index levels p)
      bell_stays =
          let m : ℕ = making_index levels in let b : ℕ = bell_index levels p in let behind : m < b = bell_behind levels p in
          let j : ℕ = index_of levels (word_of a) in let below : j + 8 ≤ m = index_below levels (word_of a) word in
          let same : i ≡ j = index in get_or-set_other row i b n 0 (λ e. omega arith)

      other : p ≢ place
          → (is_waiting x ≡ true) × (CanGoOn levels (words_in levels row) p x
          → (slice_index row (bell_index levels p) ≢ 1) ⊎ IsOwedRing views p) → Kept
      other ne old = (
        old.0,
        λ moves. ⊎_elim
            (λ stay. ⊎_elim (λ bell. inl (λ e. bell (sym bell_stays ∙ e)))
            (λ owed. inr (still_owed views id (view_at (free vain) place process value count) new p at
            (free_owes vain place process value count p) owed))
            (old.1 (goes_by_spin levels p x (words_in levels row) (words_in levels (set row i n)) old.0
            (stay (words_in levels row) (words_in levels (set row i n)) stored) moves)))
            (λ debt. inr (id, (new, set_here, debt_owes (bell_after process n) place (next_of levels place process n) next total p debt)))
            (spins_or_debt levels place p n process ne),
      )
        where
          set_here : get_elem? (set views id new) id ≡ some new
          set_here = set_at views id (view_at (free vain) place process value count) new at
