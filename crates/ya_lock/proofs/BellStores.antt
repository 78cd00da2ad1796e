-- A step at a bell keeps the rule: it changes no word of the tree, and only what the seat knows of bells.
use Rattle.std.proofs.Common.{◌≡◌, ◌≢◌, ℕ, ◌^◌, ◌<◌, ◌≤◌, Bool, true, false, List, set, sym, refl, ap, ◌∙◌, subst, arith}
use Rattle.std.proofs.Common.{slice_index, ⊎_elim}
use Rattle.std.specs.Prelude as std
use Rattle.std.proofs.lemmas.List.{length-set, get_or-set_other}
use mathlib.Core.Option.{some}
use native.Mathlib.Decide.{ℕ_discrete}
use lib.ListN.{get_elem?}
use Rattle.atomic_table.specs.Table.{State, Me, keeps, Act, Valid, stepped, carried_after, Allows}
use Rattle.atomic_table.proofs.Lists.{set_again, at_set}
use Rattle.ya_core.specs.declared.word.Word.{Word}
use Rattle.ya_core.specs.declared.process.Process.{Process}
use Rattle.ya_core.specs.Soundness.{IsSoundState}
use Rattle.ya_lock.specs.declared.rule.View.{View}
use Rattle.ya_lock.specs.declared.rule.View.TheVariants.{Unused, Making, Filling, HandingOut, Seated, Watching, Owes, Joining, Spent}
use Rattle.ya_lock.specs.Rule.{making_index, bell_index, GlobalView, ViewFits, Obeys, Rule, NoneIsForgotten}
use Rattle.ya_lock.specs.Rule.{BellKnowledge, Quiet, Debt, free, view_at, OwesRing}
use Rattle.ya_lock.specs.StepEffects.{awake, paid, SetsBell, FindsBell, ClearsBell}
use Rattle.ya_lock.specs.inside.Lock.{IsFreeSeat}
use Rattle.ya_lock.proofs.WordsInRow.{words_behind, word_kept, bell_behind, bell_within}
use Rattle.ya_lock.proofs.Rings.{own_bell, finds_bell, clears_bell}
use Rattle.ya_lock.proofs.Frames.{refits, sits_still, place_at, fits_at, fits_of, only_here}

module _ {V : Type 0} (since : ℕ → V → V → Type 0) (levels : ℕ) where
  -- a state of the table
  abbrev St : Type 0
  St = State (std.Option V) (View V)

  -- the state with another number in a word, and another view of a seat
  abbrev changed : St → ℕ → ℕ → ℕ → View V → St
  changed s i n id view = record { words = set s.words i n; homes = s.homes; views = set s.views id view }

  -- the rest of the rule doesn't see the bells, nor what a seat knows of them
  unseen : (s : St) (x : GlobalView V) → Obeys since levels s x → (i n id : ℕ) (b c : BellKnowledge) (place : ℕ) (process : Process)
      (value : V) (count : ℕ) → making_index levels < i → get_elem? s.views id ≡ some (view_at b place process value count)
      → Obeys since levels (changed s i n id (view_at c place process value count)) x
  unseen s x o i n id b c place process value count behind at =
      let m : ℕ = making_index levels in
      let making : slice_index (set s.words i n) m ≡ slice_index s.words m =
      get_or-set_other s.words i m n 0 (λ e. omega arith) in
      let t : St = changed s i n id (view_at c place process value count) in
      record {
        wide = length-set s.words i n ∙ o.wide;
        unmade = λ e. o.unmade (sym making ∙ e);
        before = o.before;
        seated = λ k seat e. sits_still since levels s.views id (view_at b place process value count)
            (view_at c place process value count) at
            (place_at since levels c place process value count ∙ sym (place_at since levels b place process value count)) k seat
            (o.seated k seat e);
        absent = o.absent;
        sound = subst (λ (words : Word → ℕ). IsSoundState levels record { words = words; processes = x.processes })
            (sym (words_behind levels i s.words n (let le : m ≤ i = omega arith in le))) o.sound;
        lies = o.lies;
        fits = λ seat view there. ⊎_elim
            (λ p. subst (λ (v : View V). ViewFits since levels t x seat v) p.1
            (subst (λ (k : ℕ). ViewFits since levels t x k (view_at c place process value count)) (sym p.0)
            (fits_at since levels t x id c place process value count
            (refits since levels s t x (λ begun e. begun (sym making ∙ e)) id (Seated place process value count) (λ _. refl)
            (fits_of since levels s x id b place process value count (o.fits id (view_at b place process value count) at))))))
            (λ p. refits since levels s t x (λ begun e. begun (sym making ∙ e)) seat view (λ _. refl) (o.fits seat view p.1))
            (at_set s.views id seat (view_at c place process value count) view there);
      }

  -- a seat that owes no ring is awake once it stores in its own bell
  awake_free : (vain : Bool) (place : ℕ) (process : Process) (value : V) (count : ℕ)
      → awake (view_at (free vain) place process value count) ≡ Seated place process value count
  awake_free true place process value count = refl
  awake_free false place process value count = refl

  -- the store of a place in its own bell
  pub announces : (slots id i n place : ℕ) (me : Me (std.Option V) (View V)) → IsFreeSeat place me.0
      → i ≡ bell_index levels place → n ≤ 1
      → Allows (Rule since levels) slots id me i (λ _. n) (λ _ then'. SetsBell n me then')
  announces slots id i n place me own is bit s rule wide at small =
      let vain : Bool = own.0 in let process : Process = own.1.0 in let value : V = own.1.1.0 in let count : ℕ = own.1.1.1.0 in
      let seat = own.1.1.1.1 in
      let x : GlobalView V = rule.0 in let o = rule.1 in
      let there = at ∙ ap some seat in
      let m : ℕ = making_index levels in let bell : ℕ = bell_index levels place in
      let behind : m < bell = bell_behind levels place in let index : i ≡ bell = is in
      let f = fits_of since levels s x id (free vain) place process value count
      (o.fits id (view_at (free vain) place process value count) there) in (
        Seated place process value count,
        keeps,
        tt,
        (
          x,
          unseen s x o i n id (free vain) Quiet place process value count (let h : m < i = omega arith in h) there,
          subst (λ (j : ℕ). NoneIsForgotten levels (set s.words j n) (set s.views id (Seated place process value count)))
              (sym is)
              (own_bell levels s.words s.views id n place vain process value count there
              (only_here since levels s x o id place f.1) rule.2),
        ),
        (bit, (λ k. (sym (ap awake seat ∙ awake_free vain place process value count) k, me.1))),
      )

  -- the parts of a seat that owes a ring
  IsDebt : View V → ℕ → Type 0
  IsDebt view rival =
      (place : ℕ) × ((process : Process) × ((value : V) × ((count : ℕ) × (view ≡ Owes place process value count rival))))

  in_debt : (view : View V) (rival : ℕ) → OwesRing view rival → IsDebt view rival
  unfolding IsDebt
  in_debt Unused rival h = absurd h
  in_debt Making rival h = absurd h
  in_debt Filling rival h = absurd h
  in_debt (HandingOut first value) rival h = absurd h
  in_debt (Seated place process value count) rival h = absurd h
  in_debt (Watching place process value count) rival h = absurd h
  in_debt (Owes place process value count other) rival h =
      (place, (process, (value, (count, ap (λ (k : ℕ). Owes place process value count k) h))))
  in_debt (Joining place value other seen count) rival h = absurd h
  in_debt Spent rival h = absurd h

  -- the load of the bell of a place that is owed a ring
  pub finds : (slots id i rival : ℕ) (me : Me (std.Option V) (View V)) → OwesRing me.0 rival → i ≡ bell_index levels rival
      → Allows (Rule since levels) slots id me i (λ n. n) (λ n then'. FindsBell n me then')
  unfolding IsDebt
  finds slots id i rival me owes is s rule wide at small = by_found (ℕ_discrete (slice_index s.words i) 1)
    where
      x : GlobalView V
      x = rule.0

      debt : IsDebt me.0 rival
      debt = in_debt me.0 rival owes

      place : ℕ
      place = debt.0

      process : Process
      process = debt.1.0

      value : V
      value = debt.1.1.0

      count : ℕ
      count = debt.1.1.1.0

      seat : me.0 ≡ Owes place process value count rival
      seat = debt.1.1.1.1

      there : get_elem? s.views id ≡ some (Owes place process value count rival)
      there = at ∙ ap some seat

      behind : making_index levels < i
      behind =
          let m : ℕ = making_index levels in let bell : ℕ = bell_index levels rival in
          let h : m < bell = bell_behind levels rival in let index : i ≡ bell = is in omega arith

      n : ℕ
      n = slice_index s.words i

      by_found : Dec (n ≡ 1)
          → (w : View V) × (a : Act (std.Option V)) × Valid s.homes me.1 a
          × Rule since levels (stepped s i n id me.1 w a) × FindsBell n me (w, carried_after me.1 a)
      by_found (yes one) = (
        me.0,
        keeps,
        tt,
        subst (λ (row : List ℕ). Rule since levels record { words = row; homes = s.homes; views = set s.views id me.0 })
            (sym (word_kept s.words i))
            (subst (λ (views : List (View V)). Rule since levels record { words = s.words; homes = s.homes; views = views })
            (sym (set_again s.views id me.0 at)) rule),
        ((λ e. refl), (λ other. absurd (other one))),
      )
      by_found (no off) = (
        Seated place process value count,
        keeps,
        tt,
        (
          x,
          unseen s x rule.1 i n id (Debt rival) Quiet place process value count behind there,
          subst (λ (row : List ℕ). NoneIsForgotten levels row (set s.views id (Seated place process value count)))
              (sym (word_kept s.words i))
              (finds_bell levels s.words s.views id place process value count rival there
              (subst (λ (j : ℕ). slice_index s.words j ≢ 1) is off) rule.2),
        ),
        ((λ e. absurd (off e)), (λ e. λ k. (sym (ap paid seat) k, me.1))),
      )

  -- the store of 0 there
  pub clears : (slots id i rival : ℕ) (me : Me (std.Option V) (View V)) → OwesRing me.0 rival → rival < 2 ^ levels
      → i ≡ bell_index levels rival
      → Allows (Rule since levels) slots id me i (λ _. 0) (λ _ then'. ClearsBell 0 me then')
  unfolding IsDebt
  clears slots id i rival me owes below is s rule wide at small =
      let debt = in_debt me.0 rival owes in
      let place : ℕ = debt.0 in let process : Process = debt.1.0 in let value : V = debt.1.1.0 in
      let count : ℕ = debt.1.1.1.0 in let seat = debt.1.1.1.1 in
      let x : GlobalView V = rule.0 in let o = rule.1 in let there = at ∙ ap some seat in
      let m : ℕ = making_index levels in let bell : ℕ = bell_index levels rival in
      let behind : m < bell = bell_behind levels rival in let index : i ≡ bell = is in (
        Seated place process value count,
        keeps,
        tt,
        (
          x,
          unseen s x o i 0 id (Debt rival) Quiet place process value count (let h : m < i = omega arith in h) there,
          subst (λ (j : ℕ). NoneIsForgotten levels (set s.words j 0) (set s.views id (Seated place process value count)))
              (sym is)
              (clears_bell levels s.words s.views id place process value count rival there
              (subst (λ (l : ℕ). bell_index levels rival < l) (sym o.wide) (bell_within levels rival below)) rule.2),
        ),
        (refl, (λ k. (sym (ap paid seat) k, me.1))),
      )
