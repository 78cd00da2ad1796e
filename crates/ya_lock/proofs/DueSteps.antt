-- The due step of a process may be taken at every moment.
use Rattle.std.proofs.Common.{◌≡◌, ◌≢◌, ℕ, ◌+◌, ◌*◌, ◌^◌, ◌<◌, ◌≤◌, Bool, sym, refl, ap, ◌∙◌, subst, arith, slice_index, length}
use Rattle.std.specs.Prelude as std
use mathlib.Core.Option.{some}
use lib.ListN.{get_elem?}
use Rattle.atomic_table.specs.Table.{State, stepped, homes_after}
use Rattle.atomic_table.proofs.Lists.{set_else}
use Rattle.ya_core.specs.declared.word.Access.{Access}
use Rattle.ya_core.specs.declared.word.Access.TheVariants.{Load, Store}
use Rattle.ya_core.specs.declared.process.Process.{Process}
use Rattle.ya_core.specs.ArbitrationTree.{IsWord}
use Rattle.ya_core.specs.Steps.{access_of, next_of, value_of}
use Rattle.ya_core.specs.Machines.{word_of}
use Rattle.ya_core.specs.WalkerModel.{AccessIsWithin}
use Rattle.ya_core.specs.Worlds.{is_inside}
use Rattle.ya_core.proofs.Promised.{within_access}
use Rattle.ya_lock.specs.declared.rule.View.{View}
use Rattle.ya_lock.specs.Rule.{index_of, making_index, words_in, Rule, Slots, count_after, free, view_at, bell_after}
use Rattle.ya_lock.proofs.Frames.{fits_of}
use Rattle.ya_lock.specs.DueStep.{IsReady, MovesValue, TakesStep, EachMayStep}
use Rattle.ya_lock.specs.inside.Rule.{value_after}
use Rattle.ya_lock.proofs.WordsInRow.{index_below, set_at, value_is, accesses}
use Rattle.ya_lock.proofs.ProcessSteps.{moves_value}

-- an access that is within the tree is of a word of the tree
pub word_within : (levels : ℕ) (a : Access) → AccessIsWithin levels a → IsWord levels (word_of a)
word_within levels (Load word) within = within
word_within levels (Store word value) within = within

module _ {V : Type 0} (since done : ℕ → V → V → Type 0) (since_same : (place : ℕ) (a : V) → since place a a)
    (since_done : (place other : ℕ) (a b c : V) → other ≢ place → since place a b → done other b c → since place a c)
    (levels : ℕ) (least : 1 ≤ levels) where
  -- a state of the table
  abbrev St : Type 0
  St = State (std.Option V) (View V)

  -- the step of the process that the global view shows
  takes : (s : St) (r : Rule since levels s) (seat place : ℕ) (vain : Bool) (value : V) (count : ℕ) (slots : Slots V)
      → get_elem? s.views seat ≡ some (view_at (free vain) place (r.0.processes place) value count)
      → IsReady done (is_inside (r.0.processes place)) place value slots
      → (t : St) × TakesStep since levels seat place (r.0.processes place) value count slots s t
  takes s r seat place vain value count slots at ready =
      let x : Process = r.0.processes place in
      let room : place < 2 ^ levels = (fits_of since levels s r.0 seat (free vain) place x value count
      (r.1.fits seat (view_at (free vain) place x value count) at)).5 in
      let a : Access = access_of levels place x in
      let word : IsWord levels (word_of a) =
      word_within levels a (within_access levels place x least room (r.1.sound.proper place)) in
      let i : ℕ = index_of levels (word_of a) in
      let m : ℕ = making_index levels in
      let long : ℕ = length s.words in
      let places : ℕ = 2 ^ levels in
      let wide : long ≡ m + 8 * (1 + places) = r.1.wide in
      let below : i + 8 ≤ m = index_below levels (word_of a) word in
      let n : ℕ = value_after a (slice_index s.words i) in
      let whole = moves_value since done since_same since_done levels least s r.0 r.1 r.2 seat place i vain value count slots at room
      word refl ready in
      let step = whole.0 in let moved = whole.1 in
      let found : value_of (words_in levels s.words) a ≡ n = value_is levels i s.words a word refl in (
        stepped s i n seat slots step.0 step.1,
        record {
          access = accesses levels i s.words a word refl (let l : i < long = omega arith in l);
          value = moved.0;
          own = set_at s.views seat (view_at (free vain) place x value count) step.0 at
              ∙ ap some (moved.1 ∙ ap (λ (k : ℕ). view_at (bell_after x k) place (next_of levels place x k) moved.0
              (count_after levels place x count)) (sym found));
          moves = subst (λ (k : ℕ). MovesValue since (is_inside x) (is_inside (next_of levels place x k)) place value moved.0 slots
              s.homes (homes_after s.homes slots step.1)) (sym found) moved.2;
          others = λ other apart. set_else s.views seat other step.0 apart;
          rule = step.3;
        },
      )

  -- the due steps at each moment
  pub each_may_step : (s : St) → Rule since levels s → EachMayStep since done levels s
  each_may_step s r seat place vain process value count slots at ready =
      let f : r.0.processes place ≡ process = (fits_of since levels s r.0 seat (free vain) place process value count
      (r.1.fits seat (view_at (free vain) place process value count) at)).2 in
      subst (λ (x : Process). (t : St) × TakesStep since levels seat place x value count slots s t) f
      (takes s r seat place vain value count slots
      (at ∙ ap (λ (x : Process). some (view_at (free vain) place x value count)) (sym f))
      (subst (λ (x : Process). IsReady done (is_inside x) place value slots) (sym f) ready))
