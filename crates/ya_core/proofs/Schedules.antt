-- Schedules: their runs, the progress of places under a fair one, and the fair schedule that lets all places step
-- in turn.
use Rattle.std.proofs.Common.{◌≡◌, ℕ, zero, suc, ◌+◌, ◌*◌, ◌%◌, ◌^◌, ◌<◌, ◌≤◌, refl, arith, ap, sym, ◌∙◌, subst}
use Rattle.std.proofs.Common.{◌⊎◌, inl, inr, IsTrue, List, [], ◌∷◌}
use Rattle.std.specs.Prelude.{Option, Some, None}
use Rattle.std.proofs.Math.Nat.{mod-lt, le-mul_of_pos_right}
use Rattle.std.proofs.lemmas.Nat.{pow_pos, mod-mul-add}
use Rattle.ya_core.specs.declared.process.Process.TheVariants.{Idle, Inside}
use Rattle.ya_core.specs.Steps.{State, LeadTo}
use Rattle.ya_core.specs.Soundness.{IsSoundState}
use Rattle.ya_core.specs.Progress.{CanLeadTo}
use Rattle.ya_core.specs.Fairness.{PickLeadsTo, IsRunOfSchedule, IsFair, PicksEachAgain, Eventually, is_on_way_in, is_on_way_out}
use Rattle.ya_core.specs.Worlds.{IsInside, is_inside}
use Rattle.ya_core.proofs.Invariant.{is_inside_is}
use Rattle.ya_core.proofs.Outcomes.{may_step, one_outcome}
use Rattle.ya_core.proofs.Deadlock.{in_tree}
use Rattle.ya_core.proofs.Picks.{pick_keeps}
use Rattle.ya_core.proofs.Starvation.{comes_inside, goes_idle}

-- the picks of a schedule, from a sound state on
module _ (levels : ℕ) (some : 1 ≤ levels) (schedule : ℕ → Option ℕ) (states : ℕ → State)
    (is : IsSoundState levels (states 0))
    (step : (time : ℕ) → PickLeadsTo levels (schedule time) (states time) (states (time + 1))) where
  -- each state is sound
  sound_at : (time : ℕ) → IsSoundState levels (states time)
  sound_at zero = is
  sound_at (suc n) =
      subst (λ k. IsSoundState levels (states k)) (let next : n + 1 ≡ suc n = omega arith in next)
      (pick_keeps levels some (schedule n) (states n) (states (n + 1)) (step n) (sound_at n))

  -- the places that are picked from a time on lead to the state of a later one
  leads : (d n m : ℕ) → m ≡ n + d → (places : List ℕ) × LeadTo levels (states n) places (states m)
  leads zero n m e = ([], ap states (let same : m ≡ n = omega (arith, e) in same))
  leads (suc d) n m e = by_pick (schedule n) (step n) (leads d (n + 1) m (omega (arith, e)))
    where
      by_pick : (pick : Option ℕ) → PickLeadsTo levels pick (states n) (states (n + 1))
          → (places : List ℕ) × LeadTo levels (states (n + 1)) places (states m)
          → (places : List ℕ) × LeadTo levels (states n) places (states m)
      by_pick None same rest = (rest.0, subst (λ s. LeadTo levels s rest.0 (states m)) same rest.1)
      by_pick (Some place) goes rest = (place ∷ rest.0, (states (n + 1), goes, rest.1))

  leads_at : (So : State → Type 0) → Eventually 0 (λ later. So (states later)) → CanLeadTo levels (states 0) So
  leads_at So found =
      let lead = leads found.0 0 found.0 (omega arith) in (lead.0, states found.0, lead.1, found.2)

-- places come inside, or to idle, under a fair schedule
enters_at : (levels : ℕ) (schedule : ℕ → Option ℕ) (states : ℕ → State) → 1 ≤ levels → IsSoundState levels (states 0)
    → ((time : ℕ) → PickLeadsTo levels (schedule time) (states time) (states (time + 1)))
    → IsFair schedule states → (place time : ℕ) → IsTrue (is_on_way_in ((states time).processes place))
    → Eventually time (λ later. IsInside (states later) place)
enters_at levels schedule states some is step fair place time way =
    let found = comes_inside levels some schedule states (sound_at levels some schedule states is step) step fair place
    time way in (found.0, found.1, ap is_inside found.2)

leaves_at : (levels : ℕ) (schedule : ℕ → Option ℕ) (states : ℕ → State) → 1 ≤ levels → IsSoundState levels (states 0)
    → ((time : ℕ) → PickLeadsTo levels (schedule time) (states time) (states (time + 1)))
    → IsFair schedule states → (place time : ℕ)
    → IsInside (states time) place ⊎ IsTrue (is_on_way_out ((states time).processes place))
    → Eventually time (λ later. (states later).processes place ≡ Idle)
leaves_at levels schedule states some is step fair place time way =
    goes_idle levels some schedule states (sound_at levels some schedule states is step) step fair place time
    (by_way way)
  where
    by_way : IsInside (states time) place ⊎ IsTrue (is_on_way_out ((states time).processes place))
        → ((states time).processes place ≡ Inside) ⊎ IsTrue (is_on_way_out ((states time).processes place))
    by_way (inl inside) = inl (is_inside_is ((states time).processes place) inside)
    by_way (inr out) = inr out

-- the same for a run
pub enters : (levels : ℕ) (schedule : ℕ → Option ℕ) (first : State) (states : ℕ → State) → 1 ≤ levels
    → IsSoundState levels first → IsRunOfSchedule levels schedule first states → IsFair schedule states
    → (place time : ℕ) → IsTrue (is_on_way_in ((states time).processes place))
    → Eventually time (λ later. IsInside (states later) place)
enters levels schedule first states some is run =
    enters_at levels schedule states some (subst (IsSoundState levels) (sym run.start) is) run.picks

pub leaves : (levels : ℕ) (schedule : ℕ → Option ℕ) (first : State) (states : ℕ → State) → 1 ≤ levels
    → IsSoundState levels first → IsRunOfSchedule levels schedule first states → IsFair schedule states
    → (place time : ℕ) → IsInside (states time) place ⊎ IsTrue (is_on_way_out ((states time).processes place))
    → Eventually time (λ later. (states later).processes place ≡ Idle)
leaves levels schedule first states some is run =
    leaves_at levels schedule states some (subst (IsSoundState levels) (sym run.start) is) run.picks

-- each pick leads to one state
pick_may : (levels : ℕ) (pick : Option ℕ) (s : State) → ((place : ℕ) → pick ≡ Some place → place < 2 ^ levels)
    → (t : State) × PickLeadsTo levels pick s t
pick_may levels None s within = (s, refl)
pick_may levels (Some place) s within = may_step levels place s (within place refl)

one_pick : (levels : ℕ) (pick : Option ℕ) (s t u : State) → PickLeadsTo levels pick s t → PickLeadsTo levels pick s u
    → t ≡ u
one_pick levels None s t u a b = a ∙ sym b
one_pick levels (Some place) s t u a b = one_outcome levels place s t u a b

-- a schedule picks places of the tree
abbrev Within : ℕ → (ℕ → Option ℕ) → Type 0
Within levels schedule = (time place : ℕ) → schedule time ≡ Some place → place < 2 ^ levels

-- the states after the picks of a schedule, from a state
states_from : (levels : ℕ) (schedule : ℕ → Option ℕ) → Within levels schedule → State → ℕ → State
states_from levels schedule within s zero = s
states_from levels schedule within s (suc n) =
    (pick_may levels (schedule n) (states_from levels schedule within s n) (within n)).0

steps_from : (levels : ℕ) (schedule : ℕ → Option ℕ) (within : Within levels schedule) (s : State) (n : ℕ)
    → PickLeadsTo levels (schedule n) (states_from levels schedule within s n)
    (states_from levels schedule within s (n + 1))
unfolding states_from
steps_from levels schedule within s n =
    subst
    (λ k. PickLeadsTo levels (schedule n) (states_from levels schedule within s n)
    (states_from levels schedule within s k)) (let next : suc n ≡ n + 1 = omega arith in next)
    (pick_may levels (schedule n) (states_from levels schedule within s n) (within n)).1

-- each schedule has a run
is_run : (levels : ℕ) (schedule : ℕ → Option ℕ) (first : State) (within : Within levels schedule)
    → IsRunOfSchedule levels schedule first (states_from levels schedule within first)
unfolding states_from
is_run levels schedule first within = record { start = refl; picks = steps_from levels schedule within first }

pub run_of : (levels : ℕ) (schedule : ℕ → Option ℕ) (first : State) → Within levels schedule
    → (states : ℕ → State) × IsRunOfSchedule levels schedule first states
run_of levels schedule first within =
    (states_from levels schedule within first, is_run levels schedule first within)

-- and no other
pub one_run : (levels : ℕ) (schedule : ℕ → Option ℕ) (first : State) (states other : ℕ → State)
    → IsRunOfSchedule levels schedule first states → IsRunOfSchedule levels schedule first other
    → (time : ℕ) → other time ≡ states time
one_run levels schedule first states other run also zero = also.start ∙ sym run.start
one_run levels schedule first states other run also (suc n) =
    subst (λ k. other k ≡ states k) (let next : n + 1 ≡ suc n = omega arith in next)
    (one_pick levels (schedule n) (states n) (other (n + 1)) (states (n + 1))
    (subst (λ s. PickLeadsTo levels (schedule n) s (other (n + 1)))
    (one_run levels schedule first states other run also n) (also.picks n)) (run.picks n))

-- all places of the tree in turn: from each sound state on that is fair
in_turn : ℕ → ℕ → ℕ
in_turn levels time = time % 2 ^ levels

abbrev by_turns : ℕ → ℕ → Option ℕ
by_turns levels time = Some (in_turn levels time)

in_turn_within : (levels : ℕ) → Within levels (by_turns levels)
unfolding in_turn
in_turn_within levels time place picks =
    let same : time % 2 ^ levels ≡ place = cc in subst (λ p. p < 2 ^ levels) same (mod-lt time (pow_pos levels))

each_again : (levels : ℕ) → PicksEachAgain levels (in_turn levels)
unfolding in_turn
each_again levels place time room = (
  time * 2 ^ levels + place,
  (let passed : time ≤ time * 2 ^ levels = le-mul_of_pos_right time (pow_pos levels) in omega (arith, passed)),
  mod-mul-add time (2 ^ levels) place room,
)

abbrev turns : (levels : ℕ) → State → ℕ → State
turns levels = states_from levels (by_turns levels) (in_turn_within levels)

module _ (levels : ℕ) (some : 1 ≤ levels) (s : State) (is : IsSoundState levels s) where
  turns_sound : IsSoundState levels (turns levels s 0)
  unfolding states_from
  turns_sound = is

  turns_step : (time : ℕ) → PickLeadsTo levels (by_turns levels time) (turns levels s time) (turns levels s (time + 1))
  turns_step = steps_from levels (by_turns levels) (in_turn_within levels) s

  turns_fair : IsFair (by_turns levels) (turns levels s)
  turns_fair place time busy =
      let sound = sound_at levels some (by_turns levels) (turns levels s) turns_sound turns_step time in
      let now = turns levels s time in
      let room = in_tree levels now some sound place (now.processes place) refl busy in
      let found = each_again levels place time room in (found.0, found.1, ap Some found.2)

  -- so some finite schedule leads each place inside, or to idle
  pub can_enter_from : (place : ℕ) → IsTrue (is_on_way_in (s.processes place))
      → CanLeadTo levels s (λ after. IsInside after place)
  unfolding states_from
  can_enter_from place way =
      leads_at levels some (by_turns levels) (turns levels s) turns_sound turns_step (λ t. IsInside t place)
      (enters_at levels (by_turns levels) (turns levels s) some turns_sound turns_step turns_fair place 0 way)

  pub can_leave_from : (place : ℕ) → IsInside s place ⊎ IsTrue (is_on_way_out (s.processes place))
      → CanLeadTo levels s (λ after. after.processes place ≡ Idle)
  unfolding states_from
  can_leave_from place way =
      leads_at levels some (by_turns levels) (turns levels s) turns_sound turns_step (λ t. t.processes place ≡ Idle)
      (leaves_at levels (by_turns levels) (turns levels s) some turns_sound turns_step turns_fair place 0 way)

-- and some schedule is fair that picks all places in turn
pub some_fair : (levels : ℕ) (first : State) → 1 ≤ levels → IsSoundState levels first
    → (schedule : ℕ → ℕ) × (states : ℕ → State) × IsRunOfSchedule levels (λ time. Some (schedule time)) first states
    × IsFair (λ time. Some (schedule time)) states × PicksEachAgain levels schedule
some_fair levels first some is = (
  in_turn levels,
  turns levels first,
  is_run levels (by_turns levels) first (in_turn_within levels),
  turns_fair levels some first is,
  each_again levels,
)
