-- At a node, from its store of T, no place is overtaken twice: once the other side has won, T names a waiting place
-- only if each rival that is past holds the node.
use Rattle.std.proofs.Common.{◌≡◌, ◌≢◌, ℕ, ◌+◌, ◌≤◌, ◌==◌, ◌&&◌, not, Bool, true, false, refl, arith, ap, sym}
use Rattle.std.proofs.Common.{◌∙◌, subst, ◌⊎◌, inl, inr, if◌then◌else◌, IsTrue, List, [], ◌∷◌, ◌++◌}
use Rattle.std.proofs.lemmas.Bool.Decides.{nat_tests}
use Rattle.ya_core.specs.declared.word.Word.TheVariants.{C, T, P}
use Rattle.ya_core.specs.declared.process.EntryPoint.{EntryPoint}
use Rattle.ya_core.specs.declared.process.EntryPoint.TheVariants.{E1, E2, E3, E4, E5, E6, E7, E8, E9, E10}
use Rattle.ya_core.specs.declared.process.Process.{Process}
use Rattle.ya_core.specs.declared.process.Process.TheVariants.{Idle, Entering, Inside, Leaving}
use Rattle.ya_core.specs.ArbitrationTree.{node_of, side_of, AreRivals}
use Rattle.ya_core.specs.Steps.{State, StepsTo, value_of, access_of, next_of, after_entry, entry_next}
use Rattle.ya_core.specs.Soundness.{Holding, has_announced, holds, phase_of, entry_phase, IsSoundState}
use Rattle.ya_core.specs.Progress.{EventKind, announces, Announces, Wins, Neither, LevelStep, LevelSees, HasNotWon}
use Rattle.ya_core.specs.Progress.{times_overtaken, is_rival, is_win, is_entering, is_to_announce, event_kind}
use Rattle.ya_core.proofs.PhaseKinds.{claims_announced, claims_holds}
use Rattle.ya_core.proofs.Cases.{the_first, everywhere}
use Rattle.ya_core.proofs.LevelClauses.{one_a_side}
use Rattle.ya_core.proofs.Phases.{phase_here, phase_won}
use Rattle.ya_core.proofs.TreeSides.{side_below}
use Rattle.ya_core.proofs.Invariant.{keeps}
use Rattle.ya_core.proofs.TurnSteps.{is_announcing, past_announces, turn_or, turns_of}
use Rattle.ya_core.proofs.LevelWins.{GoesIn, StaysIn, WinsIt, goes_in, won_is_out, entering_here, HasWon, wins_by}
use Rattle.ya_core.proofs.LevelWins.{rivals_by, no_own_rival, both_of}

-- a place that waits at a level, and the others' wins there
module _ (levels level place : ℕ) (some : 1 ≤ levels) (least : 1 ≤ level) (most : level ≤ levels) where
  -- it has announced itself and waits there
  record Waits (s : State) : Type 0 where
    point : EntryPoint
    at : s.processes place ≡ Entering level point
    past : IsTrue (has_announced (entry_phase point))

  waits_past : (s : State) → Waits s → IsTrue (has_announced (phase_of levels level (s.processes place)))
  waits_past s w =
      ap (λ x. has_announced (phase_of levels level x)) w.at ∙ ap has_announced (phase_here level (entry_phase w.point)) ∙ w.past

  -- the other side has won once: if T names the place, each rival that is past holds the node
  abbrev Spent : State → Type 0
  Spent s = s.words (T level (node_of level place)) ≡ place + 1 → (q : ℕ) → AreRivals level place q
      → IsTrue (has_announced (phase_of levels level (s.processes q)))
      → IsTrue (holds (phase_of levels level (s.processes q)))

  -- a step of another place
  module _ (q : ℕ) (s t : State) (is : IsSoundState levels s) (step : StepsTo levels q s t) (w : Waits s)
      (apart : q ≢ place) where
    still_waits : Waits t
    still_waits = record { point = w.point; at = step.others place (λ e. apart (sym e)) ∙ w.at; past = w.past }

    -- the step doesn't make T name the place
    named_before : t.words (T level (node_of level place)) ≡ place + 1
        → s.words (T level (node_of level place)) ≡ place + 1
    named_before own =
        sym (the_first (turn_or levels level q s t some least most is step (node_of level place))
        (λ announced. apart (let both : q + 1 ≡ place + 1 = sym announced.0 ∙ own in omega (arith, both)))) ∙ own

    still_spent : Spent s → Spent t
    still_spent spent own =
        everywhere (λ r. AreRivals level place r → IsTrue (has_announced (phase_of levels level (t.processes r)))
        → IsTrue (holds (phase_of levels level (t.processes r)))) q
        (λ rivals past. by_past rivals past ((turns_of levels level q s t some least most is step).past past))
        (λ r elsewhere rivals past. let stays : t.processes r ≡ s.processes r = step.others r elsewhere in
        subst (λ x. IsTrue (holds (phase_of levels level x))) (sym stays)
        (spent (named_before own) r rivals (subst (λ x. IsTrue (has_announced (phase_of levels level x))) stays past)))
      where
        by_past : AreRivals level place q → IsTrue (has_announced (phase_of levels level (t.processes q)))
            → IsTrue (has_announced (phase_of levels level (s.processes q)))
            ⊎ (t.words (T level (node_of level q)) ≡ q + 1) → IsTrue (holds (phase_of levels level (t.processes q)))
        by_past rivals past (inl was) =
            (turns_of levels level q s t some least most is step).held (spent (named_before own) q rivals was) past
        by_past rivals past (inr announced) =
            let both : q + 1 ≡ place + 1 = sym announced ∙ ap (λ n. t.words (T level n)) (sym rivals.0) ∙ own in
            absurd (apart (omega (arith, both)))

    module _ (rivals : AreRivals level place q)
        (win : IsTrue (is_win (event_kind level (s.processes q) (t.processes q)))) where
      won_it : HasWon levels level (s.processes q) (t.processes q)
      won_it =
          subst (HasWon levels level (s.processes q)) (sym step.process)
          (wins_by levels level q (s.processes q) (value_of s.words (access_of levels q (s.processes q)))
          (subst (λ x. IsTrue (is_win (event_kind level (s.processes q) x))) step.process win))

      holds_now : IsTrue (holds (phase_of levels level (t.processes q)))
      holds_now = ap (λ x. holds (phase_of levels level x)) won_it.now
          ∙ ap holds (phase_won levels level level most ∙ phase_here level Holding)

      sound_now : IsSoundState levels t
      sound_now = keeps levels q s t some is step

      -- a second win is impossible
      no_second : Spent s → ⊥
      no_second spent =
          let named : t.words (T level (node_of level q)) ≡ place + 1 =
          (sound_now.sound level least most).waiter q place (sym rivals.0, λ e. rivals.1 (sym e)) holds_now
          (waits_past t still_waits) in
          let own : t.words (T level (node_of level place)) ≡ place + 1 =
          ap (λ n. t.words (T level n)) rivals.0 ∙ named in
          let phase_was : phase_of levels level (s.processes q) ≡ entry_phase won_it.point =
          ap (λ x. phase_of levels level x) won_it.was ∙ phase_here level (entry_phase won_it.point) in
          let held : IsTrue (holds (phase_of levels level (s.processes q))) =
          spent (named_before own) q rivals (ap has_announced phase_was ∙ won_it.past) in
          let both : true ≡ false = sym held ∙ ap holds phase_was ∙ won_it.waited in cc

      -- after the first win it is spent
      spent_now : Spent t
      spent_now own r there past =
          let level_is = sound_now.sound level least most in
          let same : r ≡ q =
          one_a_side (node_of level) (side_of level) (λ p. phase_of levels level (t.processes p))
          (λ n d. t.words (C level n d)) (λ n. t.words (T level n)) (λ p. t.words (P level p)) level_is r q
          (sym there.0 ∙ rivals.0)
          (omega (arith, side_below level r, side_below level q, side_below level place, there.1, rivals.1))
          (claims_announced (phase_of levels level (t.processes r)) past)
          (claims_holds (phase_of levels level (t.processes q)) holds_now) in
          subst (λ p. IsTrue (holds (phase_of levels level (t.processes p)))) (sym same) holds_now

  -- a step of the place itself, which doesn't win
  module _ (s t : State) (is : IsSoundState levels s) (step : StepsTo levels place s t) (w : Waits s) where
    own_waits : is_win (event_kind level (s.processes place) (t.processes place)) ≡ false → Waits t
    own_waits none =
        by_goal (t.processes place)
        (subst (GoesIn levels level) (sym goes) (goes_in levels level place w.point v w.past)) refl
      where
        v : ℕ
        v = value_of s.words (access_of levels place (s.processes place))

        goes : t.processes place ≡ entry_next levels level place w.point v
        goes = step.process ∙ ap (λ x. next_of levels place x v) w.at

        by_goal : (next : Process) → GoesIn levels level next → t.processes place ≡ next → Waits t
        by_goal next (StaysIn point now past) e = record { point = point; at = e ∙ now; past = past }
        by_goal next (WinsIt now) e =
            let deed : event_kind level (s.processes place) (t.processes place) ≡ Wins =
            (λ i. event_kind level (w.at i) ((e ∙ now) i)) ∙ wins in
            absurd (let both : true ≡ false = sym (ap is_win deed) ∙ none in cc)
          where
            chosen : (a b c : Bool) → a ≡ false → b ≡ true → c ≡ false
                → (if a then Announces else (if b && not c then Wins else Neither)) ≡ Wins
            chosen false true false x y z = refl
            chosen true b c x y z = absurd cc
            chosen false false c x y z = absurd cc
            chosen false true true x y z = absurd cc

            wins : event_kind level (Entering level w.point) (after_entry levels level) ≡ Wins
            wins =
                chosen (is_to_announce level (Entering level w.point)) (is_entering level (Entering level w.point))
                (is_entering level (after_entry levels level)) (past_announces level w.point w.past).1
                (entering_here level w.point)
                (won_is_out levels level)

    own_spent : Spent s → Spent t
    own_spent spent own r rivals past =
        let stays : t.processes r ≡ s.processes r = step.others r (λ e. rivals.1 (ap (side_of level) (sym e))) in
        subst (λ x. IsTrue (holds (phase_of levels level x))) (sym stays)
        (spent named r rivals (subst (λ x. IsTrue (has_announced (phase_of levels level x))) stays past))
      where
        named : s.words (T level (node_of level place)) ≡ place + 1
        named =
            sym (the_first (turn_or levels level place s t some least most is step (node_of level place))
            (λ announced. (let both : true ≡ false = sym announced.1 ∙ ap is_announcing w.at
            ∙ (past_announces level w.point w.past).0 in cc))) ∙ own

  -- the win of a step with a known deed
  deed_win : (deed other : EventKind) → deed ≡ other → IsTrue (is_win deed) → IsTrue (is_win other)
  deed_win deed other e h = subst (λ d. IsTrue (is_win d)) e h

  deed_none : (deed other : EventKind) → deed ≡ other → deed ≢ Wins → is_win other ≡ false
  deed_none deed other e none = not_win other (λ w. none (e ∙ w))
    where
      not_win : (d : EventKind) → d ≢ Wins → is_win d ≡ false
      not_win Announces h = refl
      not_win Wins h = absurd (h refl)
      not_win Neither h = refl

  -- the remaining number of times it may be overtaken: once while it waits, none after the other side has won
  abbrev May : Bool → State → Type 0
  May true s = Unit {0}
  May false s = Spent s

  -- that bound holds along these steps, from any state
  abbrev IsSoAlong : List LevelStep → Type 0
  IsSoAlong steps = (may : Bool) (t : State) → IsSoundState levels t → Waits t → May may t → LevelSees levels level t steps
      → times_overtaken level place steps ≤ (if may then 1 else 0)

  -- the bound holds
  overtaken : (may : Bool) (steps : List LevelStep) (s : State) → IsSoundState levels s → Waits s → May may s
      → LevelSees levels level s steps → HasNotWon place steps
      → times_overtaken level place steps ≤ (if may then 1 else 0)
  overtaken may [] s is w allowed sees none = omega arith
  overtaken may (x ∷ rest) s is w allowed sees none =
      by_place (x.place == place) refl (is_rival level place x.place && is_win x.deed) refl may allowed
      (λ may t sound waits allowed sees_rest. overtaken may rest t sound waits allowed sees_rest none.1)
    where
      sound : IsSoundState levels sees.0
      sound = keeps levels x.place s sees.0 some is sees.1

      -- the step overtakes it or not
      sum : (b : Bool) → (is_rival level place x.place && is_win x.deed) ≡ b
          → times_overtaken level place (x ∷ rest) ≡ (if b then 1 else 0) + times_overtaken level place rest
      sum b e = ap (λ c. (if c then 1 else 0) + times_overtaken level place rest) e

      not_counted : (may : Bool) → (is_rival level place x.place && is_win x.deed) ≡ false
          → times_overtaken level place rest ≤ (if may then 1 else 0)
          → times_overtaken level place (x ∷ rest) ≤ (if may then 1 else 0)
      not_counted may e few = omega (arith, sum false e, few)

      counted : (is_rival level place x.place && is_win x.deed) ≡ true → times_overtaken level place rest ≤ 0
          → times_overtaken level place (x ∷ rest) ≤ 1
      counted e none_more = omega (arith, sum true e, none_more)

      -- a step of its own, and a step of another place that doesn't win, keep the remaining number
      own_may : (may : Bool) → StepsTo levels place s sees.0 → May may s → May may sees.0
      own_may true step allowed = tt
      own_may false step allowed = own_spent s sees.0 is step w allowed

      still_may : (may : Bool) → x.place ≢ place → May may s → May may sees.0
      still_may true apart allowed = tt
      still_may false apart allowed = still_spent x.place s sees.0 is sees.1 w apart allowed

      by_place : (o : Bool) → (x.place == place) ≡ o → (b : Bool) → (is_rival level place x.place && is_win x.deed) ≡ b
          → (may : Bool) → May may s → IsSoAlong rest → times_overtaken level place (x ∷ rest) ≤ (if may then 1 else 0)
      by_place true own b e may allowed again =
          let same : x.place ≡ place = grind (arith, nat_tests) in
          let step : StepsTo levels place s sees.0 = subst (λ q. StepsTo levels q s sees.0) same sees.1 in
          let deed : x.deed ≡ event_kind level (s.processes place) (sees.0.processes place) =
          subst (λ q. x.deed ≡ event_kind level (s.processes q) (sees.0.processes q)) same sees.2 in
          let apart : (is_rival level place x.place && is_win x.deed) ≡ false =
          ap (λ c. c && is_win x.deed) (ap (is_rival level place) same ∙ no_own_rival level place) in
          not_counted may apart
          (again may sees.0 sound
          (own_waits s sees.0 is step w
          (deed_none x.deed (event_kind level (s.processes place) (sees.0.processes place)) deed (none.0 same)))
          (own_may may step allowed) sees.3)
      by_place false other false e may allowed again =
          let apart : x.place ≢ place = grind (arith, nat_tests) in
          not_counted may e
          (again may sees.0 sound (still_waits x.place s sees.0 is sees.1 w apart) (still_may may apart allowed) sees.3)
      by_place false other true e true allowed again =
          let apart : x.place ≢ place = grind (arith, nat_tests) in
          let both = both_of (is_rival level place x.place) (is_win x.deed) e in
          counted e
          (again false sees.0 sound (still_waits x.place s sees.0 is sees.1 w apart)
          (spent_now x.place s sees.0 is sees.1 w apart (rivals_by level place x.place both.0)
          (deed_win x.deed (event_kind level (s.processes x.place) (sees.0.processes x.place)) sees.2 both.1)) sees.3)
      by_place false other true e false allowed again =
          let apart : x.place ≢ place = grind (arith, nat_tests) in
          let both = both_of (is_rival level place x.place) (is_win x.deed) e in
          absurd (no_second x.place s sees.0 is sees.1 w apart (rivals_by level place x.place both.0)
          (deed_win x.deed (event_kind level (s.processes x.place) (sees.0.processes x.place)) sees.2 both.1) allowed)

  -- a process that is to announce itself at the level is at e2 there
  announcing_at : (x : Process) → IsTrue (is_to_announce level x) → x ≡ Entering level E2
  announcing_at Idle h = absurd cc
  announcing_at Inside h = absurd cc
  announcing_at (Leaving stands point) h = absurd cc
  announcing_at (Entering stands E2) h =
      ap (λ k. Entering k E2) (let same : stands ≡ level = grind (arith, nat_tests) in same)
  announcing_at (Entering stands E1) h = absurd cc
  announcing_at (Entering stands E3) h = absurd cc
  announcing_at (Entering stands E4) h = absurd cc
  announcing_at (Entering stands (E5 rival)) h = absurd cc
  announcing_at (Entering stands (E6 rival)) h = absurd cc
  announcing_at (Entering stands (E7 rival)) h = absurd cc
  announcing_at (Entering stands E8) h = absurd cc
  announcing_at (Entering stands E9) h = absurd cc
  announcing_at (Entering stands E10) h = absurd cc

  announces_by : (b c : Bool) → Announces ≡ (if b then Announces else (if c then Wins else Neither)) → IsTrue b
  announces_by true c e = refl
  announces_by false true e = absurd cc
  announces_by false false e = absurd cc

  -- from the state where a run has come to, on
  pub overtaken_from : (before during : List LevelStep) (s : State) → IsSoundState levels s
      → LevelSees levels level s (before ++ announces place ∷ during) → HasNotWon place during
      → times_overtaken level place during ≤ 1
  overtaken_from [] during s is sees none =
      let was : s.processes place ≡ Entering level E2 =
      announcing_at (s.processes place)
      (announces_by (is_to_announce level (s.processes place))
      (is_entering level (s.processes place) && not (is_entering level (sees.0.processes place))) sees.2) in
      overtaken true during sees.0 (keeps levels place s sees.0 some is sees.1)
      (record {
        point = E3;
        at = sees.1.process
            ∙ ap (λ x. next_of levels place x (value_of s.words (access_of levels place (s.processes place)))) was;
        past =
            refl;
      }) tt sees.3 none
  overtaken_from (x ∷ before) during s is sees none =
      overtaken_from before during sees.0 (keeps levels x.place s sees.0 some is sees.1) sees.3 none
