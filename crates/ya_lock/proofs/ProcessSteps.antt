-- The due step of a process keeps the rule, and has its stated effect.
use Rattle.std.proofs.Common.{◌≡◌, ◌≢◌, ℕ, ◌+◌, ◌*◌, ◌^◌, ◌<◌, ◌≤◌, Bool, true, false, List, [], ◌∷◌, length, set, sym, refl}
use Rattle.std.proofs.Common.{ap, ◌∙◌, subst, arith, slice_index, Some}
use Rattle.std.specs.Prelude as std
use Rattle.std.proofs.lemmas.List.{length-set, get_or-set_other}
use mathlib.Core.Option.{Option, none, some, some-injective}
use lib.ListN.{get_elem?}
use Rattle.atomic_table.specs.Table.{State, Me, Act, keeps, takes, gives, Valid, stepped, carried_after, homes_after}
use Rattle.atomic_table.specs.Table.{Allows}
use Rattle.ya_core.specs.declared.word.Access.{Access}
use Rattle.ya_core.specs.declared.word.Access.TheVariants.{Load, Store}
use Rattle.ya_core.specs.declared.process.Process.{Process}
use Rattle.ya_core.specs.declared.process.Process.TheVariants.{Idle, Entering, Inside, Leaving}
use Rattle.ya_core.specs.ArbitrationTree.{IsWord}
use Rattle.ya_core.specs.Steps as core
use Rattle.ya_core.specs.Steps.{StepsTo, Accesses, access_of, next_of, value_of}
use Rattle.ya_core.specs.Soundness.{IsSoundState}
use Rattle.ya_core.specs.WalkerModel.{CanStand, MayBeTold, MayFind}
use Rattle.ya_core.specs.Machines.{word_of}
use Rattle.ya_lock.specs.declared.rule.View.{View}
use Rattle.ya_lock.specs.declared.rule.View.TheVariants.{Seated}
use Rattle.ya_lock.specs.Rule.{NoneIsForgotten, BellKnowledge, free, view_at, bell_after}
use Rattle.ya_lock.proofs.Rings.{due_rung}
use Rattle.ya_lock.specs.Rule.{index_of, making_index, words_in, GlobalView, KnowsValue, ValueInSlot, ViewFits, Obeys, Rule, Slots, count_after}
use Rattle.ya_core.specs.Worlds.{is_inside}
use Rattle.ya_lock.specs.inside.Lock.{HasMade}
use Rattle.ya_lock.specs.StepEffects.{CarriesValue, TakesDueStep, ProcessSteps}
use Rattle.ya_lock.specs.inside.Rule.{value_after}
use Rattle.ya_lock.specs.DueStep.{IsReady, MovesValue}
use Rattle.ya_core.proofs.Promised.{keeps as kept_by_step, finds, is_inside_is, excludes}
use Rattle.ya_lock.proofs.WordsInRow.{index_below, value_is, accesses}
use Rattle.ya_lock.proofs.Frames.{moved, moved_here, moved_else, Same, Changed, gone_on, goes_on, fits_of, only_here}
use Rattle.ya_lock.proofs.LeastCounts.{least_kept}

-- a process that leaves the inside isn't inside
leaves : (levels place n : ℕ) (p : Process) → p ≡ Inside → is_inside (next_of levels place p n) ≡ false
leaves levels place n p e = subst (λ (p : Process). is_inside (next_of levels place p n) ≡ false) (sym e) refl

-- a test that cannot hold is false
pub none_true : (b : Bool) → (b ≡ true → ⊥) → b ≡ false
none_true true h = absurd (h refl)
none_true false h = refl

-- the view of a process has some count
pub counted : {V : Type 0} (place : ℕ) (value : V) (process : Process) (remote : ℕ) (view : View V)
    → HasMade place value process remote view
    → (vain : Bool) × ((count : ℕ) × (view ≡ view_at (free vain) place process value count))
counted place value Idle remote view h = (false, (h.0, h.1))
counted place value (Entering level point) remote view h = (h.0, (remote, h.1))
counted place value Inside remote view h = (h.0, (remote, h.1))
counted place value (Leaving level point) remote view h = (h.0, (remote, h.1))

module _ {V : Type 0} (since done : ℕ → V → V → Type 0) (since_same : (place : ℕ) (a : V) → since place a a)
    (since_done : (place other : ℕ) (a b c : V) → other ≢ place → since place a b → done other b c → since place a c)
    (levels : ℕ) (least : 1 ≤ levels) where
  -- a state of the table
  abbrev St : Type 0
  St = State (std.Option V) (View V)

  -- the state of the core that it shows
  abbrev core_of : St → GlobalView V → core.State
  core_of s x = record { words = words_in levels s.words; processes = x.processes }

  -- and the state after the step of a place that found or stored n
  abbrev core_after : St → GlobalView V → ℕ → ℕ → ℕ → core.State
  core_after s x place i n =
      record {
        words = words_in levels (set s.words i n);
        processes = moved x.processes place (next_of levels place (x.processes place) n);
      }

  -- the access that is due to a place
  abbrev due : GlobalView V → ℕ → Access
  due x place = access_of levels place (x.processes place)

  -- the remote accesses of that place after its step
  abbrev total : GlobalView V → ℕ → ℕ → ℕ
  total x place count = count_after levels place (x.processes place) count

  -- this is a step of the core
  steps_to : (s : St) (x : GlobalView V) (place i : ℕ) → place < 2 ^ levels → IsWord levels (word_of (due x place))
      → i ≡ index_of levels (word_of (due x place)) → i < length s.words
      → StepsTo levels place (core_of s x) (core_after s x place i (value_after (due x place) (slice_index s.words i)))
  steps_to s x place i room h e l =
      record {
        in_tree = room;
        words = accesses levels i s.words (due x place) h e l;
        process = moved_here x.processes place _ ∙ ap (λ (n : ℕ). next_of levels place (x.processes place) n)
            (sym (value_is levels i s.words (due x place) h e));
        others = λ other ne. moved_else x.processes place _ other ne;
      }

  -- a due load finds a value that its word can hold
  may_find : (s : St) (x : GlobalView V) (place i : ℕ) → IsSoundState levels (core_of s x) → (a : Access) → due x place ≡ a
      → IsWord levels (word_of a) → i ≡ index_of levels (word_of a)
      → MayBeTold (Some a) (value_after a (slice_index s.words i))
  may_find s x place i sound (Load w) is h e =
      subst (CanStand w) (value_is levels i s.words (Load w) h e)
      (subst (λ (b : Access). MayFind b (value_of (words_in levels s.words) b)) is
      (finds levels place (core_of s x) (x.processes place) sound refl))
  may_find s x place i sound (Store w m) is h e = tt

  -- a place inside after the step of another place that isn't inside then is a different place
  stays_inside : (x : GlobalView V) (place : ℕ) (p' : Process) (k : ℕ) → is_inside p' ≡ false
      → is_inside (moved x.processes place p' k) ≡ true → k ≢ place
  stays_inside x place p' k is e h =
      let both : true ≡ false =
      sym e ∙ (ap (λ (z : ℕ). is_inside (moved x.processes place p' z)) h
      ∙ (ap is_inside (moved_here x.processes place p') ∙ is)) in cc

  -- a place inside afterwards was inside before
  inside : (x : GlobalView V) (place : ℕ) (p' : Process) (k : ℕ) → is_inside p' ≡ false
      → is_inside (moved x.processes place p' k) ≡ true → is_inside (x.processes k) ≡ true
  inside x place p' k is e = ap is_inside (sym (moved_else x.processes place p' k (stays_inside x place p' k is e))) ∙ e

  -- and a place not inside afterwards was not inside before it
  outside : (x : GlobalView V) (place : ℕ) (p' : Process) (k : ℕ) → is_inside (x.processes place) ≡ false
      → is_inside p' ≡ false → is_inside (moved x.processes place p' k) ≡ false
      → is_inside (x.processes k) ≡ false
  outside x place p' k was is e = none_true (is_inside (x.processes k)) (λ h.
      let ne : k ≢ place = λ same. let both : true ≡ false =
      sym h ∙ (ap (λ (z : ℕ). is_inside (x.processes z)) same ∙ was) in cc in
      let both : true ≡ false = sym h ∙ (ap is_inside (sym (moved_else x.processes place p' k ne)) ∙ e) in cc)

  -- the obligation of a step
  abbrev Answer : St → GlobalView V → ℕ → ℕ → V → ℕ → ℕ → ℕ → Slots V → Type 0
  Answer s x id place value count i n slots =
      (w : View V) × (a : Act (std.Option V)) × Valid s.homes slots a × Rule since levels (stepped s i n id slots w a)
      × TakesDueStep since levels n place (x.processes place) value count slots (w, carried_after slots a)

  -- a seat that owes no ring steps as its process does
  steps_free : (vain : Bool) (n place : ℕ) (process : Process) (value : V) (count : ℕ) (slots : Slots V)
      (me : Me (std.Option V) (View V)) → TakesDueStep since levels n place process value count slots me
      → ProcessSteps since levels n (view_at (free vain) place process value count) slots me
  steps_free true n place process value count slots me h = h
  steps_free false n place process value count slots me h = h

  -- and its result in the view and the slot
  abbrev Moved : St → GlobalView V → ℕ → V → ℕ → ℕ → Slots V → View V → Act (std.Option V) → Type 0
  Moved s x place value count n slots w a =
      let p' : Process = next_of levels place (x.processes place) n in let b : BellKnowledge = bell_after (x.processes place) n in
      (next : V) × (w ≡ view_at (bell_after (x.processes place) n) place p' next (total x place count))
      × MovesValue since (is_inside (x.processes place)) (is_inside p') place value next slots s.homes (homes_after s.homes slots a)

  -- both together
  abbrev Whole : St → GlobalView V → ℕ → ℕ → V → ℕ → ℕ → ℕ → Slots V → Type 0
  Whole s x id place value count i n slots =
      (answer : Answer s x id place value count i n slots) × Moved s x place value count n slots answer.0 answer.1

  -- the due access of a seat's process, which found or stored n: the known facts about the table before it, and that
  -- the core goes on with n
  record IsDueAt (s : St) (x : GlobalView V) (id place i n : ℕ) (value : V) (count : ℕ) : Type 0 where
    obeys : Obeys since levels s x
    vain : Bool
    view : get_elem? s.views id ≡ some (view_at (free vain) place (x.processes place) value count)
    fits : ViewFits since levels s x id (Seated place (x.processes place) value count)
    long : length (set s.words i n) ≡ length s.words
    word : slice_index (set s.words i n) (making_index levels) ≡ slice_index s.words (making_index levels)
    sound : IsSoundState levels (core_after s x place i n)
    found : MayBeTold (Some (due x place)) n
    rung : (next : V) → NoneIsForgotten levels (set s.words i n)
        (set s.views id (view_at (bell_after (x.processes place) n) place (next_of levels place (x.processes place) n) next
        (total x place count)))

  -- the process goes inside: it takes the value
  wins : (s : St) (x : GlobalView V) (id place i n : ℕ) (value : V) (count : ℕ) (slots : Slots V)
      → IsDueAt s x id place i n value count
      → is_inside (x.processes place) ≡ false → is_inside (next_of levels place (x.processes place) n) ≡ true
      → KnowsValue since x.content place false value → slots ≡ [] → Whole s x id place value count i n slots
  wins s x id place i n value count slots step was is knows ready =
      let o = step.obeys in let f = step.fits in
      let p' : Process = next_of levels place (x.processes place) n in let b : BellKnowledge = bell_after (x.processes place) n in
      let now : V = knows.0 in
      let there : is_inside (moved x.processes place p' place) ≡ true =
      ap is_inside (moved_here x.processes place p') ∙ is in
      let alone : (k : ℕ) → is_inside (x.processes k) ≡ true → ⊥ = λ k e.
      let ne : k ≢ place = λ h. let both : true ≡ false = sym e ∙ (ap (λ (z : ℕ). is_inside (x.processes z)) h ∙ was) in
      cc in
      ne (excludes levels k place (core_after s x place i n) least step.sound
      (ap is_inside (moved_else x.processes place p' k ne) ∙ e) there) in
      let nobody : (k : ℕ) → is_inside (x.processes k) ≡ false = λ k. none_true (is_inside (x.processes k)) (alone k) in
      let lies = subst (λ (c : Option V). ValueInSlot since x.processes s.homes c) knows.1 o.lies in
      let home : s.homes ≡ some (Some now) ∷ [] = lies.0 nobody in
      let out : set s.homes 0 none ≡ none ∷ [] = ap (λ (h : List (Option (std.Option V))). set h 0 none) home in
      let after : ValueInSlot since (moved x.processes place p') (set s.homes 0 none) x.content =
      subst (λ (c : Option V). ValueInSlot since (moved x.processes place p') (set s.homes 0 none) c) (sym knows.1)
      ((λ away. let both : true ≡ false = sym there ∙ away place in cc), λ k e. out) in
      let answer : Answer s x id place value count i n slots = (
        view_at b place p' now (total x place count),
        takes 0 (Some now),
        ap (λ (h : List (Option (std.Option V))). get_elem? h 0) home,
        (
          gone_on since levels x place p' x.content,
          goes_on since levels s x o id place (free step.vain) b (x.processes place) p' value now now now count (total x place count) x.content (set s.words i n)
              (set s.homes 0 none) step.view f.0 f.1 knows.1 knows.1 step.long step.word step.sound after
              (subst (λ (b : Bool). KnowsValue since x.content place b now) (sym is) knows.1)
              (least_kept levels place (x.processes place) n count f.4) (Same refl),
          step.rung now,
        ),
        (
          step.found,
          (
            now,
            refl,
            subst (λ (b : Bool). CarriesValue since b (is_inside p') place value slots now ((0, Some now) ∷ slots)) (sym was)
                (subst (λ (b : Bool). CarriesValue since false b place value slots now ((0, Some now) ∷ slots)) (sym is)
                (knows.2, ap (λ (l : Slots V). (0, Some now) ∷ l) ready)),
          ),
        ),
      ) in (
        answer,
        (
          now,
          refl,
          subst (λ (b : Bool). MovesValue since b (is_inside p') place value now slots s.homes (set s.homes 0 none)) (sym was)
              (subst (λ (b : Bool). MovesValue since false b place value now slots s.homes (set s.homes 0 none)) (sym is)
              (knows.2, home, out)),
        ),
      )

  -- so the value stays in its place
  same_lies : (x : GlobalView V) (place : ℕ) (p' : Process) (homes : List (Option (std.Option V))) (content : Option V)
      → is_inside (x.processes place) ≡ false → is_inside p' ≡ false
      → ValueInSlot since x.processes homes content → ValueInSlot since (moved x.processes place p') homes content
  same_lies x place p' homes none was is lies = tt
  same_lies x place p' homes (some now) was is lies = (
    (λ away. lies.0 (λ k. outside x place p' k was is (away k))),
    (λ k e. lies.1 k (inside x place p' k is e)),
  )

  -- the process goes on, neither into the inside nor out of it
  passes : (s : St) (x : GlobalView V) (id place i n : ℕ) (value : V) (count : ℕ) (slots : Slots V)
      → IsDueAt s x id place i n value count
      → is_inside (x.processes place) ≡ false → is_inside (next_of levels place (x.processes place) n) ≡ false
      → KnowsValue since x.content place false value → Whole s x id place value count i n slots
  passes s x id place i n value count slots step was is knows =
      let o = step.obeys in let f = step.fits in
      let p' : Process = next_of levels place (x.processes place) n in let b : BellKnowledge = bell_after (x.processes place) n in
      let answer : Answer s x id place value count i n slots = (
        view_at b place p' value (total x place count),
        keeps,
        tt,
        (
          gone_on since levels x place p' x.content,
          goes_on since levels s x o id place (free step.vain) b (x.processes place) p' value value knows.0 knows.0 count (total x place count) x.content
              (set s.words i n) s.homes step.view f.0 f.1 knows.1 knows.1 step.long step.word step.sound
              (same_lies x place p' s.homes x.content was is o.lies)
              (subst (λ (b : Bool). KnowsValue since x.content place b value) (sym is) knows)
              (least_kept levels place (x.processes place) n count f.4) (Same refl),
          step.rung value,
        ),
        (
          step.found,
          (
            value,
            refl,
            subst (λ (b : Bool). CarriesValue since b (is_inside p') place value slots value slots) (sym was)
                (subst (λ (b : Bool). CarriesValue since false b place value slots value slots) (sym is) (refl, refl)),
          ),
        ),
      ) in (
        answer,
        (
          value,
          refl,
          subst (λ (b : Bool). MovesValue since b (is_inside p') place value value slots s.homes s.homes) (sym was)
              (subst (λ (b : Bool). MovesValue since false b place value value slots s.homes s.homes) (sym is) (refl, refl)),
        ),
      )

  -- the process leaves the inside: it gives the value home
  releases : (s : St) (x : GlobalView V) (id place i n : ℕ) (value : V) (count : ℕ) (slots : Slots V)
      → IsDueAt s x id place i n value count
      → is_inside (x.processes place) ≡ true
      → KnowsValue since x.content place true value → IsReady done true place value slots
      → Whole s x id place value count i n slots
  releases s x id place i n value count slots step was knows ready =
      let o = step.obeys in let f = step.fits in
      let p' : Process = next_of levels place (x.processes place) n in let b : BellKnowledge = bell_after (x.processes place) n in
      let next : V = ready.0 in
      let is : is_inside p' ≡ false = leaves levels place n (x.processes place) (is_inside_is _ was) in
      let lies = subst (λ (c : Option V). ValueInSlot since x.processes s.homes c) knows o.lies in
      let out : s.homes ≡ none ∷ [] = lies.1 place was in
      let homes : List (Option (std.Option V)) = homes_after s.homes slots gives in
      let back : homes ≡ some (Some next) ∷ [] = (λ k. homes_after (out k) (ready.1 k) gives) in
      let alone : (k : ℕ) → k ≢ place → is_inside (x.processes k) ≡ true → ⊥ =
      λ k ne e. ne (excludes levels k place (core_of s x) least o.sound e was) in
      let after : ValueInSlot since (moved x.processes place p') homes (some next) = (
        (λ away. back),
        (λ k e. absurd (alone k (stays_inside x place p' k is e) (inside x place p' k is e))),
      ) in
      let answer : Answer s x id place value count i n slots = (
        view_at b place p' next (total x place count),
        gives,
        tt,
        (
          gone_on since levels x place p' (some next),
          goes_on since levels s x o id place (free step.vain) b (x.processes place) p' value next value next count (total x place count) (some next)
              (set s.words i n) homes step.view f.0 f.1 knows refl step.long step.word step.sound after
              (subst (λ (b : Bool). KnowsValue since (some next) place b next) (sym is) (next, refl, since_same place next))
              (least_kept levels place (x.processes place) n count f.4)
              (Changed alone
              (λ other v ne k. (
                next,
                refl,
                since_done other place v value next (λ e. ne (sym e))
                    (subst (λ (y : V). since other v y) (some-injective _ _ (sym k.1 ∙ knows)) k.2) ready.2,
              ))),
          step.rung next,
        ),
        (
          step.found,
          (
            next,
            refl,
            subst (λ (b : Bool). CarriesValue since b (is_inside p') place value slots next (carried_after slots gives))
                (sym was)
                (ready.1, ap (λ (l : Slots V). carried_after l gives) ready.1),
          ),
        ),
      ) in (
        answer,
        (
          next,
          refl,
          subst (λ (b : Bool). MovesValue since b (is_inside p') place value next slots s.homes homes) (sym was) (ready.1, back),
        ),
      )

  -- by cases: the process is inside or not, before and after
  by_case : (s : St) (x : GlobalView V) (id place i n : ℕ) (value : V) (count : ℕ) (slots : Slots V)
      → IsDueAt s x id place i n value count
      → (before after : Bool) → is_inside (x.processes place) ≡ before
      → is_inside (next_of levels place (x.processes place) n) ≡ after
      → KnowsValue since x.content place before value → IsReady done before place value slots
      → Whole s x id place value count i n slots
  by_case s x id place i n value count slots step true after e h knows ready =
      releases s x id place i n value count slots step e knows ready
  by_case s x id place i n value count slots step false true e h knows ready =
      wins s x id place i n value count slots step e h knows ready
  by_case s x id place i n value count slots step false false e h knows ready =
      passes s x id place i n value count slots step e h knows

  -- the due step keeps the rule, and moves the value
  pub moves_value : (s : St) (x : GlobalView V) → Obeys since levels s x → NoneIsForgotten levels s.words s.views
      → (id place i : ℕ) (vain : Bool) (value : V) (count : ℕ) (slots : Slots V)
      → get_elem? s.views id ≡ some (view_at (free vain) place (x.processes place) value count)
      → place < 2 ^ levels → IsWord levels (word_of (due x place)) → i ≡ index_of levels (word_of (due x place))
      → IsReady done (is_inside (x.processes place)) place value slots
      → Whole s x id place value count i (value_after (due x place) (slice_index s.words i)) slots
  moves_value s x o rung id place i vain value count slots at room word index ready =
      let f = fits_of since levels s x id (free vain) place (x.processes place) value count
      (o.fits id (view_at (free vain) place (x.processes place) value count) at) in
      let n : ℕ = value_after (due x place) (slice_index s.words i) in
      let m : ℕ = making_index levels in
      let long : ℕ = length s.words in
      let places : ℕ = 2 ^ levels in let wide : long ≡ m + 8 * (1 + places) = o.wide in
      let j : ℕ = index_of levels (word_of (due x place)) in
      let below : j + 8 ≤ m = index_below levels (word_of (due x place)) word in
      let index' : i ≡ j = index in
      by_case s x id place i n value count slots record {
        obeys = o;
        vain = vain;
        view = at;
        fits = f;
        long = length-set s.words i n;
        word = get_or-set_other s.words i m n 0 (λ e. omega arith);
        sound = kept_by_step levels place (core_of s x) (core_after s x place i n) least o.sound
            (steps_to s x place i room word index (let l : i < long = omega arith in l));
        found = may_find s x place i o.sound (due x place) refl word index;
        rung = λ next. due_rung levels s.words s.views id place i n vain (x.processes place) value next count (total x place count)
            at word index (let l : i < long = omega arith in l) refl (only_here since levels s x o id place f.1) rung;
      } _ _ refl refl f.3 ready

  -- in any table, the seat of a process that owes no ring may make the due access
  pub allows : (slots id i place : ℕ) (process : Process) (vain : Bool) (value : V) (count : ℕ)
      (me : Me (std.Option V) (View V)) (a : Access)
      → access_of levels place process ≡ a → place < 2 ^ levels
      → IsWord levels (word_of a) → i ≡ index_of levels (word_of a)
      → me.0 ≡ view_at (free vain) place process value count
      → IsReady done (is_inside process) place value me.1
      → Allows (Rule since levels) slots id me i (value_after a)
      (λ n then'. ProcessSteps since levels (value_after a n) me.0 me.1 then')
  allows slots id i place process vain value count me a is room word index e ready s rule wide at small =
      let x : GlobalView V = rule.0 in
      let n : ℕ = slice_index s.words i in
      let f : x.processes place ≡ process =
      (fits_of since levels s x id (free vain) place process value count
      (rule.1.fits id (view_at (free vain) place process value count) (at ∙ ap some e))).2 in
      let e' : me.0 ≡ view_at (free vain) place (x.processes place) value count =
      e ∙ ap (λ (p : Process). view_at (free vain) place p value count) (sym f) in
      let is' : due x place ≡ a = ap (λ (p : Process). access_of levels place p) f ∙ is in
      let G : View V → Access → Type 0 = λ v b.
      (w : View V) × (t : Act (std.Option V)) × Valid s.homes me.1 t
      × Rule since levels (stepped s i (value_after b n) id me.1 w t)
      × ProcessSteps since levels (value_after b n) v me.1 (w, carried_after me.1 t) in
      let whole = (moves_value s x rule.1 rule.2 id place i vain value count me.1 (at ∙ ap some e') room
      (subst (λ (b : Access). IsWord levels (word_of b)) (sym is') word)
      (index ∙ ap (λ (b : Access). index_of levels (word_of b)) (sym is'))
      (subst (λ (p : Process). IsReady done (is_inside p) place value me.1) (sym f) ready)).0 in
      subst (λ (v : View V). G v a) (sym e')
      (subst (λ (b : Access). G (view_at (free vain) place (x.processes place) value count) b) is' (
        whole.0,
        whole.1,
        whole.2,
        whole.3,
        steps_free vain (value_after (due x place) n) place (x.processes place) value count me.1
            (whole.0, carried_after me.1 whole.1) whole.4,
      ))
