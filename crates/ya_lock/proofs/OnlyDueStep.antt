-- Any step of a process by its due access is its due step.
use Rattle.std.proofs.Common.{◌≡◌, ◌≢◌, ℕ, ◌+◌, ◌*◌, ◌^◌, ◌<◌, ◌≤◌, Bool, true, false, List, [], ◌∷◌, set, length, sym, refl}
use Rattle.std.proofs.Common.{ap, ◌∙◌, subst, arith, inl, inr, ⊎_elim, Some}
use Rattle.std.specs.Prelude as std
use mathlib.Core.Option.{Option, none, some, some-injective}
use native.Mathlib.Decide.{ℕ_discrete}
use lib.ListN.{get_elem?}
use Rattle.atomic_table.specs.Table.{State, carried_after, homes_after}
use Rattle.atomic_table.proofs.Lists.{set_else}
use Rattle.ya_core.specs.declared.word.Access.{Access}
use Rattle.ya_core.specs.declared.process.Process.{Process}
use Rattle.ya_core.specs.declared.process.Process.TheVariants.{Inside}
use Rattle.ya_core.specs.ArbitrationTree.{IsWord}
use Rattle.ya_core.specs.Machines.{word_of}
use Rattle.ya_core.specs.Steps.{Accesses, access_of, next_of, value_of}
use Rattle.ya_core.specs.Soundness.{IsProper}
use Rattle.ya_core.specs.Worlds.{is_inside}
use Rattle.ya_core.proofs.Promised.{within_access, is_inside_is}
use Rattle.ya_lock.specs.declared.rule.View.{View}
use Rattle.ya_lock.specs.declared.rule.View.TheVariants.{Seated}
use Rattle.ya_lock.specs.Rule.{Slots, KnowsValue, ValueInSlot, index_of, making_index, words_in, count_after, Rule}
use Rattle.ya_lock.specs.Rule.{BellKnowledge, free, view_at, bell_after}
use Rattle.ya_lock.proofs.Frames.{fits_of}
use Rattle.ya_lock.specs.LockState.{HasProcess, IsOf, NoneInside}
use Rattle.ya_lock.specs.DueStep.{process_after, MovesValue, TakesStep}
use Rattle.ya_lock.specs.StepEffects.{CarriesValue}
use Rattle.ya_lock.specs.StepKinds.{MakesDueAccess, IsContent, SameContent}
use Rattle.ya_lock.proofs.WordsInRow.{index_below, set_at, value_is, accesses}
use Rattle.ya_lock.proofs.DueSteps.{word_within}
use Rattle.ya_lock.proofs.RuleMeaning.{in_slot, one_inside, is_of, of_seated, seated_of}
use Rattle.ya_lock.proofs.Slots.{Homes, given, was_home, same_homes, home_is, home_not}

module _ {V : Type 0} (since : ℕ → V → V → Type 0) (levels : ℕ) (least : 1 ≤ levels) where
  -- the value moves as it is carried
  moves : (before after : Bool) (place : ℕ) (seen next : V) (homes homes' : Homes V) (slots slots' : Slots V)
      → CarriesValue since before after place seen slots next slots'
      → (slots ≡ (0, Some next) ∷ [] → slots' ≡ [] → homes' ≡ some (Some next) ∷ [])
      → (slots' ≡ (0, Some next) ∷ [] → before ≡ false → after ≡ true → homes ≡ some (Some next) ∷ [])
      → (after ≡ true → homes' ≡ none ∷ []) → (slots' ≡ slots → homes' ≡ homes)
      → MovesValue since before after place seen next slots homes homes'
  moves true after place seen next homes homes' slots slots' carries back from out still =
      (carries.0, back carries.0 carries.1)
  moves false true place seen next homes homes' slots slots' carries back from out still =
      (carries.0, from carries.1 refl refl, out refl)
  moves false false place seen next homes homes' slots slots' carries back from out still =
      (carries.0, still carries.1)

  module _ (s t : State (std.Option V) (View V)) (old : Rule since levels s) (new : Rule since levels t)
      (seat place : ℕ) (process : Process) (seen : V) (count : ℕ) (slots : Slots V)
      (k : MakesDueAccess s t since levels seat place process seen count slots) where
    -- the value that the access loads or stores, and the next process
    abbrev found : ℕ
    found = value_of (words_in levels s.words) (access_of levels place process)

    abbrev after : Process
    after = next_of levels place process found

    abbrev row : List ℕ
    row = set s.words (index_of levels (word_of (access_of levels place process))) found

    -- the words change as in the core
    words : Accesses (access_of levels place process) (words_in levels s.words) (words_in levels row)
    words =
        let a : Access = access_of levels place process in
        let f = fits_of since levels s old.0 seat (free k.vain) place process seen count
        (old.1.fits seat (view_at (free k.vain) place process seen count) k.view) in
        let word : IsWord levels (word_of a) = word_within levels a (within_access levels place process least f.5
        (subst (λ (x : Process). IsProper levels place x) f.2 (old.1.sound.proper place))) in
        let i : ℕ = index_of levels (word_of a) in let m : ℕ = making_index levels in
        let long : ℕ = length s.words in let places : ℕ = 2 ^ levels in
        let wide : long ≡ m + 8 * (1 + places) = old.1.wide in
        let below : i + 8 ≤ m = index_below levels (word_of a) word in
        subst (λ (n : ℕ). Accesses a (words_in levels s.words) (words_in levels (set s.words i n)))
        (sym (value_is levels i s.words a word refl))
        (accesses levels i s.words a word refl (let l : i < long = omega arith in l))

    -- the view of the seat afterwards
    own : get_elem? t.views seat
        ≡ some (view_at (bell_after process found) place (process_after levels s place process) k.told.1.0
        (count_after levels place process count))
    own =
        ap (λ (u : State (std.Option V) (View V)). get_elem? u.views seat) k.steps.leads
        ∙ (set_at s.views seat (view_at (free k.vain) place process seen count) k.after.0 k.view ∙ ap some k.told.1.1)

    abbrev own_view : View V
    own_view = view_at (bell_after process found) place after k.told.1.0 (count_after levels place process count)

    -- if it is inside afterwards, the slot is out
    out : is_inside after ≡ true → t.homes ≡ none ∷ []
    out e =
        let f = fits_of since levels t new.0 seat (bell_after process found) place after k.told.1.0
        (count_after levels place process count) (new.1.fits seat own_view own) in
        let knows : new.0.content ≡ some k.told.1.0 =
        subst (λ (b : Bool). KnowsValue since new.0.content place b k.told.1.0) e f.3 in
        (subst (λ (c : Option V). ValueInSlot since new.0.processes t.homes c) knows new.1.lies).1 place (ap is_inside f.2 ∙ e)

    -- the homes after the seat's act
    homes : t.homes ≡ homes_after s.homes slots k.steps.act
    homes = ap (λ (u : State (std.Option V) (View V)). u.homes) k.steps.leads

    carried : carried_after slots k.steps.act ≡ k.after.1
    carried = k.steps.carries

    -- the views of all other seats stay
    others : (other : ℕ) → other ≢ seat → get_elem? t.views other ≡ get_elem? s.views other
    others other apart =
        ap (λ (u : State (std.Option V) (View V)). get_elem? u.views other) k.steps.leads
        ∙ set_else s.views seat other k.after.0 apart

    -- a process that comes inside finds the slot at home: no other process was inside
    not_gone : is_inside process ≡ false → is_inside after ≡ true → s.homes ≡ none ∷ [] → ⊥
    not_gone outside inside gone =
        let now = (in_slot since levels s old).1 (
          seat,
          place,
          (
            seen,
            inl (
              process,
              (
                view_at (free k.vain) place process seen count,
                k.view,
                is_of (free k.vain) place process seen count,
              ),
            ),
          ),
        ) nobody in
        home_not now.0 (sym gone ∙ now.1)
      where
        nobody : NoneInside s
        nobody seat' place' value h =
            let apart : seat' ≢ seat = λ is.
            let of : IsOf (Seated place process seen count) place' Inside value = of_seated (free k.vain) place process seen count
            place' Inside value (subst (λ (u : View V). IsOf u place' Inside value)
            (some-injective _ _ (sym h.1 ∙ (ap (λ (j : ℕ). get_elem? s.views j) is ∙ k.view))) h.2) in
            let both : true ≡ false = sym (ap is_inside of.1) ∙ outside in cc in
            apart (one_inside since levels least t new seat' seat place' place value k.told.1.0
            (h.0, others seat' apart ∙ h.1, h.2) (
              own_view,
              own,
              seated_of (bell_after process found) place after k.told.1.0 (count_after levels place process count)
                  place Inside k.told.1.0 (refl, is_inside_is after inside, refl),
            ))

    -- so it is the due step
    pub only_due : TakesStep since levels seat place process seen count slots s t
    only_due =
        record {
          access = subst (λ (u : State (std.Option V) (View V)).
              Accesses (access_of levels place process) (words_in levels s.words) (words_in levels u.words))
              (sym k.steps.leads) words;
          value = k.told.1.0;
          own = own;
          moves = moves (is_inside process) (is_inside after) place seen k.told.1.0 s.homes t.homes slots k.after.1 k.told.1.2
              (λ has none'. homes ∙ given k.steps.act (Some k.told.1.0) s.homes slots k.steps.slot k.steps.valid has
              (carried ∙ none'))
              (λ has outside inside. ⊎_elim (λ h. h) (λ gone. absurd (not_gone outside inside gone))
              (was_home k.steps.act (Some k.told.1.0) s.homes slots k.steps.slot k.steps.valid
              (carried ∙ has) (sym homes ∙ out inside)))
              out
              (λ still. homes ∙ same_homes k.steps.act s.homes slots k.steps.slot k.steps.valid (carried ∙ still));
          others = others;
          rule = new;
        }

  -- by cases: a process that isn't inside leaves the content as it is, whether it comes inside or not
  keeps_content : (s t : State (std.Option V) (View V)) (seat place : ℕ) (vain : Bool) (process : Process) (seen : V)
      (count : ℕ) (slots : Slots V) → get_elem? s.views seat ≡ some (view_at (free vain) place process seen count)
      → (step : TakesStep since levels seat place process seen count slots s t) → is_inside process ≡ false
      → (b : Bool) → is_inside (process_after levels s place process) ≡ b
      → MovesValue since false b place seen step.value slots s.homes t.homes → SameContent s t
  keeps_content s t seat place vain process seen count slots at step outside b e moved value = (
    (λ c. ⊎_elim (stays_home b moved e) (λ h. inr (kept_inside h)) c),
    (λ c. ⊎_elim (was_at_home b moved) (λ h. was_inside b moved e h (ℕ_discrete h.0 seat)) c),
  )
    where
      after : Process
      after = process_after levels s place process

      own_bell : BellKnowledge
      own_bell = bell_after process (value_of (words_in levels s.words) (access_of levels place process))

      own_view : View V
      own_view = view_at own_bell place after step.value (count_after levels place process count)

      not_own : (place' : ℕ) → IsOf (Seated place process seen count) place' Inside value → ⊥
      not_own place' h = let both : true ≡ false = sym (ap is_inside h.1) ∙ outside in cc

      kept_inside : (seat' : ℕ) × ((place' : ℕ) × HasProcess s seat' place' Inside value)
          → (seat' : ℕ) × ((place' : ℕ) × HasProcess t seat' place' Inside value)
      kept_inside h =
          let apart : h.0 ≢ seat = λ is. not_own h.1.0 (of_seated (free vain) place process seen count h.1.0 Inside value
          (subst (λ (u : View V). IsOf u h.1.0 Inside value)
          (some-injective _ _ (sym h.1.1.1 ∙ (ap (λ (j : ℕ). get_elem? s.views j) is ∙ at))) h.1.1.2)) in
          (h.0, (h.1.0, (h.1.1.0, step.others h.0 apart ∙ h.1.1.1, h.1.1.2)))

      stays_home : (b : Bool) → MovesValue since false b place seen step.value slots s.homes t.homes
          → is_inside after ≡ b → s.homes ≡ some (Some value) ∷ [] → IsContent t value
      stays_home true m e h =
          let same : step.value ≡ value = home_is step.value value (sym m.1 ∙ h) in
          inr (
            seat,
            (
              place,
              (
                own_view,
                step.own,
                seated_of own_bell place after step.value (count_after levels place process count)
                    place Inside value (refl, is_inside_is after e, same),
              ),
            ),
          )
      stays_home false m e h = inl (m.1 ∙ h)

      was_at_home : (b : Bool) → MovesValue since false b place seen step.value slots s.homes t.homes
          → t.homes ≡ some (Some value) ∷ [] → IsContent s value
      was_at_home true m h = absurd (home_not value (sym m.2 ∙ h))
      was_at_home false m h = inl (sym m.1 ∙ h)

      was_inside : (b : Bool) → MovesValue since false b place seen step.value slots s.homes t.homes → is_inside after ≡ b
          → (h : (seat' : ℕ) × ((place' : ℕ) × HasProcess t seat' place' Inside value)) → Dec (h.0 ≡ seat)
          → IsContent s value
      was_inside b m e h (no apart) =
          inr (h.0, (h.1.0, (h.1.1.0, sym (step.others h.0 apart) ∙ h.1.1.1, h.1.1.2)))
      was_inside b m e h (yes is) =
          let of = of_seated own_bell place after step.value (count_after levels place process count) h.1.0 Inside value
          (subst (λ (u : View V). IsOf u h.1.0 Inside value)
          (some-injective _ _ (sym h.1.1.1 ∙ (ap (λ (j : ℕ). get_elem? t.views j) is ∙ step.own))) h.1.1.2) in
          own_numbers b m e of
        where
          own_numbers : (b : Bool) → MovesValue since false b place seen step.value slots s.homes t.homes
              → is_inside after ≡ b
              → IsOf (Seated place after step.value (count_after levels place process count)) h.1.0 Inside value → IsContent s value
          own_numbers true m e of = inl (m.1 ∙ ap (λ (v : V). some (Some v) ∷ []) of.2)
          own_numbers false m e of = let both : true ≡ false = sym (ap is_inside of.1) ∙ e in cc

  -- so each due step of such a process keeps the content
  pub due_keeps_content : (s t : State (std.Option V) (View V)) (seat place : ℕ) (vain : Bool) (process : Process) (seen : V)
      (count : ℕ) (slots : Slots V) → get_elem? s.views seat ≡ some (view_at (free vain) place process seen count)
      → TakesStep since levels seat place process seen count slots s t → is_inside process ≡ false → SameContent s t
  due_keeps_content s t seat place vain process seen count slots at step outside =
      let b : Bool = is_inside (process_after levels s place process) in
      keeps_content s t seat place vain process seen count slots at step outside b refl
      (subst (λ (a : Bool). MovesValue since a b place seen step.value slots s.homes t.homes) outside step.moves)
