-- The machine's rows, as one place takes its step.
use Rattle.std.proofs.Common.{◌≡◌, ◌≢◌, ℕ, zero, suc, ◌+◌, ◌^◌, ◌<◌, ◌≤◌, Bool, true, false, cond, refl, arith, ap, sym}
use Rattle.std.proofs.Common.{◌∙◌, subst, List, [], ◌∷◌, length, get_or, replicate, slice_index, slice_index_or}
use Rattle.std.proofs.Common.{slice_set, Option, Some, None, length-set, get_or-set_same, get_or-set_other}
use Rattle.std.proofs.lemmas.List.{length-replicate}
use Rattle.std.proofs.lemmas.List.Quantifiers.{position-Some}
use Rattle.std.proofs.lemmas.Iterator.Adapters.{position_from-zero}
use Rattle.std.specs.List.{position, position_from}
use Rattle.ya_core.specs.declared.process.Process.{Process}
use Rattle.ya_core.specs.declared.process.Process.TheVariants.{Idle}
use Rattle.ya_core.specs.ArbitrationTree.{count_of_words}
use Rattle.ya_core.specs.Steps.{StepsTo, Accesses, opening, value_of, access_of, next_of}
use Rattle.ya_core.specs.Soundness.{IsProper, IsSoundState}
use Rattle.ya_core.specs.WalkerModel.{AccessIsWithin}
use Rattle.ya_core.specs.Machines.{Rows, processes_of, state_of}
use Rattle.ya_core.specs.inside.Machines.{IsMachine}
use Rattle.ya_core.specs.FlatRow.{words_of, row_state}
use Rattle.ya_core.specs.Worlds.{IsInside, ReportsInside, is_inside}
use Rattle.ya_core.proofs.Properness.{within_access}
use Rattle.ya_core.proofs.Invariant.{keeps, opens, excludes}
use Rattle.ya_core.proofs.NamedWords.{words_of-zero, same_state}

-- the processes after one of them is set
processes_of-set : (list : List Process) (place : ℕ) (x : Process) → place < length list
    → processes_of (slice_set list place x) place ≡ x
unfolding processes_of
processes_of-set list place x room = get_or-set_same list place x Idle room

processes_of-set_other : (list : List Process) (place other : ℕ) (x : Process) → other ≢ place
    → processes_of (slice_set list place x) other ≡ processes_of list other
unfolding processes_of
processes_of-set_other list place other x apart = get_or-set_other list place other x Idle apart

module _ (levels place : ℕ) (words : List ℕ) (processes : List Process) (room : place < 2 ^ levels)
    (is : IsMachine record { levels = levels; words = words; processes = processes }) where
  -- the process of the place, and the access that is due
  pub proper_here : IsProper levels place (processes_of processes place)
  proper_here = is.sound.proper place

  pub within_here : AccessIsWithin levels (access_of levels place (processes_of processes place))
  within_here = within_access levels place (processes_of processes place) is.least room proper_here

  place_within : place < length processes
  place_within = omega (arith, is.processes)

  module _ (words' : List ℕ) (next : Process)
      (done : Accesses (access_of levels place (processes_of processes place)) (words_of levels words)
      (words_of levels words'))
      (goes : next ≡ next_of levels place (processes_of processes place)
      (value_of (words_of levels words) (access_of levels place (processes_of processes place)))) where
    -- it takes a step
    pub machine_steps : StepsTo levels place (row_state levels words (processes_of processes))
        (row_state levels words' (processes_of (slice_set processes place next)))
    machine_steps =
        record {
          in_tree = room;
          words = done;
          process = processes_of-set processes place next place_within ∙ goes;
          others = λ other apart. processes_of-set_other processes place other next apart;
        }

    -- the invariant of the machine holds after the step
    pub machine_stays : length words' ≡ length words
        → IsMachine record { levels = levels; words = words'; processes = slice_set processes place next }
    machine_stays same =
        record {
          least = is.least;
          words = same ∙ is.words;
          processes = length-set processes place next ∙ is.processes;
          sound =
              keeps levels place (row_state levels words (processes_of processes))
              (row_state levels words'
              (processes_of (slice_set processes place next))) is.least is.sound machine_steps;
        }

-- a row of equal elements
replicate_at : {A : Type 0} (n : ℕ) (x : A) (i : ℕ) → get_or (replicate n x) i x ≡ x
replicate_at zero x i = refl
replicate_at (suc n) x zero = refl
replicate_at (suc n) x (suc i) = replicate_at n x i

-- a tree of two places or more has a level
pub some_level : (levels places : ℕ) → places ≡ 2 ^ levels → 2 ≤ places → 1 ≤ levels
some_level zero places is two = absurd (omega arith)
some_level (suc levels) places is two = omega arith

-- the machine at the start
pub opening_row : (levels : ℕ) (words : List ℕ) (processes : List Process) → words ≡ replicate (count_of_words levels) 0
    → processes ≡ replicate (2 ^ levels) Idle → row_state levels words (processes_of processes) ≡ opening
unfolding processes_of
opening_row levels words processes zeros idle =
    same_state (row_state levels words (processes_of processes)) opening
    (words_of-zero levels words
    (λ i within. ap (λ xs. slice_index xs i) zeros ∙ replicate_at (count_of_words levels) 0 i))
    (λ p. ap (λ xs. slice_index_or xs p Idle) idle ∙ replicate_at (2 ^ levels) Idle p)

pub opening_machine : (levels : ℕ) (words : List ℕ) (processes : List Process) → 1 ≤ levels
    → words ≡ replicate (count_of_words levels) 0 → processes ≡ replicate (2 ^ levels) Idle
    → IsMachine record { levels = levels; words = words; processes = processes }
opening_machine levels words processes some zeros idle =
    record {
      least = some;
      words = ap length zeros ∙ length-replicate (count_of_words levels) 0;
      processes = ap length idle ∙ length-replicate (2 ^ levels) Idle;
      sound = subst (IsSoundState levels) (sym (opening_row levels words processes zeros idle)) (opens levels);
    }

-- if no process is found inside, none is inside
none_inside : (i : ℕ) (list : List Process) → position_from is_inside i list ≡ None → (k : ℕ)
    → is_inside (get_or list k Idle) ≡ false
none_inside i [] e k = refl
none_inside i (x ∷ xs) e k = cases (is_inside x) refl e k (none_inside (i + 1) xs)
  where
    cases : (b : Bool) → is_inside x ≡ b → cond b (Some i) (position_from is_inside (i + 1) xs) ≡ None → (k : ℕ)
        → (position_from is_inside (i + 1) xs ≡ None → (k : ℕ) → is_inside (get_or xs k Idle) ≡ false)
        → is_inside (get_or (x ∷ xs) k Idle) ≡ false
    cases true inside e k rest = absurd cc
    cases false outside e zero rest = outside
    cases false outside e (suc k) rest = rest e k

-- the first place found inside is the place inside
pub inside_at : (m : Rows) → IsMachine m → ReportsInside (state_of m) (position is_inside m.processes)
unfolding processes_of
inside_at m is place =
    (λ e. (position-Some is_inside m.processes place Idle e).1, λ h. found h (position is_inside m.processes) refl)
  where
    found : IsInside (state_of m) place → (o : Option ℕ) → position is_inside m.processes ≡ o
        → position is_inside m.processes ≡ Some place
    found h None e =
        let nobody : is_inside (get_or m.processes place Idle) ≡ false =
        none_inside 0 m.processes (sym (position_from-zero is_inside m.processes) ∙ e) place in
        absurd (let both : true ≡ false = sym h ∙ nobody in cc)
    found h (Some other) e =
        let there = (position-Some is_inside m.processes other Idle e).1 in
        let same : other ≡ place = excludes m.levels other place (state_of m) is.least is.sound there h in
        e ∙ ap (λ n. Some n) same
