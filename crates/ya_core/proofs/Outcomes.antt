-- Any process may step at any time, and a step has one outcome.
use Rattle.std.proofs.Common.{◌≡◌, ◌≢◌, ℕ, ◌^◌, ◌<◌, ◌==◌, Bool, true, false, refl, arith, ap, sym, ◌∙◌, subst, ◌⊎◌}
use Rattle.std.proofs.Common.{inl, inr, if◌then◌else◌, List, [], ◌∷◌, ◌++◌}
use Rattle.std.proofs.Math.Path.{fun_ext}
use Rattle.std.proofs.lemmas.Bool.Decides.{nat_tests}
use Rattle.ya_core.specs.declared.word.Word.{Word}
use Rattle.ya_core.specs.declared.word.Word.TheVariants.{C, T, P}
use Rattle.ya_core.specs.declared.word.Access.{Access}
use Rattle.ya_core.specs.declared.word.Access.TheVariants.{Load, Store}
use Rattle.ya_core.specs.declared.process.Process.{Process}
use Rattle.ya_core.specs.declared.step.Step.{Step}
use Rattle.ya_core.specs.Steps.{State, StepsTo, Accesses, value_of, access_of, next_of}
use Rattle.ya_core.specs.Machines.{ReplaysTo, step_of}
use Rattle.ya_core.specs.Worlds.{Marked, World, WorldSteps, WorldAppends, IsInside, is_inside, any_entry}

-- two words of the same kind, given by two numbers each, are equal or not
by_numbers : (word : ℕ → ℕ → Word) → ((h n k m : ℕ) → word h n ≡ word k m → (h ≡ k) × (n ≡ m)) → (h n k m : ℕ)
    → (word h n ≡ word k m) ⊎ (word h n ≢ word k m)
by_numbers word one_name h n k m = cases (h == k) (n == m) refl refl
  where
    cases : (x y : Bool) → (h == k) ≡ x → (n == m) ≡ y → (word h n ≡ word k m) ⊎ (word h n ≢ word k m)
    cases true true p q =
        let one : h ≡ k = grind (arith, nat_tests) in
        let two : n ≡ m = grind (arith, nat_tests) in
        inl cc
    cases false y p q =
        inr (λ e. (let apart : h ≢ k = grind (arith, nat_tests) in apart) (one_name h n k m e).0)
    cases true false p q =
        inr (λ e. (let apart : n ≢ m = grind (arith, nat_tests) in apart) (one_name h n k m e).1)

-- two words are equal or not
same_or_apart : (a b : Word) → (a ≡ b) ⊎ (a ≢ b)
same_or_apart (C h n s) (C k m d) = cases (h == k) (n == m) (s == d) refl refl refl
  where
    cases : (x y z : Bool) → (h == k) ≡ x → (n == m) ≡ y → (s == d) ≡ z → (C h n s ≡ C k m d) ⊎ (C h n s ≢ C k m d)
    cases true true true p q r =
        let one : h ≡ k = grind (arith, nat_tests) in
        let two : n ≡ m = grind (arith, nat_tests) in
        let three : s ≡ d = grind (arith, nat_tests) in
        inl cc
    cases false y z p q r = inr (λ e. (let apart : h ≢ k = grind (arith, nat_tests) in apart) cc)
    cases true false z p q r = inr (λ e. (let apart : n ≢ m = grind (arith, nat_tests) in apart) cc)
    cases true true false p q r = inr (λ e. (let apart : s ≢ d = grind (arith, nat_tests) in apart) cc)
same_or_apart (T h n) (T k m) = by_numbers (λ level node. T level node) (λ h n k m e. (cc, cc)) h n k m
same_or_apart (P h n) (P k m) = by_numbers (λ level place. P level place) (λ h n k m e. (cc, cc)) h n k m
same_or_apart (C h n s) (T k m) = inr (λ e. cc)
same_or_apart (C h n s) (P k m) = inr (λ e. cc)
same_or_apart (T h n) (C k m d) = inr (λ e. cc)
same_or_apart (T h n) (P k m) = inr (λ e. cc)
same_or_apart (P h n) (C k m d) = inr (λ e. cc)
same_or_apart (P h n) (T k m) = inr (λ e. cc)

-- one of two values, for equal and for different words
word_choice : {A : Type 0} (a b : Word) → (a ≡ b) ⊎ (a ≢ b) → A → A → A
word_choice a b (inl one) x y = x
word_choice a b (inr two) x y = y

word_choice-same : {A : Type 0} (a b : Word) (d : (a ≡ b) ⊎ (a ≢ b)) (x y : A) → a ≡ b → word_choice a b d x y ≡ x
unfolding word_choice
word_choice-same a b (inl one) x y e = refl
word_choice-same a b (inr two) x y e = absurd (two e)

word_choice-apart : {A : Type 0} (a b : Word) (d : (a ≡ b) ⊎ (a ≢ b)) (x y : A) → a ≢ b → word_choice a b d x y ≡ y
unfolding word_choice
word_choice-apart a b (inl one) x y e = absurd (e one)
word_choice-apart a b (inr two) x y e = refl

-- the words after an access
words_after : Access → (Word → ℕ) → Word → ℕ
words_after (Load named) words word = words word
words_after (Store named value) words word = word_choice word named (same_or_apart word named) value (words word)

words_after_are : (a : Access) (words : Word → ℕ) → Accesses a words (words_after a words)
unfolding words_after
words_after_are (Load named) words = λ word. refl
words_after_are (Store named value) words = (
  word_choice-same named named (same_or_apart named named) value (words named) refl,
  λ word apart. word_choice-apart word named (same_or_apart word named) value (words word) apart,
)

-- any process may step at any time
pub may_step : (levels place : ℕ) (old : State) → place < 2 ^ levels → (new : State) × StepsTo levels place old new
may_step levels place old room = (
  record { words = words_after access old.words; processes = λ q. if q == place then next else old.processes q },
  record {
    in_tree = room;
    words = words_after_are access old.words;
    process = chosen (place == place) (grind (arith, nat_tests)) next (old.processes place);
    others = λ q apart. not_chosen (q == place) (grind (arith, nat_tests)) next (old.processes q);
  },
)
  where
    access : Access
    access = access_of levels place (old.processes place)

    next : Process
    next = next_of levels place (old.processes place) (value_of old.words access)

    chosen : (b : Bool) → b ≡ true → (x y : Process) → (if b then x else y) ≡ x
    chosen b e x y = ap (λ c. if c then x else y) e

    not_chosen : (b : Bool) → b ≡ false → (x y : Process) → (if b then x else y) ≡ y
    not_chosen b e x y = ap (λ c. if c then x else y) e

-- an access has one outcome
one_row : (a : Access) (old new other : Word → ℕ) → Accesses a old new → Accesses a old other → (word : Word)
    → new word ≡ other word
one_row (Load named) old new other p q word = p word ∙ sym (q word)
one_row (Store named value) old new other p q word = cases (same_or_apart word named)
  where
    cases : (word ≡ named) ⊎ (word ≢ named) → new word ≡ other word
    cases (inl one) = subst (λ w. new w ≡ other w) (sym one) (p.0 ∙ sym q.0)
    cases (inr apart) = p.1 word apart ∙ sym (q.1 word apart)

-- a step has one outcome
pub one_outcome : (levels place : ℕ) (old new other : State) → StepsTo levels place old new
    → StepsTo levels place old other → new ≡ other
one_outcome levels place old new other p q = λ i. record { words = words i; processes = processes i }
  where
    words : new.words ≡ other.words
    words = fun_ext
        (one_row (access_of levels place (old.processes place)) old.words new.words other.words p.words q.words)

    at : (b : ℕ) → new.processes b ≡ other.processes b
    at b = cases (b == place) refl
      where
        cases : (t : Bool) → (b == place) ≡ t → new.processes b ≡ other.processes b
        cases true e =
            let same : b ≡ place = grind (arith, nat_tests) in
            subst (λ c. new.processes c ≡ other.processes c) (sym same) (p.process ∙ sym q.process)
        cases false e = let apart : b ≢ place = grind (arith, nat_tests) in p.others b apart ∙ sym (q.others b apart)

    processes : new.processes ≡ other.processes
    processes = fun_ext at

-- the picks name one run
pub one_replay : (levels : ℕ) (picks : List ℕ) (s last end : State) (steps other : List Step)
    → ReplaysTo levels s picks steps last → ReplaysTo levels s picks other end → other ≡ steps
one_replay levels [] s last end [] [] p q = refl
one_replay levels [] s last end [] (y ∷ other) p q = absurd q
one_replay levels [] s last end (x ∷ steps) other p q = absurd p
one_replay levels (place ∷ picks) s last end [] other p q = absurd p
one_replay levels (place ∷ picks) s last end (x ∷ steps) [] p q = absurd q
one_replay levels (place ∷ picks) s last end (x ∷ steps) (y ∷ other) p q =
    let same : q.0 ≡ p.0 = one_outcome levels place s q.0 p.0 q.1 p.1 in
    let rest : other ≡ steps =
    one_replay levels picks p.0 last end steps other p.3 (subst (λ t. ReplaysTo levels t picks other end) same q.3) in
    let first : y ≡ x = q.2 ∙ sym p.2 in
    cc

-- a run with one more step
pub replays_more : (levels place : ℕ) (s last after : State) (picks : List ℕ) (steps : List Step)
    → ReplaysTo levels s picks steps last → StepsTo levels place last after
    → ReplaysTo levels s (picks ++ place ∷ []) (steps ++ step_of levels place last ∷ []) after
replays_more levels place s last after [] [] run step =
    (after, subst (λ t. StepsTo levels place t after) run step, ap (step_of levels place) run, refl)
replays_more levels place s last after (p ∷ picks) (x ∷ steps) run step =
    (run.0, run.1, run.2, replays_more levels place run.0 last after picks steps run.3 step)
replays_more levels place s last after [] (x ∷ steps) run step = absurd run
replays_more levels place s last after (p ∷ picks) [] run step = absurd run

-- the value of a conditional whose test is known
if_true : {A : Type 0} (b : Bool) (x y : A) → b ≡ true → (if b then x else y) ≡ x
if_true b x y e = ap (λ c. if c then x else y) e

if_false : {A : Type 0} (b : Bool) (x y : A) → b ≡ false → (if b then x else y) ≡ y
if_false b x y e = ap (λ c. if c then x else y) e

-- a place compared with itself and with another one
same_place : (place : ℕ) → (place == place) ≡ true
same_place place = grind (arith, nat_tests)

other_place : (other place : ℕ) → other ≢ place → (other == place) ≡ false
other_place other place apart = grind (arith, nat_tests)

-- in any world any place may step
pub world_may_step : {X : Type 0} (levels place : ℕ) (old : World X) → place < 2 ^ levels
    → (new : World X) × WorldSteps levels place old new
world_may_step {X} levels place old room = (
  record {
    state = next.0;
    content = if is_inside (old.state.processes place) then old.copies place else old.content;
    copies = λ q. if q == place then copy else old.copies q;
    doing = λ q. if q == place then doing else old.doing q;
    made = λ q. if q == place then made else old.made q;
  },
  record {
    state = next.1;
    copy = if_true (place == place) copy (old.copies place) (same_place place);
    doing = if_true (place == place) doing (old.doing place) (same_place place);
    content = refl;
    made = if_true (place == place) made (old.made place) (same_place place);
    others_copy = λ q apart. if_false (q == place) copy (old.copies q) (other_place q place apart);
    others_doing = λ q apart. if_false (q == place) doing (old.doing q) (other_place q place apart);
    others_made = λ q apart. if_false (q == place) made (old.made q) (other_place q place apart);
  },
)
  where
    next : (new : State) × StepsTo levels place old.state new
    next = may_step levels place old.state room

    copy : List (Marked X)
    copy = if is_inside (next.0.processes place) then old.content else old.copies place

    doing : List X
    doing = if is_inside (next.0.processes place) then [] else old.doing place

    made : List X
    made = if is_inside (old.state.processes place) then old.made place ++ old.doing place else old.made place

-- a place that is inside may append an entry
pub world_may_append : {X : Type 0} (place : ℕ) (entry : X) (old : World X) → IsInside old.state place
    → (new : World X) × WorldAppends any_entry place entry old new
world_may_append place entry old inside = (
  record {
    state = old.state;
    content = old.content;
    copies = λ q. if q == place then old.copies place ++ (place, entry) ∷ [] else old.copies q;
    doing = λ q. if q == place then old.doing place ++ entry ∷ [] else old.doing q;
    made = old.made;
  },
  record {
    inside = inside;
    may_follow = tt;
    state = refl;
    content = refl;
    copy = if_true (place == place) (old.copies place ++ (place, entry) ∷ []) (old.copies place) (same_place place);
    doing = if_true (place == place) (old.doing place ++ entry ∷ []) (old.doing place) (same_place place);
    made = refl;
    others_copy =
        λ q apart. if_false (q == place) (old.copies place ++ (place, entry) ∷ []) (old.copies q)
        (other_place q place apart);
    others_doing =
        λ q apart. if_false (q == place) (old.doing place ++ entry ∷ []) (old.doing q) (other_place q place apart);
    others_made = λ q apart. refl;
  },
)
