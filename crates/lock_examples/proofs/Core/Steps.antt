-- Examples of the steps of a process.
use Rattle.std.proofs.Common.{◌≡◌, ◌≢◌, ℕ, ◌^◌, ◌<◌, Bool, true, false, if◌then◌else◌, List, [], ◌∷◌, ◌==◌, ◌&&◌}
use Rattle.std.proofs.Common.{map, refl, ap, ◌∙◌, arith}
use Rattle.std.proofs.lemmas.Bool.{false_from_ne_true, eq-eqb, eqb-true, ne_eqb, and_from, and_parts}
use Rattle.ya_core.specs.declared.word.Word.{Word}
use Rattle.ya_core.specs.declared.word.Word.TheVariants.{C, T, P}
use Rattle.ya_core.specs.declared.word.Access.{Access}
use Rattle.ya_core.specs.declared.word.Access.TheVariants.{Load, Store}
use Rattle.ya_core.specs.declared.process.EntryPoint.TheVariants.{E1, E2, E3, E4, E5, E6, E7, E8, E9, E10}
use Rattle.ya_core.specs.declared.process.ExitPoint.TheVariants.{X1, X2, X3}
use Rattle.ya_core.specs.declared.process.Process.{Process}
use Rattle.ya_core.specs.declared.process.Process.TheVariants.{Idle, Entering, Inside, Leaving}
use Rattle.ya_core.specs.ArbitrationTree.{node_of, side_of}
use Rattle.ya_core.specs.Steps.{State, StepsTo, LeadTo, Accesses, opening, entry_access, exit_access, access_of, after_entry, after_exit, entry_next, exit_next}
use Rattle.ya_core.specs.Steps.{next_of, value_of}
use Rattle.std.specs.Prelude.{◌-◌}
use Rattle.ya_core.specs.declared.process.EntryPoint.{EntryPoint}
use Rattle.ya_core.specs.declared.process.ExitPoint.{ExitPoint}

-- access_of
an_idle_process_claims_its_leaf : access_of 2 3 Idle ≡ Store (C 1 1 1) 4
unfolding node_of side_of
an_idle_process_claims_its_leaf = refl

one_inside_gives_up_the_root : access_of 2 3 Inside ≡ Store (C 2 0 1) 0
unfolding node_of side_of
one_inside_gives_up_the_root = refl

at_a_tree_of_three_levels :
    map (access_of 3 7) (Idle ∷ Entering 2 E4 ∷ Inside ∷ Leaving 2 X2 ∷ [])
    ≡ Store (C 1 3 1) 8 ∷ Load (C 2 1 0) ∷ Store (C 3 0 1) 0 ∷ Load (T 2 1) ∷ []
unfolding node_of side_of
at_a_tree_of_three_levels = refl

-- next_of
nobody_competes : next_of 2 3 (Entering 1 E4) 0 ≡ Entering 2 E1
nobody_competes = refl

nobody_competes_at_the_root : next_of 2 3 (Entering 2 E4) 0 ≡ Inside
nobody_competes_at_the_root = refl

place_2_competes : next_of 2 3 (Entering 1 E4) 3 ≡ Entering 1 (E5 2)
place_2_competes = refl

a_place_that_announced_itself_last_waits : next_of 1 0 (Entering 1 (E5 1)) 1 ≡ Entering 1 (E6 1)
a_place_that_announced_itself_last_waits = refl

one_that_did_not_goes_on : next_of 1 0 (Entering 1 (E5 1)) 2 ≡ Inside
one_that_did_not_goes_on = refl

it_waits_while_its_word_is_1 : next_of 1 0 (Entering 1 E10) 1 ≡ Entering 1 E10
it_waits_while_its_word_is_1 = refl

it_is_let_in_by_a_2 : next_of 1 0 (Entering 1 E10) 2 ≡ Inside
it_is_let_in_by_a_2 = refl

who_leaves_lets_the_other_in : next_of 1 0 (Leaving 1 X2) 2 ≡ Leaving 1 (X3 1)
who_leaves_lets_the_other_in = refl

who_leaves_the_leaf_is_idle : next_of 2 0 (Leaving 1 X2) 1 ≡ Idle
who_leaves_the_leaf_is_idle = refl

at_each_part_of_the_way :
    map (λ (process : Process). next_of 3 5 process 8) (Idle ∷ Entering 2 E4 ∷ Inside ∷ Leaving 2 X2 ∷ Leaving 3 (X3 1) ∷ [])
    ≡ Entering 1 E2 ∷ Entering 2 (E5 7) ∷ Leaving 3 X2 ∷ Leaving 2 (X3 7) ∷ Leaving 2 X1 ∷ []
at_each_part_of_the_way = refl

its_own_identifier_in_the_word_T :
    (next_of 3 5 (Entering 2 E9) 6 ≡ Entering 2 E10) × (next_of 3 5 (Leaving 2 X2) 6 ≡ Leaving 1 X1) × (next_of 3 5 (Entering 2 E9) 8 ≡ Entering 3 E1)
its_own_identifier_in_the_word_T = (refl, refl, refl)

-- entry_access
the_points_of_the_way_in :
    map (entry_access 1 2) (E1 ∷ E2 ∷ E3 ∷ E4 ∷ E5 3 ∷ E6 3 ∷ E7 3 ∷ E8 ∷ E9 ∷ E10 ∷ [])
    ≡ Store (C 1 1 0) 3 ∷ Store (T 1 1) 3 ∷ Store (P 1 2) 0 ∷ Load (C 1 1 1) ∷ Load (T 1 1) ∷ Load (P 1 3) ∷ Store (P 1 3) 1
    ∷ Load (P 1 2) ∷ Load (T 1 1) ∷ Load (P 1 2) ∷ []
unfolding node_of side_of
the_points_of_the_way_in = refl

the_points_of_the_way_in_at_level_2 :
    map (entry_access 2 7) (E1 ∷ E2 ∷ E3 ∷ E4 ∷ E5 5 ∷ E6 5 ∷ E7 5 ∷ E8 ∷ E9 ∷ E10 ∷ [])
    ≡ Store (C 2 1 1) 8 ∷ Store (T 2 1) 8 ∷ Store (P 2 7) 0 ∷ Load (C 2 1 0) ∷ Load (T 2 1) ∷ Load (P 2 5) ∷ Store (P 2 5) 1
    ∷ Load (P 2 7) ∷ Load (T 2 1) ∷ Load (P 2 7) ∷ []
unfolding node_of side_of
the_points_of_the_way_in_at_level_2 = refl

whomever_it_found_it_looks_at_its_own_node : entry_access 1 2 (E5 0) ≡ Load (T 1 1)
unfolding node_of side_of
whomever_it_found_it_looks_at_its_own_node = refl

-- exit_access
the_points_of_the_way_out : map (exit_access 1 2) (X1 ∷ X2 ∷ X3 3 ∷ []) ≡ Store (C 1 1 0) 0 ∷ Load (T 1 1) ∷ Store (P 1 3) 2 ∷ []
unfolding node_of side_of
the_points_of_the_way_out = refl

the_points_of_the_way_out_at_level_2 : map (exit_access 2 7) (X1 ∷ X2 ∷ X3 5 ∷ []) ≡ Store (C 2 1 1) 0 ∷ Load (T 2 1) ∷ Store (P 2 5) 2 ∷ []
unfolding node_of side_of
the_points_of_the_way_out_at_level_2 = refl

-- entry_next
what_a_store_loads_leads_nowhere_else : entry_next 2 1 3 E1 0 ≡ entry_next 2 1 3 E1 7
what_a_store_loads_leads_nowhere_else = refl

a_rival_that_sleeps_is_woken : entry_next 2 1 3 (E6 2) 0 ≡ Entering 1 (E7 2)
a_rival_that_sleeps_is_woken = refl

one_that_is_awake_is_not : entry_next 2 1 3 (E6 2) 1 ≡ Entering 1 E8
one_that_is_awake_is_not = refl

it_waits_to_be_woken : entry_next 2 1 3 E8 0 ≡ Entering 1 E8
it_waits_to_be_woken = refl

woken_it_looks_again : entry_next 2 1 3 E8 1 ≡ Entering 1 E9
woken_it_looks_again = refl

still_the_last_it_waits_to_be_let_in : entry_next 2 1 3 E9 4 ≡ Entering 1 E10
still_the_last_it_waits_to_be_let_in = refl

no_longer_the_last_it_has_won : entry_next 2 1 3 E9 3 ≡ Entering 2 E1
no_longer_the_last_it_has_won = refl

a_store_leads_to_the_next_point_whatever_it_stores :
    (value : ℕ)
    → map (λ (point : EntryPoint). entry_next 3 2 5 point value) (E1 ∷ E2 ∷ E3 ∷ E7 7 ∷ [])
    ≡ Entering 2 E2 ∷ Entering 2 E3 ∷ Entering 2 E4 ∷ Entering 2 E8 ∷ []
a_store_leads_to_the_next_point_whatever_it_stores value = refl

by_a_0 :
    map (λ (point : EntryPoint). entry_next 3 2 5 point 0) (E4 ∷ E5 7 ∷ E6 7 ∷ E8 ∷ E9 ∷ E10 ∷ [])
    ≡ Entering 3 E1 ∷ Entering 3 E1 ∷ Entering 2 (E7 7) ∷ Entering 2 E8 ∷ Entering 3 E1 ∷ Entering 2 E10 ∷ []
by_a_0 = refl

by_a_1 :
    map (λ (point : EntryPoint). entry_next 3 2 5 point 1) (E4 ∷ E5 7 ∷ E6 7 ∷ E8 ∷ E9 ∷ E10 ∷ [])
    ≡ Entering 2 (E5 0) ∷ Entering 3 E1 ∷ Entering 2 E8 ∷ Entering 2 E9 ∷ Entering 3 E1 ∷ Entering 2 E10 ∷ []
by_a_1 = refl

by_a_2 :
    map (λ (point : EntryPoint). entry_next 3 2 5 point 2) (E4 ∷ E5 7 ∷ E6 7 ∷ E8 ∷ E9 ∷ E10 ∷ [])
    ≡ Entering 2 (E5 1) ∷ Entering 3 E1 ∷ Entering 2 E8 ∷ Entering 2 E9 ∷ Entering 3 E1 ∷ Entering 3 E1 ∷ []
by_a_2 = refl

by_its_own_identifier :
    map (λ (point : EntryPoint). entry_next 3 2 5 point 6) (E4 ∷ E5 7 ∷ E6 7 ∷ E8 ∷ E9 ∷ E10 ∷ [])
    ≡ Entering 2 (E5 5) ∷ Entering 2 (E6 7) ∷ Entering 2 E8 ∷ Entering 2 E9 ∷ Entering 2 E10 ∷ Entering 2 E10 ∷ []
by_its_own_identifier = refl

-- after_entry
from_the_leaf_on_to_the_root : after_entry 2 1 ≡ Entering 2 E1
from_the_leaf_on_to_the_root = refl

from_the_root_inside : after_entry 2 2 ≡ Inside
from_the_root_inside = refl

at_three_levels : map (after_entry 3) (1 ∷ 2 ∷ 3 ∷ []) ≡ Entering 2 E1 ∷ Entering 3 E1 ∷ Inside ∷ []
at_three_levels = refl

-- exit_next
its_claim_given_up : exit_next 1 3 X1 0 ≡ Leaving 1 X2
its_claim_given_up = refl

the_last_to_announce_itself_was_itself : exit_next 1 3 X2 4 ≡ Idle
the_last_to_announce_itself_was_itself = refl

it_was_the_rival : exit_next 1 3 X2 3 ≡ Leaving 1 (X3 2)
it_was_the_rival = refl

by_its_own_identifier_or_anothers :
    (map (λ (point : ExitPoint). exit_next 2 5 point 6) (X1 ∷ X2 ∷ X3 7 ∷ []) ≡ Leaving 2 X2 ∷ Leaving 1 X1 ∷ Leaving 1 X1 ∷ [])
    × (map (λ (point : ExitPoint). exit_next 2 5 point 8) (X1 ∷ X2 ∷ X3 7 ∷ []) ≡ Leaving 2 X2 ∷ Leaving 2 (X3 7) ∷ Leaving 1 X1 ∷ [])
by_its_own_identifier_or_anothers = (refl, refl)

-- after_exit
from_the_root_down_to_the_leaf : after_exit 2 ≡ Leaving 1 X1
from_the_root_down_to_the_leaf = refl

from_the_leaf_to_idle : after_exit 1 ≡ Idle
from_the_leaf_to_idle = refl

down_to_idle : map after_exit (3 ∷ 2 ∷ 1 ∷ []) ≡ Leaving 2 X1 ∷ Leaving 1 X1 ∷ Idle ∷ []
down_to_idle = refl

-- value_of
a_load_tells_the_word : value_of (λ word. 9) (Load (T 1 0)) ≡ 9
a_load_tells_the_word = refl

a_store_what_it_stores : value_of (λ word. 9) (Store (T 1 0) 4) ≡ 4
a_store_what_it_stores = refl

-- opening
all_words_are_0 : opening.words (T 1 0) ≡ 0
all_words_are_0 = refl

all_places_are_idle : opening.processes 3 ≡ Idle
all_places_are_idle = refl

-- true if the two words are equal
abbrev same_word : Word → Word → Bool
same_word (C h n s) (C k m d) = h == k && (n == m && s == d)
same_word (T h n) (T k m) = h == k && n == m
same_word (P h n) (P k m) = h == k && n == m
same_word _ _ = false

same_word-itself : (a : Word) → same_word a a ≡ true
same_word-itself (C h n s) = and_from (h == h) (n == n && s == s) (eq-eqb h h refl) (and_from (n == n) (s == s) (eq-eqb n n refl) (eq-eqb s s refl))
same_word-itself (T h n) = and_from (h == h) (n == n) (eq-eqb h h refl) (eq-eqb n n refl)
same_word-itself (P h n) = and_from (h == h) (n == n) (eq-eqb h h refl) (eq-eqb n n refl)

same_word-one : (a b : Word) → same_word a b ≡ true → a ≡ b
same_word-one (C h n s) (C k m d) same =
    let level = and_parts (h == k) (n == m && s == d) same in
    let rest = and_parts (n == m) (s == d) level.1 in
    rw (eqb-true h k level.0, eqb-true n m rest.0, eqb-true s d rest.1) refl
same_word-one (T h n) (T k m) same = let both = and_parts (h == k) (n == m) same in rw (eqb-true h k both.0, eqb-true n m both.1) refl
same_word-one (P h n) (P k m) same = let both = and_parts (h == k) (n == m) same in rw (eqb-true h k both.0, eqb-true n m both.1) refl
same_word-one (C h n s) (T k m) same = cc
same_word-one (C h n s) (P k m) same = cc
same_word-one (T h n) (C k m d) same = cc
same_word-one (T h n) (P k m) same = cc
same_word-one (P h n) (C k m d) same = cc
same_word-one (P h n) (T k m) same = cc

-- all words after an access, and all processes after one of them is replaced
abbrev words_after : Access → (Word → ℕ) → Word → ℕ
words_after (Load named) words word = words word
words_after (Store named value) words word = if same_word word named then value else words word

words_after_are : (access : Access) (words : Word → ℕ) → Accesses access words (words_after access words)
words_after_are (Load named) words = λ other. refl
words_after_are (Store named value) words = (
  ap (λ c. if c then value else words named) (same_word-itself named),
  λ other apart. ap (λ c. if c then value else words other) (false_from_ne_true (same_word other named) (λ same. apart (same_word-one other named same))),
)

abbrev pub set : {A : Type 0} → ℕ → A → (ℕ → A) → ℕ → A
set place one all other = if other == place then one else all other

pub set-itself : {A : Type 0} (place : ℕ) (one : A) (all : ℕ → A) → set place one all place ≡ one
set-itself place one all = ap (λ c. if c then one else all place) (eq-eqb place place refl)

pub set-other : {A : Type 0} (place : ℕ) (one : A) (all : ℕ → A) (other : ℕ) → other ≢ place → set place one all other ≡ all other
set-other place one all other apart = ap (λ c. if c then one else all other) (ne_eqb other place apart)

-- the state after the place makes this access and gets this process
abbrev gone : ℕ → State → Access → Process → State
gone place s access next = record { words = words_after access s.words; processes = set place next s.processes }

abbrev gone_from : ℕ → ℕ → State → Process → State
gone_from levels place s process =
    gone place s (access_of levels place process) (next_of levels place process (value_of s.words (access_of levels place process)))

abbrev pub after : ℕ → ℕ → State → State
after levels place s = gone_from levels place s (s.processes place)

pub steps_to : (levels place : ℕ) (s : State) → place < 2 ^ levels → StepsTo levels place s (after levels place s)
steps_to levels place s room = record {
  in_tree = room;
  words = words_after_are (access_of levels place (s.processes place)) s.words;
  process = set-itself place _ s.processes;
  others = set-other place _ s.processes;
}

-- Accesses
a_load_changes_no_word : Accesses (Load (T 1 0)) (λ word. 9) (λ word. 9)
a_load_changes_no_word = λ other. refl

not_the_word_that_it_loads : ¬ Accesses (Load (T 1 0)) (λ word. 9) (λ word. 4)
not_the_word_that_it_loads h = let same = h (T 1 0) in cc

a_store_changes_its_word : ¬ Accesses (Store (T 1 0) 4) (λ word. 9) (λ word. 9)
a_store_changes_its_word h = let stored = h.0 in cc

a_store_changes_no_other : ¬ Accesses (Store (T 1 0) 4) (λ word. 9) (λ word. 4)
a_store_changes_no_other h = let same = h.1 (T 2 0) (λ e. cc) in cc

-- StepsTo
place_1_steps : (s : State) × StepsTo 1 1 opening s
place_1_steps = (after 1 1 opening, steps_to 1 1 opening (omega arith))

no_place_outside_of_the_tree : (s : State) → ¬ StepsTo 1 2 opening s
no_place_outside_of_the_tree s h = omega (arith, h.in_tree)

-- the state after these places have stepped, one after another
abbrev pub all_after : ℕ → List ℕ → State → State
all_after levels [] s = s
all_after levels (place ∷ places) s = all_after levels places (after levels place s)

abbrev pub AllIn : ℕ → List ℕ → Type 0
AllIn levels [] = Unit {0}
AllIn levels (place ∷ places) = place < 2 ^ levels × AllIn levels places

leads_to : (levels : ℕ) (places : List ℕ) (s : State) → AllIn levels places → LeadTo levels s places (all_after levels places s)
leads_to levels [] s within = refl
leads_to levels (place ∷ places) s within =
    (after levels place s, steps_to levels place s within.0, leads_to levels places (after levels place s) within.1)

-- place 2 is outside the tree of one level, so it stays idle
pub stays_idle : (places : List ℕ) (s t : State) → s.processes 2 ≡ Idle → LeadTo 1 s places t → t.processes 2 ≡ Idle
stays_idle [] s t idle same = ap (λ (state : State). state.processes 2) same ∙ idle
stays_idle (place ∷ places) s t idle (next, step, rest) =
    stays_idle places next t (step.others 2 (λ same. omega (arith, step.in_tree, same)) ∙ idle) rest

-- LeadTo
pub four_steps_of_place_0 : LeadTo 1 opening (0 ∷ 0 ∷ 0 ∷ 0 ∷ []) (all_after 1 (0 ∷ 0 ∷ 0 ∷ 0 ∷ []) opening)
four_steps_of_place_0 = leads_to 1 (0 ∷ 0 ∷ 0 ∷ 0 ∷ []) opening (omega arith, (omega arith, (omega arith, (omega arith, tt))))

-- a state whose parts differ
abbrev pub all_inside : State
all_inside = record { words = λ word. 9; processes = λ place. Inside }

-- State
words_and_processes : (all_inside.words (T 1 0) ≡ 9) × (all_inside.processes 3 ≡ Inside)
words_and_processes = (refl, refl)
