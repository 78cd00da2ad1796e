-- A word by its name and by its number in the flat row: an access at the number is an access of the word.
use Rattle.std.proofs.Common.{◌≡◌, ◌≢◌, ℕ, ◌-◌, ◌^◌, ◌<◌, ◌≤◌, ◌&&◌, Bool, true, false, nat_lt, nat_le, refl, arith, ap}
use Rattle.std.proofs.Common.{◌∙◌, if◌then◌else◌, List, length, slice_index, slice_set, get_or-set_same}
use Rattle.std.proofs.Common.{get_or-set_other}
use Rattle.std.proofs.Math.Path.{fun_ext}
use Rattle.std.proofs.lemmas.Bool.Decides.{nat_tests}
use Rattle.ya_core.specs.declared.word.Word.{Word}
use Rattle.ya_core.specs.declared.word.Word.TheVariants.{C, T, P}
use Rattle.ya_core.specs.declared.word.Access.TheVariants.{Store}
use Rattle.ya_core.specs.ArbitrationTree.{IsWord, number_of, count_of_words}
use Rattle.ya_core.specs.Steps.{State, Accesses}
use Rattle.ya_core.specs.FlatRow.{is_word, words_of}
use Rattle.ya_core.proofs.Numbers.{number_within, same_number}

-- the test of a word decides whether the tree has it
pub is_word_true : (levels : ℕ) (word : Word) → IsWord levels word → is_word levels word ≡ true
is_word_true levels (C level node side) is = grind (arith, nat_tests, is.0, is.1, is.2, is.3)
is_word_true levels (T level node) is = grind (arith, nat_tests, is.0, is.1, is.2)
is_word_true levels (P level place) is = grind (arith, nat_tests, is.0, is.1, is.2)

all_of_two : (a b : Bool) → (a && b) ≡ true → (a ≡ true) × (b ≡ true)
all_of_two true true e = (refl, refl)
all_of_two true false e = absurd cc
all_of_two false b e = absurd cc

pub word_is : (levels : ℕ) (word : Word) → is_word levels word ≡ true → IsWord levels word
word_is levels (C level node side) e =
    let one = all_of_two (nat_le 1 level && nat_le level levels && nat_lt node (2 ^ (levels - level)))
    (nat_lt side 2) e in
    let two = all_of_two (nat_le 1 level && nat_le level levels) (nat_lt node (2 ^ (levels - level))) one.0 in
    let three = all_of_two (nat_le 1 level) (nat_le level levels) two.0 in (
      grind (arith, nat_tests, three.0),
      grind (arith, nat_tests, three.1),
      grind (arith, nat_tests, two.1),
      grind (arith, nat_tests, one.1),
    )
word_is levels (T level node) e =
    let two = all_of_two (nat_le 1 level && nat_le level levels) (nat_lt node (2 ^ (levels - level))) e in
    let three = all_of_two (nat_le 1 level) (nat_le level levels) two.0 in
    (grind (arith, nat_tests, three.0), grind (arith, nat_tests, three.1), grind (arith, nat_tests, two.1))
word_is levels (P level place) e =
    let two = all_of_two (nat_le 1 level && nat_le level levels) (nat_lt place (2 ^ levels)) e in
    let three = all_of_two (nat_le 1 level) (nat_le level levels) two.0 in
    (grind (arith, nat_tests, three.0), grind (arith, nat_tests, three.1), grind (arith, nat_tests, two.1))

-- a word of the tree is what the row has at its number
pub words_of-number : (levels : ℕ) (row : List ℕ) (word : Word) → IsWord levels word
    → words_of levels row word ≡ slice_index row (number_of levels word)
unfolding words_of
words_of-number levels row word is =
    ap (λ b. if b then slice_index row (number_of levels word) else 0) (is_word_true levels word is)

-- a store at a word's number is a store in the word
pub words_of-set : (levels : ℕ) (row : List ℕ) (word : Word) (value : ℕ) → IsWord levels word
    → count_of_words levels ≤ length row
    → Accesses (Store word value) (words_of levels row) (words_of levels (slice_set row (number_of levels word) value))
unfolding words_of
words_of-set levels row word value is room = (
  words_of-number levels (slice_set row (number_of levels word) value) word is
      ∙ get_or-set_same row (number_of levels word) value 0 (omega (arith, number_within levels word is)),
  λ other apart. cases other apart (is_word levels other) refl,
)
  where
    cases : (other : Word) → other ≢ word → (b : Bool) → is_word levels other ≡ b
        → (if b then slice_index (slice_set row (number_of levels word) value) (number_of levels other) else 0) ≡ (if b
        then slice_index row (number_of levels other) else 0)
    cases other apart true e =
        get_or-set_other row (number_of levels word) (number_of levels other) value 0
        (λ same. apart (same_number levels other word (word_is levels other e) is same))
    cases other apart false e = refl

-- if a row is 0 at every number of a word, all words are 0
pub words_of-zero : (levels : ℕ) (row : List ℕ) → ((i : ℕ) → i < count_of_words levels → slice_index row i ≡ 0)
    → (word : Word) → words_of levels row word ≡ 0
unfolding words_of
words_of-zero levels row zero word = cases (is_word levels word) refl
  where
    cases : (b : Bool) → is_word levels word ≡ b → (if b then slice_index row (number_of levels word) else 0) ≡ 0
    cases true e = zero (number_of levels word) (number_within levels word (word_is levels word e))
    cases false e = refl

-- states with equal words and processes are equal
pub same_state : (s t : State) → ((word : Word) → s.words word ≡ t.words word)
    → ((p : ℕ) → s.processes p ≡ t.processes p) → s ≡ t
same_state s t words processes = λ i. record { words = fun_ext words i; processes = fun_ext processes i }
