-- The words of the tree in the table's row.
use Rattle.std.proofs.Common.{◌≡◌, ◌≢◌, ℕ, ◌+◌, ◌*◌, ◌^◌, ◌<◌, ◌≤◌, Bool, true, false, List, length, get_or, set, refl}
use Rattle.std.proofs.Common.{◌∙◌, arith, get_or-set_other, get_or-set_same, replicate, slice_index, zero, suc, [], ◌∷◌, ap, sym, subst}
use mathlib.Core.Option.{some, some-ne-none}
use lib.ListN.{get_elem?}
use Rattle.ya_core.specs.declared.word.Access.{Access}
use Rattle.ya_core.specs.declared.word.Access.TheVariants.{Load, Store}
use Rattle.ya_core.specs.Machines.{word_of}
use Rattle.ya_core.specs.Steps.{Accesses, value_of}
use Rattle.ya_lock.specs.inside.Rule.{value_after}
use Rattle.std.proofs.Math.Decide.{dec_lt}
use Rattle.std.proofs.Math.Nat.{mul-le-mul_left, mul-le-mul_right}
use Rattle.std.proofs.Math.Pow.{pow-lt}
use Rattle.std.proofs.lemmas.Nat.{pow_pos}
use Rattle.ya_core.proofs.Promised.{few_places, number_within, same_number}
use Rattle.std.proofs.Math.ListN.{get_or-eq_default}
use Rattle.std.proofs.lemmas.List.{get_or-replicate, length-replicate, set-get_or}
use Rattle.ya_core.specs.declared.limits.TheConstants.{MAX_LEVELS, MAX_PLACES}
use Rattle.ya_core.specs.declared.word.Word.{Word}
use Rattle.ya_core.specs.ArbitrationTree.{IsWord, number_of, count_of_words}
use Rattle.ya_core.specs.FlatRow.{is_word}
use Rattle.ya_lock.specs.Rule.{index_of, making_index, row_length, words_in, bell_index}
use Rattle.ya_core.proofs.Promised.{is_word_true, word_is}

-- the words of the tree are before the making word, each in its own cache line
pub index_below : (levels : ℕ) (w : Word) → IsWord levels w → index_of levels w + 8 ≤ making_index levels
unfolding index_of making_index
index_below levels w h = let l = number_within levels w h in omega arith

-- the value of a word of the tree
pub word_in : (levels : ℕ) (row : List ℕ) (w : Word) → IsWord levels w
    → words_in levels row w ≡ get_or row (index_of levels w) 0
unfolding words_in
word_in levels row w h = rw (is_word_true levels w h) refl

-- a store in a word of the tree leaves the number there
pub word_set : (levels : ℕ) (row : List ℕ) (w : Word) (n : ℕ) → IsWord levels w → index_of levels w < length row
    → words_in levels (set row (index_of levels w) n) w ≡ n
word_set levels row w n h l =
    word_in levels (set row (index_of levels w) n) w h ∙ get_or-set_same row (index_of levels w) n 0 l

-- different words have different indices
indices_apart : (levels : ℕ) (v w : Word) → IsWord levels v → IsWord levels w → v ≢ w
    → index_of levels v ≢ index_of levels w
unfolding index_of
indices_apart levels v w h k ne e = ne (same_number levels v w h k (omega arith))

-- by cases: the other is a word of the tree or not
other_by : (levels : ℕ) (row : List ℕ) (w other : Word) (n : ℕ) (b : Bool) → is_word levels other ≡ b → IsWord levels w
    → other ≢ w
    → words_in levels (set row (index_of levels w) n) other ≡ words_in levels row other
unfolding words_in
other_by levels row w other n true is h ne =
    rw is (get_or-set_other row (index_of levels w) (index_of levels other) n 0
    (indices_apart levels other w (word_is levels other is) h ne))
other_by levels row w other n false is h ne = rw is refl

-- and no other number changes
pub word_set_other : (levels : ℕ) (row : List ℕ) (w other : Word) (n : ℕ) → IsWord levels w → other ≢ w
    → words_in levels (set row (index_of levels w) n) other ≡ words_in levels row other
word_set_other levels row w other n h ne = other_by levels row w other n (is_word levels other) refl h ne

-- by cases: the index is in the row or not
all_zero_by : (n i : ℕ) → Dec (i < n) → slice_index (replicate n 0) i ≡ 0
all_zero_by n i (yes l) = get_or-replicate n i 0 0 l
all_zero_by n i (no l) = get_or-eq_default (replicate n 0) 0 (omega (arith, length-replicate {A = ℕ} n 0))

-- a row of zeros holds 0 everywhere
all_zero : (n i : ℕ) → slice_index (replicate n 0) i ≡ 0
all_zero n i = all_zero_by n i (dec_lt i n)

-- a load changes no word
pub word_kept : (row : List ℕ) (i : ℕ) → set row i (get_or row i 0) ≡ row
word_kept row i = set-get_or row i 0

-- by cases: it is a word of the tree or not
zeros_by : (levels n : ℕ) (w : Word) (b : Bool) → is_word levels w ≡ b → words_in levels (replicate n 0) w ≡ 0
unfolding words_in
zeros_by levels n w true is = rw is (all_zero n (index_of levels w))
zeros_by levels n w false is = rw is refl

-- at the start every word is 0
pub words_zero : (levels n : ℕ) → words_in levels (replicate n 0) ≡ (λ w. 0)
words_zero levels n = λ i w. zeros_by levels n w (is_word levels w) refl i

-- by cases: it is a word of the tree or not
behind_by : (levels i : ℕ) (row : List ℕ) (n : ℕ) (w : Word) (b : Bool) → making_index levels ≤ i → is_word levels w ≡ b
    → words_in levels (set row i n) w ≡ words_in levels row w
unfolding words_in
behind_by levels i row n w true behind is =
    let j : ℕ = index_of levels w in let m : ℕ = making_index levels in let l : j + 8 ≤ m =
    index_below levels w (word_is levels w is) in
    rw is (get_or-set_other row i j n 0 (λ e. omega arith))
behind_by levels i row n w false behind is = rw is refl

-- the making word and the bells are not words of the tree
pub words_behind : (levels i : ℕ) (row : List ℕ) (n : ℕ) → making_index levels ≤ i
    → words_in levels (set row i n) ≡ words_in levels row
words_behind levels i row n behind = λ k w. behind_by levels i row n w (is_word levels w) behind refl k

-- the row is short
pub making_small : (levels : ℕ) → levels ≤ MAX_LEVELS → making_index levels ≤ 4294967296
unfolding making_index count_of_words
making_small levels most =
    let places : ℕ = 2 ^ levels in let few : places ≤ MAX_PLACES = few_places levels most in
    let times : levels * places ≤ MAX_LEVELS * places = mul-le-mul_right places most in omega arith

-- the index of the making word
pub making_is : (levels : ℕ) → 8 * count_of_words levels ≡ making_index levels
unfolding making_index
making_is levels = refl

-- the index of a word
pub index_is : (levels : ℕ) (w : Word) → 8 * number_of levels w ≡ index_of levels w
unfolding index_of
index_is levels w = refl

-- the index of a bell
pub bell_is : (levels place : ℕ) → 8 * (count_of_words levels + 1 + place) ≡ bell_index levels place
unfolding making_index bell_index
bell_is levels place = omega arith

-- the bells come after the making word, in the row
pub bell_behind : (levels place : ℕ) → making_index levels < bell_index levels place
unfolding bell_index
bell_behind levels place = omega arith

pub bell_within : (levels place : ℕ) → place < 2 ^ levels → bell_index levels place < row_length levels
unfolding bell_index
bell_within levels place h = let places : ℕ = 2 ^ levels in let below : place < places = h in omega arith

-- the row of a higher tree is longer
longer_row : (a b : ℕ) → a < b → row_length a < row_length b
unfolding making_index count_of_words
longer_row a b h =
    let x : ℕ = 2 ^ a in let y : ℕ = 2 ^ b in let less : x < y = pow-lt h in let some : 1 ≤ x = pow_pos a in
    let wide : a * x ≤ b * x = mul-le-mul_right x (let le : a ≤ b = omega arith in le) in let high : b * x ≤ b * y =
    mul-le-mul_left b (let le : x ≤ y = omega arith in le) in omega arith

-- by comparison of the two heights
same_by : (a b : ℕ) → row_length a ≡ row_length b → Dec (a < b) → Dec (b < a) → a ≡ b
same_by a b e (yes h) d =
    let m : ℕ = row_length a in let n : ℕ = row_length b in let less : m < n = longer_row a b h in let is : m ≡ n = e in
    absurd (omega arith)
same_by a b e (no h) (yes k) =
    let m : ℕ = row_length a in let n : ℕ = row_length b in let less : n < m = longer_row b a k in let is : m ≡ n = e in
    absurd (omega arith)
same_by a b e (no h) (no k) = omega arith

-- trees whose rows have the same length have the same height
pub same_height : (a b : ℕ) → row_length a ≡ row_length b → a ≡ b
same_height a b e = same_by a b e (dec_lt a b) (dec_lt b a)

-- the view of a seat after it was set
pub set_at : {A : Type 0} (l : List A) (i : ℕ) (old new : A) → get_elem? l i ≡ some old
    → get_elem? (set l i new) i ≡ some new
set_at [] i old new e = absurd (some-ne-none old (sym e))
set_at (x ∷ xs) zero old new e = refl
set_at (x ∷ xs) (suc i) old new e = set_at xs i old new e

-- the core's value of an access is the word's value after it
pub value_is : (levels i : ℕ) (row : List ℕ) (a : Access) → IsWord levels (word_of a) → i ≡ index_of levels (word_of a)
    → value_of (words_in levels row) a ≡ value_after a (slice_index row i)
value_is levels i row (Load w) h e = word_in levels row w h ∙ ap (λ (j : ℕ). slice_index row j) (sym e)
value_is levels i row (Store w m) h e = refl

-- and the words after it are the core's
pub accesses : (levels i : ℕ) (row : List ℕ) (a : Access) → IsWord levels (word_of a) → i ≡ index_of levels (word_of a)
    → i < length row
    → Accesses a (words_in levels row) (words_in levels (set row i (value_after a (slice_index row i))))
accesses levels i row (Load w) h e l = λ other. ap (λ (r : List ℕ). words_in levels r other) (word_kept row i)
accesses levels i row (Store w m) h e l =
    let P : ℕ → Type 0 =
    λ j. j < length row
    → (words_in levels (set row j m) w ≡ m)
    × ((other : Word) → other ≢ w → words_in levels (set row j m) other ≡ words_in levels row other) in
    subst P (sym e) (λ below. (word_set levels row w m h below, λ other ne. word_set_other levels row w other m h ne)) l
