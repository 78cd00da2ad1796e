-- Which feeds take part in a run, and the texts of a run in which the others are left out.
use Rattle.std.specs.Prelude.{◌≡◌, ℕ, ◌+◌, Bool, true, false, not, ◌||◌, if◌then◌else◌, List, [], ◌∷◌, length, get_or}
use Rattle.rt_rib.specs.Selection.{is_one_of, is_selected}

-- the feed is left out: it is one of `without`, or it isn't selected
abbrev pub is_left_out : List ℕ → List ℕ → ℕ → Bool
is_left_out only without feed = is_one_of without feed || not (is_selected only feed)

-- the texts, the first of them this feed's, but the text of each feed that is left out is empty
abbrev pub texts_kept : (ℕ → Bool) → ℕ → List (List ℕ) → List (List ℕ)
texts_kept leaves_out feed [] = []
texts_kept leaves_out feed (text ∷ texts) = (if leaves_out feed then [] else text) ∷ texts_kept leaves_out (feed + 1) texts

-- the texts of the feeds, the k-th of feed k, but the text of each feed that is left out is empty
pub record AreWithout (is_left_out : ℕ → Bool) (all texts : List (List ℕ)) : Type 0 where
  pub as_many : length texts ≡ length all
  pub others : (k : ℕ) → is_left_out (k + 1) ≡ false → get_or texts k [] ≡ get_or all k []
  pub empty : (k : ℕ) → is_left_out (k + 1) ≡ true → get_or texts k [] ≡ []
