-- The texts of a run in which some feeds are left out: as many as all, and each by its place.
use Rattle.std.proofs.Common.{◌≡◌, ℕ, zero, suc, ◌+◌, Bool, List, [], ◌∷◌, length, get_or, if◌then◌else◌, refl, ap, arith}
use Rattle.rt_run.specs.ChosenFeeds.{texts_kept}

pub kept_length : (out : ℕ → Bool) (feed : ℕ) (texts : List (List ℕ)) → length (texts_kept out feed texts) ≡ length texts
kept_length out feed [] = refl
kept_length out feed (text ∷ texts) = ap suc (kept_length out (feed + 1) texts)

-- the text of each feed, by its place
pub kept_at : (out : ℕ → Bool) (feed : ℕ) (texts : List (List ℕ)) (k : ℕ) → get_or (texts_kept out feed texts) k [] ≡ (if out (k + feed) then [] else get_or texts k [])
kept_at out feed [] k = grind arith
kept_at out feed (text ∷ texts) zero = grind arith
kept_at out feed (text ∷ texts) (suc k) = grind (arith, kept_at out (feed + 1) texts k)
