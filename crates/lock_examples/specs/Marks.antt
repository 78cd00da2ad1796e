-- What places do to a list of marks: each adds only its own.
use Rattle.std.specs.Prelude.{◌≡◌, ◌≢◌, ℕ, List, ◌++◌, All}

-- places other than this one may have added marks
pub record MarkedByOthers (place : ℕ) (seen now : List ℕ) : Type 0 where
  pub others : List ℕ
  pub grown : now ≡ seen ++ others
  pub by_others : All (λ mark. mark ≢ place) others

-- only this place may have added marks
pub record MarkedBy (place : ℕ) (found left : List ℕ) : Type 0 where
  pub own : List ℕ
  pub added : left ≡ found ++ own
  pub by_place : All (λ mark. mark ≡ place) own
