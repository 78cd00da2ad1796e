-- The names of feeds, and their labels one by one.
use Rattle.std.proofs.Common.{◌≡◌, ℕ, ◌+◌, ◌<◌, Bool, List, [], ◌∷◌, ◌++◌, length, map, take, get_or, position, refl, arith, ap, length-take}
use Rattle.std.specs.List.{position_or_len, enumerate_from}
use Rattle.std.proofs.lemmas.List.{length-map, map_push, map_more}

prefix_len-map : {X Y : Type 0} (read : X → Y) (test : Y → Bool) (xs : List X) → position_or_len test (map read xs) ≡ position_or_len (λ x. test (read x)) xs
prefix_len-map read test [] = refl
prefix_len-map read test (x ∷ xs) = rw (prefix_len-map read test xs)

-- the position among values that are read from a list's elements
pub position-map : {X Y : Type 0} (read : X → Y) (test : Y → Bool) (xs : List X) → position test (map read xs) ≡ position (λ x. test (read x)) xs
position-map read test xs = rw (length-map xs read, prefix_len-map read test xs)

-- one more path has its number after the others
enumerate-more : {X : Type 0} (n : ℕ) (xs : List X) (x : X) → enumerate_from n (xs ++ x ∷ []) ≡ enumerate_from n xs ++ (n + length xs, x) ∷ []
enumerate-more n [] x = ap (λ m. (m, x) ∷ []) (omega arith)
enumerate-more n (first ∷ xs) x = rw (enumerate-more (n + 1) xs x) (ap (λ m. (n, first) ∷ (enumerate_from (n + 1) xs ++ (m, x) ∷ [])) (omega arith))

-- so the first i + 1 paths of a list have one more label than the first i, for any field that holds the path or the label
pub labels_more : {P V X : Type 0} (path_of : P → List ℕ) (label_in : V → X) (tell : ℕ × List ℕ → X) (paths : List P) (i : ℕ) (none : P)
    (labels labels' : List V) (label : V) → i < length paths → labels' ≡ labels ++ label ∷ []
    → label_in label ≡ tell (i + 1, path_of (get_or paths i none)) → map label_in labels ≡ map tell (enumerate_from 1 (map path_of (take i paths)))
    → map label_in labels' ≡ map tell (enumerate_from 1 (map path_of (take (i + 1) paths)))
labels_more path_of label_in tell paths i none labels labels' label here pushed told so_far =
    rw (pushed, map_push, so_far, told, map_more path_of paths i none here, enumerate-more, map_push)
    (ap (λ n. map tell (enumerate_from 1 (map path_of (take i paths))) ++ tell (n, path_of (get_or paths i none)) ∷ [])
    (omega (arith, length-map (take i paths) path_of, length-take i paths)))
