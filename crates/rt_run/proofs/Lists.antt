-- Lemmas on lists: maps, filters, counts, pieces, and a vector that is written through a slice.
use Rattle.std.proofs.Common.{◌≡◌, ℕ, ◌+◌, true, false, Bool, List, [], ◌∷◌, ◌++◌, map, length, take, drop, refl, sym, ap, ◌∙◌, arith, append-nil, append_assoc, length-append}
use Rattle.std.specs.Prelude.{nat_lt, count_by, cond, ◌||◌}
use Rattle.std.specs.List.{list_any, filter}
use Rattle.std.proofs.lemmas.Bool.Decides.{nat_tests}
use Rattle.std.proofs.lemmas.List.{map-append, drop_all, take_all}
use Rattle.std.proofs.lemmas.List.Sums.{sum_by-cons}
use Rattle.rt_feed.specs.Visits.{concatenated, piece_of, IsSplitInto}

-- a list that grows while another is mapped: one more element of both
pub map_more : {X Y : Type 0} (f : X → Y) (ys ys' : List Y) (xs : List X) (x : X) (y : Y)
    → ys ≡ map f xs → ys' ≡ ys ++ y ∷ [] → y ≡ f x → ys' ≡ map f (xs ++ x ∷ [])
map_more f ys ys' xs x y so_far pushed is =
    pushed ∙ (ap (λ t. t ++ y ∷ []) so_far ∙ (ap (λ z. map f xs ++ z ∷ []) is ∙ sym (map-append f xs (x ∷ []))))

-- a list whose images are known in parts, by these parts
pub map_split : {X Y : Type 0} (f : X → Y) (xs : List X) (ys zs : List Y) (y : Y) → map f xs ≡ ys ++ y ∷ zs
    → (front back : List X) × (x : X) × (xs ≡ front ++ x ∷ back) × (ys ≡ map f front) × (y ≡ f x)
map_split f (x ∷ xs) [] zs y is = ([], xs, x, refl, refl, cc)
map_split f (x ∷ xs) (z ∷ ys) zs y is =
    let (front, back, one, split, before, had) = map_split f xs ys zs y cc in
    let head : z ≡ f x = cc in
    (x ∷ front, back, one, ap (λ l. x ∷ l) split, ap (λ l. z ∷ l) before ∙ ap (λ w. w ∷ map f front) head, had)
map_split f [] ys zs y is = absurd (omega (arith, ap length is, length-append ys (y ∷ zs)))

-- a list whose kept elements are known in parts, by these parts; if the first element is kept or not
kept_split : {X : Type 0} (test : X → Bool) (xs : List X) → ((ys zs : List X) (y : X) → filter test xs ≡ ys ++ y ∷ zs
    → (front back : List X) × (xs ≡ front ++ y ∷ back) × (filter test front ≡ ys))
    → (x : X) (kept : Bool) → test x ≡ kept → (ys zs : List X) (y : X) → cond kept (x ∷ filter test xs) (filter test xs) ≡ ys ++ y ∷ zs
    → (front back : List X) × (x ∷ xs ≡ front ++ y ∷ back) × (filter test front ≡ ys)
kept_split test xs later x true is [] zs y parts = ([], xs, (let same : x ≡ y = cc in ap (λ z. z ∷ xs) same), refl)
kept_split test xs later x true is (z ∷ ys) zs y parts =
    let (front, back, split, before) = later ys zs y cc in
    let same : x ≡ z = cc in
    (x ∷ front, back, ap (λ l. x ∷ l) split, rw is (ap (λ l. x ∷ l) before ∙ ap (λ w. w ∷ ys) same))
kept_split test xs later x false is ys zs y parts =
    let (front, back, split, before) = later ys zs y parts in
    (x ∷ front, back, ap (λ l. x ∷ l) split, rw is before)

pub filter_split : {X : Type 0} (test : X → Bool) (xs ys zs : List X) (y : X) → filter test xs ≡ ys ++ y ∷ zs
    → (front back : List X) × (xs ≡ front ++ y ∷ back) × (filter test front ≡ ys)
filter_split test (x ∷ xs) ys zs y is = kept_split test xs (filter_split test xs) x (test x) refl ys zs y is
filter_split test [] ys zs y is = absurd (omega (arith, ap length is, length-append ys (y ∷ zs)))

-- a count is above 0 if some element passes the test
counts_more : (is rest : Bool) (n : ℕ) → nat_lt 0 n ≡ rest → nat_lt 0 (cond is 1 0 + n) ≡ (is || rest)
counts_more is rest n counted = grind (arith, nat_tests)

pub counts_some : {X : Type 0} (test : X → Bool) (xs : List X) → nat_lt 0 (count_by test xs) ≡ list_any test xs
counts_some test [] = refl
counts_some test (x ∷ xs) = ap (λ m. nat_lt 0 m) (sum_by-cons (λ y. cond (test y) 1 0) x xs)
    ∙ counts_more (test x) (list_any test xs) (count_by test xs) (counts_some test xs)

-- the pieces of a list, one after another
pub cut-joined : {X : Type 0} (whole : List (List X)) (last : List X) → concatenated (whole ++ piece_of last) ≡ concatenated whole ++ last
cut-joined [] [] = refl
cut-joined [] (x ∷ xs) = append-nil (x ∷ xs)
cut-joined (piece ∷ whole) last = ap (λ xs. piece ++ xs) (cut-joined whole last) ∙ sym (append_assoc piece (concatenated whole) last)

pub split-joined : {X : Type 0} {size : ℕ} (xs : List X) (pieces : List (List X)) → IsSplitInto size xs pieces → concatenated pieces ≡ xs
split-joined xs pieces cut = ap concatenated cut.is_cut ∙ (cut-joined cut.whole cut.last ∙ sym cut.is_joined)

-- a vector that was written through a slice of all its elements contains what was written
pub all_written : {X : Type 0} (len : ℕ) (new items : List X) → len ≡ length items → length new ≡ length items → take len (new ++ drop (length new) items) ≡ new
all_written len new items full same =
    rw (drop_all (length new) items (omega (arith, same)), append-nil) (take_all len new (omega (arith, full, same)))
