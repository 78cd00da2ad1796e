-- The contents of a writer after several texts, one after another, also after an error within one of them; and when text was
-- written to it through a buffer.
use Rattle.std.proofs.Common.{◌≡◌, ℕ, ◌+◌, ◌<◌, List, [], ◌∷◌, ◌++◌, length, take, drop, get_or, refl, ap, ◌∙◌, Option, Result, Ok, Err, arith, append_assoc, append-nil, add-zero}
use Rattle.std.proofs.Common.{length-take, take-append-drop, ◌-◌, ◌≤◌, Some, None, IsErr, flat_map, length-append, length-drop}
use Rattle.std.proofs.Math.Seq.{take-append_seam, take-append-add}
use Rattle.std.proofs.lemmas.Bool.Decides.{nat_tests}
use Rattle.std.proofs.lemmas.List.{get_or_default, take_more}
use Rattle.std.proofs.lemmas.Result.{on_ok_weaker, on_err_weaker}
use Rattle.std.specs.Io.KnownBytes.{Appends}
use Rattle.rt_cidr.specs.Output.{AppendsBeginning, WritesText}
use Rattle.rt_cidr.proofs.Promised.{appends_after, begins_after, begins_longer}
use Rattle.rt_print.specs.Buffer.{buffered}

-- an error after an initial part of a text
pub breaks_off : {T E : Type 0} (a c : Option (List ℕ)) (text : List ℕ) (result : Result T E) → IsErr result → AppendsBeginning a c text → WritesText a c text result
breaks_off a c text (Ok done) failed begun = absurd cc
breaks_off a c text (Err fault) failed begun = record { ok = tt; err = begun }

-- an error within the first of two texts
pub stops_within : {T E : Type 0} (a c : Option (List ℕ)) (result : Result T E) (xs ys : List ℕ) → IsErr result → AppendsBeginning a c xs → WritesText a c (xs ++ ys) result
stops_within a c result xs ys failed first = breaks_off a c (xs ++ ys) result failed (begins_longer a c xs ys first)

module _ {T E : Type 0} (a b c : Option (List ℕ)) (result : Result T E) where
  -- a whole text, and then the written part of another one
  pub writes_after : (xs ys : List ℕ) → Appends a b xs → WritesText b c ys result → WritesText a c (xs ++ ys) result
  writes_after xs ys first second = record {
    ok = on_ok_weaker result (appends_after a b c xs ys first) second.ok;
    err = on_err_weaker result (begins_after a b c xs ys first) second.err;
  }

-- the text of one item under its number, and of all of them from this number on
module _ {X : Type 0} (one : ℕ → X → List ℕ) (all : ℕ → List X → List ℕ) (none : (number : ℕ) → all number [] ≡ [])
    (more : (number : ℕ) (x : X) (xs : List X) → all number (x ∷ xs) ≡ one number x ++ all (number + 1) xs) where
  -- the text of some items and then of others
  all-append : (number : ℕ) (xs ys : List X) → all number (xs ++ ys) ≡ all number xs ++ all (number + length xs) ys
  all-append number [] ys = rw (none number, add-zero) refl
  all-append number (x ∷ xs) ys =
      rw (more number x (xs ++ ys), all-append (number + 1) xs ys, more number x xs, ← append_assoc)
      (ap (λ n. (one number x ++ all (number + 1) xs) ++ all n ys) (omega arith))

  module _ (xs : List X) (k : ℕ) (x : X) (here : k < length xs) (is : x ≡ get_or xs k x) where
    -- the text of the first items grows by the next one's
    all-take : all 1 (take (k + 1) xs) ≡ all 1 (take k xs) ++ one (k + 1) x
    all-take =
        rw (take_more xs k x here, ← is, all-append, more, none, append-nil)
        (ap (λ n. all 1 (take k xs) ++ one n x) (omega (arith, length-take k xs)))

    module _ (a b c : Option (List ℕ)) (first : Appends a b (all 1 (take k xs))) where
      -- the next item's text is appended to those before it
      pub appends_next : Appends b c (one (k + 1) x) → Appends a c (all 1 (take (k + 1) xs))
      appends_next second = rw all-take (appends_after a b c _ _ first second)

      -- an error within it leaves a prefix of all texts
      pub begins_all : AppendsBeginning b c (one (k + 1) x) → AppendsBeginning a c (all 1 xs)
      begins_all second =
          rw (← take-append-drop (k + 1) xs, all-append)
          (begins_longer a c (all 1 (take (k + 1) xs)) _ (rw all-take (begins_after a b c _ (one (k + 1) x) first second)))

      pub stops_all : {T E : Type 0} (result : Result T E) → IsErr result → AppendsBeginning b c (one (k + 1) x) → WritesText a c (all 1 xs) result
      stops_all result failed second = breaks_off a c (all 1 xs) result failed (begins_all second)

-- an error within the text of one item leaves a prefix of the texts of all
pub stops_in_one : {X T E : Type 0} (text : X → List ℕ) (xs : List X) (i : ℕ) (default x : X) → i < length xs → x ≡ get_or xs i default
    → (a b c : Option (List ℕ)) → Appends a b (flat_map text (take i xs)) → (result : Result T E) (fault : E) → result ≡ Err fault
    → AppendsBeginning b c (text x) → WritesText a c (flat_map text xs) result
stops_in_one text xs i default x here is a b c before result fault failed begun =
    stops_all (λ n. text) (λ n. flat_map text) (λ n. refl) (λ n x xs. refl) xs i x here (is ∙ get_or_default xs i default x here) a b c before
    result (rw failed) begun

-- a new buffer took the first part of a text, and still holds some of it if there is no rest: the writer below received an
-- initial part of the text
module _ (name name' : ℕ) (d : Option (List ℕ)) (held text taken rest : List ℕ) (whole : taken ++ rest ≡ text) (left : 0 < length (held ++ rest)) where
  begins_below : (a b c : Option (List ℕ)) → (name ≡ name' → d ≡ c) → 0 < length text
      → Appends (buffered name a a []) (buffered name' b c held) taken → AppendsBeginning a d text
  begins_below None b c same given gains = record { count = 0; within = given; appended = tt }
  begins_below (Some xs) None c same given gains = absurd (grind (arith, nat_tests))
  begins_below (Some xs) (Some bs) None same given gains = absurd (grind (arith, nat_tests))
  begins_below (Some xs) (Some bs) (Some ys) same given gains =
      let one : name ≡ name' = grind (arith, nat_tests) in
      let longer : length xs ≤ length ys = grind (arith, nat_tests) in
      let parts : ys ++ held ≡ xs ++ taken = grind (arith, nat_tests, append-nil) in
      let all : ys ++ (held ++ rest) ≡ xs ++ text = rw (← append_assoc, parts, append_assoc, whole) in
      let more : length xs + (length ys - length xs) ≡ length ys = omega (arith, longer) in record {
        count = length ys - length xs;
        within = omega (arith, left, longer, ap length all, length-append ys (held ++ rest), length-append xs text);
        appended = rw (same one, ← take-append-add, more, ← all, take-append_seam);
      }

module _ (name name' : ℕ) (a b c d : Option (List ℕ)) (held text : List ℕ) (same : name ≡ name' → d ≡ c) where
  -- the writer below received an initial part of what a new buffer was given, if the buffer still holds some of it
  pub stops_held : Appends (buffered name a a []) (buffered name' b c held) text → 0 < length held → 0 < length text → AppendsBeginning a d text
  stops_held gains some given = begins_below name name' d held text text [] (append-nil text) (rw append-nil some) a b c same given gains

  -- the same if after an error the buffer itself only received an initial part
  pub stops : AppendsBeginning (buffered name a a []) (buffered name' b c held) text → AppendsBeginning a d text
  stops begun =
      let k = begun.count in
      let left : 0 < length (held ++ drop k text) = omega (arith, begun.within, length-append held (drop k text), length-drop k text) in
      begins_below name name' d held text (take k text) (drop k text) (take-append-drop k text) left a b c same (omega (arith, begun.within)) begun.appended
