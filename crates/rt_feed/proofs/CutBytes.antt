-- Splitting a list of bytes at the first byte with some value.
use Rattle.std.proofs.Common.{◌≡◌, ◌≢◌, ℕ, ◌<◌, List, ◌∷◌, length, All, Option, Some, None, Bor, arith, eqb, false, refl}
use Rattle.std.proofs.lemmas.Bool.{ne_eqb}
use Rattle.std.proofs.lemmas.List.Elements.{All-weaker}
use Rattle.std.proofs.lemmas.List.Splits.{slice_split_at, slice_split_none, length-slice_split}
use Rattle.rt_feed.specs.Grammar.{fields}
use Rattle.rt_feed.specs.CommandText.{space}
use Rattle.rt_feed.specs.inside.Fields.{CutsAt, fields_of_rest}

-- a list of bytes other than the mark
pub is_unmarked : (mark : ℕ) (text : List ℕ) → All (λ byte. byte ≢ mark) text → All (λ byte. eqb byte mark ≡ false) text
is_unmarked mark text none = All-weaker (λ byte. byte ≢ mark) (λ byte. eqb byte mark ≡ false) (λ byte ne. ne_eqb byte mark ne) text none

-- the fields of a text that is split at its first space
pub fields_cut : (text first : List ℕ) (rest : Option (Bor (List ℕ))) → CutsAt space text first rest → fields text ≡ first ∷ fields_of_rest rest
fields_cut text first None cut =
    rw cut.joined (slice_split_none (λ byte. eqb byte space) first (is_unmarked space first cut.unmarked))
fields_cut text first (Some rest) cut =
    rw cut.joined (slice_split_at (λ byte. eqb byte space) first space rest.now (is_unmarked space first cut.unmarked) refl)

-- a text has at least one field
pub fields_nonempty : (text : List ℕ) → 0 < length (fields text)
fields_nonempty text = omega (arith, length-slice_split (λ byte. eqb byte space) text)
