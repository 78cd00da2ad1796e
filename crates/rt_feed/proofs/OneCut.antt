-- A text is split into lines in only one way, and so its lines are read in only one way.
use Rattle.std.proofs.Common.{◌≡◌, ℕ, inl, inr, List, [], ◌∷◌, ◌++◌, length, map, drop, eqb, slice_index_or, refl, sym, ap, ◌∙◌}
use Rattle.std.proofs.Common.{arith, append_assoc, length-append}
use Rattle.std.specs.List.{slice_split}
use Rattle.std.proofs.Math.Seq.{drop-append_seam}
use Rattle.std.proofs.lemmas.List.{map-append, drop_all}
use Rattle.std.proofs.lemmas.List.Splits.{slice_split_at, slice_split_none}
use Rattle.rt_feed.specs.Grammar.{AnswersLine}
use Rattle.rt_feed.specs.Lines.{lf, CutsLine, HasVersion2Header, IsBody, LineOutcome, LinesParseAs, LinesYield, TextYields, heading, reading}
use Rattle.rt_feed.specs.declared.versions.Version.{Version}
use Rattle.rt_feed.specs.declared.versions.Version.TheVariants.{One, Two}
use Rattle.rt_feed.specs.Laws.{LineHasOneAnswer, OlderTextsStay}
use Rattle.rt_feed.proofs.CutBytes.{is_unmarked}
use Rattle.rt_feed.proofs.LinesYield.{length-cut}

-- the first part of a text that is split at each LF, and what follows it and its LF
cut_is : (text line rest : List ℕ) → CutsLine text line rest
    → (line ≡ slice_index_or (slice_split (λ byte. eqb byte lf) text) 0 []) × (rest ≡ drop (length (line ++ lf ∷ [])) text)
cut_is text line rest cut = elim cut.ended [
  | inl more ↦ (
    rw (more, slice_split_at _ line lf rest (is_unmarked lf line cut.unbroken) refl) refl,
    rw (more, ← append_assoc line (lf ∷ []) rest) (sym (drop-append_seam (line ++ lf ∷ []) rest)),
  )
  | inr last ↦ (
    rw (last.0, slice_split_none _ line (is_unmarked lf line cut.unbroken)) refl,
    last.2 ∙ sym (drop_all (length (line ++ lf ∷ [])) text (omega (arith, ap length last.0, length-append line (lf ∷ [])))),
  )
]

pub one_cut : (text line rest other other_rest : List ℕ) → CutsLine text line rest → CutsLine text other other_rest → (line ≡ other) × (rest ≡ other_rest)
one_cut text line rest other other_rest cut again =
    let one = cut_is text line rest cut in
    let two = cut_is text other other_rest again in
    let same = one.0 ∙ sym two.0 in (same, one.1 ∙ (ap (λ l. drop (length (l ++ lf ∷ [])) text) same ∙ sym two.1))

-- lines have the same values if each line has only one value
pub say_alike : {X Y : Type 0} (says : List ℕ → X → Type 0) (f : X → Y)
    → ((line : List ℕ) (one two : X) → says line one → says line two → f one ≡ f two)
    → (lines : List ℕ) (some others : List X) → LinesParseAs says lines some [] → LinesParseAs says lines others [] → map f some ≡ map f others
say_alike says f once lines [] [] is other = refl
say_alike says f once lines [] (other ∷ others) is (line, next, cut, said, more) = absurd (omega (arith, length-cut lines line next cut, ap length is))
say_alike says f once lines (one ∷ some) [] (line, next, cut, said, more) is = absurd (omega (arith, length-cut lines line next cut, ap length is))
say_alike says f once lines (one ∷ some) (other ∷ others) (line, next, cut, said, more) (line', next', cut', said', more') =
    let same = one_cut lines line next line' next' cut cut' in
    let head = once line' one other (rw same.0 at said) said' in
    let tail = say_alike says f once next' some others (rw same.1 at more) more' in cc

-- a text has one version, and one list of lines that are read
pub one_body : (text lines others : List ℕ) (one two : Version) → IsBody text one lines → IsBody text two others → (one ≡ two) × (lines ≡ others)
one_body text lines others One One is other = (refl, is.1 ∙ sym other.1)
one_body text lines others One Two is other = absurd (is.0 others other)
one_body text lines others Two One is other = absurd (other.0 lines is)
one_body text lines others Two Two is other = (refl, (one_cut text _ lines _ others is other).1)

-- the lines of a whole text have the same meaning, whatever the outcomes of its commands
pub one_reading : LineHasOneAnswer → (text : List ℕ) (outcomes others : List LineOutcome) → TextYields text outcomes [] → TextYields text others []
    → map reading outcomes ≡ map reading others
one_reading once text outcomes others is other =
    let same = one_body text is.lines other.lines is.version other.version is.body other.body in
    let become : LinesYield other.version other.lines is.read [] = rw (same.0, same.1) at is.become in
    let reads = say_alike (λ line outcome. AnswersLine other.version line (reading outcome)) reading
    (λ line one two. once other.version line (reading one) (reading two)) other.lines is.read other.read become other.become in
    rw (is.joined, other.joined, map-append reading (heading is.version), map-append reading (heading other.version), same.0, reads) refl

-- if the text doesn't begin with the line `version 2`, all its lines are read as version 1
from_body : (text lines : List ℕ) (version : Version) (outcomes read : List LineOutcome) → ((rest : List ℕ) → ¬ HasVersion2Header text rest) → IsBody text version lines
    → LinesYield version lines read [] → outcomes ≡ heading version ++ read → LinesYield One text outcomes []
from_body text lines One outcomes read none body become joined = rw (← joined, body.1) at become
from_body text lines Two outcomes read none body become joined = absurd (none lines body)

pub older_texts : OlderTextsStay
older_texts text outcomes none = (
  λ is. from_body text is.lines is.version outcomes is.read none is.body is.become is.joined,
  λ is. record { version = One; lines = text; read = outcomes; body = (none, refl); become = is; joined = refl },
)
