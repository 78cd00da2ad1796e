-- Answers for addresses with the invalid lines of their text between them.
use Rattle.std.proofs.Common.{◌≡◌, ◌==◌, ℕ, ◌+◌, ◌-◌, ◌<◌, min, Bool, true, false, List, [], ◌∷◌, ◌++◌, length, map, take, drop, Option, refl, sym, ap, ◌∙◌, arith, append_assoc, append-nil, length-append, flat_map}
use Rattle.std.specs.Prelude.{◌&&◌}
use Rattle.std.proofs.Math.Seq.{take-append_seam, drop-append_seam}
use Rattle.std.proofs.lemmas.Bool.Decides.{nat_tests}
use Rattle.std.proofs.lemmas.Grind.{common_steps}
use Rattle.std.proofs.lemmas.List.{take-map, drop-map, take_min, drop_min}
use Rattle.std.proofs.lemmas.List.Folds.{flat_map-map}
use Rattle.std.specs.Io.KnownBytes.{Appends}
use Rattle.rt_cidr.specs.declared.address.Addr.{Addr}
use Rattle.rt_cidr.specs.Output.{AppendsBeginning}
use Rattle.rt_cidr.proofs.Promised.{appends_after, begins_after, begins_longer}
use Rattle.rt_feed.specs.declared.addresses.InvalidLine.{InvalidLine}
use Rattle.rt_feed.specs.Addresses.{AddressRow, address_row, invalid_row, addresses_in, invalid_in, AreOfRows}
use Rattle.rt_print.specs.declared.format.Syntax.{Syntax}
use Rattle.rt_print.specs.declared.format.Syntax.TheVariants.{Line, Json, Csv}
use Rattle.rt_print.specs.Styles.{StyleContents, label_of, all_found_as, invalid_as}
use Rattle.rt_rib.specs.declared.routes.Route.{Route}
use Rattle.rt_rib.specs.LookUp.{look_up_all}
use Rattle.std.specs.declared.vec.Vec.{Vec}
use Rattle.std.specs.declared.alloc.Global.{Global}
use Rattle.rt_run.specs.TableText.{line_answer_text}
use Rattle.rt_run.specs.inside.Outputs.{matches_text, matches_found, matches_in, with_invalid}

-- the text so far and the parts that follow: a piece's answers, the next invalid line, and the rest
module _ {X : Type 0} (syntax : Syntax) (text_of : List X → List ℕ) (done : ℕ) (rest piece behind : List X) (lines later : List InvalidLine) (line : InvalidLine)
    (text all : List ℕ) (whole : text ++ with_invalid syntax text_of done rest lines ≡ all) (cut : lines ≡ line ∷ later) (count : ℕ)
    (counted : count ≡ min (line.before - done) (length rest)) (front : piece ≡ take count rest) (back : behind ≡ drop count rest) where
  parts : text ++ (text_of piece ++ (invalid_as syntax line.number ++ with_invalid syntax text_of line.before behind later)) ≡ all
  parts =
      let past = line.before - done in
      let piece_is : piece ≡ take past rest = front ∙ (ap (λ n. take n rest) counted ∙ take_min past rest) in
      let behind_is : behind ≡ drop past rest = back ∙ (ap (λ n. drop n rest) counted ∙ drop_min past rest) in
      rw (piece_is, behind_is) (rw cut at whole)

  pub parts_grow : ((text ++ text_of piece) ++ invalid_as syntax line.number) ++ with_invalid syntax text_of line.before behind later ≡ all
  parts_grow = rw (append_assoc, append_assoc) parts

  module _ (a b c : Option (List ℕ)) (written : Appends a b text) where
    -- a fault within the piece leaves a beginning of all
    pub begins_in_piece : AppendsBeginning b c (text_of piece) → AppendsBeginning a c all
    begins_in_piece begun =
        rw (← parts, ← append_assoc) (begins_longer a c (text ++ text_of piece) (invalid_as syntax line.number ++ with_invalid syntax text_of line.before behind later)
        (begins_after a b c text (text_of piece) written begun))

    -- and so does one within the line
    pub begins_in_line : (d : Option (List ℕ)) → Appends b c (text_of piece) → AppendsBeginning c d (invalid_as syntax line.number) → AppendsBeginning a d all
    begins_in_line d wrote begun =
        rw (← parts_grow) (begins_longer a d ((text ++ text_of piece) ++ invalid_as syntax line.number) (with_invalid syntax text_of line.before behind later)
        (begins_after a c d (text ++ text_of piece) (invalid_as syntax line.number) (appends_after a b c text (text_of piece) written wrote) begun))

-- the same text of items by their images
pub with_invalid-map : {X Y : Type 0} (syntax : Syntax) (f : X → Y) (text : Y → List ℕ) (done : ℕ) (items : List X) (lines : List InvalidLine)
    → with_invalid syntax (flat_map (λ x. text (f x))) done items lines ≡ with_invalid syntax (flat_map text) done (map f items) lines
with_invalid-map syntax f text done items [] = sym (flat_map-map text f items)
with_invalid-map syntax f text done items (line ∷ lines) =
    let n = line.before - done in
    rw (take-map f n items, drop-map f n items, flat_map-map text f (take n items), ← (with_invalid-map syntax f text line.before (drop n items) lines)) refl

-- a text has a byte if an invalid line is in it
invalid_as-some : (syntax : Syntax) (number : ℕ) → 0 < length (invalid_as syntax number)
unfolding invalid_as
invalid_as-some Line number = grind (arith, common_steps)
invalid_as-some Json number = grind (arith, common_steps)
invalid_as-some Csv number = grind (arith, common_steps)

pub with_invalid-empty : {X : Type 0} (syntax : Syntax) (text_of : List X → List ℕ) (items : List X) (lines : List InvalidLine)
    → (length items == 0) ≡ (length (text_of items) == 0)
    → ((length items == 0) && (length lines == 0)) ≡ (length (with_invalid syntax text_of 0 items lines) == 0)
with_invalid-empty syntax text_of items [] same = grind (arith, nat_tests, same)
with_invalid-empty syntax text_of items (line ∷ lines) same =
    let piece = text_of (take (line.before - 0) items) in
    let rest = with_invalid syntax text_of line.before (drop (line.before - 0) items) lines in
    let some : 0 < length (piece ++ (invalid_as syntax line.number ++ rest)) =
    omega (arith, length-append piece (invalid_as syntax line.number ++ rest), length-append (invalid_as syntax line.number) rest, invalid_as-some syntax line.number) in
    grind (arith, nat_tests, some)

-- the answers for rows, by their addresses and their invalid lines
module _ (style : StyleContents) (one : Addr → List ℕ) where
  rows-append : (keeps : Bool) (addr : Addr) (pending : List Addr) (rows : List AddressRow)
      → flat_map one pending ++ flat_map (line_answer_text style keeps one) (address_row addr ∷ rows)
      ≡ flat_map one (pending ++ addr ∷ []) ++ flat_map (line_answer_text style keeps one) rows
  rows-append keeps addr [] rows = rw append-nil refl
  rows-append keeps addr (first ∷ pending) rows = rw (append_assoc, append_assoc) (ap (λ text. one first ++ text) (rows-append keeps addr pending rows))

  -- lines that aren't kept leave the answers for the addresses
  rows_without : (rows : List AddressRow) → flat_map one (addresses_in rows) ≡ flat_map (line_answer_text style false one) rows
  rows_without [] = refl
  rows_without (address_row addr ∷ rows) = ap (λ text. one addr ++ text) (rows_without rows)
  rows_without (invalid_row number ∷ rows) = rows_without rows

  -- some addresses whose answers aren't written yet, and then the rows
  rows_with : (done at : ℕ) (pending : List Addr) (rows : List AddressRow) → at ≡ done + length pending
      → with_invalid style.syntax (flat_map one) done (pending ++ addresses_in rows) (invalid_in at rows) ≡ flat_map one pending ++ flat_map (line_answer_text style true one) rows
  rows_with done at pending [] is = rw (append-nil, append-nil) refl
  rows_with done at pending (address_row addr ∷ rows) is =
      let longer : at + 1 ≡ done + length (pending ++ addr ∷ []) = omega (arith, is, length-append pending (addr ∷ [])) in
      rw (rows-append true addr pending rows, ← (append_assoc pending (addr ∷ []) (addresses_in rows))) (rows_with done (at + 1) (pending ++ addr ∷ []) rows longer)
  rows_with done at pending (invalid_row number ∷ rows) is =
      let count : at - done ≡ length pending = omega (arith, is) in
      rw (count, take-append_seam pending (addresses_in rows), drop-append_seam pending (addresses_in rows))
      (ap (λ text. flat_map one pending ++ (invalid_as style.syntax number ++ text)) (rows_with at at [] rows (omega arith)))

  pub rows_text : (keeps : Bool) (rows : List AddressRow) (addresses : List Addr) (invalid : List InvalidLine) → AreOfRows keeps rows addresses invalid
      → with_invalid style.syntax (flat_map one) 0 addresses invalid ≡ flat_map (line_answer_text style keeps one) rows
  rows_text false rows addresses invalid is = rw (is.kept, is.addressed) (rows_without rows)
  rows_text true rows addresses invalid is = rw (is.kept, is.addressed) (rows_with 0 0 [] rows (omega arith))

-- the answers with all covering routes, found before
pub matches_rows : (style : StyleContents) (table : List Route) (addresses : List Addr) (invalid : List InvalidLine) (all : List (Addr × Vec Route Global))
    → matches_found all ≡ matches_in table addresses
    → with_invalid style.syntax (matches_text style) 0 all invalid
    ≡ with_invalid style.syntax (flat_map (λ addr. all_found_as style.syntax (label_of style.labels) addr (look_up_all addr table))) 0 addresses invalid
matches_rows style table addresses invalid all same =
    let text : Addr × List Route → List ℕ = λ m. all_found_as style.syntax (label_of style.labels) m.0 m.1 in
    with_invalid-map style.syntax (λ (m : Addr × Vec Route Global). (m.0, m.1.items)) text 0 all invalid
    ∙ (ap (λ pairs. with_invalid style.syntax (flat_map text) 0 pairs invalid) same
    ∙ sym (with_invalid-map style.syntax (λ (addr : Addr). (addr, look_up_all addr table)) text 0 addresses invalid))
