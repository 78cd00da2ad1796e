-- A text of addresses, read line by line, and the uniqueness of its list of rows.
use Rattle.std.proofs.Common.{◌≡◌, ℕ, ◌+◌, ◌<◌, ◌≤◌, Bool, true, false, List, [], ◌∷◌, ◌++◌, length, map, Option, Some, None, Result, Ok, Err, refl, sym, ap, ◌∙◌, arith}
use Rattle.std.specs.Prelude.{if◌then◌else◌}
use Rattle.std.proofs.Common.{add-zero, append-nil, append_assoc, length-append}
use Rattle.std.proofs.lemmas.List.{map-id}
use Rattle.rt_cidr.specs.declared.address.Addr.{Addr}
use Rattle.rt_feed.specs.declared.parse.LineFault.{LineFault}
use Rattle.rt_feed.specs.declared.faulty.FaultyLines.{FaultyLines}
use Rattle.rt_feed.specs.declared.addresses.AddressText.{AddressText}
use Rattle.rt_feed.specs.declared.addresses.InvalidLine.{InvalidLine}
use Rattle.rt_feed.specs.Lines.{CutsLine}
use Rattle.rt_feed.specs.Laws.{AddressLineHasOneAnswer, AddressTextHasOneReading}
use Rattle.rt_feed.specs.Addresses.{AnswersAddressLine, AddressRow, address_row, invalid_row, rows_said, addresses_in, invalid_in, AreOfRows, faults_said, faulty_lines}
use Rattle.rt_feed.specs.inside.ReadAddresses.{AreRead}
use Rattle.rt_feed.proofs.LinesYield.{say-append, length-said, next_number}
use Rattle.rt_feed.proofs.OneCut.{say_alike}

-- the answer for a line
abbrev Says : Type 0
Says = Result (Option Addr) LineFault

-- the rows of more lines after some
rows_said-append : (number : ℕ) (says more : List Says) → rows_said number (says ++ more) ≡ rows_said number says ++ rows_said (number + length says) more
rows_said-append number [] more = rw add-zero refl
rows_said-append number (Ok None ∷ says) more = rw (rows_said-append (number + 1) says more, next_number) refl
rows_said-append number (Ok (Some addr) ∷ says) more = rw (rows_said-append (number + 1) says more, next_number) refl
rows_said-append number (Err fault ∷ says) more = rw (rows_said-append (number + 1) says more, next_number) refl

-- the addresses of more rows, and their invalid lines
addresses_in-append : (rows more : List AddressRow) → addresses_in (rows ++ more) ≡ addresses_in rows ++ addresses_in more
addresses_in-append [] more = refl
addresses_in-append (address_row addr ∷ rows) more = ap (λ addresses. addr ∷ addresses) (addresses_in-append rows more)
addresses_in-append (invalid_row number ∷ rows) more = addresses_in-append rows more

invalid_in-append : (before : ℕ) (rows more : List AddressRow)
    → invalid_in before (rows ++ more) ≡ invalid_in before rows ++ invalid_in (before + length (addresses_in rows)) more
invalid_in-append before [] more = rw add-zero refl
invalid_in-append before (address_row addr ∷ rows) more = rw (invalid_in-append (before + 1) rows more, next_number) refl
invalid_in-append before (invalid_row number ∷ rows) more = ap (λ lines. record { number = number; before = before } ∷ lines) (invalid_in-append before rows more)

-- and their faulty lines
faults_said-append : (number : ℕ) (says more : List Says)
    → faults_said number (says ++ more) ≡ faults_said number says ++ faults_said (number + length says) more
faults_said-append number [] more = rw add-zero refl
faults_said-append number (Ok addr ∷ says) more = rw (faults_said-append (number + 1) says more, next_number) refl
faults_said-append number (Err fault ∷ says) more = rw (faults_said-append (number + 1) says more, next_number) refl

-- no more lines are faulty than there are
faults-few : (number : ℕ) (says : List Says) → length (faults_said number says) ≤ length says
faults-few number [] = omega arith
faults-few number (one ∷ says) = grind (arith, faults-few (number + 1) says)

-- their count is their number
count-lines : (faults : List (ℕ × LineFault)) → (faulty_lines faults).count ≡ length faults
count-lines faults = grind arith

-- the named addresses are rows without invalid lines
addresses_in-named : (named : List Addr) → addresses_in (map address_row named) ≡ named
addresses_in-named [] = refl
addresses_in-named (addr ∷ named) = ap (λ addresses. addr ∷ addresses) (addresses_in-named named)

invalid_in-named : (before : ℕ) (named : List Addr) → invalid_in before (map address_row named) ≡ []
invalid_in-named before [] = refl
invalid_in-named before (addr ∷ named) = invalid_in-named (before + 1) named

pub named_alone : (keeps : Bool) (named : List Addr) → AreOfRows keeps (map address_row named ++ []) named []
named_alone false named = record { addressed = rw append-nil (sym (addresses_in-named named)); kept = refl }
named_alone true named = record { addressed = rw append-nil (sym (addresses_in-named named)); kept = rw append-nil (sym (invalid_in-named 0 named)) }

-- more rows: their addresses and, if these are kept, their invalid lines
more_rows : (keeps : Bool) (rows more : List AddressRow) (addresses addresses' : List Addr) (invalid invalid' : List InvalidLine)
    → AreOfRows keeps rows addresses invalid → addresses' ≡ addresses ++ addresses_in more
    → invalid' ≡ invalid ++ (if keeps then invalid_in (length addresses) more else []) → AreOfRows keeps (rows ++ more) addresses' invalid'
more_rows false rows more addresses addresses' invalid invalid' is pushed kept = record {
  addressed = rw (pushed, is.addressed) (sym (addresses_in-append rows more));
  kept = rw (kept, is.kept) refl;
}
more_rows true rows more addresses addresses' invalid invalid' is pushed kept =
    let before : length (addresses_in rows) ≡ 0 + length (addresses_in rows) = omega arith in
    let lines : invalid_in 0 (rows ++ more) ≡ invalid_in 0 rows ++ invalid_in (length (addresses_in rows)) more =
    invalid_in-append 0 rows more ∙ ap (λ n. invalid_in 0 rows ++ invalid_in n more) (sym before) in
    record { addressed = rw (pushed, is.addressed) (sym (addresses_in-append rows more)); kept = rw (kept, is.kept, is.addressed) (sym lines) }

module _ {named : List Addr} {text rest : List ℕ} {number : ℕ} {keeps : Bool} {old : AddressText} (read : AreRead named text rest number keeps old) where
  pub counted-below : old.faulty.count < number + 1
  counted-below =
      omega (arith, read.counted, faults-few 1 read.says, count-lines (faults_said 1 read.says), ap (λ (f : FaultyLines). f.count) read.faults)

  -- the number of lines read is at most the number of the text's bytes
  pub numbered-within : number + length rest ≤ length text
  numbered-within = omega (arith, read.counted, length-said AnswersAddressLine text rest read.says read.lines)

  -- the line after those that were read is read, whatever its answer
  pub read_more : {line next : List ℕ} {new : AddressText}
      (one : Says) → CutsLine rest line next → AnswersAddressLine line one → new.addresses.items ≡ old.addresses.items ++ addresses_in (rows_said (number + 1) (one ∷ []))
      → new.invalid.items ≡ old.invalid.items ++ (if keeps then invalid_in (length old.addresses.items) (rows_said (number + 1) (one ∷ [])) else [])
      → new.faulty ≡ faulty_lines (faults_said 1 read.says ++ faults_said (number + 1) (one ∷ [])) → AreRead named text next (number + 1) keeps new
  read_more {line} {next} {new} one cut answers pushed kept put =
      let here : number + 1 ≡ 1 + length read.says = omega (arith, read.counted) in
      let rows : map address_row named ++ rows_said 1 (read.says ++ one ∷ []) ≡ (map address_row named ++ rows_said 1 read.says) ++ rows_said (number + 1) (one ∷ []) =
      rw (rows_said-append 1 read.says (one ∷ []), here, append_assoc) refl in
      record {
        says = read.says ++ one ∷ [];
        lines = say-append AnswersAddressLine text rest next read.says (one ∷ []) read.lines (line, next, cut, answers, refl);
        counted = omega (arith, read.counted, length-append read.says (one ∷ []));
        of_rows = rw rows (more_rows keeps (map address_row named ++ rows_said 1 read.says) (rows_said (number + 1) (one ∷ []))
            old.addresses.items new.addresses.items old.invalid.items new.invalid.items read.of_rows pushed kept);
        faults = rw (faults_said-append, ← here) put;
      }

-- a line that isn't invalid leaves the kept lines as they were
pub none_kept : (keeps : Bool) (invalid : List InvalidLine) → invalid ≡ invalid ++ (if keeps then [] else [])
none_kept false invalid = sym (append-nil invalid)
none_kept true invalid = sym (append-nil invalid)

-- a line has one answer, and so has the text
pub one_address_text : AddressLineHasOneAnswer → AddressTextHasOneReading
one_address_text once text rows others faulty other_faulty one two =
    let same : one.says ≡ two.says =
    sym (map-id one.says) ∙ (say_alike AnswersAddressLine (λ says. says) once text one.says two.says one.lines two.lines ∙ map-id two.says) in
    (one.said ∙ (ap (rows_said 1) same ∙ sym two.said), one.faults ∙ (ap (λ says. faulty_lines (faults_said 1 says)) same ∙ sym two.faults))
