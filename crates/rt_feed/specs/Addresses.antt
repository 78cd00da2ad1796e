-- A text of addresses, one a line: the meaning of a line, without its LF, and of the whole text.
use Rattle.std.specs.Prelude.{◌≡◌, ℕ, ◌+◌, ◌^◌, ◌<◌, ◌≤◌, ◌⊎◌, Bool, false, true, if◌then◌else◌, List, [], ◌∷◌, ◌++◌, length, map, Option, None, Some, Ok, Err}
use Rattle.std.specs.declared.result.Result.{Result}
use Rattle.rt_cidr.specs.declared.address.Addr.{Addr}
use Rattle.rt_cidr.specs.Text.{address_text}
use Rattle.rt_feed.specs.declared.parse.TheConstants.{LINE_BYTES}
use Rattle.rt_feed.specs.declared.parse.LineFault.{LineFault}
use Rattle.rt_feed.specs.declared.parse.LineFault.TheVariants as fault
use Rattle.rt_feed.specs.declared.faulty.FaultyLines.{FaultyLines}
use Rattle.rt_feed.specs.declared.addresses.AddressText.{AddressText}
use Rattle.rt_feed.specs.declared.addresses.InvalidLine.{InvalidLine}
use Rattle.rt_feed.specs.Commands.{address}
use Rattle.rt_feed.specs.Grammar.{is_skipped, IsOfKind}
use Rattle.rt_feed.specs.Lines.{LinesParseAs}

-- the answer for a line of a text of addresses: an address, if the line is its text; none, if the line is skipped as in
-- a feed's text; or a fault. The fault is that the line is too long, whatever it says, or else that it isn't the text
-- of an address
abbrev pub AnswersAddressLine : List ℕ → Result (Option Addr) LineFault → Type 0
AnswersAddressLine line (Ok (Some addr)) = (addr.0 < 2 ^ 32) × (line ≡ address_text addr.0)
AnswersAddressLine line (Ok None) = (length line ≤ LINE_BYTES) × (is_skipped line ≡ true)
AnswersAddressLine line (Err answer) =
    ((LINE_BYTES < length line) × (answer ≡ fault.LineLength))
    ⊎ ((length line ≤ LINE_BYTES) × (is_skipped line ≡ false) × (¬ IsOfKind address line) × (answer ≡ fault.Text))

-- a line of a text of addresses that isn't skipped: its address; or, if it is invalid, its number
pub data AddressRow : Type 0 where
  address_row : Addr → AddressRow
  invalid_row : ℕ → AddressRow

-- the rows for these answers, in order; a skipped line has none. Lines are counted from this number on
abbrev pub rows_said : ℕ → List (Result (Option Addr) LineFault) → List AddressRow
rows_said number [] = []
rows_said number (Ok (Some addr) ∷ says) = address_row addr ∷ rows_said (number + 1) says
rows_said number (Ok None ∷ says) = rows_said (number + 1) says
rows_said number (Err answer ∷ says) = invalid_row number ∷ rows_said (number + 1) says

-- the faults in these answers, each with its line number, counted from this number on
abbrev pub faults_said : ℕ → List (Result (Option Addr) LineFault) → List (ℕ × LineFault)
faults_said number [] = []
faults_said number (Ok addr ∷ says) = faults_said (number + 1) says
faults_said number (Err answer ∷ says) = (number, answer) ∷ faults_said (number + 1) says

-- the record of faulty lines: their number and the first of them
abbrev pub faulty_lines : List (ℕ × LineFault) → FaultyLines
faulty_lines [] = record { count = 0; first = None }
faulty_lines (one ∷ others) = record { count = length (one ∷ others); first = Some one }

-- the lines of the text that aren't skipped are these rows, in order, and these are its faulty lines
pub record SaysAddresses (text : List ℕ) (rows : List AddressRow) (faulty : FaultyLines) : Type 0 where
  pub says : List (Result (Option Addr) LineFault)
  pub lines : LinesParseAs AnswersAddressLine text says []
  pub said : rows ≡ rows_said 1 says
  pub faults : faulty ≡ faulty_lines (faults_said 1 says)

-- the addresses of these rows, in order
abbrev pub addresses_in : List AddressRow → List Addr
addresses_in [] = []
addresses_in (address_row addr ∷ rows) = addr ∷ addresses_in rows
addresses_in (invalid_row number ∷ rows) = addresses_in rows

-- the invalid lines among these rows, each with the number of addresses before it, counted from this number on
abbrev pub invalid_in : ℕ → List AddressRow → List InvalidLine
invalid_in before [] = []
invalid_in before (address_row addr ∷ rows) = invalid_in (before + 1) rows
invalid_in before (invalid_row number ∷ rows) = record { number = number; before = before } ∷ invalid_in before rows

-- the addresses of these rows; and their invalid lines in their places, if these are kept
pub record AreOfRows (keeps : Bool) (rows : List AddressRow) (addresses : List Addr) (invalid : List InvalidLine) : Type 0 where
  pub addressed : addresses ≡ addresses_in rows
  pub kept : invalid ≡ (if keeps then invalid_in 0 rows else [])

-- the rows are the named addresses and then those of the text, whose faulty lines these are
pub record ReadsAddresses (named : List Addr) (text : List ℕ) (keeps : Bool) (read : AddressText) : Type 0 where
  pub said : List AddressRow
  pub says : SaysAddresses text said read.faulty
  pub of_rows : AreOfRows keeps (map address_row named ++ said) read.addresses.items read.invalid.items
