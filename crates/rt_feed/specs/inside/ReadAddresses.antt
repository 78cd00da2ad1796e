-- The progress of reading a text of addresses.
use Rattle.std.specs.Prelude.{◌≡◌, ℕ, Bool, List, ◌++◌, map, Option, length}
use Rattle.std.specs.declared.result.Result.{Result}
use Rattle.rt_cidr.specs.declared.address.Addr.{Addr}
use Rattle.rt_feed.specs.declared.parse.LineFault.{LineFault}
use Rattle.rt_feed.specs.declared.addresses.AddressText.{AddressText}
use Rattle.rt_feed.specs.Lines.{LinesParseAs}
use Rattle.rt_feed.specs.Addresses.{AnswersAddressLine, address_row, rows_said, AreOfRows, faults_said, faulty_lines}

-- `number` lines of the text were read, this rest is unread; the rows are the named addresses and then those of these lines,
-- and these are their faulty lines
pub record AreRead (named : List Addr) (text rest : List ℕ) (number : ℕ) (keeps : Bool) (read : AddressText) : Type 0 where
  pub says : List (Result (Option Addr) LineFault)
  pub lines : LinesParseAs AnswersAddressLine text says rest
  pub counted : number ≡ length says
  pub of_rows : AreOfRows keeps (map address_row named ++ rows_said 1 says) read.addresses.items read.invalid.items
  pub faults : read.faulty ≡ faulty_lines (faults_said 1 says)
