-- The rows of a question's addresses: a text of addresses has one reading.
use Rattle.std.proofs.Common.{◌≡◌, List, [], ◌∷◌, ◌++◌, map, refl, sym, ap, subst, ◌∙◌, append-nil}
use Rattle.rt_feed.specs.Addresses.{AddressRow, address_row, AreOfRows, ReadsAddresses}
use Rattle.rt_feed.specs.Laws.{AddressTextHasOneReading}
use Rattle.rt_feed.specs.declared.addresses.AddressText.{AddressText}
use Rattle.rt_feed.specs.declared.faulty.FaultyLines.{FaultyLines}
use Rattle.rt_run.specs.Asked.{AddressContents, SaysRows}
use Rattle.rt_run.specs.TableText.{AsksAbout, faulty_tally}
use Rattle.rt_run.specs.inside.Outputs.{AddsTally}
use Rattle.rt_run.specs.declared.question.Question.{Question}
use Rattle.rt_run.specs.declared.question.Question.TheVariants as ask
use Rattle.rt_run.specs.declared.tallies.RejectedInput.{RejectedInput}

-- what was read of the addresses are their rows
says_rows : (addresses : AddressContents) (read : AddressText) (is : ReadsAddresses addresses.named addresses.text addresses.keeps_invalid read)
    → SaysRows addresses (map address_row addresses.named ++ is.said) read.faulty
says_rows addresses read is = record { said = is.said; says = is.says; in_order = refl }

-- the rows of the addresses are those that were read
pub of_rows : AddressTextHasOneReading → (addresses : AddressContents) (rows : List AddressRow) (faulty : FaultyLines) (read : AddressText)
    → SaysRows addresses rows faulty → ReadsAddresses addresses.named addresses.text addresses.keeps_invalid read
    → AreOfRows addresses.keeps_invalid rows read.addresses.items read.invalid.items
of_rows once addresses rows faulty read is says =
    let same : says.said ≡ is.said = (once addresses.text says.said is.said read.faulty faulty says.says is.says).0 in
    subst (λ (l : List AddressRow). AreOfRows addresses.keeps_invalid l read.addresses.items read.invalid.items)
    (ap (λ (said : List AddressRow). map address_row addresses.named ++ said) same ∙ sym is.in_order) says.of_rows

-- two readings of the same addresses have the same rows and the same faulty lines
same_rows : AddressTextHasOneReading → (addresses : AddressContents) (rows rows' : List AddressRow) (faulty faulty' : FaultyLines)
    → SaysRows addresses rows faulty → SaysRows addresses rows' faulty' → (rows ≡ rows') × (faulty ≡ faulty')
same_rows once addresses rows rows' faulty faulty' is is' =
    let same = once addresses.text is.said is'.said faulty faulty' is.says is'.says in
    (is.in_order ∙ ap (λ (said : List AddressRow). map address_row addresses.named ++ said) same.0 ∙ sym is'.in_order, same.1)

-- a question asks about the same rows each time, with the same tallies
pub asks_about_the_same : AddressTextHasOneReading → (question : Question) (rows rows' : List AddressRow) (others others' : List RejectedInput)
    → AsksAbout question rows others → AsksAbout question rows' others' → (rows ≡ rows') × (others ≡ others')
asks_about_the_same once (ask.Best addresses) rows rows' others others' (faulty, is, told) (faulty', is', told') =
    let same = same_rows once addresses.now rows rows' faulty faulty' is is' in
    (same.0, told ∙ ap (λ (f : FaultyLines). faulty_tally f ∷ []) same.1 ∙ sym told')
asks_about_the_same once (ask.All addresses) rows rows' others others' (faulty, is, told) (faulty', is', told') =
    let same = same_rows once addresses.now rows rows' faulty faulty' is is' in
    (same.0, told ∙ ap (λ (f : FaultyLines). faulty_tally f ∷ []) same.1 ∙ sym told')
asks_about_the_same once (ask.Routes selection) rows rows' others others' is is' = (is.0 ∙ sym is'.0, is.1 ∙ sym is'.1)
asks_about_the_same once (ask.RoutesAndTotal selection) rows rows' others others' is is' = (is.0 ∙ sym is'.0, is.1 ∙ sym is'.1)
asks_about_the_same once (ask.Counts selection) rows rows' others others' is is' = (is.0 ∙ sym is'.0, is.1 ∙ sym is'.1)

-- the rows of a question about the best routes are those that were read of its addresses; and those of a question about all
pub rows_of_best : AddressTextHasOneReading → (addresses : _) (rows : List AddressRow) (others : List RejectedInput) (read : AddressText)
    → AsksAbout (ask.Best addresses) rows others → ReadsAddresses addresses.now.named addresses.now.text addresses.now.keeps_invalid read
    → AreOfRows addresses.now.keeps_invalid rows read.addresses.items read.invalid.items
rows_of_best once addresses rows others read (faulty, is, told) says = of_rows once addresses.now rows faulty read is says

pub rows_of_all : AddressTextHasOneReading → (addresses : _) (rows : List AddressRow) (others : List RejectedInput) (read : AddressText)
    → AsksAbout (ask.All addresses) rows others → ReadsAddresses addresses.now.named addresses.now.text addresses.now.keeps_invalid read
    → AreOfRows addresses.now.keeps_invalid rows read.addresses.items read.invalid.items
rows_of_all once addresses rows others read (faulty, is, told) says = of_rows once addresses.now rows faulty read is says

-- nothing is added for a question about routes, and the tally of the text for one about addresses
pub adds_none : (question : Question) (tallies : List RejectedInput) → AsksAbout question [] [] → AddsTally question tallies tallies
adds_none question tallies asks = record { rows = []; others = []; asks = asks; added = sym (append-nil tallies) }

pub adds_one : (question : Question) (addresses : AddressContents) (read : AddressText) (tallies all : List RejectedInput)
    → ReadsAddresses addresses.named addresses.text addresses.keeps_invalid read
    → ((rows : List AddressRow) (faulty : FaultyLines) → SaysRows addresses rows faulty → AsksAbout question rows (faulty_tally faulty ∷ []))
    → all ≡ tallies ++ faulty_tally read.faulty ∷ [] → AddsTally question tallies all
adds_one question addresses read tallies all is asks added = record {
  rows = map address_row addresses.named ++ is.said;
  others = faulty_tally read.faulty ∷ [];
  asks = asks (map address_row addresses.named ++ is.said) read.faulty (says_rows addresses read is);
  added = added;
}
