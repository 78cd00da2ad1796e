-- The effect of an output on its writer, the answers for addresses with invalid lines between them, and the output of a
-- comparison of two tables.
use Rattle.std.specs.Prelude.{◌≡◌, ℕ, List, [], ◌∷◌, Option, Result, Ok, Err, ◌++◌, ◌-◌, map, take, drop}
use Rattle.std.specs.List.{flat_map}
use Rattle.std.specs.Io.KnownBytes.{Appends}
use Rattle.rt_cidr.specs.Output.{AppendsBeginning}
use Rattle.rt_feed.specs.declared.addresses.InvalidLine.{InvalidLine}
use Rattle.rt_feed.specs.Addresses.{AddressRow}
use Rattle.rt_feed.specs.declared.faults.RunFault.TheVariants as fault
use Rattle.rt_print.specs.declared.format.Syntax.{Syntax}
use Rattle.rt_print.specs.Styles.{StyleContents, label_of, found_as, all_found_as, invalid_as}
use Rattle.rt_run.specs.declared.faults.AppFault.{AppFault}
use Rattle.rt_run.specs.declared.faults.AppFault.TheVariants.{Run, Replay, Write}
use Rattle.std.specs.declared.vec.Vec.{Vec}
use Rattle.std.specs.declared.alloc.Global.{Global}
use Rattle.rt_cidr.specs.declared.address.Addr.{Addr}
use Rattle.rt_rib.specs.declared.routes.Route.{Route}
use Rattle.rt_rib.specs.LookUp.{look_up, look_up_all}
use Rattle.rt_run.specs.declared.question.Question.{Question}
use Rattle.rt_run.specs.declared.tallies.RejectedInput.{RejectedInput}
use Rattle.rt_run.specs.TableText.{AsksAbout}

-- for each address, in order, the result of looking it up in the table, in the style
abbrev pub found_text : StyleContents → List Addr → List Route → List ℕ
found_text style addresses table = flat_map (λ addr. found_as style.syntax (label_of style.labels) addr (look_up addr table)) addresses

-- for each address, in order, all routes of the table that cover it, the best first
abbrev pub all_found_text : StyleContents → List Addr → List Route → List ℕ
all_found_text style addresses table = flat_map (λ addr. all_found_as style.syntax (label_of style.labels) addr (look_up_all addr table)) addresses

-- the same, of the routes that were found for each address
abbrev pub matches_text : StyleContents → List (Addr × Vec Route Global) → List ℕ
matches_text style all = flat_map (λ one. all_found_as style.syntax (label_of style.labels) one.0 one.1.items) all

-- each address with the routes that were found for it; and with those of the table that cover it, the best first
abbrev pub matches_found : List (Addr × Vec Route Global) → List (Addr × List Route)
matches_found all = map (λ (one : Addr × Vec Route Global). (one.0, one.1.items)) all

abbrev pub matches_in : List Route → List Addr → List (Addr × List Route)
matches_in table addresses = map (λ (addr : Addr). (addr, look_up_all addr table)) addresses

-- the texts of these items, of which the first has this index, with the invalid lines in their places
abbrev pub with_invalid : {X : Type 0} → Syntax → (List X → List ℕ) → ℕ → List X → List InvalidLine → List ℕ
with_invalid syntax text_of done items [] = text_of items
with_invalid syntax text_of done items (line ∷ lines) =
    text_of (take (line.before - done) items)
    ++ (invalid_as syntax line.number ++ with_invalid syntax text_of line.before (drop (line.before - done) items) lines)

-- the text was appended to the writer's contents, and this was returned; or nothing was written, if memory ran out; or a
-- beginning of the text
abbrev pub Writes : {X : Type 0} → List ℕ → X → Option (List ℕ) → Option (List ℕ) → Result X AppFault → Type 0
Writes text given old new (Ok done) = (done ≡ given) × Appends old new text
Writes text given old new (Err (Run refusal)) = (refusal ≡ fault.Memory) × (new ≡ old)
Writes text given old new (Err (Replay fault)) = ⊥
Writes text given old new (Err Write) = AppendsBeginning old new text

-- these tallies, and behind them that of the question's text of addresses, if it has addresses
pub record AddsTally (question : Question) (tallies all : List RejectedInput) : Type 0 where
  pub rows : List AddressRow
  pub others : List RejectedInput
  pub asks : AsksAbout question rows others
  pub added : all ≡ tallies ++ others
