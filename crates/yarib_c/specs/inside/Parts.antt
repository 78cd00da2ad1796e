-- Reading the numbers of a selection.
use Rattle.std.specs.Prelude.{ℕ, ◌≡◌, ◌<◌, ◌≤◌, Result, Ok, Err, [], ◌∷◌}
use Rattle.rt_cidr.specs.declared.prefixes.TextFault.{TextFault}
use Rattle.rt_cidr.specs.declared.prefixes.TextFault.TheVariants.{Text, Length, Bits}
use Rattle.rt_cidr.specs.Cidr.{IsPrefix}
use Rattle.rt_rib.specs.declared.selection.PrefixFilter.{PrefixFilter}
use Rattle.yarib_c.specs.declared.selections.YaribSelection.{YaribSelection}
use Rattle.yarib_c.specs.Selections.{IsOutOfRange, IsTooLong, HasNoPrefix, IsPart}
use Rattle.yarib_c.specs.Statuses.{IsOneOf, Check}
use Rattle.yarib_c.specs.declared.status.TheConstants.{BAD_NUMBER, BAD_LENGTH, BAD_BITS}

-- the numbers of the prefix are a prefix, if the part needs one
abbrev pub HasPart : YaribSelection → Type 0
HasPart c = (¬ IsTooLong c) × ¬ HasNoPrefix c

-- the status of numbers that denote no selection, by the first reason that applies
abbrev pub RefusedFirst : YaribSelection → ℕ → Type 0
RefusedFirst c status = Check (IsOutOfRange c) BAD_NUMBER (Check (IsTooLong c) BAD_LENGTH (Check (HasNoPrefix c) BAD_BITS (λ _. ⊥))) status

-- what reading the numbers gives: the part that they denote, or why they denote none
abbrev pub PartReading : YaribSelection → Result PrefixFilter TextFault → Type 0
PartReading c (Ok part) = IsPart c part × HasPart c
PartReading c (Err Text) = ⊥
PartReading c (Err Length) = IsTooLong c
PartReading c (Err Bits) = (c.len ≤ 32) × HasNoPrefix c

-- why the numbers denote no selection, as a status
pub record IsRefused (c : YaribSelection) (status : ℕ) : Type 0 where
  pub first : RefusedFirst c status
  pub known : IsOneOf (BAD_NUMBER ∷ BAD_LENGTH ∷ BAD_BITS ∷ []) status
  pub number : status ≡ BAD_NUMBER → IsOutOfRange c
  pub length : status ≡ BAD_LENGTH → 32 < c.len
  pub bits : status ≡ BAD_BITS → (c.len ≤ 32) × ¬ IsPrefix c.base c.len
