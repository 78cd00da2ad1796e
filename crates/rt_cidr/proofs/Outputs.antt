-- Writing one text after another to a writer: its contents, also after an error.
use Rattle.std.proofs.Common.{ℕ, ◌+◌, List, ◌++◌, length, take, Option, arith, length-append}
use Rattle.std.specs.Io.KnownBytes.{Appends}
use Rattle.std.proofs.KnownBytes.{Appends-trans}
use Rattle.std.proofs.lemmas.List.{take-append-le}
use Rattle.std.proofs.Math.Seq.{take-append-add}
use Rattle.rt_cidr.specs.Output.{AppendsBeginning}

module _ (a b c : Option (List ℕ)) where
  -- a whole text, then an initial part of the next
  pub begins_after : (xs ys : List ℕ) → Appends a b xs → AppendsBeginning b c ys → AppendsBeginning a c (xs ++ ys)
  begins_after xs ys first second = record {
    count = length xs + second.count;
    within = omega (arith, length-append xs ys, second.within);
    appended = rw take-append-add (Appends-trans a b c xs (take second.count ys) first second.appended);
  }

  -- a whole text, then the whole next one
  pub appends_after : (xs ys : List ℕ) → Appends a b xs → Appends b c ys → Appends a c (xs ++ ys)
  appends_after xs ys = Appends-trans a b c xs ys

-- an initial part of a text is an initial part of a longer text
pub begins_longer : (a c : Option (List ℕ)) (xs ys : List ℕ) → AppendsBeginning a c xs → AppendsBeginning a c (xs ++ ys)
begins_longer a c xs ys first = record {
  count = first.count;
  within = omega (arith, length-append xs ys, first.within);
  appended = rw (take-append-le first.count xs ys (omega (arith, first.within))) first.appended;
}
