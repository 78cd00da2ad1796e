-- The contents of a writer after text was written to it, and the error if not all of it was written.
use Rattle.std.specs.Prelude.{◌≡◌, ℕ, ◌<◌, ◌⊎◌, List, length, take, Option, Result, Ok, Err, OnOk, OnErr}
use Rattle.std.specs.IoError.{error_kind}
use Rattle.std.specs.declared.io.Error.{Error}
use Rattle.std.specs.declared.io.ErrorKind.TheVariants.{WriteZero}
use Rattle.std.specs.Io.KnownBytes.{Appends}

-- after an error: known contents grew by an initial part of the bytes, and never by all of them
pub record AppendsBeginning (old new : Option (List ℕ)) (bytes : List ℕ) : Type 0 where
  pub count : ℕ
  pub within : count < length bytes
  pub appended : Appends old new (take count bytes)

-- the text was written: known contents grew by all of it, or after an error by an initial part and never by all of it
pub record WritesText {T E : Type 0} (old new : Option (List ℕ)) (text : List ℕ) (result : Result T E) : Type 0 where
  pub ok : OnOk result (Appends old new text)
  pub err : OnErr result (AppendsBeginning old new text)

-- the last call was given the rest of the text and left the writer as it is now: it returned this error, or it accepted none
-- of the rest, and the error is of the kind `WriteZero`
pub record IsFaultOf {W : Type 0} (may_return : W → List ℕ → Result ℕ Error → W → Type 0) (rest : List ℕ) (new : W) (e : Error) : Type 0 where
  pub before : W
  pub last : may_return before rest (Err e) new ⊎ (may_return before rest (Ok 0) new × (error_kind e ≡ WriteZero))
