-- The table of commands: the first field of a command's line, the fields after it, and the first version that has it.
use Rattle.std.specs.Prelude.{ℕ, Bool, true, false, if◌then◌else◌, List, [], ◌∷◌, codes, bytes_eq, Option, None, Some}
use Rattle.rt_feed.specs.declared.versions.Version.{Version}
use Rattle.rt_feed.specs.declared.versions.Version.TheVariants.{One, Two}

-- the kind of a field after a command's name; the text's version determines the possible next hops
pub data Kind : Type 0 where
  prefix : Kind
  preference : Kind
  hop : Version → Kind
  address : Kind

-- a row of the table: the command's name, the kinds of the fields after it, and the first version of texts that has it
pub record Form : Type 0 where
  pub word : List ℕ
  pub kinds : Version → List Kind
  pub since : Version

-- the row of `add`
abbrev pub add_form : Form
add_form = record { word = codes "add"; kinds = λ version. prefix ∷ preference ∷ hop version ∷ []; since = One }

-- the row of `replace`
abbrev pub replace_form : Form
replace_form = record { word = codes "replace"; kinds = λ version. prefix ∷ preference ∷ hop version ∷ []; since = One }

-- the row of `withdraw`
abbrev pub withdraw_form : Form
withdraw_form = record { word = codes "withdraw"; kinds = λ version. prefix ∷ []; since = One }

-- the row of `lookup`
abbrev pub lookup_form : Form
lookup_form = record { word = codes "lookup"; kinds = λ version. address ∷ []; since = One }

-- the row of `dump`
abbrev pub dump_form : Form
dump_form = record { word = codes "dump"; kinds = λ version. []; since = One }

-- the row of `purge`
abbrev pub purge_form : Form
purge_form = record { word = codes "purge"; kinds = λ version. []; since = Two }

-- the table: the row of each command
abbrev pub commands : List Form
commands = add_form ∷ replace_form ∷ withdraw_form ∷ lookup_form ∷ dump_form ∷ purge_form ∷ []

-- true if texts of this version have what came with version `since`
abbrev pub has : Version → Version → Bool
has version One = true
has One Two = false
has Two Two = true

-- the kinds of the fields after a command's name, if texts of this version have the command
abbrev pub kinds_in : Version → Form → Option (List Kind)
kinds_in version form = if has version form.since then Some (form.kinds version) else None

-- the kinds of the fields after this one, if it is the name of one of these commands
abbrev pub kinds_among : List Form → Version → List ℕ → Option (List Kind)
kinds_among [] version field = None
kinds_among (form ∷ others) version field = if bytes_eq field form.word then kinds_in version form else kinds_among others version field
