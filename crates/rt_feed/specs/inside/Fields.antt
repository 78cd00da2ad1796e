-- The split of a text at a byte, the parser's way from field to field, and a field's fault.
use Rattle.std.specs.Prelude.{◌≡◌, ◌≢◌, ℕ, List, [], ◌∷◌, ◌++◌, All, Option, None, Some, MatchOption}
use Rattle.std.specs.Borrow.{Bor}
use Rattle.rt_feed.specs.declared.parse.LineFault.{LineFault}
use Rattle.rt_feed.specs.declared.parse.Name.{Name}
use Rattle.rt_feed.specs.declared.parse.Name.TheVariants as name
use Rattle.rt_feed.specs.Commands.{Kind, add_form, replace_form, withdraw_form, lookup_form, dump_form, purge_form}
use Rattle.rt_feed.specs.Grammar.{fields, IsOfKind, IsFaultOf}

-- the text before the first such byte, and the text after it if the byte occurs
pub record CutsAt (mark : ℕ) (text first : List ℕ) (rest : Option (Bor (List ℕ))) : Type 0 where
  pub unmarked : All (λ byte. byte ≢ mark) first
  pub joined : MatchOption rest (text ≡ first) (λ rest. text ≡ first ++ mark ∷ rest.now)

-- the fields of the text after a space, if there is one
abbrev pub fields_of_rest : Option (Bor (List ℕ)) → List (List ℕ)
fields_of_rest None = []
fields_of_rest (Some text) = fields text.now

-- the spelling of a command's name
abbrev pub name_text : Name → List ℕ
name_text name.Add = add_form.word
name_text name.Replace = replace_form.word
name_text name.Withdraw = withdraw_form.word
name_text name.Lookup = lookup_form.word
name_text name.Dump = dump_form.word
name_text name.Purge = purge_form.word

-- the field is of the wrong kind, and this is its fault
abbrev pub IsFaulty : Kind → List ℕ → LineFault → Type 0
IsFaulty kind field answer = (¬ IsOfKind kind field) × IsFaultOf kind field answer
