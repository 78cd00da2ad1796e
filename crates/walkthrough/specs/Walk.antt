-- A passage of one process.
use Rattle.std.specs.Prelude.{◌≡◌, ℕ, List, true}
use Rattle.ya_core.specs.declared.process.Process.TheVariants.{Idle}
use Rattle.ya_core.specs.declared.walker.Op.TheVariants as op
use Rattle.ya_core.specs.WalkerModel.{Walk, walk, op_of, WalkLeadsTo}

-- some values, each of which the due access may find, lead one after another from the walk to the other one
abbrev pub Leads : Walk → Walk → Type 0
Leads start end = (values : List ℕ) × WalkLeadsTo start values end

-- the walk of a place leads from the begin of its entry to the inside, after `entered` remote accesses, and from the begin
-- of its exit to idle, after `left` remote accesses of the passage
pub record IsPassage (levels place entered left : ℕ) : Type 0 where
  pub inside : Walk
  pub way_in : Leads (walk levels place Idle true 0) inside
  pub is_inside : op_of inside ≡ op.Inside
  pub to_enter : inside.remote ≡ entered
  pub idle : Walk
  pub way_out : Leads (record inside { begun = true }) idle
  pub is_idle : op_of idle ≡ op.Idle
  pub in_all : idle.remote ≡ left
