-- The lines of a difference aren't empty.
use Rattle.std.proofs.Common.{ℕ, ◌^◌, ◌<◌, ◌≤◌, List, [], ◌∷◌, ◌++◌, length, flat_map, arith, length-append}
use Rattle.std.specs.List.{Any}
use Rattle.std.proofs.lemmas.Grind.{common_steps}
use Rattle.rt_diff.specs.declared.comparison.Difference.{Difference}
use Rattle.rt_print.specs.declared.format.Syntax.{Syntax}
use Rattle.rt_print.specs.declared.diff_options.DiffOutput.{DiffOutput}
use Rattle.rt_print.specs.declared.diff_options.DiffOutput.TheVariants.{Ranges, Prefixes}
use Rattle.rt_print.specs.RangePrefixes.{prefixes_of, IsOf}
use Rattle.rt_print.specs.DifferenceText.{DiffContents, range_as, prefix_as, lines_as, difference_as, answer_as}
use Rattle.rt_print.proofs.RangePrefixes.{Any-none, prefixes_make_up}

range-some : (syntax : Syntax) (d : Difference) (old new rest : List ℕ) → 0 < length (range_as syntax d old new ++ rest)
unfolding range_as
range-some syntax d old new rest = grind (arith, common_steps)

prefix-some : (syntax : Syntax) (old new : List ℕ) (p : ℕ × ℕ) → 0 < length (prefix_as syntax old new p)
unfolding prefix_as
prefix-some syntax old new p = grind (arith, common_steps)

flat-some : {X : Type 0} (text : X → List ℕ) → ((x : X) → 0 < length (text x)) → (P : X → Type 0) (xs : List X) (rest : List ℕ) → Any P xs
    → 0 < length (flat_map text xs ++ rest)
flat-some text some P [] rest a = absurd (Any-none P a)
flat-some text some P (x ∷ xs) rest a =
    let one = some x in
    omega (arith, one, length-append (text x ++ flat_map text xs) rest, length-append (text x) (flat_map text xs))

lines-some : (output : DiffOutput) (syntax : Syntax) (d : Difference) (old new rest : List ℕ) → d.first.0 ≤ d.last.0 → d.last.0 < 2 ^ 32
    → 0 < length (lines_as output syntax d old new ++ rest)
lines-some Ranges syntax d old new rest some fits = range-some syntax d old new rest
lines-some Prefixes syntax d old new rest some fits =
    flat-some (prefix_as syntax old new) (prefix-some syntax old new) (IsOf d.first.0) (prefixes_of d.first.0 d.last.0) rest
    (((prefixes_make_up d.first.0 d.last.0 fits).addresses d.first.0).1 (omega arith, some))

pub difference-some : (asked : DiffContents) (d : Difference) (rest : List ℕ) → d.first.0 ≤ d.last.0 → d.last.0 < 2 ^ 32
    → 0 < length (difference_as asked d ++ rest)
difference-some asked d rest = lines-some asked.output asked.old.syntax d (answer_as asked.by asked.old d.old) (answer_as asked.by asked.new d.new) rest
