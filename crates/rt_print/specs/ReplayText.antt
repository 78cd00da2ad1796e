-- The text of a replay: one line for each atomic step, and then the place that is inside.
use Rattle.std.specs.Prelude.{ℕ, Bool, true, false, List, ◌++◌, codes, decimal, Option, None, Some}
use Rattle.std.specs.List.{flat_map, enumerate_from}
use Rattle.ya_core.specs.declared.word.Word.{Word}
use Rattle.ya_core.specs.declared.word.Word.TheVariants.{C, T, P}
use Rattle.ya_core.specs.declared.step.Mark.{Mark}
use Rattle.ya_core.specs.declared.step.Mark.TheVariants.{Plain, Inside, Out}
use Rattle.ya_core.specs.declared.step.Step.{Step}

-- `C<level>.<node>.<side>`, `T<level>.<node>` or `P<level>.<place>`
unfoldable pub word_text : Word → List ℕ
word_text (C level node side) = codes "C" ++ (decimal level ++ (codes "." ++ (decimal node ++ (codes "." ++ decimal side))))
word_text (T level node) = codes "T" ++ (decimal level ++ (codes "." ++ decimal node))
word_text (P level place) = codes "P" ++ (decimal level ++ (codes "." ++ decimal place))

-- the effect of the step on its passage, and LF
unfoldable pub mark_text : Mark → List ℕ
mark_text Plain = codes "\n"
mark_text Inside = codes " inside\n"
mark_text Out = codes " out\n"

-- `:=` for a store, `=` for a load
unfoldable pub sign_text : Bool → List ℕ
sign_text true = codes " := "
sign_text false = codes " = "

-- `NUMBER pPLACE WORD := VALUE` or `NUMBER pPLACE WORD = VALUE`, and the mark
unfoldable pub step_text : ℕ → Step → List ℕ
step_text number step =
    decimal number ++ (codes " p" ++ (decimal step.place ++ (codes " " ++ (word_text step.word
    ++ (sign_text step.store ++ (decimal step.value ++ mark_text step.mark))))))

-- `inside pPLACE`, or `inside none`
unfoldable pub inside_text : Option ℕ → List ℕ
inside_text None = codes "inside none\n"
inside_text (Some place) = codes "inside p" ++ (decimal place ++ codes "\n")

-- the text of a replay with these steps, numbered from 1, after which this place is inside
abbrev pub replay_text_of : List Step → Option ℕ → List ℕ
replay_text_of steps inside = flat_map (λ step. step_text step.0 step.1) (enumerate_from 1 steps) ++ inside_text inside
