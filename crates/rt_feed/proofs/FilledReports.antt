-- Lines of a report that are given outcomes, one after another.
use Rattle.std.proofs.Common.{◌≡◌, ℕ, ◌<◌, ◌≤◌, ◌⊎◌, inl, inr, List, [], ◌∷◌, ◌++◌, length, map, take, drop, get_or, refl, sym, ap, ◌∙◌}
use Rattle.std.proofs.Common.{arith}
use Rattle.std.proofs.Math.ListN.{get_or-map}
use Rattle.std.proofs.lemmas.List.{map-append, length-map, take-append-drop, drop_all, take_all, append-nil, nil_from_length}
use Rattle.rt_shared.specs.declared.outcome.Outcome.{Outcome}
use Rattle.rt_feed.specs.declared.report.Line.{Line}
use Rattle.rt_feed.specs.Reports.{NumbersRise}
use Rattle.rt_feed.specs.inside.FeedRuns.{filled}

-- without outcomes the lines stay
pub filled-none : (lines : List Line) → filled lines [] ≡ lines
filled-none [] = refl
filled-none (line ∷ lines) = refl

-- numbers stay
abbrev numbers : List Line → List ℕ
numbers lines = map (λ (line : Line). line.number) lines

numbers-filled : (lines : List Line) (outcomes : List Outcome) → numbers (filled lines outcomes) ≡ numbers lines
numbers-filled [] outcomes = refl
numbers-filled (line ∷ lines) [] = refl
numbers-filled (line ∷ lines) (outcome ∷ outcomes) = grind (arith, numbers-filled lines (outcome ∷ outcomes), numbers-filled lines outcomes)

module _ (first : ℕ) (lines : List Line) (outcomes : List Outcome) where
  -- the lines, after those from an index on were given outcomes
  abbrev refilled : List Line
  refilled = take first lines ++ filled (drop first lines) outcomes

  numbers-refilled : numbers refilled ≡ numbers lines
  numbers-refilled = rw (map-append, numbers-filled, ← map-append, take-append-drop) refl

  pub length-refilled : length (take first lines ++ filled (drop first lines) outcomes) ≡ length lines
  length-refilled =
      sym (length-map refilled (λ (line : Line). line.number)) ∙ (ap length numbers-refilled ∙ length-map lines (λ (line : Line). line.number))

  number-refilled : (i : ℕ) (d : Line) → (get_or refilled i d).number ≡ (get_or lines i d).number
  number-refilled i d =
      sym (get_or-map (λ (line : Line). line.number) refilled i d)
      ∙ (ap (λ ns. get_or ns i d.number) numbers-refilled ∙ get_or-map (λ (line : Line). line.number) lines i d)

  -- so the numbers still rise
  pub numbers_rise-refilled : (lines' : List Line) → NumbersRise lines → lines' ≡ take first lines ++ filled (drop first lines) outcomes → NumbersRise lines'
  numbers_rise-refilled lines' rising is = rw is (λ i j d less here.
      omega (arith, rising i j d less (let same = length-refilled in omega (arith, here, same)), number-refilled i d, number-refilled j d))

-- once no outcome is left, or no line, the lines have their outcomes, and their numbers still rise
pub is_filled : (first index : ℕ) (lines lines' : List Line) (outcomes rest : List Outcome)
    → take index lines' ++ filled (drop index lines') rest ≡ take first lines ++ filled (drop first lines) outcomes
    → (length rest < 1) ⊎ (length lines ≤ index) → NumbersRise lines
    → (lines' ≡ take first lines ++ filled (drop first lines) outcomes) × NumbersRise lines'
is_filled first index lines lines' outcomes rest so_far which rising =
    let kept : length lines' ≡ length lines = sym (length-refilled index lines' rest) ∙ (ap length so_far ∙ length-refilled first lines outcomes) in
    let filled : take index lines' ++ filled (drop index lines') rest ≡ lines' = elim which [
      | inl none ↦ rw (nil_from_length rest (omega (arith, none)), filled-none) (take-append-drop index lines')
      | inr past ↦ rw (drop_all index lines' (omega (arith, past, kept)), take_all index lines' (omega (arith, past, kept))) (append-nil lines')
    ] in
    let is = sym filled ∙ so_far in (is, numbers_rise-refilled first lines outcomes lines' rising is)
