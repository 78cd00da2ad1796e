-- Examples that test the definitions of replays in rt_print, each below a line with the definition's name. Both sides
-- are computed.
use Rattle.std.proofs.Common.{◌≡◌, ℕ, true, false, Some, None, List, [], ◌∷◌, ◌++◌, map, codes, refl}
use Rattle.std.specs.Fmt.{digits}
use Rattle.ya_core.specs.declared.word.Word.TheVariants.{C, T, P}
use Rattle.ya_core.specs.declared.step.Mark.TheVariants.{Plain, Inside, Out}
use Rattle.ya_core.specs.declared.step.Step.{Step}
use Rattle.rt_print.specs.ReplayText.{word_text, mark_text, sign_text, step_text, inside_text, replay_text_of}
use Rattle.rt_print.specs.inside.Parts.{inside_after}

-- word_text
a_claim_has_a_side : word_text (C 1 0 1) ≡ codes "C1.0.1"
unfolding digits word_text
a_claim_has_a_side = refl

a_spin_word_has_a_place : word_text (P 1 0) ≡ codes "P1.0"
unfolding digits word_text
a_spin_word_has_a_place = refl

-- mark_text
inside_and_out : map mark_text (Plain ∷ Inside ∷ Out ∷ []) ≡ codes "\n" ∷ codes " inside\n" ∷ codes " out\n" ∷ []
unfolding mark_text
inside_and_out = refl

-- sign_text
a_store_and_a_load : map sign_text (true ∷ false ∷ []) ≡ codes " := " ∷ codes " = " ∷ []
unfolding sign_text
a_store_and_a_load = refl

-- the four steps that bring place 0 inside without competition
abbrev four_steps : List Step
four_steps =
    record { place = 0; word = C 1 0 0; store = true; value = 1; mark = Plain } ∷ record { place = 0; word = T 1 0; store = true; value = 1; mark = Plain }
    ∷ record { place = 0; word = P 1 0; store = true; value = 0; mark = Plain } ∷ record {
      place = 0;
      word = C 1 0 1;
      store = false;
      value = 0;
      mark = Inside;
    } ∷ []

abbrev four_lines : List ℕ
four_lines = codes "1 p0 C1.0.0 := 1\n2 p0 T1.0 := 1\n3 p0 P1.0 := 0\n4 p0 C1.0.1 = 0 inside\n"

-- step_text
a_load_that_wins_the_root : step_text 4 (record { place = 0; word = C 1 0 1; store = false; value = 0; mark = Inside }) ≡ codes "4 p0 C1.0.1 = 0 inside\n"
unfolding digits step_text word_text sign_text mark_text
a_load_that_wins_the_root = refl

-- inside_after
the_place_that_won : inside_after four_steps ≡ Some 0
the_place_that_won = refl

nobody_after_its_next_step : inside_after (four_steps ++ record { place = 0; word = C 1 0 0; store = true; value = 0; mark = Plain } ∷ []) ≡ None
nobody_after_its_next_step = refl

still_after_anothers_step : inside_after (four_steps ++ record { place = 1; word = C 1 0 1; store = true; value = 2; mark = Plain } ∷ []) ≡ Some 0
still_after_anothers_step = refl

-- inside_text
nobody_is : inside_text None ≡ codes "inside none\n"
unfolding inside_text
nobody_is = refl

place_1_is : inside_text (Some 1) ≡ codes "inside p1\n"
unfolding digits inside_text
place_1_is = refl

-- replay_text_of
lines_and_who_is_inside : replay_text_of four_steps (Some 0) ≡ four_lines ++ codes "inside p0\n"
unfolding digits inside_text step_text word_text sign_text mark_text
lines_and_who_is_inside = refl
