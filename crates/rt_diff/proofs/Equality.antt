-- `==` of two answers decides whether they are equal.
use Rattle.std.proofs.Common.{◌≡◌, ap, refl, Decides}
use Rattle.std.proofs.lemmas.Bool.Decides.{Decides-like}
use Rattle.rt_cidr.proofs.Promised.{prefix_by_parts}
use Rattle.rt_rib.proofs.Promised.{decides_hop, decides_route}
use Rattle.rt_diff.specs.declared.table_answers.TableAnswer.{TableAnswer}
use Rattle.rt_diff.specs.declared.table_answers.TableAnswer.TheVariants as answer
use Rattle.rt_diff.specs.contracts.table_answers.TableAnswerPartialEq.TheImpl as of_answer

pub answers : (x y : TableAnswer) → Decides ((of_answer.ghosts).eq x y) (x ≡ y)
answers answer.NoRoute answer.NoRoute = (λ e. refl, λ e. refl)
answers answer.NoRoute (answer.Hop k) = (λ e. cc, λ e. cc)
answers answer.NoRoute (answer.Route s) = (λ e. cc, λ e. cc)
answers (answer.Hop h) answer.NoRoute = (λ e. cc, λ e. cc)
answers (answer.Hop h) (answer.Hop k) =
    Decides-like ((of_answer.ghosts).eq (answer.Hop h) (answer.Hop k)) (λ e. ap answer.Hop e) (λ e. cc) (decides_hop h k)
answers (answer.Hop h) (answer.Route s) = (λ e. cc, λ e. cc)
answers (answer.Route r) answer.NoRoute = (λ e. cc, λ e. cc)
answers (answer.Route r) (answer.Hop k) = (λ e. cc, λ e. cc)
answers (answer.Route r) (answer.Route s) =
    Decides-like ((of_answer.ghosts).eq (answer.Route r) (answer.Route s)) (λ e. ap answer.Route e) (λ e. cc) (decides_route prefix_by_parts r s)
