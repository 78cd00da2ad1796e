use Rattle.std.proofs.Common.{◌∙◌, rules}
use Rattle.std.proofs.lemmas.Fn.{dedup_same}
use Rattle.rt_rib.proofs.BestRoutes.{to_one, dedup-best}
use Rattle.rt_rib.proofs.routes.keep_best.Goals as goal

pub returns : goal.returns
returns g c = dedup_same _ to_one _ (λ x y b f' x' y' k. search rules) _ _ c.dedup_by.ensures.filtered ∙ dedup-best c.args.routes.now.items c.requires
