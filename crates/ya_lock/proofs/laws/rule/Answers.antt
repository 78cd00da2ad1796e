use Rattle.ya_lock.proofs.RuleMeaning.{shows_core, some_seat_goes_on, in_tree, one_seat, one_inside, in_slot, is_fresh}
use Rattle.ya_lock.proofs.RuleMeaning.{made_by_one}
use Rattle.ya_lock.proofs.laws.rule.Goals as goal

pub returns : goal.returns
returns g c = λ s r. record {
  core = shows_core g.V.Kept.since g.row.L s r;
  progress = some_seat_goes_on g.V.Kept.since g.row.L c.requires s r;
  in_tree = in_tree g.V.Kept.since g.row.L s r;
  places = one_seat g.V.Kept.since g.row.L s r;
  exclusion = one_inside g.V.Kept.since g.row.L c.requires s r;
  value = in_slot g.V.Kept.since g.row.L s r;
  fresh = is_fresh g.V.Kept.since g.row.L s r;
  making = made_by_one g.V.Kept.since g.row.L s r;
}
