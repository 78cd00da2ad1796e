use Rattle.std.proofs.lemmas.List.{take-map}
use Rattle.rt_fib.specs.inside.Entries.{hop_code}
use Rattle.rt_fib.proofs.slabs.Slabs.roll_back.Goals as goal

pub returns : goal.returns
returns g c = λ epoch start begun is fills. record {
  groups = c.roll_back.ensures.back epoch start.groups.places is.group_count (rw is.groups at fills.groups);
  routes = c.roll_back-2.ensures.back epoch start.routes.places is.route_count (rw is.routes at fills.routes);
  codes = λ coded.
      let before = fills.codes (rw (is.codes, is.routes) coded) in
      rw (c.truncate.ensures.items, c.roll_back-2.ensures.values, before) (take-map hop_code c.args.counts.routes c.args.self.now.routes.places.values);
}
