use Rattle.std.proofs.Common.{refl, sym, ap, ◌∙◌, subst}
use Rattle.rt_trie.specs.Map.{pair_copied, IsLongest}
use Rattle.rt_trie.specs.inside.Links.{pairs, last_cover, sought}
use Rattle.rt_trie.specs.inside.Places.{IsPlace}
use Rattle.rt_trie.proofs.LinkOrder.{longest_of}
use Rattle.rt_trie.proofs.WaysDown.{next_place, with_place}
use Rattle.rt_trie.proofs.matches.LongestMatchCursor.match_range.Goals as goal

pub loop-place-init : goal.loop-place-init
loop-place-init g c =
    let k = c.place_for-place in
    record {
      answers = k.ensures.matches;
      from = refl;
      pairs = c.self.view_is;
      place = subst (λ m. IsPlace m c.args.a k.result) c.self.view_is k.ensures.place;
      onward = k.ensures.reached;
    }

pub loop-place-preserved : goal.loop-place-preserved
loop-place-preserved g c =
    let i = c.loop-place.invariant in
    let m = pairs c.loop-place.self-inside.root.now in
    let next = next_place c.args.self.now c.args.a c.in-Some.link c.loop-place.place c.step-place.result
    c.in-Some.is i.place c.step-place.ensures in
    record {
      answers = record {
        lawful = i.answers.lawful;
        few = c.keep.ensures.few;
        places = with_place m c.args.a _ _ _ _ c.keep.ensures.places (subst (λ n. IsPlace n c.args.a c.step-place.result) (sym i.pairs) next) i.answers.places;
      };
      from = i.from;
      pairs = i.pairs;
      place = next;
      onward = c.step-place.ensures.onward;
    }

pub returns-clause-same : goal.returns-clause-same
returns-clause-same g c = λ b from to.
    let i = c.loop-place.invariant in
    let best = pair_copied c.loop-place.place.best in
    let root = c.loop-place.self-inside.root.now in
    subst (λ m. IsLongest m b best) i.pairs (longest_of root b best i.answers.lawful.0
    (ap (λ m. last_cover m b) i.pairs ∙ i.place.found b from to ∙ ap (λ o. sought o b best) c.in_default.is))
