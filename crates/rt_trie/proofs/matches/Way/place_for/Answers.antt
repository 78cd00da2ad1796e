use Rattle.std.proofs.Common.{arith}
use Rattle.std.proofs.lemmas.List.Elements.{All-contains}
use Rattle.rt_trie.specs.inside.Links.{pairs}
use Rattle.rt_trie.specs.inside.Places.{IsPlace, AreMatches}
use Rattle.rt_trie.proofs.WaysDown.{later_places}
use Rattle.rt_trie.proofs.matches.Way.place_for.Given.{Over}
use Rattle.rt_trie.proofs.matches.Way.place_for.Goals.{After-back_to, then-a-from, else-a-from}
use Rattle.rt_trie.proofs.matches.Way.place_for.Goals as goal

-- the kept places belong to this trie, for addresses from the given one on
kept : (g : Over) (c : After-back_to g) → AreMatches c.args.root.now c.args.a c.if-a-from.self
kept g c = elim c.if-a-from.branch [
  | then-a-from w ↦
      rw w.self-is record { lawful = c.requires.lawful; few = w.new.ensures.few; places = w.new.ensures.places c.args.a }
  | else-a-from w ↦
      rw w.self-is record { lawful = c.requires.lawful; few = c.requires.few; places = later_places _ _ _ _ w.if-a-from.false c.requires.places }
]

-- and so do those that remain
left : (g : Over) (c : After-back_to g) → AreMatches c.args.root.now c.args.a c.back_to.new.self
left g c =
    let k = kept g c in
    record { lawful = k.lawful; few = c.back_to.ensures.few; places = rw c.back_to.ensures.places k.places }

pub returns-in-Some : goal.returns-in-Some
returns-in-Some g c =
    let after = (goal.at.returns-in-Some g c).After-back_to in
    let one = rw c.in-Some.is at c.back_to.ensures.one in
    record {
      matches = left g after;
      place = All-contains (IsPlace (pairs c.args.root.now) c.args.a) _ c.in-Some.place (kept g after).places one;
      reached = rw c.in-Some.is at c.back_to.ensures.reached;
    }

pub returns-in-None : goal.returns-in-None
returns-in-None g c = record {
  matches = left g (goal.at.returns-in-None g c).After-back_to;
  place = c.top.ensures.place c.args.a;
  reached = omega (arith, c.top.ensures.last);
}
