use Rattle.std.proofs.lemmas.List.Elements.{All-replicate}
use Rattle.rt_trie.specs.declared.nodes.TheConstants.{PLACES}
use Rattle.rt_trie.specs.inside.Links.{pairs}
use Rattle.rt_trie.specs.inside.Places.{IsPlace}
use Rattle.rt_trie.proofs.matches.Way.new.Goals as goal

pub returns-clause-places : goal.returns-clause-places
returns-clause-places g c = λ from.
    All-replicate (IsPlace (pairs c.args.root.now) from) PLACES c.top-top.result (c.top-top.ensures.place from)
