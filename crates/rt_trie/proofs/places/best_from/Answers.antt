use Rattle.std.proofs.Common.{ap}
use Rattle.std.specs.Option.{option_copied}
use Rattle.rt_trie.specs.Map.{pair_copied}
use Rattle.rt_trie.proofs.NodePairs.{best_stored, best_unstored}
use Rattle.rt_trie.proofs.places.best_from.Goals as goal

pub returns-in-Some : goal.returns-in-Some
returns-in-Some g c = λ b covered. best_stored c.args.prefix _ _ b (pair_copied c.args.above) (ap option_copied c.in-Some.is) covered

pub returns-in-None : goal.returns-in-None
returns-in-None g c = λ b covered. best_unstored c.args.prefix _ b (pair_copied c.args.above) (ap option_copied c.in-None.is)
