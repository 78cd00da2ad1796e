use Rattle.rt_trie.proofs.matches.LongestMatchCursor.new.Goals as goal

pub invariant_of-result : goal.invariant_of-result
invariant_of-result g c = record { lawful = c.requires; few = c.new.ensures.few; places = c.new.ensures.places (record { 0 = 0 }) }
