use Rattle.std.proofs.Common.{arith, rules}
use Rattle.std.proofs.lemmas.Bool.Decides.{nat_tests}
use Rattle.std.proofs.KnownBytes.{Appends-kept}
use Rattle.rt_print.proofs.Promised.{stops, stops_held}
use Rattle.rt_run.proofs.output.finish.Goals as goal

pub returns-in-Err-clause-text : goal.returns-in-Err-clause-text
returns-in-Err-clause-text g c name began after text empty wrote same =
    let begun = rw c.in-Err.is at wrote.err in stops name _ began _ _ after _ text same begun

pub returns-in-Err-flush-clause-text : goal.returns-in-Err-flush-clause-text
returns-in-Err-flush-clause-text g c name began after text empty wrote same =
    stops_held name _ began (g.W.Write.contents c.flush.new.self.began.value) (g.W.Write.contents c.flush.new.self.writer.now) after c.flush.new.self.held text same
    (Appends-kept _ _ _ text (search rules) c.flush.ensures.bytes) (search rules) (grind (arith, nat_tests))
