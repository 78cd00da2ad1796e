use Rattle.rt_print.proofs.differences.+put_prefixes.Given as goal

abbrev pub decreases-put_prefixes : goal.decreases-put_prefixes
decreases-put_prefixes g l = l.bits
