use Rattle.rt_fib.proofs.Others.{served_others}
use Rattle.rt_fib.proofs.laws.commands_preserve_other_routes.Goals as goal

pub returns : goal.returns
returns c = λ old new feed cmd reply serves. served_others old new feed cmd reply c.put_in_adds.ensures c.take_out_leaves_others.ensures serves
