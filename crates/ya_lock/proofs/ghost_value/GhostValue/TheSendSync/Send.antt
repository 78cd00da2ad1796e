-- A ghost value owns nothing, so any thread may have it.
use denote.RattleType.{RattleType}
use denote.Param.Send.{IsSend}
use Rattle.ya_lock.specs.contracts.ghost_value.GhostValue.{the_row}

pub send : (T : RattleType) → IsSend (the_row T)
send T = record { owned = λ d vs. ((λ vss. (tt, ((λ uss. (tt, tt)), tt))), tt); leaving = λ k f vs. tt }
