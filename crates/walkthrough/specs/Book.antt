-- The replies to two feeds.
use Rattle.std.specs.Prelude.{◌≡◌, ℕ, []}
use Rattle.rt_rib.specs.declared.commands.Cmd.{Cmd}
use Rattle.rt_rib.specs.declared.commands.Reply.{Reply}
use Rattle.rt_rib.specs.Sequential.{reply_of, table_after}

-- feed 1's command is answered from the empty table, and feed 2's from the table after it
pub record AnswersBoth (limit : ℕ) (first second : Cmd) (reply reply' : Reply) : Type 0 where
  pub of_first : reply ≡ reply_of limit [] 1 first
  pub of_second : reply' ≡ reply_of limit (table_after limit [] 1 first) 2 second
