-- The contents of a journal.
use Rattle.std.specs.Prelude.{List, map}
use Rattle.rt_rib.specs.declared.commands.Entry.{Entry}
use Rattle.rt_shared.specs.JournalVisits.{AnsweredBatch}

-- the commands of a journal with their replies
abbrev pub told : List Entry → AnsweredBatch
told journal = map (λ e. (e.cmd, e.reply)) journal
