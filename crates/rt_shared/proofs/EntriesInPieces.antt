-- The entries of a feed's commands, piece by piece.
use Rattle.std.proofs.Common.{◌≡◌, ℕ, List, [], ◌∷◌, ◌++◌, length, refl, sym, ap, ◌∙◌, append_assoc, length-append, arith, append-nil, IfOk, OnErr}
use Rattle.std.proofs.Common.{Result, Ok, Err}
use Rattle.std.proofs.lemmas.List.Elements.{All-nil, All-cons}
use Rattle.rt_rib.specs.declared.commands.Cmd.{Cmd}
use Rattle.rt_rib.specs.declared.commands.Entry.{Entry}
use Rattle.rt_rib.specs.declared.commands.Reply.{Reply}
use Rattle.rt_rib.specs.Book.{Applies, Refuses}
use Rattle.rt_shared.specs.declared.outcome.Outcome.{Outcome}
use Rattle.rt_shared.specs.declared.outcome.Outcome.TheVariants.{Did, Refused}
use Rattle.rt_shared.specs.JournalVisits.{answered, AllBy}
use Rattle.rt_shared.specs.inside.ServedBatch.{AreServed}
use Rattle.rt_shared.specs.declared.lent.Lent.{Lent}
use Rattle.rt_shared.specs.SharedTable.{feed_of, GrowsByFeed}

-- the entries of two pieces are those of the first, and then those of the second
pub answered_append : (feed : ℕ) (xs ys : List Cmd) (os ps : List Outcome) → length os ≡ length xs
    → answered feed (xs ++ ys) (os ++ ps) ≡ answered feed xs os ++ answered feed ys ps
answered_append feed [] ys [] ps same = refl
answered_append feed [] ys (o ∷ os) ps same = absurd (omega arith)
answered_append feed (x ∷ xs) ys [] ps same = absurd (omega arith)
answered_append feed (x ∷ xs) ys (Did reply ∷ os) ps same =
    ap (λ (l : List Entry). record { feed = feed; cmd = x; reply = reply } ∷ l) (answered_append feed xs ys os ps (omega arith))
answered_append feed (x ∷ xs) ys (Refused ∷ os) ps same = answered_append feed xs ys os ps (omega arith)

-- one command more
pub served_more : (feed : ℕ) (cmds : List Cmd) (cmd : Cmd) (found : List Entry) (before : List Outcome) (now next : List Entry)
    (after : List Outcome) (o : Outcome)
    → AreServed feed cmds found before now after → next ≡ now ++ answered feed (cmd ∷ []) (o ∷ [])
    → AreServed feed (cmds ++ cmd ∷ []) found before next (after ++ o ∷ [])
served_more feed cmds cmd found before now next after o a e = record {
  outcomes = a.outcomes ++ o ∷ [];
  appended = ap (λ (l : List Outcome). l ++ o ∷ []) a.appended ∙ append_assoc before a.outcomes (o ∷ []);
  each = omega (arith, a.each, length-append a.outcomes (o ∷ []), length-append cmds (cmd ∷ []));
  added = e ∙ (ap (λ (l : List Entry). l ++ answered feed (cmd ∷ []) (o ∷ [])) a.added
      ∙ (append_assoc found (answered feed cmds a.outcomes) (answered feed (cmd ∷ []) (o ∷ []))
      ∙ ap (λ (l : List Entry). found ++ l) (sym (answered_append feed cmds (cmd ∷ []) a.outcomes (o ∷ []) a.each))));
}

-- they are all the feed's
pub all_answered : (feed : ℕ) (cmds : List Cmd) (outcomes : List Outcome) → AllBy feed (answered feed cmds outcomes)
all_answered feed [] [] = All-nil _
all_answered feed [] (o ∷ os) = All-nil _
all_answered feed (cmd ∷ cmds) [] = All-nil _
all_answered feed (cmd ∷ cmds) (Did reply ∷ os) =
    All-cons (λ (e : Entry). e.feed ≡ feed) (record { feed = feed; cmd = cmd; reply = reply }) (answered feed cmds os) refl (all_answered feed cmds os)
all_answered feed (cmd ∷ cmds) (Refused ∷ os) = all_answered feed cmds os

-- without an outcome there are no entries
pub nothing_answered : (feed : ℕ) (cmds : List Cmd) → answered feed cmds [] ≡ []
nothing_answered feed [] = refl
nothing_answered feed (cmd ∷ cmds) = refl

-- a book that has answered a command, or refused it, has added what is the feed's
pub adds_applied : {E : Type 0} (place feed : ℕ) (cmd : Cmd) (old new : Lent) (r : Result Reply E) → feed ≡ feed_of place → new.feeds ≡ old.feeds
    → IfOk r (λ reply. Applies old.book new.book feed cmd reply) → OnErr r (Refuses old.book new.book feed cmd) → GrowsByFeed place old new
adds_applied place feed cmd old new (Ok reply) is feeds did refused = record {
  same = record { limit = did.limited; feeds = feeds };
  own = record { feed = feed; cmd = cmd; reply = reply } ∷ [];
  added = did.journaled;
  by_feed = All-cons (λ (e : Entry). e.feed ≡ feed_of place) (record { feed = feed; cmd = cmd; reply = reply }) [] is (All-nil _);
}
adds_applied place feed cmd old new (Err fault) is feeds did refused = record {
  same = record { limit = refused.limited; feeds = feeds };
  own = [];
  added = refused.journaled ∙ sym (append-nil old.book.journal);
  by_feed = All-nil _;
}
