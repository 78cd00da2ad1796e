-- The visits held by a gate that remembers the commands that it has answered, each with its reply.
use Rattle.std.proofs.Common.{◌≡◌, List, [], ◌∷◌, ◌++◌, length, zip, refl, sym, ◌∙◌, arith, append_assoc, append-nil, length-append}
use Rattle.std.proofs.Common.{Result, Ok, Err, OnErr}
use Rattle.std.proofs.lemmas.Grind.{flat_map-append}
use Rattle.rt_rib.specs.declared.commands.Cmd.{Cmd}
use Rattle.rt_shared.specs.declared.outcome.Outcome.{Outcome}
use Rattle.rt_shared.specs.JournalVisits.{AnsweredBatch, reply_to, visit_of}
use Rattle.rt_feed.specs.Visits.{concatenated}

-- one command more
pub visit_more : (cmds : List Cmd) (cmd : Cmd) (outcomes : List Outcome) (o : Outcome) → length outcomes ≡ length cmds
    → visit_of (zip (cmds ++ cmd ∷ []) (outcomes ++ o ∷ [])) ≡ visit_of (zip cmds outcomes) ++ reply_to cmd o
visit_more [] cmd [] o same = append-nil (reply_to cmd o)
visit_more (c ∷ cmds) cmd (p ∷ outcomes) o same = rw (visit_more cmds cmd outcomes o (omega arith), append_assoc) refl
visit_more cmds cmd outcomes o same = absurd (omega arith)

-- a gate that has answered one more visit holds it after the others
pub gains_visit : (old new v : AnsweredBatch) → new ≡ old ++ v → (visits : List AnsweredBatch) → old ≡ concatenated visits → new ≡ concatenated (visits ++ v ∷ [])
gains_visit old new v more visits held = rw (flat_map-append (λ (visit : AnsweredBatch). visit), append-nil, ← held) more

-- and a gate that has answered nothing more holds an empty visit after them
pub gains_still : (old new : AnsweredBatch) → new ≡ old → (visits : List AnsweredBatch) → old ≡ concatenated visits → new ≡ concatenated (visits ++ [] ∷ [])
gains_still old new same = gains_visit old new [] (same ∙ sym (append-nil old))

pub gains_nothing : (answered : AnsweredBatch) (visits : List AnsweredBatch) → answered ≡ concatenated visits → answered ≡ concatenated (visits ++ [] ∷ [])
gains_nothing answered = gains_still answered answered refl

-- the commands had these outcomes, and the answers are those of the commands with a reply
pub record HasAnswered (cmds : List Cmd) (old : AnsweredBatch) (before : List Outcome) (now : AnsweredBatch) (after : List Outcome) : Type 0 where
  pub outcomes : List Outcome
  pub each : length outcomes ≡ length cmds
  pub appended : after ≡ before ++ outcomes
  pub added : now ≡ old ++ visit_of (zip cmds outcomes)

-- one more
pub answered_more : (cmds : List Cmd) (cmd : Cmd) (old : AnsweredBatch) (before : List Outcome) (now next : AnsweredBatch) (after : List Outcome) (o : Outcome)
    → HasAnswered cmds old before now after → next ≡ now ++ reply_to cmd o → HasAnswered (cmds ++ cmd ∷ []) old before next (after ++ o ∷ [])
answered_more cmds cmd old before now next after o so_far more = record {
  outcomes = so_far.outcomes ++ o ∷ [];
  each = omega (arith, so_far.each, length-append so_far.outcomes (o ∷ []), length-append cmds (cmd ∷ []));
  appended = rw (so_far.appended, append_assoc) refl;
  added = rw (visit_more cmds cmd so_far.outcomes o so_far.each, ← append_assoc, ← so_far.added) more;
}

-- a batch that was refused before any command was executed: no outcome was appended, and the visit is empty
pub refuses_batch : {X E : Type 0} (r : Result X E) (answered : AnsweredBatch) (before after : List Outcome) → after ≡ before
    → OnErr r ((after ≡ before) × ((visits : List AnsweredBatch) → answered ≡ concatenated visits → answered ≡ concatenated (visits ++ [] ∷ [])))
refuses_batch (Ok x) answered before after e = tt
refuses_batch (Err refused) answered before after e = (e, gains_nothing answered)
