-- Each step keeps its level sound, and keeps the words owed there.
use Rattle.std.proofs.Common.{◌≡◌, ◌≢◌, ℕ, ◌+◌, ◌-◌, ◌==◌, Bool, true, false, refl, arith, ap, sym, subst, ◌⊎◌, inl}
use Rattle.std.proofs.Common.{inr, IsTrue}
use Rattle.std.proofs.lemmas.Bool.Decides.{nat_tests}
use Rattle.ya_core.specs.declared.word.Word.{Word}
use Rattle.ya_core.specs.declared.word.Word.TheVariants.{C, T, P}
use Rattle.ya_core.specs.declared.word.Access.TheVariants.{Store}
use Rattle.ya_core.specs.declared.process.EntryPoint.{EntryPoint}
use Rattle.ya_core.specs.declared.process.EntryPoint.TheVariants.{E4, E5, E6, E7, E8, E9, E10}
use Rattle.ya_core.specs.ArbitrationTree.{node_of, side_of, AreRivals}
use Rattle.ya_core.specs.Steps.{State, Accesses}
use Rattle.ya_core.specs.Soundness.{Phase, Away, Named, Announced, Waiting, Holding, Releasing, LettingIn, has_announced, waits}
use Rattle.ya_core.specs.Soundness.{phase_of, IsSoundLevel, IsSoundAt, IsOwedAt}
use Rattle.ya_core.proofs.TreeSides.{side_below}
use Rattle.ya_core.proofs.PhaseKinds.{competes}
use Rattle.ya_core.proofs.Cases.{or_else}
use Rattle.ya_core.proofs.LevelClauses.{Same, SameClaims, SameWords, Alike, level_stays, alike, wakes, lets_in}
use Rattle.ya_core.proofs.LevelClauses.{claims_side, announces, clears, wins, gives_up, goes_away, last_unclaimed, last_other}
use Rattle.ya_core.proofs.LevelClauses.{last_let_in}
use Rattle.ya_core.proofs.WakeFrame.{ActsAtLevel, owed_stays}
use Rattle.ya_core.proofs.WakeLoads.{owed_named, owed_found, owed_last, owed_asleep, owed_awake, owed_woken}
use Rattle.ya_core.proofs.WakeLoads.{owed_waits, owed_wins, owed_given_up, owed_released, owed_letting_in, none_unclaimed}
use Rattle.ya_core.proofs.WakeLoads.{none_last}
use Rattle.ya_core.proofs.WakeStores.{owed_announced, owed_cleared, owed_wakes, owed_let_in}

-- equal words C have the same node and side
same_claim : (level node side n s : ℕ) → C level n s ≡ C level node side → (n ≡ node) × (s ≡ side)
same_claim level node side n s e = (cc, cc)

-- two words C are equal, or differ in node or side
claims_apart : (level node side : ℕ) (old new : Word → ℕ)
    → ((word : Word) → word ≢ C level node side → new word ≡ old word)
    → SameClaims node side (λ n s. old (C level n s)) (λ n s. new (C level n s))
claims_apart level node side old new rest n s = cases (n == node) (s == side) refl refl
  where
    cases : (b d : Bool) → (n == node) ≡ b → (s == side) ≡ d
        → ((n ≡ node) × (s ≡ side)) ⊎ (new (C level n s) ≡ old (C level n s))
    cases true true one two = inl (grind (arith, nat_tests), grind (arith, nat_tests))
    cases false d one two =
        inr (rest (C level n s)
        (λ e. (let h : n ≢ node = grind (arith, nat_tests) in h) (same_claim level node side n s e).0))
    cases true false one two =
        inr (rest (C level n s)
        (λ e. (let h : s ≢ side = grind (arith, nat_tests) in h) (same_claim level node side n s e).1))

module _ (levels place level : ℕ) (old new : State) (here : IsSoundAt levels old level)
    (owed : IsOwedAt levels old level) (others : (q : ℕ) → q ≢ place → new.processes q ≡ old.processes q) where
  -- the phases before and after
  abbrev before : ℕ → Phase
  before q = phase_of levels level (old.processes q)

  abbrev after : ℕ → Phase
  after q = phase_of levels level (new.processes q)

  same : Same place before after
  same = or_else (λ q. after q ≡ before q) place (λ q apart. ap (λ x. phase_of levels level x) (others q apart))

  -- the level is sound after the step, and what is owed there is owed still
  abbrev IsKept : Type 0
  IsKept = IsSoundAt levels new level × IsOwedAt levels new level

  -- the words of the level
  abbrev claim_words : State → ℕ → ℕ → ℕ
  claim_words s n d = s.words (C level n d)

  abbrev turn_words : State → ℕ → ℕ
  turn_words s n = s.words (T level n)

  abbrev spin_words : State → ℕ → ℕ
  spin_words s q = s.words (P level q)

  -- the step at the level
  abbrev act : ActsAtLevel
  act =
      record {
        node = node_of level;
        side = side_of level;
        two = side_below level;
        phase = before;
        claim = claim_words old;
        turn = turn_words old;
        spin = spin_words old;
        is = here;
        owed = owed;
        a = place;
        phase' = after;
        same = same;
        turn' = turn_words new;
        spin' = spin_words new;
      }

  -- no other place competes on the side of the place
  abbrev IsAlone : Type 0
  IsAlone = (q : ℕ) → node_of level q ≡ node_of level place → side_of level q ≡ side_of level place
      → IsTrue (competes (before q)) → q ≡ place

  -- the level's phases at the place before and after are these two, which are equal for the clauses
  like : (x y : Phase) → before place ≡ x → after place ≡ y → Alike y x → Alike (after place) (before place)
  like x y was now alike = subst (λ z. Alike z (before place)) (sym now) (subst (Alike y) (sym was) alike)

  -- two points at which a process waits are equal for the clauses
  waiting_alike : (x y : EntryPoint) → Alike (Waiting y) (Waiting x)
  waiting_alike x y = record { claiming = refl; past = refl; waiting = refl; holding = refl; releasing = refl }

  -- the phase of letting another place in has the same clauses as being away
  letting_alike : (rival : ℕ) → Alike (LettingIn rival) Away
  letting_alike rival = record { claiming = refl; past = refl; waiting = refl; holding = refl; releasing = refl }

  away_alike : (rival : ℕ) → Alike Away (LettingIn rival)
  away_alike rival = record { claiming = refl; past = refl; waiting = refl; holding = refl; releasing = refl }

  -- e1
  pub act_claim : before place ≡ Away → after place ≡ Named
      → Accesses (Store (C level (node_of level place) (side_of level place)) (place + 1)) old.words new.words → IsAlone
      → IsKept
  act_claim was now done alone = (
    level_stays (node_of level) (side_of level) after after (claim_words new) (claim_words new) (turn_words old)
        (turn_words new) (spin_words old) (spin_words new)
        (λ q. refl) (λ n s. refl) (λ n. done.1 (T level n) (λ e. cc)) (λ q. done.1 (P level q) (λ e. cc))
        (claims_side (node_of level) (side_of level) before (claim_words old) (turn_words old)
        (spin_words old) here place after same (claim_words new) now done.0
        (claims_apart level (node_of level place) (side_of level place) old.words new.words done.1) alone),
    owed_named act
        (λ n. done.1 (T level n) (λ e. cc)) (λ q. done.1 (P level q) (λ e. cc)) was now,
  )

  -- e2
  pub act_announce : before place ≡ Named → after place ≡ Announced
      → Accesses (Store (T level (node_of level place)) (place + 1)) old.words new.words → IsAlone → IsKept
  act_announce was now done alone = (
    level_stays (node_of level) (side_of level) after after (claim_words old) (claim_words new) (turn_words new)
        (turn_words new) (spin_words old) (spin_words new)
        (λ q. refl) (λ n s. done.1 (C level n s) (λ e. cc)) (λ n. refl) (λ q. done.1 (P level q) (λ e. cc))
        (announces (node_of level) (side_of level) before (claim_words old) (turn_words old)
        (spin_words old) here place after same (side_below level) (turn_words new) was now done.0 turns),
    owed_announced act
        (λ q. done.1 (P level q) (λ e. cc)) was now done.0 turns alone,
  )
    where
      turns : SameWords (node_of level place) (turn_words old) (turn_words new)
      turns = or_else (λ n. turn_words new n ≡ turn_words old n) (node_of level place)
          (λ n apart. done.1 (T level n) (λ e. apart cc))

  -- e3
  pub act_clear : before place ≡ Announced → after place ≡ Waiting E4
      → Accesses (Store (P level place) 0) old.words new.words → IsKept
  act_clear was now done = (
    level_stays (node_of level) (side_of level) after after (claim_words old) (claim_words new) (turn_words old)
        (turn_words new) (spin_words new) (spin_words new)
        (λ q. refl) (λ n s. done.1 (C level n s) (λ e. cc)) (λ n. done.1 (T level n) (λ e. cc)) (λ q. refl)
        (clears (node_of level) (side_of level) before (claim_words old) (turn_words old)
        (spin_words old) here place after same (spin_words new) was now done.0 spins),
    owed_cleared act
        (λ n. done.1 (T level n) (λ e. cc)) was now done.0 spins,
  )
    where
      spins : SameWords place (spin_words old) (spin_words new)
      spins = or_else (λ q. spin_words new q ≡ spin_words old q) place (λ q apart. done.1 (P level q) (λ e. apart cc))

  -- a store in the word P of another place leaves the other words P
  rest : (rival value : ℕ) → Accesses (Store (P level rival) value) old.words new.words
      → SameWords rival (spin_words old) (spin_words new)
  rest rival value done =
      or_else (λ q. spin_words new q ≡ spin_words old q) rival (λ q apart. done.1 (P level q) (λ e. apart cc))

  -- e7
  pub act_wake : (rival : ℕ) → before place ≡ Waiting (E7 rival) → after place ≡ Waiting E8
      → AreRivals level place rival → Accesses (Store (P level rival) 1) old.words new.words → IsKept
  act_wake rival was now there done = (
    level_stays (node_of level) (side_of level) after after (claim_words old) (claim_words new) (turn_words old)
        (turn_words new) (spin_words new) (spin_words new)
        (λ q. refl) (λ n s. done.1 (C level n s) (λ e. cc)) (λ n. done.1 (T level n) (λ e. cc)) (λ q. refl)
        (alike (node_of level) (side_of level) before (claim_words old) (turn_words old) (spin_words new)
        (wakes (node_of level) (side_of level) before (claim_words old) (turn_words old) (spin_words old) here rival
        (spin_words new) done.0 (rest rival 1 done))
        place after same (like (Waiting (E7 rival)) (Waiting E8) was now (waiting_alike (E7 rival) E8))),
    owed_wakes act rival
        (λ n. done.1 (T level n) (λ e. cc)) (rest rival 1 done)
        (λ e. there.1 (ap (side_of level) (sym e))) was now there done.0,
  )

  -- x3
  pub act_let_in : (rival : ℕ) → before place ≡ LettingIn rival → after place ≡ Away
      → node_of level place ≡ node_of level rival → rival ≢ place
      → Accesses (Store (P level rival) 2) old.words new.words → IsAlone → IsKept
  act_let_in rival was now below other done alone = (
    level_stays (node_of level) (side_of level) after after (claim_words old) (claim_words new) (turn_words old)
        (turn_words new) (spin_words new) (spin_words new)
        (λ q. refl) (λ n s. done.1 (C level n s) (λ e. cc)) (λ n. done.1 (T level n) (λ e. cc)) (λ q. refl)
        (alike (node_of level) (side_of level) before (claim_words old) (turn_words old) (spin_words new)
        (lets_in (node_of level) (side_of level) before (claim_words old) (turn_words old) (spin_words old) here
        (side_below level) place rival (spin_words new)
        (subst (λ z. Alike z Away) (sym was) (letting_alike rival)) below other done.0 (rest rival 2 done) alone)
        place after same (like (LettingIn rival) Away was now (away_alike rival))),
    owed_let_in act rival
        (λ n. done.1 (T level n) (λ e. cc)) (rest rival 2 done) other was now done.0,
  )

  -- x1
  pub act_give_up : before place ≡ Holding → after place ≡ Releasing
      → Accesses (Store (C level (node_of level place) (side_of level place)) 0) old.words new.words → IsKept
  act_give_up was now done = (
    level_stays (node_of level) (side_of level) after after (claim_words new) (claim_words new) (turn_words old)
        (turn_words new) (spin_words old) (spin_words new)
        (λ q. refl) (λ n s. refl) (λ n. done.1 (T level n) (λ e. cc)) (λ q. done.1 (P level q) (λ e. cc))
        (gives_up (node_of level) (side_of level) before (claim_words old) (turn_words old)
        (spin_words old) here place after same (claim_words new) was now done.0
        (claims_apart level (node_of level place) (side_of level place) old.words new.words done.1)),
    owed_given_up act
        (λ n. done.1 (T level n) (λ e. cc)) (λ q. done.1 (P level q) (λ e. cc)) was now,
  )

  module _ (words : (word : Word) → new.words word ≡ old.words word) where
    -- a load changes no word
    turns : (n : ℕ) → turn_words new n ≡ turn_words old n
    turns n = words (T level n)

    spins : (q : ℕ) → spin_words new q ≡ spin_words old q
    spins q = words (P level q)

    by_load : IsSoundLevel (node_of level) (side_of level) after (claim_words old) (turn_words old) (spin_words old)
        → IsSoundAt levels new level
    by_load is =
        level_stays (node_of level) (side_of level) after after (claim_words old) (claim_words new) (turn_words old)
        (turn_words new) (spin_words old) (spin_words new)
        (λ q. refl) (λ n s. words (C level n s)) turns spins is

    -- a load after which the process waits at another point
    still_waits : (x y : EntryPoint) → before place ≡ Waiting x → after place ≡ Waiting y → IsSoundAt levels new level
    still_waits x y was now =
        by_load (alike (node_of level) (side_of level) before (claim_words old) (turn_words old)
        (spin_words old) here place after same (like (Waiting x) (Waiting y) was now (waiting_alike x y)))

    -- e8 and e10: the process stays
    pub act_stay : after place ≡ before place → IsKept
    act_stay still = (
      level_stays (node_of level) (side_of level) before after (claim_words old) (claim_words new) (turn_words old)
          (turn_words new) (spin_words old) (spin_words new) phases (λ n s. words (C level n s)) turns spins here,
      owed_stays (node_of level) (side_of level) before after (turn_words old) (turn_words new) (spin_words old)
          (spin_words new) phases turns spins owed,
    )
      where
        phases : (q : ℕ) → after q ≡ before q
        phases q = grind (arith, same q)

    -- e4: the other side names a place
    pub act_found : (rival : ℕ) → before place ≡ Waiting E4 → after place ≡ Waiting (E5 rival)
        → old.words (C level (node_of level place) (1 - side_of level place)) ≡ rival + 1 → IsKept
    act_found rival was now found = (
      still_waits E4 (E5 rival) was now,
      owed_found act turns spins rival was now found,
    )

    -- e5: the place announced itself last
    pub act_last : (rival : ℕ) → before place ≡ Waiting (E5 rival) → after place ≡ Waiting (E6 rival)
        → old.words (T level (node_of level place)) ≡ place + 1 → IsKept
    act_last rival was now own = (
      still_waits (E5 rival) (E6 rival) was now,
      owed_last act turns spins rival was now own,
    )

    -- e6: the rival's spin word is 0, or it isn't
    pub act_asleep : (rival : ℕ) → before place ≡ Waiting (E6 rival) → after place ≡ Waiting (E7 rival)
        → old.words (P level rival) ≡ 0 → IsKept
    act_asleep rival was now zero = (
      still_waits (E6 rival) (E7 rival) was now,
      owed_asleep act turns spins rival was now zero,
    )

    pub act_awake : (rival : ℕ) → before place ≡ Waiting (E6 rival) → after place ≡ Waiting E8
        → old.words (P level rival) ≢ 0 → IsKept
    act_awake rival was now some = (
      still_waits (E6 rival) E8 was now,
      owed_awake act turns spins rival was now some,
    )

    -- e8: the place was woken
    pub act_woken : before place ≡ Waiting E8 → after place ≡ Waiting E9 → old.words (P level place) ≢ 0 → IsKept
    act_woken was now some = (
      still_waits E8 E9 was now,
      owed_woken act turns spins was now some,
    )

    -- e9: the place announced itself last
    pub act_waits : before place ≡ Waiting E9 → after place ≡ Waiting E10
        → old.words (T level (node_of level place)) ≡ place + 1 → IsKept
    act_waits was now own = (
      still_waits E9 E10 was now,
      owed_waits act turns spins was now own,
    )

    -- x2: the place announced itself last, or another did
    pub act_release : before place ≡ Releasing → after place ≡ Away → old.words (T level (node_of level place)) ≡ place + 1
        → IsKept
    act_release was now own = (
      by_load (goes_away (node_of level) (side_of level) before (claim_words old) (turn_words old)
          (spin_words old) here place after same was
          (subst (λ z. Alike z Away) (sym now)
          (record { claiming = refl; past = refl; waiting = refl; holding = refl; releasing = refl }))),
      owed_released act turns spins was now own,
    )

    pub act_see : before place ≡ Releasing → after place ≡ LettingIn (old.words (T level (node_of level place)) - 1)
        → IsKept
    act_see was now = (
      by_load (goes_away (node_of level) (side_of level) before (claim_words old) (turn_words old)
          (spin_words old) here place after same was
          (subst (λ z. Alike z Away) (sym now) (letting_alike (old.words (T level (node_of level place)) - 1)))),
      owed_letting_in act turns spins was now,
    )

    -- e4: the other side is nil
    pub act_win_unclaimed : before place ≡ Waiting E4 → after place ≡ Holding
        → old.words (C level (node_of level place) (1 - side_of level place)) ≡ 0 → IsKept
    act_win_unclaimed was now nil = (
      by_load (wins (node_of level) (side_of level) before (claim_words old) (turn_words old)
          (spin_words old) here place after same E4 was now
          (last_unclaimed (node_of level) (side_of level) before (claim_words old) (turn_words old)
          (spin_words old) here place after same (side_below level) nil)),
      owed_wins act turns spins E4 was now
          (λ p rivals other h zero k. none_unclaimed act turns spins nil p rivals h),
    )

    -- e5 and e9: another place announced itself last
    pub act_win_other : (point : EntryPoint) → before place ≡ Waiting point → after place ≡ Holding
        → old.words (T level (node_of level place)) ≢ place + 1 → IsKept
    act_win_other point was now other = (
      by_load (wins (node_of level) (side_of level) before (claim_words old) (turn_words old)
          (spin_words old) here place after same point was now
          (last_other (node_of level) (side_of level) before (claim_words old) (turn_words old)
          (spin_words old) here place after same other (ap has_announced was))),
      owed_wins act turns spins point was now
          (λ p rivals apart h zero k. none_last act turns spins (ap has_announced was) other p rivals apart h),
    )

    -- e10: the place was let in
    pub act_win_let_in : before place ≡ Waiting E10 → after place ≡ Holding → old.words (P level place) ≡ 2 → IsKept
    act_win_let_in was now two = (
      by_load (wins (node_of level) (side_of level) before (claim_words old) (turn_words old)
          (spin_words old) here place after same E10 was now
          (last_let_in (node_of level) (side_of level) before (claim_words old) (turn_words old)
          (spin_words old) here place after same two (ap waits was))),
      owed_wins act turns spins E10 was now
          (λ p rivals apart h zero k. absurd cc),
    )
