-- The invariant of the lock: a property of all words and all processes at every moment.
use Rattle.std.specs.Prelude.{◌≡◌, ◌≢◌, ℕ, ◌+◌, ◌^◌, ◌<◌, ◌≤◌, ◌==◌, Bool, true, false, nat_lt, if◌then◌else◌, IsTrue}
use Rattle.std.specs.Prelude.{◌⊎◌, ◌||◌}
use Rattle.ya_core.specs.declared.word.Word.TheVariants.{C, T, P}
use Rattle.ya_core.specs.declared.process.EntryPoint.{EntryPoint}
use Rattle.ya_core.specs.declared.process.EntryPoint.TheVariants.{E1, E2, E3, E4, E5, E6, E7, E8, E9, E10}
use Rattle.ya_core.specs.declared.process.ExitPoint.{ExitPoint}
use Rattle.ya_core.specs.declared.process.ExitPoint.TheVariants.{X1, X2, X3}
use Rattle.ya_core.specs.declared.process.Process.{Process}
use Rattle.ya_core.specs.declared.process.Process.TheVariants.{Idle, Entering, Inside, Leaving}
use Rattle.ya_core.specs.ArbitrationTree.{node_of, side_of, Rivals, AreRivals}
use Rattle.ya_core.specs.Steps.{State}

-- the progress of a process at one level
pub data Phase : Type 0 where
  Away : Phase
  -- its side of the node names it
  Named : Phase
  -- it has also announced itself at the node
  Announced : Phase
  -- it has also cleared its spin word, and looks for the rival or waits; with its point, e4 to e10
  Waiting : EntryPoint → Phase
  -- it has won the node, and keeps it until it gives up its claim
  Holding : Phase
  -- it gave up its claim, and has yet to see who announced itself last
  Releasing : Phase
  -- another place announced itself last, and it is to let that place in; with that place
  LettingIn : ℕ → Phase

-- the phase at the level that a process on its way in has reached
abbrev pub entry_phase : EntryPoint → Phase
entry_phase E1 = Away
entry_phase E2 = Named
entry_phase E3 = Announced
entry_phase point = Waiting point

-- the phase at the level that a process on its way out has reached
abbrev pub exit_phase : ExitPoint → Phase
exit_phase X1 = Holding
exit_phase X2 = Releasing
exit_phase (X3 rival) = LettingIn rival

-- it holds the levels below the one it has reached, and is away from those above
abbrev pub phase_at : ℕ → ℕ → Phase → Phase
phase_at level stands phase = if nat_lt level stands then Holding else (if level == stands then phase else Away)

-- the phase of a process at any level of the tree
abbrev pub phase_of : ℕ → ℕ → Process → Phase
phase_of levels level Idle = Away
phase_of levels level (Entering stands point) = phase_at level stands (entry_phase point)
phase_of levels level Inside = phase_at level levels Holding
phase_of levels level (Leaving stands point) = phase_at level stands (exit_phase point)

-- its side of the node names it
abbrev pub claims : Phase → Bool
claims Away = false
claims Releasing = false
claims (LettingIn rival) = false
claims _ = true

-- it has announced itself at the node
abbrev pub has_announced : Phase → Bool
has_announced Announced = true
has_announced (Waiting point) = true
has_announced Holding = true
has_announced _ = false

-- it waits
abbrev pub waits : Phase → Bool
waits (Waiting point) = true
waits _ = false

-- it holds the node
abbrev pub holds : Phase → Bool
holds Holding = true
holds _ = false

-- it gave up its claim, and has yet to see who announced itself last: x2
abbrev pub is_releasing : Phase → Bool
is_releasing Releasing = true
is_releasing _ = false

-- it knows its rival and was not woken yet: e5 to e8
abbrev pub awaits_wake : Phase → Bool
awaits_wake (Waiting (E5 rival)) = true
awaits_wake (Waiting (E6 rival)) = true
awaits_wake (Waiting (E7 rival)) = true
awaits_wake (Waiting E8) = true
awaits_wake _ = false

-- it knows its rival, was not woken yet, and has seen that it announced itself last: e6 to e8
abbrev pub saw_itself_last : Phase → Bool
saw_itself_last (Waiting (E6 rival)) = true
saw_itself_last (Waiting (E7 rival)) = true
saw_itself_last (Waiting E8) = true
saw_itself_last _ = false

-- it was woken: e9 and e10
abbrev pub was_woken : Phase → Bool
was_woken (Waiting E9) = true
was_woken (Waiting E10) = true
was_woken _ = false

-- it waits to be let in: e10
abbrev pub awaits_release : Phase → Bool
awaits_release (Waiting E10) = true
awaits_release _ = false

-- it has yet to look for the place, or knows the place and is to look at its spin word or to wake it: e3 to e7
abbrev pub is_to_wake : ℕ → Phase → Bool
is_to_wake place Announced = true
is_to_wake place (Waiting E4) = true
is_to_wake place (Waiting (E5 rival)) = rival == place
is_to_wake place (Waiting (E6 rival)) = rival == place
is_to_wake place (Waiting (E7 rival)) = rival == place
is_to_wake place _ = false

-- its next step stores 1 in the place's spin word: e7
abbrev pub wakes_next : ℕ → Phase → Bool
wakes_next place (Waiting (E7 rival)) = rival == place
wakes_next place _ = false

-- on its way out it is to find the place in the word T, or is to let the place in: x2 and x3
abbrev pub is_to_let_in : ℕ → ℕ → Phase → Bool
is_to_let_in turn place Releasing = turn == place + 1
is_to_let_in turn place (LettingIn rival) = rival == place
is_to_let_in turn place _ = false

-- one level is sound; `node` and `side` give each place's node and side there, `phase` its progress, and `claim`,
-- `turn` and `spin` the values of the words C, T and P of the level
pub record IsSoundLevel (node side : ℕ → ℕ) (phase : ℕ → Phase) (claim : ℕ → ℕ → ℕ) (turn spin : ℕ → ℕ) : Type 0 where
  -- claim: a word C names the process that claims its side, and is nil if no process does
  pub claimed : (p : ℕ) → IsTrue (claims (phase p)) → claim (node p) (side p) ≡ p + 1
  pub claimant : (n s p : ℕ) → claim n s ≡ p + 1 → (node p ≡ n) × (side p ≡ s) × IsTrue (claims (phase p))
  -- turn: a word T names a place below the node, and one of two rivals that both announced themselves; it is not nil if
  -- a process has announced itself or is releasing
  pub below : (n p : ℕ) → turn n ≡ p + 1 → node p ≡ n
  pub announced : (p : ℕ) → IsTrue (has_announced (phase p)) → turn (node p) ≢ 0
  pub releasing : (p : ℕ) → IsTrue (is_releasing (phase p)) → turn (node p) ≢ 0
  pub one_of_two : (p q : ℕ) → Rivals node side p q → IsTrue (has_announced (phase p)) → IsTrue (has_announced (phase q))
      → (turn (node p) ≡ p + 1) ⊎ (turn (node p) ≡ q + 1)
  -- waiter: if one process holds and its rival has announced itself, the rival announced itself last
  pub waiter : (p q : ℕ) → Rivals node side p q → IsTrue (holds (phase p)) → IsTrue (has_announced (phase q))
      → turn (node p) ≡ q + 1
  -- spin: a word P is 0, 1 or 2; if a waiting process has a 2, each rival that has announced itself did so last
  pub in_range : (p : ℕ) → spin p ≤ 2
  pub let_in : (p q : ℕ) → Rivals node side p q → IsTrue (waits (phase p)) → spin p ≡ 2 → IsTrue (has_announced (phase q))
      → turn (node p) ≡ q + 1

-- some rival of the place is in a phase of this kind
abbrev pub SomeRival : (node side : ℕ → ℕ) (phase : ℕ → Phase) → ℕ → (Phase → Bool) → Type 0
SomeRival node side phase p kind = (q : ℕ) × Rivals node side p q × IsTrue (kind (phase q))

-- wake: each waiting process is owed a store in its spin word
pub record IsOwed (node side : ℕ → ℕ) (phase : ℕ → Phase) (turn spin : ℕ → ℕ) (p : ℕ) : Type 0 where
  -- a process that was not woken (0) has a rival that claims its side or is to let it in. A process that was woken (1)
  -- and not let in has a rival that has announced itself or is to let it in
  pub unwoken : IsTrue (awaits_wake (phase p)) → spin p ≡ 0
      → SomeRival node side phase p (λ x. claims x || is_to_let_in (turn (node p)) p x)
  pub unreleased : IsTrue (waits (phase p)) → spin p ≡ 1
      → SomeRival node side phase p (λ x. has_announced x || is_to_let_in (turn (node p)) p x)
  pub woken : IsTrue (was_woken (phase p)) → spin p ≢ 0
  -- if another place announced itself last, it is owed a 1; later it has a 2 that no rival overwrites
  pub owed_one : turn (node p) ≢ p + 1 → IsTrue (saw_itself_last (phase p)) → spin p ≡ 0
      → SomeRival node side phase p (is_to_wake p)
  pub has_two : turn (node p) ≢ p + 1 → IsTrue (awaits_release (phase p)) → spin p ≡ 2
  pub keeps_two : turn (node p) ≢ p + 1 → IsTrue (awaits_release (phase p)) → (q : ℕ) → Rivals node side p q
      → wakes_next p (phase q) ≡ false

-- the level of a state
abbrev pub IsSoundAt : ℕ → State → ℕ → Type 0
IsSoundAt levels s level =
    IsSoundLevel (node_of level) (side_of level) (λ p. phase_of levels level (s.processes p))
    (λ n d. s.words (C level n d))
    (λ n. s.words (T level n)) (λ p. s.words (P level p))

-- each waiting process is owed a store in its spin word at the level of a state
abbrev pub IsOwedAt : ℕ → State → ℕ → Type 0
IsOwedAt levels s level =
    (p : ℕ) → IsOwed (node_of level) (side_of level) (λ q. phase_of levels level (s.processes q))
    (λ n. s.words (T level n))
    (λ q. s.words (P level q)) p

-- the rival that a point knows is a place on the other side of the node
abbrev pub EntryIsProper : ℕ → ℕ → EntryPoint → Type 0
EntryIsProper level place (E5 rival) = AreRivals level place rival
EntryIsProper level place (E6 rival) = AreRivals level place rival
EntryIsProper level place (E7 rival) = AreRivals level place rival
EntryIsProper level place _ = Unit {0}

-- on the way out the rival is another place below the node
abbrev pub ExitIsProper : ℕ → ℕ → ExitPoint → Type 0
ExitIsProper level place (X3 rival) = (node_of level place ≡ node_of level rival) × (rival ≢ place)
ExitIsProper level place _ = Unit {0}

-- a process on its way in or out has a place and a level of the tree, and its point's knowledge is true
pub record IsOnItsWay (levels place level : ℕ) (Knows : Type 0) : Type 0 where
  pub in_tree : place < 2 ^ levels
  pub least : 1 ≤ level
  pub most : level ≤ levels
  pub knows : Knows

-- a process that takes part has a place of the tree
abbrev pub IsProper : ℕ → ℕ → Process → Type 0
IsProper levels place Idle = Unit {0}
IsProper levels place (Entering level point) = IsOnItsWay levels place level (EntryIsProper level place point)
IsProper levels place Inside = place < 2 ^ levels
IsProper levels place (Leaving level point) = IsOnItsWay levels place level (ExitIsProper level place point)

-- the invariant: each process is proper, each level is sound, and at each level each waiting process is owed a store in its
-- spin word
pub record IsSoundState (levels : ℕ) (s : State) : Type 0 where
  pub proper : (p : ℕ) → IsProper levels p (s.processes p)
  pub sound : (level : ℕ) → 1 ≤ level → level ≤ levels → IsSoundAt levels s level
  pub owed : (level : ℕ) → 1 ≤ level → level ≤ levels → IsOwedAt levels s level
