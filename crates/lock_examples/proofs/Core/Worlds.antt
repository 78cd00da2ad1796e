-- Examples of worlds and of real time, and schedules that bring two places inside by one mistake.
use Rattle.std.proofs.Common.{◌≡◌, ℕ, zero, suc, ◌+◌, ◌^◌, ◌<◌, Bool, true, false, if◌then◌else◌, List, [], ◌∷◌, ◌++◌, ◌&&◌, Some, None}
use Rattle.std.proofs.Common.{ltb, map, refl, ap, sym, ◌∙◌, arith}
use Rattle.std.proofs.lemmas.Bool.{and_parts, ltb-true}
use Rattle.ya_core.specs.declared.process.EntryPoint.TheVariants.{E1, E10}
use Rattle.ya_core.specs.declared.process.ExitPoint.TheVariants.{X1}
use Rattle.ya_core.specs.declared.process.Process.TheVariants.{Idle, Entering, Inside, Leaving}
use Rattle.ya_core.specs.ArbitrationTree.{node_of, side_of}
use Rattle.ya_core.specs.Steps.{State, opening}
use Rattle.ya_core.specs.Progress.{SomeoneGoesOnIn}
use Rattle.ya_core.specs.Worlds.{Marked, World, Event, Steps, Appends, WorldSteps, WorldAppends, IsInside, IsReached, Runs, Happens, any_entry, is_inside}
use Rattle.ya_core.specs.Worlds.{opening_world, entries_of, ReportsInside, places_of, FollowsFrom, EachMayFollow}
use Rattle.ya_core.specs.RealTime.{KeepsRealTimeOrder}
use Rattle.ya_core.proofs.Content.{entries_of-marked_other}
use Rattle.std.specs.Prelude.{◌-◌, length}
use Rattle.lock_examples.proofs.Core.Steps.{after, all_after, all_inside, set, set-itself, set-other, steps_to}
use Rattle.lock_examples.proofs.Core.Progress.{stays_stuck, stuck}

-- is_inside
one_inside_is : is_inside Inside ≡ true
one_inside_is = refl

one_at_the_root_is_not_yet : is_inside (Entering 2 E10) ≡ false
one_at_the_root_is_not_yet = refl

one_alone_of_the_four : map is_inside (Idle ∷ Entering 1 E1 ∷ Inside ∷ Leaving 1 X1 ∷ []) ≡ false ∷ false ∷ true ∷ false ∷ []
one_alone_of_the_four = refl

-- IsInside
after_four_steps_it_is : IsInside (all_after 1 (0 ∷ 0 ∷ 0 ∷ 0 ∷ []) opening) 0
unfolding node_of side_of
after_four_steps_it_is = refl

after_three_it_is_not : ¬ IsInside (all_after 1 (0 ∷ 0 ∷ 0 ∷ []) opening) 0
unfolding node_of side_of
after_three_it_is_not h = cc

-- the world after an event
abbrev stepped : {X : Type 0} → ℕ → World X → State → Bool → Bool → World X
stepped place world state was is = record {
  state = state;
  content = if was then world.copies place else world.content;
  copies = set place (if is then world.content else world.copies place) world.copies;
  doing = set place (if is then [] else world.doing place) world.doing;
  made = set place (if was then world.made place ++ world.doing place else world.made place) world.made;
}

abbrev stepped_to : {X : Type 0} → ℕ → World X → State → World X
stepped_to place world state = stepped place world state (is_inside (world.state.processes place)) (is_inside (state.processes place))

abbrev appended : {X : Type 0} → ℕ → X → World X → World X
appended place entry world = record {
  state = world.state;
  content = world.content;
  copies = set place (world.copies place ++ (place, entry) ∷ []) world.copies;
  doing = set place (world.doing place ++ entry ∷ []) world.doing;
  made = world.made;
}

abbrev follows : {X : Type 0} → ℕ → Event X → World X → World X
follows levels (Steps place) world = stepped_to place world (after levels place world.state)
follows levels (Appends place entry) world = appended place entry world

-- the world after these events
abbrev pub follow : {X : Type 0} → ℕ → List (Event X) → World X → World X
follow levels [] world = world
follow levels (event ∷ events) world = follow levels events (follows levels event world)

-- each place that steps is one of the tree
abbrev pub step_in_tree : {X : Type 0} → ℕ → List (Event X) → Bool
step_in_tree levels [] = true
step_in_tree levels (Steps place ∷ events) = ltb place (2 ^ levels) && step_in_tree levels events
step_in_tree levels (Appends place entry ∷ events) = step_in_tree levels events

module _ {X : Type 0} (levels : ℕ) (may : List (Marked X) → Marked X → Type 0) where
  -- the event may happen in the world
  abbrev pub MayHappen : Event X → World X → Type 0
  MayHappen (Steps place) world = place < 2 ^ levels
  MayHappen (Appends place entry) world = IsInside world.state place × may (world.copies place) (place, entry)

  -- each entry may be made where it is made
  abbrev pub MayAppend : List (Event X) → World X → Type 0
  MayAppend [] world = Unit {0}
  MayAppend (Steps place ∷ events) world = MayAppend events (follows levels (Steps place) world)
  MayAppend (Appends place entry ∷ events) world =
      MayHappen (Appends place entry) world × MayAppend events (appended place entry world)

  pub happens : (event : Event X) (world : World X) → MayHappen event world → Happens levels may event world (follows levels event world)
  happens (Steps place) world room = record {
    state = steps_to levels place world.state room;
    copy = set-itself place _ world.copies;
    doing = set-itself place _ world.doing;
    content = refl;
    made = set-itself place _ world.made;
    others_copy = set-other place _ world.copies;
    others_doing = set-other place _ world.doing;
    others_made = set-other place _ world.made;
  }
  happens (Appends place entry) world inside = record {
    inside = inside.0;
    may_follow = inside.1;
    state = refl;
    content = refl;
    copy = set-itself place _ world.copies;
    doing = set-itself place _ world.doing;
    made = refl;
    others_copy = set-other place _ world.copies;
    others_doing = set-other place _ world.doing;
    others_made = λ other apart. refl;
  }

  pub runs : (events : List (Event X)) (world : World X) → step_in_tree levels events ≡ true → MayAppend events world
      → Runs levels may world events (follow levels events world)
  runs [] world room all = refl
  runs (Steps place ∷ events) world room all =
      let next : World X = follows levels (Steps place) world in
      let rooms = and_parts (ltb place (2 ^ levels)) (step_in_tree levels events) room in
      (next, happens (Steps place) world (ltb-true place (2 ^ levels) rooms.0), runs events next rooms.1 all)
  runs (Appends place entry ∷ events) world room all =
      let next : World X = appended place entry world in
      (next, happens (Appends place entry) world all.0, runs events next room all.1)

-- place 0 and then place 1 goes inside and makes an entry
abbrev one_after_the_other : List (Event ℕ)
one_after_the_other =
    Steps 0 ∷ Steps 0 ∷ Steps 0 ∷ Steps 0 ∷ Appends 0 7 ∷ Steps 0 ∷ Steps 0
    ∷ Steps 1 ∷ Steps 1 ∷ Steps 1 ∷ Steps 1 ∷ Appends 1 8 ∷ Steps 1 ∷ Steps 1 ∷ []

-- both go in at once: place 1 announces itself last, waits at its spin word, and is let in by place 0
abbrev both_compete : List (Event ℕ)
both_compete =
    Steps 0 ∷ Steps 1 ∷ Steps 0 ∷ Steps 1 ∷ Steps 0 ∷ Steps 1 ∷ Steps 0 ∷ Steps 1 ∷ Steps 0 ∷ Appends 0 7
    ∷ Steps 1 ∷ Steps 1 ∷ Steps 1 ∷ Steps 1 ∷ Steps 0 ∷ Steps 0 ∷ Steps 0
    ∷ Steps 1 ∷ Steps 1 ∷ Steps 1 ∷ Appends 1 8 ∷ Steps 1 ∷ Steps 1 ∷ []

-- true if both places are inside after these steps
abbrev both_inside : (levels p q : ℕ) → List ℕ → Bool
both_inside levels p q picks =
    let s = (follow {X = ℕ} levels (map (λ place. Steps place) picks) opening_world).state in
    is_inside (s.processes p) && is_inside (s.processes q)

-- Each of these schedules brings two places inside if the step relation has one mistake.

-- entry_access
one_alone_whose_claim_comes_before_its_turn : both_inside 1 0 1 (0 ∷ 1 ∷ 1 ∷ 1 ∷ 1 ∷ 0 ∷ 0 ∷ 0 ∷ 0 ∷ []) ≡ false
unfolding node_of side_of
one_alone_whose_claim_comes_before_its_turn = refl

one_alone_whose_spin_word_is_cleared_behind_its_turn :
    both_inside 1 0 1
    (0 ∷ 0 ∷ 0 ∷ 0 ∷ 0 ∷ 1 ∷ 1 ∷ 1 ∷ 0 ∷ 1 ∷ 1 ∷ 1 ∷ 1 ∷ 1 ∷ 0 ∷ 0 ∷ 0 ∷ 0 ∷ 0 ∷ 1 ∷ 0 ∷ 1 ∷ 1 ∷ 1 ∷ 1 ∷ 1 ∷ 1
    ∷ 1 ∷ []) ≡ false
unfolding node_of side_of
one_alone_whose_spin_word_is_cleared_behind_its_turn = refl

-- entry_next
one_alone_that_waits_on_its_own_turn : both_inside 1 0 1 (0 ∷ 0 ∷ 0 ∷ 0 ∷ 1 ∷ 1 ∷ 1 ∷ 1 ∷ 1 ∷ []) ≡ false
unfolding node_of side_of
one_alone_that_waits_on_its_own_turn = refl

-- access_of
one_alone_that_leaves_from_the_root :
    both_inside 2 1 2
    (0 ∷ 0 ∷ 0 ∷ 0 ∷ 0 ∷ 0 ∷ 0 ∷ 0 ∷ 0 ∷ 0 ∷ 1 ∷ 1 ∷ 1 ∷ 1 ∷ 1 ∷ 0 ∷ 1 ∷ 1 ∷ 1 ∷ 2 ∷ 2 ∷ 2 ∷ 2 ∷ 2 ∷ 2 ∷ 2 ∷ 2
    ∷ []) ≡ false
unfolding node_of side_of
one_alone_that_leaves_from_the_root = refl

-- place 0 is inside, and its copy has an entry
abbrev one_inside : World ℕ
one_inside = follow 1 (Steps 0 ∷ Steps 0 ∷ Steps 0 ∷ Steps 0 ∷ Appends 0 7 ∷ []) opening_world

-- opening_world
nothing_was_made : (opening_world {X = ℕ}).content ≡ []
nothing_was_made = refl

-- WorldAppends
to_its_copy : WorldAppends any_entry 0 9 one_inside (appended 0 9 one_inside)
unfolding node_of side_of
to_its_copy = happens 1 any_entry (Appends 0 9) one_inside (refl, tt)

nothing_from_outside : (world : World ℕ) → ¬ WorldAppends any_entry 1 9 one_inside world
unfolding node_of side_of
nothing_from_outside world h = let inside = h.inside in cc

-- WorldSteps
its_entry_is_in_no_content_yet : one_inside.content ≡ []
unfolding node_of side_of
its_entry_is_in_no_content_yet = refl

one_that_leaves_writes_its_copy : (world : World ℕ) → WorldSteps 1 0 one_inside world → world.content ≡ (0, 7) ∷ []
unfolding node_of side_of
one_that_leaves_writes_its_copy world h = h.content

another_that_steps_writes_nothing : (world : World ℕ) → WorldSteps 1 1 one_inside world → world.content ≡ []
unfolding node_of side_of
another_that_steps_writes_nothing world h = h.content

-- Happens
an_entry_of_one_inside : Happens 1 any_entry (Appends 0 9) one_inside (appended 0 9 one_inside)
an_entry_of_one_inside = to_its_copy

-- Runs
no_event_no_change : (world : World ℕ) → Runs 1 any_entry one_inside [] world → world ≡ one_inside
no_event_no_change world h = h

-- any_entry
whatever_came_before : any_entry {X = ℕ} ((0, 7) ∷ []) (1, 8)
whatever_came_before = tt

-- SomeoneGoesOnIn
one_inside_goes_on : SomeoneGoesOnIn 1 one_inside
unfolding node_of side_of
one_inside_goes_on = record {
  place = 0;
  busy = λ e. cc;
  after = follows 1 (Steps 0) one_inside;
  step = happens 1 any_entry (Steps 0) one_inside (omega arith);
  goes_on = λ e. cc;
}

nobody_at_the_start : ¬ SomeoneGoesOnIn 1 (opening_world {X = ℕ})
nobody_at_the_start h = h.busy refl

-- the world with that state
abbrev stuck_world : World ℕ
stuck_world = stepped 0 opening_world stuck false false

nobody_in_the_world_where_the_only_one_waits : ¬ SomeoneGoesOnIn 1 stuck_world
nobody_in_the_world_where_the_only_one_waits h = h.goes_on (stays_stuck h.place h.after.state h.busy h.step.state)

-- IsReached
both_make_an_entry : (world : World ℕ) × IsReached 1 any_entry one_after_the_other world × (world.content ≡ (0, 7) ∷ (1, 8) ∷ [])
unfolding node_of side_of
both_make_an_entry = (
  follow 1 one_after_the_other opening_world,
  runs 1 any_entry one_after_the_other opening_world refl ((refl, tt), ((refl, tt), tt)),
  refl,
)

both_make_an_entry_where_they_compete : (world : World ℕ) × IsReached 1 any_entry both_compete world × (world.content ≡ (0, 7) ∷ (1, 8) ∷ [])
unfolding node_of side_of
both_make_an_entry_where_they_compete = (
  follow 1 both_compete opening_world,
  runs 1 any_entry both_compete opening_world refl ((refl, tt), ((refl, tt), tt)),
  refl,
)

-- a property of places 0 and 1 and of all others holds for each place
each_place : (A : ℕ → Type 0) → A 0 → A 1 → ((place : ℕ) → A (suc (suc place))) → (place : ℕ) → A place
each_place A first second others zero = first
each_place A first second others (suc zero) = second
each_place A first second others (suc (suc place)) = others place

-- the entries that places 0 and 1 made, by place
abbrev of_two : List ℕ → List ℕ → ℕ → List ℕ
of_two first second zero = first
of_two first second (suc zero) = second
of_two first second (suc (suc place)) = []

-- a world with this content, where places 0 and 1 made these entries
abbrev made_by_both : List (Marked ℕ) → List ℕ → List ℕ → World ℕ
made_by_both content first second =
    record { state = opening; content = content; copies = λ _. []; doing = λ _. []; made = of_two first second }

-- place 0 made 7
abbrev one_was_made : World ℕ
one_was_made = made_by_both ((0, 7) ∷ []) (7 ∷ []) []

-- KeepsRealTimeOrder
what_was_made_stands_first : KeepsRealTimeOrder one_was_made (made_by_both ((0, 7) ∷ (1, 8) ∷ []) (7 ∷ []) (8 ∷ []))
what_was_made_stands_first = record {
  since = (1, 8) ∷ [];
  content = refl;
  made = each_place (λ place. entries_of place ((0, 7) ∷ []) ≡ of_two (7 ∷ []) [] place) refl refl
      (λ place. entries_of-marked_other (suc (suc place)) 0 (7 ∷ []) (λ same. cc));
  made_since = each_place (λ place. of_two (7 ∷ []) (8 ∷ []) place ≡ of_two (7 ∷ []) [] place ++ entries_of place ((1, 8) ∷ [])) refl refl
      (λ place. sym (entries_of-marked_other (suc (suc place)) 1 (8 ∷ []) (λ same. cc)));
}

nothing_comes_before_it : ¬ KeepsRealTimeOrder one_was_made (made_by_both ((1, 8) ∷ (0, 7) ∷ []) (7 ∷ []) (8 ∷ []))
nothing_comes_before_it h =
    let content = h.content in
    let entry : ◌≡◌ {A = Marked ℕ} (1, 8) (0, 7) = cc in let place : ◌≡◌ {A = ℕ} 1 0 = ap (λ x. x.0) entry in cc

it_is_not_lost : ¬ KeepsRealTimeOrder one_was_made (made_by_both [] (7 ∷ []) [])
it_is_not_lost h = let content = h.content in cc

what_was_made_by_then_is_there : ¬ KeepsRealTimeOrder (made_by_both [] (7 ∷ []) []) (made_by_both ((0, 7) ∷ []) (7 ∷ []) [])
what_was_made_by_then_is_there h = let made = h.made 0 in cc

what_is_made_since_is_there : ¬ KeepsRealTimeOrder one_was_made (made_by_both ((0, 7) ∷ []) (7 ∷ []) (8 ∷ []))
what_is_made_since_is_there h =
    let none : h.since ≡ [] = (let content = h.content in cc) in
    let made = h.made_since 1 ∙ ap (λ xs. entries_of 1 xs) none in cc

-- a world whose parts all differ
abbrev some_world : World ℕ
some_world = record { state = all_inside; content = (0, 7) ∷ []; copies = λ place. (1, 8) ∷ []; doing = λ place. 9 ∷ []; made = λ place. 6 ∷ 5 ∷ [] }

-- World
its_parts :
    (some_world.state.processes 3 ≡ Inside) × (some_world.content ≡ (0, 7) ∷ []) × (some_world.copies 2 ≡ (1, 8) ∷ [])
    × (some_world.doing 2 ≡ 9 ∷ []) × (some_world.made 2 ≡ 6 ∷ 5 ∷ [])
its_parts = (refl, refl, refl, refl, refl)

-- Marked
an_entry_of_place_3 : Marked ℕ
an_entry_of_place_3 = (3, 7)

-- ReportsInside
all_are_inside_not_one : ¬ ReportsInside all_inside (Some 0)
all_are_inside_not_one h = let same = (h 1).1 refl in cc

nobody_is_at_the_start : ReportsInside opening None
nobody_is_at_the_start place = (λ same. cc, λ inside. cc)

not_place_0_at_the_start : ¬ ReportsInside opening (Some 0)
not_place_0_at_the_start h = let inside = (h 0).0 refl in cc

-- places_of
who_steps_in_order : places_of {X = ℕ} (Steps 3 ∷ Appends 0 7 ∷ Steps 1 ∷ []) ≡ 3 ∷ 1 ∷ []
who_steps_in_order = refl

-- entries_of
those_of_place_1 : entries_of {X = ℕ} 1 ((0, 7) ∷ (1, 8) ∷ (1, 9) ∷ []) ≡ 8 ∷ 9 ∷ []
those_of_place_1 = refl

-- the entry is the number of entries before it
abbrev tells_count : List (Marked ℕ) → Marked ℕ → Type 0
tells_count before entry = length before ≡ entry.1

-- FollowsFrom
behind_one_that_was_there : FollowsFrom tells_count ((0, 0) ∷ []) ((0, 1) ∷ (1, 2) ∷ [])
behind_one_that_was_there = (refl, (refl, tt))

not_behind_none : ¬ FollowsFrom tells_count [] ((0, 1) ∷ [])
not_behind_none h = let count = h.0 in cc

nor_one_that_follows_wrongly : ¬ FollowsFrom tells_count [] ((0, 0) ∷ (1, 0) ∷ [])
nor_one_that_follows_wrongly h = let count = h.1.0 in cc

-- EachMayFollow
they_count_from_0 : EachMayFollow tells_count ((0, 0) ∷ (1, 1) ∷ [])
they_count_from_0 = (refl, (refl, tt))

not_from_1 : ¬ EachMayFollow tells_count ((0, 1) ∷ [])
not_from_1 h = let count = h.0 in cc
