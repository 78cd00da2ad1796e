-- One level: the clauses that each kind of step keeps. `node` and `side` give each place's node and side.
use Rattle.std.proofs.Common.{◌≡◌, ◌≢◌, ℕ, ◌+◌, ◌-◌, ◌<◌, refl, arith, ap, sym, ◌∙◌, subst, ◌≤◌, ◌⊎◌, inl, inr, IsTrue}
use Rattle.std.proofs.Math.Path.{fun_ext}
use Rattle.ya_core.specs.declared.process.EntryPoint.{EntryPoint}
use Rattle.ya_core.specs.declared.process.EntryPoint.TheVariants.{E4}
use Rattle.ya_core.specs.Soundness.{Phase, Away, Named, Announced, Waiting, Holding, Releasing, claims, has_announced, waits}
use Rattle.ya_core.specs.Soundness.{holds, is_releasing, IsSoundLevel}
use Rattle.ya_core.proofs.PhaseKinds.{claims_holds, announced_holds, claims_announced, announced_waits, competes}
use Rattle.ya_core.proofs.PhaseKinds.{competes_claims}

-- the two phases are equal for the clauses on claim, turn, waiter and spin
pub record Alike (x y : Phase) : Type 0 where
  pub claiming : claims x ≡ claims y
  pub past : has_announced x ≡ has_announced y
  pub waiting : waits x ≡ waits y
  pub holding : holds x ≡ holds y
  pub releasing : is_releasing x ≡ is_releasing y

-- a place is the one that stepped, or its phase is unchanged
abbrev pub Same : ℕ → (ℕ → Phase) → (ℕ → Phase) → Type 0
Same p old new = (q : ℕ) → (q ≡ p) ⊎ (new q ≡ old q)

-- a word C belongs to that side, or is unchanged
abbrev pub SameClaims : ℕ → ℕ → (ℕ → ℕ → ℕ) → (ℕ → ℕ → ℕ) → Type 0
SameClaims node side old new = (n s : ℕ) → ((n ≡ node) × (s ≡ side)) ⊎ (new n s ≡ old n s)

-- a word belongs to that node or place, or is unchanged
abbrev pub SameWords : ℕ → (ℕ → ℕ) → (ℕ → ℕ) → Type 0
SameWords at old new = (n : ℕ) → (n ≡ at) ⊎ (new n ≡ old n)

-- a level stays sound if its words and phases stay
pub level_stays : (node side : ℕ → ℕ) (phase phase' : ℕ → Phase) (claim claim' : ℕ → ℕ → ℕ)
    (turn turn' spin spin' : ℕ → ℕ)
    → ((q : ℕ) → phase' q ≡ phase q) → ((n s : ℕ) → claim' n s ≡ claim n s) → ((n : ℕ) → turn' n ≡ turn n)
    → ((q : ℕ) → spin' q ≡ spin q)
    → IsSoundLevel node side phase claim turn spin → IsSoundLevel node side phase' claim' turn' spin'
level_stays node side phase phase' claim claim' turn turn' spin spin' phases claims_same turns spins is =
    subst (λ (f : ℕ → Phase). IsSoundLevel node side f claim' turn' spin') (sym (fun_ext phases))
    (subst (λ (f : ℕ → ℕ → ℕ). IsSoundLevel node side phase f turn' spin')
    (sym (fun_ext (λ n. fun_ext (claims_same n))))
    (subst (λ (f : ℕ → ℕ). IsSoundLevel node side phase claim f spin') (sym (fun_ext turns))
    (subst (λ (f : ℕ → ℕ). IsSoundLevel node side phase claim turn f) (sym (fun_ext spins)) is)))

module _ (node side : ℕ → ℕ) (phase : ℕ → Phase) (claim : ℕ → ℕ → ℕ) (turn spin : ℕ → ℕ)
    (is : IsSoundLevel node side phase claim turn spin) where
  -- the clause on rivals, for two places by node and side
  one_of_two_at : (p q : ℕ) → node p ≡ node q → side p ≢ side q → IsTrue (has_announced (phase p))
      → IsTrue (has_announced (phase q)) → (turn (node p) ≡ p + 1) ⊎ (turn (node p) ≡ q + 1)
  one_of_two_at p q nodes sides = is.one_of_two p q (nodes, sides)

  waiter_at : (p q : ℕ) → node p ≡ node q → side p ≢ side q → IsTrue (holds (phase p)) → IsTrue (has_announced (phase q))
      → turn (node p) ≡ q + 1
  waiter_at p q nodes sides = is.waiter p q (nodes, sides)

  let_in_at : (p q : ℕ) → node p ≡ node q → side p ≢ side q → IsTrue (waits (phase p)) → spin p ≡ 2
      → IsTrue (has_announced (phase q)) → turn (node p) ≡ q + 1
  let_in_at p q nodes sides = is.let_in p q (nodes, sides)

  -- at most one place claims a side
  pub one_a_side : (p q : ℕ) → node p ≡ node q → side p ≡ side q → IsTrue (claims (phase p)) → IsTrue (claims (phase q))
      → p ≡ q
  one_a_side p q nodes sides hp hq = grind (arith, is.claimed p hp, is.claimed q hq)

  -- at most one place below a node holds it
  pub one_holds : (p q : ℕ) → node p ≡ node q → IsTrue (holds (phase p)) → IsTrue (holds (phase q)) → p ≡ q
  one_holds p q nodes hp hq =
      grind (
        arith,
        one_a_side p q nodes,
        waiter_at p q nodes,
        waiter_at q p (sym nodes),
        announced_holds (phase p) hp,
        announced_holds (phase q) hq,
        claims_holds (phase p) hp,
        claims_holds (phase q) hq,
      )

  -- the three parts of the clause on a word C
  claimant_node : (n s p : ℕ) → claim n s ≡ p + 1 → node p ≡ n
  claimant_node n s p h = (is.claimant n s p h).0

  claimant_side : (n s p : ℕ) → claim n s ≡ p + 1 → side p ≡ s
  claimant_side n s p h = (is.claimant n s p h).1

  claimant_claims : (n s p : ℕ) → claim n s ≡ p + 1 → IsTrue (claims (phase p))
  claimant_claims n s p h = (is.claimant n s p h).2

  module _ (p : ℕ) (phase' : ℕ → Phase) (same : Same p phase phase') where
    -- the clause on claims after the step
    abbrev KeepsClaims : (ℕ → ℕ → ℕ) → Type 0
    KeepsClaims claim' = ((q : ℕ) → IsTrue (claims (phase' q)) → claim' (node q) (side q) ≡ q + 1)
        × ((n s q : ℕ) → claim' n s ≡ q + 1 → (node q ≡ n) × (side q ≡ s) × IsTrue (claims (phase' q)))

    -- if no word C changes, the clause on claims stays, provided that the place claims as before
    keeps_claims : claims (phase' p) ≡ claims (phase p) → KeepsClaims claim
    keeps_claims claiming = (
      λ q h. grind (arith, same q, claiming, is.claimed q),
      λ n s q h. (
        claimant_node n s q h,
        claimant_side n s q h,
        grind (arith, same q, claiming, claimant_claims n s q h),
      ),
    )

    -- each rival of the place that is past announced itself last
    abbrev RivalsAreLast : Type 0
    RivalsAreLast = (q : ℕ) → node p ≡ node q → side p ≢ side q → IsTrue (has_announced (phase q)) → turn (node p) ≡ q + 1

    -- a step that changes no word T, and no word P but the place's own: the other clauses stay if they hold of the
    -- place itself
    frame : (claim' : ℕ → ℕ → ℕ) (spin' : ℕ → ℕ) → KeepsClaims claim'
        → (IsTrue (has_announced (phase' p)) → IsTrue (has_announced (phase p)))
        → (IsTrue (is_releasing (phase' p)) → turn (node p) ≢ 0)
        → (IsTrue (holds (phase' p)) → RivalsAreLast)
        → (IsTrue (waits (phase' p)) → spin' p ≡ 2 → RivalsAreLast)
        → spin' p ≤ 2 → SameWords p spin spin'
        → IsSoundLevel node side phase' claim' turn spin'
    frame claim' spin' claiming past releasing holding waiting range others =
        record {
          claimed = claiming.0;
          claimant = claiming.1;
          below = is.below;
          announced = λ q h. grind (arith, same q, past, is.announced q);
          releasing = λ q h. grind (arith, same q, releasing, is.releasing q);
          one_of_two = λ q r rivals hq hr. let nodes = rivals.0 in let sides = rivals.1 in
              grind (arith, same q, same r, past, one_of_two_at q r nodes sides);
          waiter = λ q r rivals hq hr. let nodes = rivals.0 in let sides = rivals.1 in
              grind (arith, same q, same r, past, λ (h : IsTrue (holds (phase' p))). holding h r, waiter_at q r nodes sides);
          in_range = λ q. grind (arith, others q, is.in_range q);
          let_in = λ q r rivals hq two hr. let nodes = rivals.0 in let sides = rivals.1 in
              grind (arith, same q, same r, others q, past, λ (h : IsTrue (waits (phase' p))) (at : spin' p ≡ 2). waiting h at r, let_in_at q r nodes sides);
        }

    -- the place wins, or keeps holding or waiting: then its rivals are last as before
    still_holds : IsTrue (holds (phase p)) → RivalsAreLast
    still_holds h q nodes sides hq = waiter_at p q nodes sides h hq

    still_waits : IsTrue (waits (phase p)) → spin p ≡ 2 → RivalsAreLast
    still_waits h at q nodes sides hq = let_in_at p q nodes sides h at hq

    -- a step that changes no word of the level keeps it, if the place gets no kind that it didn't have before
    stays : claims (phase' p) ≡ claims (phase p) → (IsTrue (has_announced (phase' p)) → IsTrue (has_announced (phase p)))
        → (IsTrue (is_releasing (phase' p)) → IsTrue (is_releasing (phase p)))
        → (IsTrue (holds (phase' p)) → IsTrue (holds (phase p)))
        → (IsTrue (waits (phase' p)) → IsTrue (waits (phase p)))
        → IsSoundLevel node side phase' claim turn spin
    stays claiming past releasing holding waiting =
        frame claim spin (keeps_claims claiming) past (λ h. is.releasing p (releasing h)) (λ h. still_holds (holding h))
        (λ h. still_waits (waiting h)) (is.in_range p) (λ q. inr refl)

    -- a step that keeps the clauses' view of the place keeps the clauses
    pub alike : Alike (phase' p) (phase p) → IsSoundLevel node side phase' claim turn spin
    alike here =
        stays here.claiming (λ h. sym here.past ∙ h) (λ h. sym here.releasing ∙ h) (λ h. sym here.holding ∙ h)
        (λ h. sym here.waiting ∙ h)

    -- e1: a place without a competitor on its side claims that side
    pub claims_side : (claim' : ℕ → ℕ → ℕ) → phase' p ≡ Named → claim' (node p) (side p) ≡ p + 1
        → SameClaims (node p) (side p) claim claim'
        → ((q : ℕ) → node q ≡ node p → side q ≡ side p → IsTrue (competes (phase q)) → q ≡ p)
        → IsSoundLevel node side phase' claim' turn spin
    claims_side claim' now stored others alone =
        frame claim' spin (
          λ q h. grind (arith, same q, others (node q) (side q), alone q, competes_claims (phase q), is.claimed q),
          λ n s q h. (
            grind (arith, same q, others n s, claimant_node n s q),
            grind (arith, same q, others n s, claimant_side n s q),
            grind (arith, same q, others n s, claimant_claims n s q),
          ),
        )
        (λ h. grind arith) (λ h. grind arith) (λ h. grind arith) (λ h. grind arith) (is.in_range p) (λ q. inr refl)

    -- if two rivals claim below the place's node and the place claims too, the place is one of them
    one_of_rivals : (two : (q : ℕ) → side q < 2) → IsTrue (claims (phase p)) → (q r : ℕ) → node q ≡ node r
        → side q ≢ side r → node q ≡ node p → IsTrue (claims (phase q)) → IsTrue (claims (phase r)) → (q ≡ p) ⊎ (r ≡ p)
    one_of_rivals two hp q r nodes sides below hq hr =
        grind (arith, two p, two q, two r, one_a_side q p below, one_a_side r p (sym nodes ∙ below))

    -- e2: the place with a claim announces itself, and is the last to do so at the node
    pub announces : (two : (q : ℕ) → side q < 2) (turn' : ℕ → ℕ) → phase p ≡ Named → phase' p ≡ Announced
        → turn' (node p) ≡ p + 1 → SameWords (node p) turn turn' → IsSoundLevel node side phase' claim turn' spin
    announces two turn' was now stored others =
        record {
          claimed = λ q h. grind (arith, same q, is.claimed q);
          claimant = λ n s q h.
              (claimant_node n s q h, claimant_side n s q h, grind (arith, same q, claimant_claims n s q h));
          below = λ n q h. grind (arith, others n, is.below n q);
          announced = λ q h. grind (arith, same q, others (node q), is.announced q);
          releasing = λ q h. grind (arith, same q, others (node q), is.releasing q);
          one_of_two = λ q r rivals hq hr. let nodes = rivals.0 in let sides = rivals.1 in
              let last = last_or_apart q r nodes sides (claims_announced (phase' q) hq) (claims_announced (phase' r) hr) in
              grind (arith, same q, same r, last, one_of_two_at q r nodes sides);
          waiter = λ q r rivals hq hr. let nodes = rivals.0 in let sides = rivals.1 in
              let last = last_or_apart q r nodes sides (claims_holds (phase' q) hq) (claims_announced (phase' r) hr) in
              grind (arith, same q, same r, last, waiter_at q r nodes sides);
          in_range = is.in_range;
          let_in = λ q r rivals hq spins hr. let nodes = rivals.0 in let sides = rivals.1 in
              let past = announced_waits (phase' q) hq in
              let last = last_or_apart q r nodes sides (claims_announced (phase' q) past) (claims_announced (phase' r) hr) in
              grind (arith, same q, same r, last, let_in_at q r nodes sides);
        }
      where
        -- if two rivals claim, either the place is one of them and the word T of their node names it, or that
        -- word is unchanged
        last_or_apart : (q r : ℕ) → node q ≡ node r → side q ≢ side r → IsTrue (claims (phase' q))
            → IsTrue (claims (phase' r))
            → (((q ≡ p) ⊎ (r ≡ p)) × (turn' (node q) ≡ p + 1)) ⊎ (turn' (node q) ≡ turn (node q))
        last_or_apart q r nodes sides hq hr = cases (others (node q))
          where
            claims_before : (s : ℕ) → IsTrue (claims (phase' s)) → IsTrue (claims (phase s))
            claims_before s h = grind (arith, same s, was)

            cases : (node q ≡ node p) ⊎ (turn' (node q) ≡ turn (node q))
                → (((q ≡ p) ⊎ (r ≡ p)) × (turn' (node q) ≡ p + 1)) ⊎ (turn' (node q) ≡ turn (node q))
            cases (inl here) = inl (
              one_of_rivals two (ap claims was) q r nodes sides here (claims_before q hq) (claims_before r hr),
              ap turn' here ∙ stored,
            )
            cases (inr stays) = inr stays

    -- e3: the place that clears its spin word is not let in
    pub clears : (spin' : ℕ → ℕ) → phase p ≡ Announced → phase' p ≡ Waiting E4 → spin' p ≡ 0 → SameWords p spin spin'
        → IsSoundLevel node side phase' claim turn spin'
    clears spin' was now stored others =
        frame claim spin' (keeps_claims (ap claims now ∙ sym (ap claims was))) (λ h. grind arith) (λ h. grind arith)
        (λ h. grind arith) (λ h at. absurd (omega (arith, stored, at))) (omega (arith, stored)) others

    -- e4, e5, e9, e10: a place wins where each rival that is past announced itself last
    pub wins : (point : EntryPoint) → phase p ≡ Waiting point → phase' p ≡ Holding → RivalsAreLast
        → IsSoundLevel node side phase' claim turn spin
    wins point was now last =
        frame claim spin (keeps_claims (ap claims now ∙ sym (ap claims was))) (λ h. grind arith) (λ h. grind arith)
        (λ h. last) (λ h at. last) (is.in_range p) (λ q. inr refl)

    -- x1: the place that holds the node gives up its claim
    pub gives_up : (claim' : ℕ → ℕ → ℕ) → phase p ≡ Holding → phase' p ≡ Releasing → claim' (node p) (side p) ≡ 0
        → SameClaims (node p) (side p) claim claim' → IsSoundLevel node side phase' claim' turn spin
    gives_up claim' was now stored others =
        frame claim' spin (
          λ q h. grind (arith, same q, others (node q) (side q), one_a_side p q, is.claimed q),
          λ n s q h. (
            grind (arith, others n s, claimant_node n s q),
            grind (arith, others n s, claimant_side n s q),
            grind (arith, same q, others n s, claimant_node n s q, claimant_side n s q, claimant_claims n s q),
          ),
        )
        (λ h. grind arith) (λ h. is.announced p (ap has_announced was)) (λ h. grind arith) (λ h. grind arith) (is.in_range p)
        (λ q. inr refl)

    -- x2: the place that has seen who announced itself last has the same clauses as a place that is away
    pub goes_away : phase p ≡ Releasing → Alike (phase' p) Away → IsSoundLevel node side phase' claim turn spin
    goes_away was quiet =
        stays (quiet.claiming ∙ sym (ap claims was)) (λ h. grind (arith, quiet.past)) (λ h. grind (arith, quiet.releasing))
        (λ h. grind (arith, quiet.holding)) (λ h. grind (arith, quiet.waiting))

    -- at e4 the rival's side is nil, so no place on it claims
    pub last_unclaimed : (two : (q : ℕ) → side q < 2) → claim (node p) (1 - side p) ≡ 0 → RivalsAreLast
    last_unclaimed two nil q nodes sides hq =
        let other : 1 - side p ≡ side q = omega (arith, two p, two q) in
        absurd (grind (arith, is.claimed q, claims_announced (phase q) hq))

    -- at e5 and e9 another place announced itself last
    pub last_other : turn (node p) ≢ p + 1 → IsTrue (has_announced (phase p)) → RivalsAreLast
    last_other other hp q nodes sides hq = grind (arith, one_of_two_at p q nodes sides)

    -- at e10 the place was let in
    pub last_let_in : spin p ≡ 2 → IsTrue (waits (phase p)) → RivalsAreLast
    last_let_in two hp = still_waits hp two

  -- only one spin word changes, to a value that lets its place in only if the rivals that are past came last
  spin_changes : (r : ℕ) (spin' : ℕ → ℕ)
      → (IsTrue (waits (phase r)) → spin' r ≡ 2 → (q : ℕ) → node r ≡ node q → side r ≢ side q
      → IsTrue (has_announced (phase q)) → turn (node r) ≡ q + 1)
      → spin' r ≤ 2 → SameWords r spin spin' → IsSoundLevel node side phase claim turn spin'
  spin_changes r spin' waiting =
      frame r phase (λ q. inr refl) claim spin' (is.claimed, is.claimant) (λ h. h) (is.releasing r)
      (still_holds r phase (λ q. inr refl)) waiting

  -- e7: a spin word that becomes 1 lets no place in
  pub wakes : (r : ℕ) (spin' : ℕ → ℕ) → spin' r ≡ 1 → SameWords r spin spin'
      → IsSoundLevel node side phase claim turn spin'
  wakes r spin' stored =
      spin_changes r spin' (λ waiting stored_two. absurd (omega (arith, stored, stored_two))) (omega (arith, stored))

  -- x3: a place that is away and has no competitor on its side lets in another place below the node; no rival of that
  -- place is past
  pub lets_in : (two : (q : ℕ) → side q < 2) (p r : ℕ) (spin' : ℕ → ℕ) → Alike (phase p) Away → node p ≡ node r → r ≢ p
      → spin' r ≡ 2 → SameWords r spin spin'
      → ((q : ℕ) → node q ≡ node p → side q ≡ side p → IsTrue (competes (phase q)) → q ≡ p)
      → IsSoundLevel node side phase claim turn spin'
  lets_in two p r spin' was below other stored others alone =
      spin_changes r spin' (λ waiting stored_two q nodes sides hq. absurd (none waiting q nodes sides hq))
      (omega (arith, stored)) others
    where
      none : IsTrue (waits (phase r)) → (q : ℕ) → node r ≡ node q → side r ≢ side q → IsTrue (has_announced (phase q)) → ⊥
      none waiting q nodes sides hq =
          grind (
            arith,
            nodes,
            sides,
            alone q,
            alone r,
            competes_claims (phase q),
            competes_claims (phase r),
            two p,
            two q,
            two r,
            announced_waits (phase r) waiting,
            claims_announced (phase q) hq,
            claims_announced (phase r),
            was.claiming,
            was.past,
          )
