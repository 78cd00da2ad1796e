-- What a command leaves of the routes to other prefixes, and what follows for look-ups: the answers of longer prefixes stay, and all
-- other addresses of the prefix have one answer.
use Rattle.std.proofs.Common.{◌≡◌, ◌↔◌, ℕ, ◌+◌, ◌*◌, ◌^◌, ◌<◌, ◌≤◌, ◌≢◌, ◌==◌, Bool, true, false, inl, inr, List, Option, None, Some, eqb, nat_le, if◌then◌else◌, subst, sym, refl, ap, ◌∙◌, arith}
use Rattle.std.proofs.lemmas.Grind.{common_steps}
use Rattle.std.proofs.lemmas.Bool.{cases_Bool, cases_lt, and_from, and_parts, both_ways, eq-eqb, eqb-true, ltb-true, cond-true, cond-false}
use Rattle.std.specs.List.{Contains}
use Rattle.rt_cidr.specs.declared.address.Addr.{Addr}
use Rattle.rt_cidr.specs.declared.prefixes.Prefix.{Prefix}
use Rattle.rt_cidr.specs.Prefix.{covers, contains, same_prefix}
use Rattle.rt_cidr.specs.Laws.{CoversItsRange, ContainsWhatItCovers, CoveringAreNested}
use Rattle.rt_rib.specs.declared.routes.Route.{Route}
use Rattle.rt_rib.specs.declared.commands.Cmd.{Cmd}
use Rattle.rt_rib.proofs.Promised.{each_command}
use Rattle.rt_rib.specs.declared.commands.Reply.{Reply}
use Rattle.rt_rib.specs.Table.{has, count_of, put_in, take_out, is_of, IsTable}
use Rattle.rt_rib.specs.LookUp.{look_up}
use Rattle.rt_rib.specs.Sequential.{table_after}
use Rattle.rt_rib.specs.Book.{TableState, Serves}
use Rattle.rt_rib.specs.Laws.{PutInAdds, TakeOutLeavesOthers, LookUpFindsBest, IsBestMatch}
use Rattle.rt_fib.specs.declared.bounds.Span.{Span}
use Rattle.rt_fib.specs.Laws.{PreservesOtherRoutes, KeepsOtherRoutes}
use Rattle.rt_fib.specs.inside.Entries.{at}
use Rattle.rt_fib.specs.inside.Changes.{PreservesLookupsOutside, AreEntriesOf, IsWholly, is_longer, answer_after, AnswerAlike, IsChange}

-- the same prefix covers the same addresses
same_covers : (p q : Prefix) (addr : Addr) → same_prefix p q ≡ true → covers p addr ≡ covers q addr
same_covers p q addr same = grind arith

-- the routes of one table that cover one address are those of the other that cover the other one
abbrev CoverAlike : Addr → Addr → List Route → List Route → Type 0
CoverAlike a b t u = (x : Route) → (Contains t x × (covers x.prefix a ≡ true)) ↔ (Contains u x × (covers x.prefix b ≡ true))

-- so what is best in one is best in the other
best_in_both : (a b : Addr) (t u : List Route) (r : Route) → CoverAlike a b t u → IsBestMatch a t r → IsBestMatch b u r
best_in_both a b t u r alike is = grind arith

-- and look-ups find the same
found_alike : (a b : Addr) (t u : List Route) → LookUpFindsBest → IsTable t → IsTable u → CoverAlike a b t u → look_up a t ≡ look_up b u
found_alike a b t u finds of_t of_u alike =
    let in_t = finds a t of_t in
    let in_u = finds b u of_u in
    let P : Option Route → Type 0 = λ v. look_up a t ≡ v → v ≡ look_up b u in
    let at_each : (v : Option Route) → look_up a t ≡ v → v ≡ look_up b u = λ v. elim v as P [
      | Some r ↦ λ e. sym ((in_u.0 r).1 (best_in_both a b t u r alike ((in_t.0 r).0 e)))
      | None ↦ λ e. sym (in_u.1.1 (λ s there. elim (cases_Bool (covers s.prefix b)) [
        | inl covering ↦ let was = (alike s).1 (there, covering) in absurd (both_ways _ (in_t.1.0 e s was.0) was.1)
        | inr misses ↦ misses
      ]))
    ] in
    at_each (look_up a t) refl

-- a prefix is the same as itself
same_itself : (p : Prefix) → same_prefix p p ≡ true
same_itself p = and_from (eqb p.base p.base) (eqb p.len p.len) (eq-eqb p.base p.base refl) (eq-eqb p.len p.len refl)

module _ (prefix : Prefix) (t : List Route) where
  -- a route put in
  put_others : (r : Route) → PutInAdds → same_prefix r.prefix prefix ≡ true → PreservesOtherRoutes prefix t (put_in r t)
  put_others r adds same x other = (
    (λ c. (adds r x t).1 (inl c)),
    (λ c. elim ((adds r x t).0 c) [
      | inl there ↦ there
      | inr is ↦ absurd (both_ways _ other (ap (λ (y : Route). same_prefix y.prefix prefix) (sym is) ∙ same))
    ]),
  )

  -- a route taken out
  taken_others : (feed : ℕ) → TakeOutLeavesOthers → PreservesOtherRoutes prefix t (take_out feed prefix t)
  taken_others feed leaves x other =
      let another : is_of feed prefix x ≡ false = elim (cases_Bool (is_of feed prefix x)) [
        | inl is ↦ absurd (both_ways _ other ((and_parts (x.feed == feed) (same_prefix x.prefix prefix) is).1))
        | inr apart ↦ apart
      ] in
      ((λ c. (leaves feed prefix x t).1 (c, another)), (λ c. ((leaves feed prefix x t).0 c).0))

  itself : PreservesOtherRoutes prefix t t
  itself x other = ((λ c. c), (λ c. c))

  -- whichever of two tables it is
  of_two : (b : Bool) (u v : List Route) → PreservesOtherRoutes prefix t u → PreservesOtherRoutes prefix t v
      → PreservesOtherRoutes prefix t (if b then u else v)
  of_two true u v one other = one
  of_two false u v one other = other

  and_then : (u v : List Route) → PreservesOtherRoutes prefix t u → PreservesOtherRoutes prefix u v → PreservesOtherRoutes prefix t v
  and_then u v one two x other = ((λ c. (two x other).0 ((one x other).0 c)), (λ c. (one x other).1 ((two x other).1 c)))

-- what each command of a table keeps
command_keeps : (limit : ℕ) (t : List Route) → PutInAdds → TakeOutLeavesOthers → (feed : ℕ) (cmd : Cmd)
    → KeepsOtherRoutes cmd t (table_after limit t feed cmd)
unfolding table_after
command_keeps limit t adds leaves =
    each_command (λ feed cmd. KeepsOtherRoutes cmd t (table_after limit t feed cmd))
    (λ r.
    of_two r.prefix t (has r.feed r.prefix t) t _ (itself r.prefix t)
    (of_two r.prefix t (nat_le limit (count_of r.feed t)) t _ (itself r.prefix t) (put_others r.prefix t r adds (same_itself r.prefix))))
    (λ r.
    let left : List Route = take_out r.feed r.prefix t in
    of_two r.prefix t (has r.feed r.prefix t) _ t
    (and_then r.prefix t left _ (taken_others r.prefix t r.feed leaves) (put_others r.prefix left r adds (same_itself r.prefix))) (itself r.prefix t))
    (λ feed prefix. of_two prefix t (has feed prefix t) _ t (taken_others prefix t feed leaves) (itself prefix t))
    (λ feed addr. refl)
    (λ feed. refl)
    (λ feed. tt)

-- and so each command that a table answers
pub served_others : (old new : TableState) (feed : ℕ) (cmd : Cmd) (reply : Reply) → PutInAdds → TakeOutLeavesOthers
    → Serves old new feed cmd reply → KeepsOtherRoutes cmd old.routes new.routes
served_others old new feed cmd reply adds leaves serves =
    let after : new.routes ≡ table_after old.limit old.routes feed cmd = ap (λ (s : TableState). s.routes) serves.changed in
    subst (KeepsOtherRoutes cmd old.routes) (sym after) (command_keeps old.limit old.routes adds leaves feed cmd)

-- a prefix of another length is another
another_length : (p q : Prefix) → p.len ≢ q.len → same_prefix p q ≡ false
another_length p q differ = grind arith

module _ (prefix : Prefix) (t u : List Route) (finds : LookUpFindsBest) (of_t : IsTable t) (of_u : IsTable u) (others : PreservesOtherRoutes prefix t u) where
  -- an address that the prefix doesn't cover has the same answer
  pub outside_stays : PreservesLookupsOutside prefix t u
  outside_stays addr misses =
      let other : (x : Route) → covers x.prefix addr ≡ true → same_prefix x.prefix prefix ≡ false =
      λ x covering. elim (cases_Bool (same_prefix x.prefix prefix)) [
        | inl same ↦ absurd (both_ways _ misses (sym (same_covers x.prefix prefix addr same) ∙ covering))
        | inr apart ↦ apart
      ] in
      found_alike addr addr t u finds of_t of_u
      (λ x. ((λ is. ((others x (other x is.1)).0 is.0, is.1)), (λ is. ((others x (other x is.1)).1 is.0, is.1))))

  -- a best match that is longer than the prefix
  best_stays : (addr : Addr) (r : Route) → prefix.len < r.prefix.len → IsBestMatch addr t r → IsBestMatch addr u r
  best_stays addr r long is =
      let other : same_prefix r.prefix prefix ≡ false = another_length r.prefix prefix (λ e. omega (arith, e, long)) in
      record {
        contained = (others r other).0 is.contained;
        covering = is.covering;
        longest = λ s there covering. elim (cases_Bool (same_prefix s.prefix prefix)) [
          | inl same ↦
              let e : s.prefix.len ≡ prefix.len = eqb-true _ _ ((and_parts (s.prefix.base == prefix.base) (s.prefix.len == prefix.len) same).1) in
              omega (arith, e, long)
          | inr apart ↦ is.longest s ((others s apart).1 there) covering
        ];
        best = λ s there covering alike.
            let apart : same_prefix s.prefix prefix ≡ false = another_length s.prefix prefix (λ e. omega (arith, e, alike, long)) in
            is.best s ((others s apart).1 there) covering alike;
      }

  -- so the answer of a longer prefix stays
  pub longer_stays : (addr : Addr) → is_longer prefix.len (look_up addr t) ≡ true → look_up addr u ≡ look_up addr t
  longer_stays addr =
      let P : Option Route → Type 0 = λ v. look_up addr t ≡ v → is_longer prefix.len v ≡ true → look_up addr u ≡ v in
      let at_each : (v : Option Route) → look_up addr t ≡ v → is_longer prefix.len v ≡ true → look_up addr u ≡ v = λ v. elim v as P [
        | Some r ↦ λ e long. ((finds addr u of_u).0 r).1 (best_stays addr r (ltb-true _ _ long) (((finds addr t of_t).0 r).0 e))
        | None ↦ λ e long. absurd (both_ways _ refl long)
      ] in
      at_each (look_up addr t) refl

module _ (prefix : Prefix) (t : List Route) (finds : LookUpFindsBest) (of_t : IsTable t) (covering_nest : CoveringAreNested) (covers_all : ContainsWhatItCovers) where
  -- where the answer isn't of a longer prefix, no longer one covers the address
  none_longer : (addr : Addr) → is_longer prefix.len (look_up addr t) ≡ false → (x : Route) → Contains t x → covers x.prefix addr ≡ true
      → x.prefix.len ≤ prefix.len
  none_longer addr = grind (arith, common_steps)

  -- so what covers it covers the whole prefix
  covers_both : (a b : Addr) → b.0 < 2 ^ 32 → covers prefix a ≡ true → covers prefix b ≡ true → is_longer prefix.len (look_up a t) ≡ false
      → (x : Route) → Contains t x → covers x.prefix a ≡ true → covers x.prefix b ≡ true
  covers_both a b fits of_a of_b own x there covering =
      let inside : contains x.prefix prefix ≡ true = covering_nest x.prefix prefix a covering of_a (none_longer a own x there covering) in
      (covers_all x.prefix prefix).0 inside b fits of_b

  -- and all such addresses have one answer
  pub own_alike : (a b : Addr) → a.0 < 2 ^ 32 → b.0 < 2 ^ 32 → covers prefix a ≡ true → covers prefix b ≡ true
      → is_longer prefix.len (look_up a t) ≡ false → is_longer prefix.len (look_up b t) ≡ false → look_up a t ≡ look_up b t
  own_alike a b fits_a fits_b of_a of_b own_a own_b = grind (arith, found_alike, covers_both)

module _ (prefix : Prefix) (span : Span) (t : List Route) (finds : LookUpFindsBest) (covering_nest : CoveringAreNested) (covers_all : ContainsWhatItCovers) (range : CoversItsRange) (of_t : IsTable t) (are : AreEntriesOf prefix span) (wholly : IsWholly prefix span) (own : Addr) (fits_own : own.0 < 2 ^ 32) (of_own : covers prefix own ≡ true) (is_own : is_longer prefix.len (look_up own t) ≡ false) where
  -- the answer to each of the prefix's addresses after the change
  after_is : (u : List Route) → IsTable u → PreservesOtherRoutes prefix t u → (addr : Addr) → addr.0 < 2 ^ 32 → covers prefix addr ≡ true
      → look_up addr u ≡ answer_after prefix.len (look_up own u) (look_up addr t)
  after_is u of_u others addr fits of_addr =
      let back : PreservesOtherRoutes prefix u t = λ x apart. ((others x apart).1, (others x apart).0) in
      let still : (a : Addr) → is_longer prefix.len (look_up a t) ≡ false → is_longer prefix.len (look_up a u) ≡ false =
      λ a short. elim (cases_Bool (is_longer prefix.len (look_up a u))) [
        | inl long ↦
            let same : look_up a t ≡ look_up a u = longer_stays prefix u t finds of_u of_t back a long in
            absurd (both_ways _ short (ap (is_longer prefix.len) same ∙ long))
        | inr stays ↦ stays
      ] in
      elim (cases_Bool (is_longer prefix.len (look_up addr t))) [
        | inl long ↦
            longer_stays prefix t u finds of_t of_u others addr long
            ∙ sym (cond-true (is_longer prefix.len (look_up addr t)) (look_up addr t) (look_up own u) long)
        | inr short ↦
            own_alike prefix u finds of_u covering_nest covers_all addr own fits fits_own of_addr of_own (still addr short) (still own is_own)
            ∙ sym (cond-false (is_longer prefix.len (look_up addr t)) (look_up addr t) (look_up own u) short)
      ]

  -- so the span is changed
  pub span_changes : (u : List Route) → IsTable u → PreservesOtherRoutes prefix t u → IsChange prefix.len (look_up own u) span t u
  span_changes u of_u others = record {
    within = λ i k from below low.
        after_is u of_u others (at (i * 256 + k)) (omega (arith, below, low, span.fits))
        ((range prefix (at (i * 256 + k))).1 (omega (arith, from, wholly.first), omega (arith, below, low, wholly.end)));
    outside = λ i k fit low out. outside_stays prefix t u finds of_t of_u others (at (i * 256 + k)) (are i k fit low out);
  }

  -- if the new answer is the old one, nothing is changed
  pub nothing_changes : (u : List Route) → IsTable u → PreservesOtherRoutes prefix t u → look_up own t ≡ look_up own u → AnswerAlike t u
  nothing_changes u of_u others same i k fit low =
      let change = span_changes u of_u others in
      elim (cases_lt i span.first) [
        | inl before ↦ change.outside i k fit low (inl before)
        | inr from ↦ elim (cases_lt i span.end) [
          | inr behind ↦ change.outside i k fit low (inr behind)
          | inl below ↦
              (span_changes t of_t (itself prefix t)).within i k from below low
              ∙ ap (λ (a : Option Route). answer_after prefix.len a (look_up (at (i * 256 + k)) t)) same ∙ sym (change.within i k from below low)
        ]
      ]
