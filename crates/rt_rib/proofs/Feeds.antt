-- Each feed's routes are independent of the other feeds.
use Rattle.std.proofs.Common.{◌≡◌, ℕ, ◌+◌, Bool, true, false, cond, not, ◌||◌, eqb, leb, inl, inr, List, [], ◌∷◌, refl, ap, ◌∙◌, sym, subst, arith}
use Rattle.std.specs.Prelude.{if◌then◌else◌, fold}
use Rattle.std.proofs.lemmas.Bool.{cases_Bool, cond_both, cond-true, cond-false, both_ways, eqb-true, eq-eqb, eqb-false, ne_eqb, not-true, not_from_false}
use Rattle.std.proofs.lemmas.Bool.{false_from_ne_true, false≢true}
use Rattle.std.proofs.lemmas.List.Elements.{All-weaker, filter_passes}
use Rattle.std.proofs.lemmas.List.Kept.{AllPairs-filter}
use Rattle.std.proofs.lemmas.List.Sums.{sum_by-cons}
use Rattle.std.specs.List.{filter, list_any, count_by}
use Rattle.rt_cidr.specs.declared.prefixes.Prefix.{Prefix}
use Rattle.rt_rib.specs.declared.routes.Route.{Route}
use Rattle.rt_rib.specs.declared.commands.Cmd.{Cmd}
use Rattle.rt_rib.specs.declared.commands.Entry.{Entry}
use Rattle.rt_rib.specs.Table.{is_of, has, count_of, put_in, take_out, purge, IsTable}
use Rattle.rt_rib.specs.Sequential.{reply_of, table_after, table_of_journal}
use Rattle.rt_rib.specs.Laws.{feed_routes, feed_entries, is_own, FeedsStandAlone}
use Rattle.rt_rib.proofs.Lists.{filter-none}
use Rattle.rt_rib.proofs.Order.{is_of-parts}
use Rattle.rt_rib.proofs.Tables.{Ordered, Apart, IsTable-put_in, IsTable-take_out, IsTable-nil, has-take_out}
use Rattle.rt_rib.proofs.Journals.{step, IsTable-after}
use Rattle.rt_rib.proofs.CommandCases.{each_command}
use Rattle.rt_rib.proofs.Sets.{filter-keeps, filter-from, put_in_adds, take_out_leaves_others, one_table_of_set}

-- if a test implies a filter's, some element satisfies it in the filtered list if and only if one does in the whole
-- list
list_any-kept : {X : Type 0} (p q : X → Bool) → ((x : X) → q x ≡ true → p x ≡ true) → (xs : List X) → list_any q (filter p xs) ≡ list_any q xs
list_any-kept p q only [] = refl
list_any-kept p q only (x ∷ xs) =
    let rest = list_any-kept p q only xs in
    elim (cases_Bool (p x)) [
      | inl passes ↦ ap (list_any q) (cond-true (p x) (x ∷ filter p xs) (filter p xs) passes) ∙ ap (λ b. q x || b) rest
      | inr fails ↦
          let other : q x ≡ false = false_from_ne_true (q x) (λ e. both_ways (p x) fails (only x e)) in
          ap (list_any q) (cond-false (p x) (x ∷ filter p xs) (filter p xs) fails) ∙ rest ∙ ap (λ b. b || list_any q xs) (sym other)
    ]

-- all elements that a filter keeps satisfy its test
count-kept : {X : Type 0} (p : X → Bool) (xs : List X) → count_by p (filter p xs) ≡ count_by p xs
count-kept p [] = refl
count-kept {X} p (x ∷ xs) =
    let rest = count-kept p xs in
    let one : X → ℕ = λ z. cond (p z) 1 0 in
    elim (cases_Bool (p x)) [
      | inl passes ↦
          ap (count_by p) (cond-true (p x) (x ∷ filter p xs) (filter p xs) passes) ∙ sum_by-cons one x (filter p xs) ∙ ap (λ n. one x + n) rest
          ∙ sym (sum_by-cons one x xs)
      | inr fails ↦
          let none : one x ≡ 0 = cond-false (p x) 1 0 fails in
          ap (count_by p) (cond-false (p x) (x ∷ filter p xs) (filter p xs) fails) ∙ rest ∙ (let whole = sum_by-cons one x xs in omega arith)
    ]

-- a feed's route to a prefix is among its own
is_of-own : (feed : ℕ) (p : Prefix) (r : Route) → is_of feed p r ≡ true → eqb r.feed feed ≡ true
is_of-own feed p r e = eq-eqb r.feed feed (is_of-parts feed p r e).0

-- a feed's own routes decide whether it has a route to a prefix
has-own : (feed : ℕ) (p : Prefix) (t : List Route) → has feed p (feed_routes feed t) ≡ has feed p t
has-own feed p t = list_any-kept (λ r. eqb r.feed feed) (is_of feed p) (is_of-own feed p) t

-- a feed's own routes decide how many routes it has
count_of-own : (feed : ℕ) (t : List Route) → count_of feed (feed_routes feed t) ≡ count_of feed t
count_of-own feed t = count-kept (λ r. eqb r.feed feed) t

-- a feed's routes are a table
IsTable-own : (feed : ℕ) (t : List Route) → IsTable t → IsTable (feed_routes feed t)
IsTable-own feed t h = record {
  ordered = AllPairs-filter Ordered (λ r. eqb r.feed feed) t h.ordered;
  single = AllPairs-filter Apart (λ r. eqb r.feed feed) t h.single;
}

module _ (t : List Route) (h : IsTable t) where
  -- a route of another feed is inserted
  own-put_in_other : (feed : ℕ) (r : Route) → has r.feed r.prefix t ≡ false → (r.feed ≡ feed → ⊥) → feed_routes feed (put_in r t) ≡ feed_routes feed t
  own-put_in_other feed r fresh other =
      let mine = λ (s : Route). eqb s.feed feed in
      one_table_of_set (feed_routes feed (put_in r t)) (feed_routes feed t) (IsTable-own feed (put_in r t) (IsTable-put_in r t fresh h)) (IsTable-own feed t h)
      (λ x. (
        (λ c.
            let both = filter-from mine (put_in r t) x c in
            elim ((put_in_adds r x t).0 both.0) [
              | inl old ↦ filter-keeps mine t x old both.1
              | inr same ↦ absurd (other (ap (λ s. s.feed) same ∙ eqb-true x.feed feed both.1))
            ]),
        (λ c. let both = filter-from mine t x c in filter-keeps mine (put_in r t) x ((put_in_adds r x t).1 (inl both.0)) both.1),
      ))

  -- a route of the feed is inserted
  own-put_in : (r : Route) → has r.feed r.prefix t ≡ false → feed_routes r.feed (put_in r t) ≡ put_in r (feed_routes r.feed t)
  own-put_in r fresh =
      let mine = λ (s : Route). eqb s.feed r.feed in
      let fresh' = has-own r.feed r.prefix t ∙ fresh in
      one_table_of_set (feed_routes r.feed (put_in r t)) (put_in r (feed_routes r.feed t)) (IsTable-own r.feed (put_in r t) (IsTable-put_in r t fresh h))
      (IsTable-put_in r (feed_routes r.feed t) fresh' (IsTable-own r.feed t h))
      (λ x. (
        (λ c.
            let both = filter-from mine (put_in r t) x c in
            elim ((put_in_adds r x t).0 both.0) [
              | inl old ↦ (put_in_adds r x (feed_routes r.feed t)).1 (inl (filter-keeps mine t x old both.1))
              | inr same ↦ (put_in_adds r x (feed_routes r.feed t)).1 (inr same)
            ]),
        (λ c. elim ((put_in_adds r x (feed_routes r.feed t)).0 c) [
          | inl old ↦ let both = filter-from mine t x old in filter-keeps mine (put_in r t) x ((put_in_adds r x t).1 (inl both.0)) both.1
          | inr same ↦ filter-keeps mine (put_in r t) x ((put_in_adds r x t).1 (inr same)) (eq-eqb x.feed r.feed (ap (λ s. s.feed) (sym same)))
        ]),
      ))

  -- a route of another feed is removed
  own-take_out_other : (feed mover : ℕ) (p : Prefix) → (mover ≡ feed → ⊥) → feed_routes feed (take_out mover p t) ≡ feed_routes feed t
  own-take_out_other feed mover p other =
      let mine = λ (s : Route). eqb s.feed feed in
      one_table_of_set (feed_routes feed (take_out mover p t)) (feed_routes feed t) (IsTable-own feed (take_out mover p t) (IsTable-take_out mover p t h))
      (IsTable-own feed t h)
      (λ x. (
        (λ c. let both = filter-from mine (take_out mover p t) x c in filter-keeps mine t x ((take_out_leaves_others mover p x t).0 both.0).0 both.1),
        (λ c.
            let both = filter-from mine t x c in
            let apart : is_of mover p x ≡ false =
            false_from_ne_true (is_of mover p x) (λ e. other (sym (is_of-parts mover p x e).0 ∙ eqb-true x.feed feed both.1)) in
            filter-keeps mine (take_out mover p t) x ((take_out_leaves_others mover p x t).1 (both.0, apart)) both.1),
      ))

  -- a route of the feed is removed
  own-take_out : (feed : ℕ) (p : Prefix) → feed_routes feed (take_out feed p t) ≡ take_out feed p (feed_routes feed t)
  own-take_out feed p =
      let mine = λ (s : Route). eqb s.feed feed in
      one_table_of_set (feed_routes feed (take_out feed p t)) (take_out feed p (feed_routes feed t))
      (IsTable-own feed (take_out feed p t) (IsTable-take_out feed p t h)) (IsTable-take_out feed p (feed_routes feed t) (IsTable-own feed t h))
      (λ x. (
        (λ c.
            let both = filter-from mine (take_out feed p t) x c in
            let out = (take_out_leaves_others feed p x t).0 both.0 in
            (take_out_leaves_others feed p x (feed_routes feed t)).1 (filter-keeps mine t x out.0 both.1, out.1)),
        (λ c.
            let out = (take_out_leaves_others feed p x (feed_routes feed t)).0 c in
            let both = filter-from mine t x out.0 in
            filter-keeps mine (take_out feed p t) x ((take_out_leaves_others feed p x t).1 (both.0, out.1)) both.1),
      ))

-- a filter keeps nothing of what its negation keeps
filter-both_none : {X : Type 0} (p : X → Bool) (xs : List X) → filter p (filter (λ x. not (p x)) xs) ≡ []
filter-both_none p xs =
    filter-none p (filter (λ x. not (p x)) xs)
    (All-weaker (λ x. not (p x) ≡ true) (λ x. p x ≡ false) (λ x. not-true (p x)) (filter (λ x. not (p x)) xs) (filter_passes (λ x. not (p x)) xs))

-- a filter after a weaker one is the same as the filter without it
filter-kept : {X : Type 0} (p q : X → Bool) → ((x : X) → p x ≡ true → q x ≡ true) → (xs : List X) → filter p (filter q xs) ≡ filter p xs
filter-kept p q both [] = refl
filter-kept p q both (x ∷ xs) =
    let rest = filter-kept p q both xs in
    elim (cases_Bool (q x)) [
      | inl stays ↦
          ap (filter p) (cond-true (q x) (x ∷ filter q xs) (filter q xs) stays) ∙ ap (λ ys. cond (p x) (x ∷ ys) ys) rest
      | inr goes ↦
          let other : p x ≡ false = false_from_ne_true (p x) (λ e. both_ways (q x) goes (both x e)) in
          ap (filter p) (cond-false (q x) (x ∷ filter q xs) (filter q xs) goes) ∙ rest ∙ sym (cond-false (p x) (x ∷ filter p xs) (filter p xs) other)
    ]

-- another feed's routes are removed
own-purge_other : (feed mover : ℕ) (t : List Route) → (mover ≡ feed → ⊥) → feed_routes feed (purge mover t) ≡ feed_routes feed t
own-purge_other feed mover t other =
    filter-kept (λ (r : Route). eqb r.feed feed) (λ (r : Route). not (eqb r.feed mover))
    (λ r mine. not_from_false (eqb r.feed mover) (ne_eqb r.feed mover (λ e. other (sym e ∙ eqb-true r.feed feed mine)))) t

-- after a purge, the feed has no routes
own-purge : (feed : ℕ) (t : List Route) → feed_routes feed (purge feed t) ≡ []
own-purge feed t = filter-both_none (λ (r : Route). eqb r.feed feed) t

-- a purge of a feed's own routes leaves none of them
purge-own : (feed : ℕ) (t : List Route) → purge feed (feed_routes feed t) ≡ []
purge-own feed t =
    filter-none (λ (r : Route). not (eqb r.feed feed)) (feed_routes feed t)
    (All-weaker (λ (r : Route). eqb r.feed feed ≡ true) (λ (r : Route). not (eqb r.feed feed) ≡ false)
    (λ r e. ap not e) (feed_routes feed t) (filter_passes (λ (r : Route). eqb r.feed feed) t))

-- another feed's command doesn't change the feed's routes
after_other : (limit : ℕ) (t : List Route) (feed mover : ℕ) (cmd : Cmd) → IsTable t → (mover ≡ feed → ⊥)
    → feed_routes feed (table_after limit t mover cmd) ≡ feed_routes feed t
unfolding table_after
after_other limit t feed =
    each_command (λ mover cmd. IsTable t → (mover ≡ feed → ⊥) → feed_routes feed (table_after limit t mover cmd) ≡ feed_routes feed t)
    (λ r h other.
    cond_both (has r.feed r.prefix t) t (if leb limit (count_of r.feed t) then t else put_in r t) (λ u. feed_routes feed u ≡ feed_routes feed t)
    (λ there. refl)
    (λ fresh. cond_both (leb limit (count_of r.feed t)) t (put_in r t) (λ u. feed_routes feed u ≡ feed_routes feed t) (λ full. refl)
    (λ room. own-put_in_other t h feed r fresh other)))
    (λ r h other.
    cond_both (has r.feed r.prefix t) (put_in r (take_out r.feed r.prefix t)) t (λ u. feed_routes feed u ≡ feed_routes feed t)
    (λ there.
    own-put_in_other (take_out r.feed r.prefix t) (IsTable-take_out r.feed r.prefix t h) feed r (has-take_out r.feed r.prefix t) other
    ∙ own-take_out_other t h feed r.feed r.prefix other) (λ fresh. refl))
    (λ mover p h other.
    cond_both (has mover p t) (take_out mover p t) t (λ u. feed_routes feed u ≡ feed_routes feed t)
    (λ there. own-take_out_other t h feed mover p other) (λ fresh. refl))
    (λ mover addr h other. refl)
    (λ mover h other. refl)
    (λ mover h other. own-purge_other feed mover t other)

-- the feed's own command changes its routes as it does in the whole table
after_own : (limit : ℕ) (t : List Route) (feed : ℕ) (cmd : Cmd) → IsTable t
    → feed_routes feed (table_after limit t feed cmd) ≡ table_after limit (feed_routes feed t) feed cmd
unfolding table_after
after_own limit t =
    each_command (λ feed cmd. IsTable t → feed_routes feed (table_after limit t feed cmd) ≡ table_after limit (feed_routes feed t) feed cmd)
    (λ r h.
    rw (has-own r.feed r.prefix t, count_of-own r.feed t)
    (elim (cases_Bool (has r.feed r.prefix t)) [
      | inl there ↦ rw there
      | inr fresh ↦ elim (cases_Bool (leb limit (count_of r.feed t))) [
        | inl full ↦ rw (fresh, full)
        | inr room ↦ rw (fresh, room) (own-put_in t h r fresh)
      ]
    ]))
    (λ r h.
    rw (has-own r.feed r.prefix t)
    (elim (cases_Bool (has r.feed r.prefix t)) [
      | inl there ↦
          rw there
          (own-put_in (take_out r.feed r.prefix t) (IsTable-take_out r.feed r.prefix t h) r (has-take_out r.feed r.prefix t)
          ∙ ap (put_in r) (own-take_out t h r.feed r.prefix))
      | inr fresh ↦ rw fresh
    ]))
    (λ feed p h.
    rw (has-own feed p t) (elim (cases_Bool (has feed p t)) [ inl there ↦ rw there (own-take_out t h feed p) | inr fresh ↦ rw fresh ]))
    (λ feed addr h. refl)
    (λ feed h. refl)
    (λ feed h. own-purge feed t ∙ sym (purge-own feed t))

-- the feed's own command is answered from its routes
reply_own : (limit : ℕ) (t : List Route) (feed : ℕ) (cmd : Cmd) → is_own cmd ≡ true → reply_of limit t feed cmd ≡ reply_of limit (feed_routes feed t) feed cmd
unfolding reply_of
reply_own limit t =
    each_command (λ feed cmd. is_own cmd ≡ true → reply_of limit t feed cmd ≡ reply_of limit (feed_routes feed t) feed cmd)
    (λ r e. rw (has-own r.feed r.prefix t, count_of-own r.feed t))
    (λ r e. rw (has-own r.feed r.prefix t))
    (λ feed p e. rw (has-own feed p t))
    (λ feed addr e. absurd (false≢true e))
    (λ feed e. absurd (false≢true e))
    (λ feed e. rw (count_of-own feed t) refl)

-- the same for a whole journal, starting from any table
own_fold : (limit feed : ℕ) (t : List Route) (journal : List Entry) → IsTable t
    → feed_routes feed (fold (step limit) t journal) ≡ fold (step limit) (feed_routes feed t) (feed_entries feed journal)
own_fold limit feed t [] h = refl
own_fold limit feed t (e ∷ journal) h =
    let rest = own_fold limit feed (step limit t e) journal (IsTable-after limit t e.feed e.cmd h) in
    let others = feed_entries feed journal in
    elim (cases_Bool (eqb e.feed feed)) [
      | inl same ↦
          let mine : feed_routes feed (step limit t e) ≡ step limit (feed_routes feed t) e =
          subst (λ g. feed_routes g (table_after limit t e.feed e.cmd) ≡ table_after limit (feed_routes g t) e.feed e.cmd) (eqb-true e.feed feed same)
          (after_own limit t e.feed e.cmd h) in
          rest ∙ ap (λ u. fold (step limit) u others) mine
          ∙ ap (fold (step limit) (feed_routes feed t)) (sym (cond-true (eqb e.feed feed) (e ∷ others) others same))
      | inr other ↦
          rest ∙ ap (λ u. fold (step limit) u others) (after_other limit t feed e.feed e.cmd h (eqb-false e.feed feed other))
          ∙ ap (fold (step limit) (feed_routes feed t)) (sym (cond-false (eqb e.feed feed) (e ∷ others) others other))
    ]

-- the same, starting from the empty table
own_of_journal : (limit feed : ℕ) (journal : List Entry)
    → feed_routes feed (table_of_journal limit journal) ≡ table_of_journal limit (feed_entries feed journal)
unfolding table_of_journal
own_of_journal limit feed journal = own_fold limit feed [] journal IsTable-nil

-- both together
pub feeds_are_independent : FeedsStandAlone
feeds_are_independent limit feed journal cmd =
    let same = own_of_journal limit feed journal in
    (same, (λ e. reply_own limit (table_of_journal limit journal) feed cmd e ∙ ap (λ t. reply_of limit t feed cmd) same))
