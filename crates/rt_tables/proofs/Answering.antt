-- Look-ups in two tables and in their union.
use Rattle.std.proofs.Common.{◌≡◌, ◌⊎◌, true, false, inl, inr, List, [], ◌∷◌, ◌++◌, Option, Some, None, refl, ap, ◌∙◌, sym, arith}
use Rattle.std.proofs.lemmas.Bool.{cases_Bool, both_ways, false_from_ne_true}
use Rattle.std.specs.List.{Contains}
use Rattle.rt_cidr.specs.declared.address.Addr.{Addr}
use Rattle.rt_cidr.specs.Prefix.{covers}
use Rattle.rt_rib.specs.declared.routes.Route.{Route}
use Rattle.rt_rib.specs.Table.{is_better, IsTable}
use Rattle.rt_rib.specs.LookUp.{look_up, beats, look_up_all}
use Rattle.rt_rib.specs.Laws.{IsBestMatch, AreAllMatches}
use Rattle.rt_rib.proofs.Best.{beats-trans, look_up_finds_best}
use Rattle.rt_rib.proofs.Order.{below_then-true, below_then-false, below_then-less, below_then-same, is_better-trans, is_better-other}
use Rattle.rt_rib.proofs.Ranking.{Beats, look_up_all_finds_matches}
use Rattle.rt_tables.specs.Unions.{union_of}
use Rattle.rt_tables.specs.inside.Answers.{better_of}
use Rattle.rt_tables.specs.inside.Merging.{merged}
use Rattle.rt_tables.specs.inside.Tables.{AreTables}
use Rattle.rt_tables.proofs.Merging.{merged_contains, merged_ordered}
use Rattle.rt_tables.proofs.Pairs.{two, two_contains, two_union, two_differ, first_table, second_table, more_tables, union_more}

-- one of two routes of different feeds beats the other
beats_other : (r s : Route) → (s.feed ≡ r.feed → ⊥) → beats s r ≡ false → beats r s ≡ true
beats_other r s other e = elim (below_then-false r.prefix.len s.prefix.len (is_better s r) e) [
  | inl less ↦ below_then-less s.prefix.len r.prefix.len (is_better r s) less
  | inr same ↦ below_then-same s.prefix.len r.prefix.len (is_better r s) (sym same.0) (is_better-other r s same.1 other)
]

module _ (addr : Addr) where
  -- no prefix of the table covers the address
  abbrev CoversNone : List Route → Type 0
  CoversNone t = (s : Route) → Contains t s → covers s.prefix addr ≡ false

  -- the best match of one of two tables is that of both, if the other has none, or one that it beats
  alone_best : (t u all : List Route) → ((s : Route) → Contains all s → Contains t s ⊎ Contains u s)
      → (r : Route) → Contains all r → IsBestMatch addr t r → CoversNone u → IsBestMatch addr all r
  alone_best t u all from r there h none = record {
    contained = there;
    covering = h.covering;
    longest = λ s c e. elim (from s c) [ inl own ↦ h.longest s own e | inr other ↦ absurd (both_ways (covers s.prefix addr) (none s other) e) ];
    best = λ s c e len. elim (from s c) [ inl own ↦ h.best s own e len | inr other ↦ absurd (both_ways (covers s.prefix addr) (none s other) e) ];
  }

  beaten_best : (t u all : List Route) → ((s : Route) → Contains all s → Contains t s ⊎ Contains u s)
      → (r b : Route) → Contains all r → IsBestMatch addr t r → IsBestMatch addr u b → Beats r b → IsBestMatch addr all r
  beaten_best t u all from r b there h k over =
      let cases = below_then-true b.prefix.len r.prefix.len (is_better r b) over in
      record {
        contained = there;
        covering = h.covering;
        longest = λ s c e. elim (from s c) [
          | inl own ↦ h.longest s own e
          | inr other ↦
              let most = k.longest s other e in
              elim cases [ inl less ↦ omega arith | inr same ↦ let len = same.0 in omega arith ]
        ];
        best = λ s c e len. elim (from s c) [
          | inl own ↦ h.best s own e len
          | inr other ↦
              let most = k.longest s other e in
              elim cases [
                | inl less ↦ absurd (omega arith)
                | inr same ↦ false_from_ne_true (is_better s r) (λ back.
                    both_ways (is_better s b) (k.best s other e (len ∙ sym same.0)) (is_better-trans s r b back same.1))
              ]
        ];
      }

  module _ (t u : List Route) (h : AreTables (two t u)) where
    abbrev all : List Route
    all = union_of (two t u)

    -- the best match of the union is its answer
    answer_is : (r : Route) → IsBestMatch addr all r → look_up addr all ≡ Some r
    answer_is r best = ((look_up_finds_best addr all (two_union t u h)).0 r).1 best

    first_or_second : (s : Route) → Contains all s → Contains t s ⊎ Contains u s
    first_or_second s c = (two_contains t u s).0 c

    second_or_first : (s : Route) → Contains all s → Contains u s ⊎ Contains t s
    second_or_first s c = elim (first_or_second s c) [ inl one ↦ inr one | inr other ↦ inl other ]

    -- the better of the answers of two tables is the answer of their union
    pub look_up_two : look_up addr all ≡ better_of (look_up addr t) (look_up addr u)
    look_up_two = by_answers (look_up addr t) (look_up addr u) refl refl where
      one : IsTable t
      one = first_table t u h

      other : IsTable u
      other = second_table t u h

      by_answers : (a b : Option Route) → look_up addr t ≡ a → look_up addr u ≡ b → look_up addr all ≡ better_of a b
      by_answers None None e f =
          (look_up_finds_best addr all (two_union t u h)).1.1 (λ s c. elim (first_or_second s c) [
            | inl own ↦ (look_up_finds_best addr t one).1.0 e s own
            | inr own ↦ (look_up_finds_best addr u other).1.0 f s own
          ])
      by_answers None (Some s) e f =
          let best = ((look_up_finds_best addr u other).0 s).0 f in
          answer_is s (alone_best u t all second_or_first s ((two_contains t u s).1 (inr best.contained)) best ((look_up_finds_best addr t one).1.0 e))
      by_answers (Some r) None e f =
          let best = ((look_up_finds_best addr t one).0 r).0 e in
          answer_is r (alone_best t u all first_or_second r ((two_contains t u r).1 (inl best.contained)) best ((look_up_finds_best addr u other).1.0 f))
      by_answers (Some r) (Some s) e f =
          let best = ((look_up_finds_best addr t one).0 r).0 e in
          let also = ((look_up_finds_best addr u other).0 s).0 f in
          elim (cases_Bool (beats s r)) [
            | inl over ↦ rw over (answer_is s (beaten_best u t all second_or_first s r ((two_contains t u s).1 (inr also.contained)) also best over))
            | inr under ↦ rw under (answer_is r (beaten_best t u all first_or_second r s ((two_contains t u r).1 (inl best.contained)) best also
                (beats_other r s (λ same. two_differ t u h r s best.contained also.contained (sym same)) under)))
          ]

    -- the matches of two tables, merged, are those of their union
    pub look_up_all_two : merged beats (look_up_all addr t) (look_up_all addr u) ≡ look_up_all addr all
    look_up_all_two =
        let one : AreAllMatches addr t (look_up_all addr t) = ((look_up_all_finds_matches addr t (first_table t u h)).0 (look_up_all addr t)).0 refl in
        let other : AreAllMatches addr u (look_up_all addr u) = ((look_up_all_finds_matches addr u (second_table t u h)).0 (look_up_all addr u)).0 refl in
        sym (((look_up_all_finds_matches addr all (two_union t u h)).0 (merged beats (look_up_all addr t) (look_up_all addr u))).1 (record {
          exactly = λ r.
              let both = merged_contains beats (look_up_all addr t) (look_up_all addr u) r in
              let routes = two_contains t u r in (
                (λ c. elim (both.0 c) [
                  | inl own ↦ let x = (one.exactly r).0 own in (routes.1 (inl x.0), x.1)
                  | inr own ↦ let x = (other.exactly r).0 own in (routes.1 (inr x.0), x.1)
                ]),
                (λ c. elim (routes.0 c.0) [
                  | inl own ↦ both.1 (inl ((one.exactly r).1 (own, c.1)))
                  | inr own ↦ both.1 (inr ((other.exactly r).1 (own, c.1)))
                ]),
              );
          ordered =
              merged_ordered beats beats-trans (look_up_all addr t) (look_up_all addr u) one.ordered other.ordered
              (λ r s c d e.
              beats_other r s (λ same. two_differ t u h r s ((one.exactly r).0 c).0 ((other.exactly s).0 d).0 (sym same)) e);
        }))

  -- the answer of some tables and one more
  pub look_up_more : (ts : List (List Route)) (t : List Route) → AreTables (ts ++ t ∷ [])
      → look_up addr (union_of (ts ++ t ∷ [])) ≡ better_of (look_up addr (union_of ts)) (look_up addr t)
  look_up_more ts t h = ap (look_up addr) (union_more ts t h) ∙ look_up_two (union_of ts) t (more_tables ts t h)
