-- The list of a part of the addresses: how it grows, and how the lists of two parts are joined.
use Rattle.std.proofs.Common.{◌≡◌, ℕ, ◌+◌, ◌*◌, ◌^◌, ◌<◌, ◌≤◌, inl, inr, List, [], ◌∷◌, ◌++◌, length, get_or, Option, Some, None, Result, Ok, Err, append_assoc, append-nil, sym, subst, ◌∙◌, arith}
use Rattle.std.specs.Prelude.{IfOk}
use Rattle.std.specs.declared.vec.Vec.{Vec}
use Rattle.std.specs.declared.alloc.Global.{Global}
use Rattle.std.specs.declared.alloc.AllocError.{AllocError}
use Rattle.std.proofs.lemmas.Bool.{cases_lt}
use Rattle.rt_cidr.specs.declared.address.Addr.{Addr}
use Rattle.rt_diff.specs.declared.comparison.Difference.{Difference}
use Rattle.rt_diff.specs.Differences.{Compared, IsNextDifference, IsFirstDifference, AreDifferences}
use Rattle.rt_diff.specs.inside.Rest.{AreRest}
use Rattle.rt_diff.specs.inside.Parts.{AreAllAlike, IsNextWithin, IsFirstWithin, AreOfPart, ListEach, GoesOnIn, up_to, ArePutAfter, AreJoined, addresses_from, IsListing}
use Rattle.rt_diff.proofs.Rest.{at, rest_none, rest_next, whole}

-- an absent difference is `None`
pub none_left : (next : Option Difference) → ((d : Difference) → next ≡ Some d → ⊥) → next ≡ None
none_left next h = grind arith

module _ (tables : Compared) where
  -- the first range from an address on isn't cut at the end of all addresses
  next_of_all : (first : Addr) (d : Difference) → IsNextWithin tables first.0 (2 ^ 32) d
      → IsNextDifference tables.by tables.old_table tables.new_table first d
  next_of_all first d next = record {
    onward = next.onward;
    before = next.before;
    difference = next.difference;
    longest = next.longest;
  }

  pub first_of_all : (first : Addr) (found : Option Difference) → IsFirstWithin tables first.0 (2 ^ 32) found
      → IsFirstDifference tables.by tables.old_table tables.new_table first found
  first_of_all first None alike = alike
  first_of_all first (Some d) next = next_of_all first d next

  -- the list of the part that ends with all addresses is the list from its first address on
  rest_of_all : (first : ℕ) (list : List Difference) → AreOfPart tables first (2 ^ 32) list
      → AreRest tables.by tables.old_table tables.new_table first list
  rest_of_all first [] alike = rest_none tables.by tables.old_table tables.new_table first alike
  rest_of_all first (d ∷ rest) (next, are) =
      rest_next tables.by tables.old_table tables.new_table (at first) d rest (next_of_all (at first) d next) (rest_of_all (d.last.0 + 1) rest are)

  pub list_of_all : (end : ℕ) (list : List Difference) → end ≡ 2 ^ 32 → AreOfPart tables 0 end list
      → AreDifferences tables.by tables.old_table tables.new_table list
  list_of_all end list all are =
      whole tables.by tables.old_table tables.new_table list (rest_of_all 0 list (subst (λ (n : ℕ). AreOfPart tables 0 n list) all are))

  -- the same if memory didn't run out
  pub all_listed : (end : ℕ) (run : Result (Vec Difference Global) AllocError) → end ≡ 2 ^ 32
      → IfOk run (λ list. AreOfPart tables 0 end list.items) → IfOk run (λ list. AreDifferences tables.by tables.old_table tables.new_table list.items)
  all_listed end (Ok list) all are = list_of_all end list.items all are
  all_listed end (Err refused) all are = tt

  -- addresses before the part that have the same answer in both tables add no range
  next_later : (first cut end : ℕ) (d : Difference) → first ≤ cut → AreAllAlike tables first cut → IsNextWithin tables cut end d
      → IsNextWithin tables first end d
  next_later first cut end d before alike next = record {
    onward = omega (arith, before, next.onward);
    within = next.within;
    before = λ addr here later. elim (cases_lt addr.0 cut) [
      | inl inside ↦ alike addr here inside
      | inr behind ↦ next.before addr behind later
    ];
    difference = next.difference;
    longest = next.longest;
  }

  part_later : (first cut end : ℕ) (list : List Difference) → first ≤ cut → AreAllAlike tables first cut → AreOfPart tables cut end list
      → AreOfPart tables first end list
  part_later first cut end [] before alike are = λ addr here inside. elim (cases_lt addr.0 cut) [
    | inl early ↦ alike addr here early
    | inr late ↦ are addr late inside
  ]
  part_later first cut end (d ∷ rest) before alike (next, are) = (next_later first cut end d before alike next, are)

  -- a range before the end of its part isn't the last address of the part
  some_behind : (first end : ℕ) (before : List Difference) (d : Difference) → AreOfPart tables first end (before ++ d ∷ []) → first < end
  some_behind first end [] d (next, are) = omega (arith, next.onward, next.within, next.difference.some)
  some_behind first end (c ∷ before) d (next, are) = omega (arith, next.onward, next.within, next.difference.some)

  -- a range before others is the same in a longer part
  next_longer : (first cut end : ℕ) (c : Difference) → cut ≤ end → c.last.0 + 1 < cut → IsNextWithin tables first cut c → IsNextWithin tables first end c
  next_longer first cut end c longer inside next = record {
    onward = next.onward;
    within = omega (arith, longer, inside);
    before = next.before;
    difference = next.difference;
    longest = λ addr adjacent fits. next.longest addr adjacent (omega (arith, inside, adjacent));
  }

  -- the last range of a part and the first of the next one are one, if it goes on there
  next_up_to : (first cut end : ℕ) (d next : Difference) → cut ≤ end → IsNextWithin tables first cut d → IsNextWithin tables cut end next → GoesOnIn d next
      → IsNextWithin tables first end (up_to d next.last)
  next_up_to first cut end d next longer is behind goes_on = record {
    onward = is.onward;
    within = behind.within;
    before = is.before;
    difference = record {
      some = omega (arith, is.difference.some, behind.difference.some, goes_on.0);
      fits = behind.difference.fits;
      each = λ addr within. elim (cases_lt d.last.0 addr.0) [
        | inl later ↦
            let answers = behind.difference.each addr (omega (arith, later, goes_on.0), within.1) in
            (answers.0 ∙ sym goes_on.1.0, answers.1 ∙ sym goes_on.1.1)
        | inr inside ↦ is.difference.each addr (within.0, inside)
      ];
      differ = is.difference.differ;
    };
    longest = λ addr adjacent fits same. behind.longest addr adjacent fits (same.0 ∙ goes_on.1.0, same.1 ∙ goes_on.1.1);
  }

  -- else the last range of a part ends there
  next_ends : (first cut end : ℕ) (d next : Difference) → cut ≤ end → IsNextWithin tables first cut d → IsNextWithin tables cut end next → (GoesOnIn d next → ⊥)
      → IsNextWithin tables first end d
  next_ends first cut end d next longer is behind apart = record {
    onward = is.onward;
    within = omega (arith, longer, is.within);
    before = is.before;
    difference = is.difference;
    longest = λ addr adjacent fits same. elim (cases_lt addr.0 cut) [
      | inl inside ↦ is.longest addr adjacent inside same
      | inr at_cut ↦ elim (cases_lt addr.0 next.first.0) [
        | inl before ↦ is.difference.differ (sym same.0 ∙ behind.before addr at_cut before ∙ same.1)
        | inr begun ↦
            let answers = behind.difference.each addr (begun, omega (arith, is.within, adjacent, behind.onward, behind.difference.some)) in
            apart (omega (arith, is.within, adjacent, at_cut, begun, behind.onward), (sym same.0 ∙ answers.0, sym same.1 ∙ answers.1))
      ]
    ];
  }

  -- and so it does if the next part has no ranges
  next_alone : (first cut end : ℕ) (d : Difference) → cut ≤ end → IsNextWithin tables first cut d → AreAllAlike tables cut end → IsNextWithin tables first end d
  next_alone first cut end d longer is alike = record {
    onward = is.onward;
    within = omega (arith, longer, is.within);
    before = is.before;
    difference = is.difference;
    longest = λ addr adjacent fits same. elim (cases_lt addr.0 cut) [
      | inl inside ↦ is.longest addr adjacent inside same
      | inr at_cut ↦ is.difference.differ (sym same.0 ∙ alike addr at_cut fits ∙ same.1)
    ];
  }

  -- a list, if the next part has no ranges
  joined_none : (first cut end : ℕ) (list : List Difference) → first ≤ cut → cut ≤ end → AreOfPart tables first cut list → AreAllAlike tables cut end
      → AreOfPart tables first end list
  joined_none first cut end [] before longer are alike = part_later first cut end [] before are alike
  joined_none first cut end (d ∷ rest) before longer (next, are) alike =
      (next_alone first cut end d longer next alike, joined_none (d.last.0 + 1) cut end rest (omega (arith, next.within)) longer are alike)

  -- the last range of a part, and those of the next one
  put_after : (first cut end : ℕ) (d : Difference) (more list : List Difference) → cut ≤ end → IsNextWithin tables first cut d → AreAllAlike tables (d.last.0 + 1) cut
      → AreOfPart tables cut end more → ArePutAfter d more list → AreOfPart tables first end list
  put_after first cut end d more list longer is alike are put =
      let (next, rest_are) : IsNextWithin tables cut end put.next × AreOfPart tables (put.next.last.0 + 1) end put.rest = subst (AreOfPart tables cut end) put.more_are are in
      elim put.put [
        | inl one ↦ subst (AreOfPart tables first end) (sym one.1) (next_up_to first cut end d put.next longer is next one.0, rest_are)
        | inr apart ↦ subst (AreOfPart tables first end) (sym apart.1)
            (next_ends first cut end d put.next longer is next apart.0, part_later (d.last.0 + 1) cut end more (omega (arith, is.within)) alike are)
      ]

  -- and those before it
  put_behind : (first cut end : ℕ) (before : List Difference) (d : Difference) (more behind : List Difference) → cut ≤ end → AreOfPart tables first cut (before ++ d ∷ [])
      → AreOfPart tables cut end more → ArePutAfter d more behind → AreOfPart tables first end (before ++ behind)
  put_behind first cut end [] d more behind longer (next, alike) are put = put_after first cut end d more behind longer next alike are put
  put_behind first cut end (c ∷ before) d more behind longer (next, rest) are put =
      (next_longer first cut end c longer (some_behind (c.last.0 + 1) cut before d rest) next, put_behind (c.last.0 + 1) cut end before d more behind longer rest are put)

  -- the ranges of a part, joined with those of the next one
  pub parts_joined : (first cut end : ℕ) (list more all : List Difference) → first ≤ cut → cut ≤ end → AreOfPart tables first cut list → AreOfPart tables cut end more
      → AreJoined list more all → AreOfPart tables first end all
  parts_joined first cut end list more all before longer one other joined = elim joined [
    | inl none ↦ subst (AreOfPart tables first end) (sym none.1)
        (joined_none first cut end list before longer one (subst (AreOfPart tables cut end) none.0 other))
    | inr some ↦ elim some [
      | inl first_ones ↦ subst (AreOfPart tables first end) (sym first_ones.1)
          (part_later first cut end more before (subst (AreOfPart tables first cut) first_ones.0 one) other)
      | inr at_seam ↦ subst (AreOfPart tables first end) (sym at_seam.all_are)
          (put_behind first cut end at_seam.before at_seam.d more at_seam.behind longer (subst (AreOfPart tables first cut) at_seam.list_is one) other at_seam.put)
    ]
  ]

  -- before the first range of a part
  pub listing_begun : (first end : ℕ) (next : Option Difference) → IsFirstWithin tables first end next → IsListing tables first end next []
  listing_begun first end next is = record { from = first; is_next = is; so_far = λ rest are. are }

  -- one more range
  pub listing_more : (first end : ℕ) (list : List Difference) (d : Difference) (next : Option Difference) → IsListing tables first end (Some d) list
      → IsFirstWithin tables (d.last.0 + 1) end next → IsListing tables first end next (list ++ d ∷ [])
  listing_more first end list d next far is = record {
    from = d.last.0 + 1;
    is_next = is;
    so_far = λ rest are. rw append_assoc (far.so_far (d ∷ rest) (far.is_next, are));
  }

  -- if no range is left, these are all of the part
  pub listing_ended : (first end : ℕ) (list : List Difference) → IsListing tables first end None list → AreOfPart tables first end list
  listing_ended first end list far = subst (AreOfPart tables first end) (append-nil list) (far.so_far [] far.is_next)

  -- fewer addresses are left after a range
  pub fewer_left : (first end : ℕ) (d : Difference) (next : Option Difference) → IsNextWithin tables first end d
      → IsFirstWithin tables (d.last.0 + 1) end next → addresses_from next < addresses_from (Some d)
  fewer_left first end d None is later = omega (arith, is.difference.some, is.difference.fits)
  fewer_left first end d (Some e) is later = omega (arith, is.difference.some, is.difference.fits, later.onward)

  -- no ranges of no block
  pub none_joined : AreOfPart tables 0 (0 * 2 ^ 26) []
  none_joined addr here inside = absurd (omega (arith, inside))

  -- the list of a block among those of all
  pub listed_block : (runs : List (Result (Vec Difference Global) AllocError)) (block : ℕ) (run : Result (Vec Difference Global) AllocError)
      (list : Vec Difference Global) → ListEach tables runs → block < length runs → length runs ≡ 64 → run ≡ get_or runs block run → run ≡ Ok list
      → AreOfPart tables (block * 2 ^ 26) ((block + 1) * 2 ^ 26) list.items
  listed_block runs block run list each here all is ok =
      let lists : Result (Vec Difference Global) AllocError → Type 0 = λ r. IfOk r (λ l. AreOfPart tables (block * 2 ^ 26) ((block + 1) * 2 ^ 26) l.items) in
      subst lists ok (subst lists (sym is) (each block run here (omega (arith, here, all))))

  -- the list of a block, by its first and last addresses
  pub block_listed : (block : ℕ) (first last : Addr) (run : Result (Vec Difference Global) AllocError) → first.0 ≡ block * 2 ^ 26 → last.0 + 1 ≡ (block + 1) * 2 ^ 26
      → IfOk run (λ list. AreOfPart tables first.0 (last.0 + 1) list.items) → IfOk run (λ list. AreOfPart tables (block * 2 ^ 26) ((block + 1) * 2 ^ 26) list.items)
  block_listed block first last (Ok list) begins ends are =
      subst (λ (n : ℕ). AreOfPart tables (block * 2 ^ 26) n list.items) ends (subst (λ (n : ℕ). AreOfPart tables n (last.0 + 1) list.items) begins are)
  block_listed block first last (Err refused) begins ends are = tt
