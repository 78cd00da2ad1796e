-- The passes of a table, as `new` deals them and `settle` takes them back.
use Rattle.std.proofs.Common.{◌≡◌, ℕ, ◌^◌, ◌<◌, List, [], ◌∷◌, ◌++◌, All, map, length, get_or, Some, None, Option, sym, ap, ◌∙◌, subst, arith}
use Rattle.std.proofs.lemmas.List.Elements.{All-map, All-nil, All-cons, All-head, All-tail}
use Rattle.std.proofs.lemmas.List.{get_or-map, length-map}
use Rattle.std.proofs.lemmas.Option.{slice_get-get_or, slice_get_within}
use Rattle.rt_rib.specs.declared.commands.Entry.{Entry}
use Rattle.rt_shared.specs.JournalVisits.{Since}
use Rattle.ya_lock.specs.Lock.{LockId, IdlePass, ArePassesInOrder, new_pass}
use Rattle.rt_rib.specs.Sequential.{IsLawfulJournal}
use Rattle.rt_shared.specs.declared.lent.Lent.{Lent}
use Rattle.rt_shared.specs.SharedTable.{SharedId, HeldPass, ArePassesOf, feed_of, GrowsByOthers}
use Rattle.rt_shared.specs.inside.PassModel.{of_feed, held_pass, HoldsLockPass}

-- the place of a pass of the lock belongs to a feed
abbrev pub HasFeed : IdlePass Lent → Type 0
HasFeed p = p.place < p.seen.feeds

-- the journal that a pass has seen is lawful
pub seen_is_lawful : (feed : ℕ) (pass : Option (IdlePass Lent)) → HoldsLockPass feed pass
    → IsLawfulJournal (held_pass feed pass).table.limit (held_pass feed pass).seen
seen_is_lawful feed (Some pass) there = pass.seen.lawful
seen_is_lawful feed None there = absurd there

-- a property of all elements holds for one among them
pub all_amid : {X : Type 0} (P : X → Type 0) (xs ys : List X) (x : X) → All P (xs ++ x ∷ ys) → P x
all_amid P [] ys x all = All-head P x ys all
all_amid P (y ∷ xs) ys x all = all_amid P xs ys x (All-tail P y (xs ++ x ∷ ys) all)

-- a property of all elements holds for a prefix of them
pub all_front : {X : Type 0} (P : X → Type 0) (xs ys : List X) → All P (xs ++ ys) → All P xs
all_front P [] ys all = All-nil P
all_front P (x ∷ xs) ys all = All-cons P x xs (All-head P x (xs ++ ys) all) (all_front P xs ys (All-tail P x (xs ++ ys) all))

-- the last pass is a pass of the table
pub last_of : (table : SharedId) (passes rest : List HeldPass) (last : HeldPass) → ArePassesOf table passes → passes ≡ rest ++ last ∷ [] → last.table ≡ table
last_of table passes rest last are is = all_amid (λ (p : HeldPass). p.table ≡ table) rest [] last
    (subst (All (λ (p : HeldPass). p.table ≡ table)) is are.tables)

-- a pass of a table is a pass of its lock
pub lock_of : (feed : ℕ) (pass : Option (IdlePass Lent)) (idle : IdlePass Lent) (held : HeldPass) (table own : SharedId)
    → pass ≡ Some idle → held_pass feed pass ≡ held → held.table ≡ table → own ≡ table → idle.lock ≡ own.lock
lock_of feed pass idle held table own there view of self =
    ap (λ (p : HeldPass). p.table.lock) (sym (ap (held_pass feed) there) ∙ view) ∙ ap (λ (t : SharedId). t.lock) (of ∙ sym self)

-- the lock's own numbers fit
pub spaced : 64 < 9223372036854775808
spaced = omega arith

-- the lock's promise on its pass holds for the feed's pass
pub since_of : (idle : IdlePass Lent) (pass : HeldPass) (now : Lent) → feed_of idle.place ≡ pass.feed
    → idle.seen.book.journal ≡ pass.seen → GrowsByOthers idle.place idle.seen now
    → Since pass.feed pass.seen now.book.journal
since_of idle pass now feed seen grows =
    subst (λ (n : ℕ). Since n pass.seen now.book.journal) feed (subst (λ (l : List Entry). Since (feed_of idle.place) l now.book.journal) seen grows.since)

-- passes of the same tables and feeds
pub passes_kept : (table : SharedId) (old new : List HeldPass) → ArePassesOf table old → length new ≡ length old
    → ((i : ℕ) (d : HeldPass) → i < length old → ((get_or new i d).table ≡ (get_or old i d).table)
    × ((get_or new i d).feed ≡ (get_or old i d).feed)) → ArePassesOf table new
passes_kept table old new are long each = record {
  count = long ∙ are.count;
  tables = λ k d h. (each k d (omega arith)).0 ∙ are.tables k d (omega arith);
  feeds = λ i p e.
      let within : i < length new = slice_get_within new i p e in
      let here = slice_get-get_or new i p within in
      let is : p ≡ get_or new i p = cc (here, e) in
      ap (λ (q : HeldPass). q.feed) is ∙ ((each i p (omega arith)).1 ∙ are.feeds i (get_or old i p) (slice_get-get_or old i p (omega arith)));
}

-- the passes of a new lock, as the passes of the feeds of a table
module _ (lock : LockId) (levels : ℕ) (lent : Lent) (passes : List (IdlePass Lent))
    (deal : ArePassesInOrder lock levels lent passes) (few : 2 ^ levels ≡ lent.feeds) where
  -- the k-th pass
  at_place : (k : ℕ) (d : IdlePass Lent) → k < length passes → get_or passes k d ≡ new_pass lock k lent
  at_place k d h = let e = slice_get-get_or passes k d h in let f = deal.each k (omega (arith, deal.count)) in cc

  pub in_range : All HasFeed passes
  in_range k d h = subst HasFeed (sym (at_place k d h)) (omega (arith, deal.count))

  pub are_dealt : ArePassesOf (record { lock = lock; limit = lent.book.limit; feeds = lent.feeds }) (map of_feed passes)
  are_dealt = record {
    count = length-map passes of_feed ∙ (deal.count ∙ few);
    tables = All-map (λ (p : HeldPass). p.table ≡ record { lock = lock; limit = lent.book.limit; feeds = lent.feeds }) of_feed passes
        (λ k d h. ap (λ (p : IdlePass Lent). (of_feed p).table) (at_place k d h));
    feeds = λ i p e.
        let within : i < length (map of_feed passes) = slice_get_within (map of_feed passes) i p e in
        let within' : i < length passes = omega (arith, length-map passes of_feed) in
        let d : IdlePass Lent = new_pass lock i lent in
        let here : get_or (map of_feed passes) i p ≡ of_feed (get_or passes i d) = get_or-map of_feed passes i d p within' in
        let there : get_or passes i d ≡ d = at_place i d within' in
        let it = slice_get-get_or (map of_feed passes) i p within in
        let is : p ≡ of_feed d = cc (here, ap of_feed there, it, e) in
        ap (λ (q : HeldPass). q.feed) is;
  }

  pub have_seen : lent.book.journal ≡ [] → All (λ p. p.seen ≡ []) (map of_feed passes)
  have_seen empty = All-map (λ (p : HeldPass). p.seen ≡ []) of_feed passes (λ k d h. ap (λ (p : IdlePass Lent). p.seen.book.journal) (at_place k d h) ∙ empty)
