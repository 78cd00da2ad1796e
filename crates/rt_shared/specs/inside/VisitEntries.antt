-- A feed's entries in a journal are the entries of its visits, if these are uncut in it. Each journal has such visits, and
-- all of them have the same commands and replies, in order.
use Rattle.std.proofs.Common.{◌≡◌, ◌≢◌, ℕ, List, [], ◌∷◌, ◌++◌, map, inl, inr, eqb, refl, sym, ap, ◌∙◌, subst}
use Rattle.std.specs.List.{flat_map}
use Rattle.std.specs.Bool.{◌==◌}
use Rattle.std.specs.Prelude.{Bool, true, false}
use Rattle.std.proofs.lemmas.List.{map-append}
use Rattle.std.proofs.lemmas.List.Elements.{All-nil, All-cons, All-head, All-tail, filter-append}
use Rattle.std.proofs.lemmas.Bool.{cases_Bool, eqb-true, eqb-false, eq-eqb, ne_eqb}
use Rattle.rt_rib.specs.declared.commands.Cmd.{Cmd}
use Rattle.rt_rib.specs.declared.commands.Reply.{Reply}
use Rattle.rt_rib.specs.declared.commands.Entry.{Entry}
use Rattle.rt_rib.specs.Laws.{feed_entries}
use Rattle.rt_shared.specs.JournalVisits.{AllBy, NoneBy, IsContiguousIn, AnsweredBatch, entries}

-- a journal without entries of the feed
pub no_entries : (feed : ℕ) (journal : List Entry) → NoneBy feed journal → feed_entries feed journal ≡ []
no_entries feed [] none = refl
no_entries feed (e ∷ es) none =
    let other : (e.feed == feed) ≡ false = ne_eqb e.feed feed (All-head (λ (x : Entry). x.feed ≢ feed) e es none) in
    rw other (no_entries feed es (All-tail (λ (x : Entry). x.feed ≢ feed) e es none))

-- a journal with only entries of the feed
own_entries : (feed : ℕ) (journal : List Entry) → AllBy feed journal → feed_entries feed journal ≡ journal
own_entries feed [] all = refl
own_entries feed (e ∷ es) all =
    let own : (e.feed == feed) ≡ true = eq-eqb e.feed feed (All-head (λ (x : Entry). x.feed ≡ feed) e es all) in
    rw own (ap (λ (l : List Entry). e ∷ l) (own_entries feed es (All-tail (λ (x : Entry). x.feed ≡ feed) e es all)))

pub entries_of_visits : (feed : ℕ) (visits : List (List Entry)) (journal : List Entry) → IsContiguousIn feed visits journal
    → feed_entries feed journal ≡ flat_map (λ visit. visit) visits
entries_of_visits feed [] journal none = no_entries feed journal none
entries_of_visits feed (visit ∷ visits) journal (before, rest, is, none, all, uncut) =
    let own : Entry → Bool = λ e. e.feed == feed in
    ap (feed_entries feed) is ∙ (filter-append own before (visit ++ rest)
    ∙ (ap (λ (l : List Entry). l ++ feed_entries feed (visit ++ rest)) (no_entries feed before none)
    ∙ (filter-append own visit rest ∙ (ap (λ (l : List Entry). l ++ feed_entries feed rest) (own_entries feed visit all)
    ∙ ap (λ (l : List Entry). visit ++ l) (entries_of_visits feed visits rest uncut)))))

-- an entry of another feed in front splits no visit
uncut_behind : (feed : ℕ) (visits : List (List Entry)) (e : Entry) (journal : List Entry) → e.feed ≢ feed → IsContiguousIn feed visits journal
    → IsContiguousIn feed visits (e ∷ journal)
uncut_behind feed [] e journal other none = All-cons (λ (x : Entry). x.feed ≢ feed) e journal other none
uncut_behind feed (visit ∷ visits) e journal other (before, rest, is, none, all, uncut) =
    (e ∷ before, rest, ap (λ (l : List Entry). e ∷ l) is, All-cons (λ (x : Entry). x.feed ≢ feed) e before other none, all, uncut)

-- an entry of the feed in front is one more visit
uncut_with : (feed : ℕ) (visits : List (List Entry)) (e : Entry) (journal : List Entry) → e.feed ≡ feed → IsContiguousIn feed visits journal
    → IsContiguousIn feed ((e ∷ []) ∷ visits) (e ∷ journal)
uncut_with feed visits e journal own uncut =
    let only = All-cons (λ (x : Entry). x.feed ≡ feed) e [] own (All-nil (λ (x : Entry). x.feed ≡ feed)) in
    ([], journal, refl, All-nil (λ (x : Entry). x.feed ≢ feed), only, uncut)

-- the entry as the entries of a visit
by_feed : (feed : ℕ) (e : Entry) → e.feed ≡ feed → entries feed ((e.cmd, e.reply) ∷ []) ≡ e ∷ []
by_feed feed e own = ap (λ (n : ℕ). record { feed = n; cmd = e.cmd; reply = e.reply } ∷ []) (sym own)

-- each entry of the feed as its own visit
pub visits_in : (feed : ℕ) (journal : List Entry) → (visits : List AnsweredBatch) × IsContiguousIn feed (map (entries feed) visits) journal
visits_in feed [] = ([], All-nil (λ (x : Entry). x.feed ≢ feed))
visits_in feed (e ∷ journal) =
    let rest = visits_in feed journal in
    elim (cases_Bool (eqb e.feed feed)) [
      | inl own ↦
          let is : e.feed ≡ feed = eqb-true e.feed feed own in (
            ((e.cmd, e.reply) ∷ []) ∷ rest.0,
            subst (λ (visit : List Entry). IsContiguousIn feed (visit ∷ map (entries feed) rest.0) (e ∷ journal)) (sym (by_feed feed e is))
                (uncut_with feed (map (entries feed) rest.0) e journal is rest.1),
          )
      | inr other ↦ (rest.0, uncut_behind feed (map (entries feed) rest.0) e journal (eqb-false e.feed feed other) rest.1)
    ]

-- the commands of entries, with their replies
abbrev told : List Entry → AnsweredBatch
told part = map (λ e. (e.cmd, e.reply)) part

-- the commands and replies of a visit's entries are the visit
told_visit : (feed : ℕ) (visit : AnsweredBatch) → told (entries feed visit) ≡ visit
told_visit feed [] = refl
told_visit feed (p ∷ visit) = ap (λ (l : AnsweredBatch). p ∷ l) (told_visit feed visit)

-- the same for several visits, one after another
told_visits : (feed : ℕ) (visits : List AnsweredBatch) → told (flat_map (λ visit. visit) (map (entries feed) visits)) ≡ flat_map (λ visit. visit) visits
told_visits feed [] = refl
told_visits feed (visit ∷ visits) =
    map-append (λ (e : Entry). let p : Cmd × Reply = (e.cmd, e.reply) in p) (entries feed visit) (flat_map (λ visit. visit) (map (entries feed) visits))
    ∙ (ap (λ (l : AnsweredBatch). l ++ told (flat_map (λ visit. visit) (map (entries feed) visits))) (told_visit feed visit)
    ∙ ap (λ (l : AnsweredBatch). visit ++ l) (told_visits feed visits))

-- all visits that are uncut in a journal have the commands and replies of the feed's entries there
told_journal : (feed : ℕ) (visits : List AnsweredBatch) (journal : List Entry) → IsContiguousIn feed (map (entries feed) visits) journal
    → told (feed_entries feed journal) ≡ flat_map (λ visit. visit) visits
told_journal feed visits journal uncut = ap told (entries_of_visits feed (map (entries feed) visits) journal uncut) ∙ told_visits feed visits

pub one_list : (feed : ℕ) (journal : List Entry) (one two : List AnsweredBatch) → IsContiguousIn feed (map (entries feed) one) journal
    → IsContiguousIn feed (map (entries feed) two) journal → flat_map (λ visit. visit) one ≡ flat_map (λ visit. visit) two
one_list feed journal one two a b = sym (told_journal feed one journal a) ∙ told_journal feed two journal b
