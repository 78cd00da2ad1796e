-- Examples of tables and books as contracts see them.
use Rattle.std.proofs.Common.{◌≡◌, ◌+◌, true, false, List, [], ◌∷◌, refl, sym, arith}
use Rattle.table_examples.proofs.Cidr.{ten_8}
use Rattle.rt_rib.specs.declared.limits.TheConstants.{MAX_FEEDS}
use Rattle.rt_rib.specs.declared.routes.Hop.TheVariants.{Discard}
use Rattle.rt_rib.specs.declared.commands.Cmd.TheVariants.{Add, Dump}
use Rattle.rt_rib.specs.declared.commands.Reply.TheVariants.{Added, Dumped}
use Rattle.rt_rib.specs.declared.commands.Entry.{Entry}
use Rattle.rt_trie.specs.Tree.{Tree, Vacant, Node}
use Rattle.rt_rib.specs.Sequential.{table_after, table_of_journal}
use Rattle.rt_rib.specs.Book.{IsLimit, TableState, TableContents, table_state, BookContents, OfferTrie, table_of, HoldsRoutes, HoldsTable, IsFeed}
use Rattle.rt_rib.proofs.Tables.{IsTable-nil, IsTable-put_in}
use Rattle.rt_rib.proofs.OfferLists.{IsRanked-one}
use Rattle.rt_rib.proofs.Journals.{IsTable-of_journal}
use Rattle.table_examples.proofs.Rib.Values.{ten_1_16, route, entry, offer, two_prefixes}
use Rattle.table_examples.proofs.Rib.Maps.{none_is_not, each_of, a_map_of_two_prefixes}

-- IsLimit
from_one_up_to_the_greatest : IsLimit 1 × IsLimit 1000000
from_one_up_to_the_greatest = ((omega arith, omega arith), (omega arith, omega arith))

neither_none_nor_one_above_the_greatest : (¬ IsLimit 0) × (¬ IsLimit 1000001)
neither_none_nor_one_above_the_greatest = (λ h. omega (arith, h.0), λ h. omega (arith, h.1))

-- a book with this trie, after feed 1 and then feed 2 inserted routes
abbrev book_with : OfferTrie → BookContents
book_with trie = record {
  limit = 2;
  journal = entry 1 (Add ten_8 50 Discard) Added ∷ entry 1 (Add ten_1_16 10 Discard) Added ∷ entry 2 (Add ten_8 30 Discard) Added ∷ [];
  trie = trie;
  room = 0;
}

abbrev two_nodes : Tree
two_nodes = Node ten_8 true (Node ten_1_16 true Vacant Vacant) Vacant

-- table_of
what_the_journal_leaves :
    table_of (book_with (record { pairs = []; nodes = 0; tree = Vacant })) ≡ route ten_8 2 30 ∷ route ten_8 1 50 ∷ route ten_1_16 1 10 ∷ []
unfolding table_of_journal table_after
what_the_journal_leaves = refl

-- HoldsTable
holds_what_the_journal_leaves : HoldsTable (book_with (record { pairs = two_prefixes; nodes = 2; tree = two_nodes }))
unfolding table_of_journal table_after
holds_what_the_journal_leaves = record {
  lawful = record {
    tree = (
      record { needed = λ e. cc; lower = record { longer = omega arith; contained = refl; next_bit = refl }; upper = tt },
      (record { needed = λ e. cc; lower = tt; upper = tt }, tt, tt),
      tt,
    );
    stored = refl;
    count = refl;
  };
  map = a_map_of_two_prefixes;
  exactly = refl;
  once = IsTable-of_journal 2 (book_with (record { pairs = two_prefixes; nodes = 2; tree = two_nodes })).journal;
}

a_route_was_lost : ¬ HoldsTable (book_with (record { pairs = (ten_8, offer 1 50 ∷ []) ∷ (ten_1_16, offer 1 10 ∷ []) ∷ []; nodes = 2; tree = two_nodes }))
unfolding table_of_journal table_after
a_route_was_lost h = let exactly = h.exactly in cc

a_node_too_many_was_counted : ¬ HoldsTable (book_with (record { pairs = two_prefixes; nodes = 3; tree = two_nodes }))
a_node_too_many_was_counted h = let count = h.lawful.count in cc

a_node_without_its_value : ¬ HoldsTable
    (book_with (record { pairs = two_prefixes; nodes = 2; tree = Node ten_8 false (Node ten_1_16 true Vacant Vacant) Vacant }))
a_node_without_its_value h = let stored = h.lawful.stored in cc

-- a trie of one prefix with one offer
abbrev one_offer : OfferTrie
one_offer = record { pairs = (ten_8, offer 1 5 ∷ []) ∷ []; nodes = 1; tree = Node ten_8 true Vacant Vacant }

-- HoldsRoutes
holds_one_route : HoldsRoutes one_offer (route ten_8 1 5 ∷ [])
holds_one_route = record {
  lawful = record { tree = (record { needed = λ e. cc; lower = tt; upper = tt }, tt, tt); stored = refl; count = refl };
  map = record {
    ordered = (tt, tt);
    each = each_of ten_8 (offer 1 5 ∷ []) [] (record { some = omega arith; ranked = IsRanked-one (offer 1 5) }) (λ p offers found. cc);
  };
  exactly = refl;
  once = IsTable-put_in (route ten_8 1 5) [] refl IsTable-nil;
}

not_without_the_one_it_holds : ¬ HoldsRoutes one_offer []
not_without_the_one_it_holds h = let exactly = h.exactly in cc

not_by_two_nodes : ¬ HoldsRoutes (record { pairs = (ten_8, offer 1 5 ∷ []) ∷ []; nodes = 2; tree = Node ten_8 true Vacant Vacant }) (route ten_8 1 5 ∷ [])
not_by_two_nodes h = let count = h.lawful.count in cc

not_by_a_prefix_without_offers : ¬ HoldsRoutes (record { pairs = (ten_8, []) ∷ []; nodes = 1; tree = Node ten_8 true Vacant Vacant }) []
not_by_a_prefix_without_offers h = none_is_not (h.map.each ten_8 [] refl)

none_of_them_twice : (trie : OfferTrie) → ¬ HoldsRoutes trie (route ten_8 1 5 ∷ route ten_8 1 5 ∷ [])
none_of_them_twice trie h = let same = h.once.single 0 1 (route ten_8 1 5) (omega arith) (omega arith) in cc

-- a book without a route
abbrev pub empty_book : List Entry → BookContents
empty_book journal = record { limit = 1; journal = journal; trie = record { pairs = []; nodes = 0; tree = Vacant }; room = 0 }

pub holds_no_route : (journal : List Entry) → table_of_journal 1 journal ≡ [] → HoldsTable (empty_book journal)
holds_no_route journal none = record {
  lawful = record { tree = tt; stored = refl; count = refl };
  map = record { ordered = tt; each = λ p offers found. cc };
  exactly = sym none;
  once = IsTable-of_journal 1 journal;
}

-- IsFeed
the_first_and_the_last : IsFeed 1 × IsFeed MAX_FEEDS
the_first_and_the_last = ((omega arith, omega arith), (omega arith, omega arith))

none_before_and_none_behind : (¬ IsFeed 0) × (¬ IsFeed (MAX_FEEDS + 1))
none_before_and_none_behind = (λ h. omega (arith, h.0), λ h. omega (arith, h.1))

-- a table of one route, as contracts see it
abbrev table_of_one_route : TableContents
table_of_one_route = record { limit = 2; routes = route ten_8 1 5 ∷ []; trie = one_offer }

-- TableContents
what_a_table_has : (table_of_one_route.limit ≡ 2) × (table_of_one_route.routes ≡ route ten_8 1 5 ∷ []) × (table_of_one_route.trie ≡ one_offer)
what_a_table_has = (refl, refl, refl)

-- TableState
abbrev state_of_one_route : TableState
state_of_one_route = record { limit = 2; routes = route ten_8 1 5 ∷ [] }

-- table_state
state_of_the_table : table_state table_of_one_route ≡ state_of_one_route
state_of_the_table = refl

-- BookContents
the_parts_of_a_book :
    ((book_with (record { pairs = two_prefixes; nodes = 2; tree = two_nodes })).limit ≡ 2)
    × ((book_with (record { pairs = two_prefixes; nodes = 2; tree = two_nodes })).trie.nodes ≡ 2)
    × ((empty_book (entry 1 Dump (Dumped 0) ∷ [])).journal ≡ entry 1 Dump (Dumped 0) ∷ []) × ((empty_book []).room ≡ 0)
the_parts_of_a_book = (refl, refl, refl, refl)

-- OfferTrie
of_one_node : OfferTrie
of_one_node = record { pairs = (ten_8, offer 1 5 ∷ []) ∷ []; nodes = 1; tree = Node ten_8 true Vacant Vacant }
