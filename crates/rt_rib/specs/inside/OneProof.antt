-- That a book's trie holds the book's table has at most one proof, so a ghost field may keep it.
use Rattle.std.specs.Prelude.{◌≡◌, List}
use Rattle.std.specs.Coded.{Coded-set, coded_list}
use Rattle.std.proofs.Props.{props}
use Rattle.rt_trie.specs.inside.OneProof.{IsLawful-prop, IsOrdered-prop}
use Rattle.rt_rib.specs.declared.routes.Route.{Route}
use Rattle.rt_rib.specs.contracts.routes.Route as route
use Rattle.rt_rib.specs.Book.{BookContents, OfferTrie, table_of, HoldsRoutes, HoldsTable}

routes_set : (a b : List Route) → IsProp (a ≡ b)
routes_set = Coded-set (coded_list route.the_row.coded)

HoldsRoutes-prop : (trie : OfferTrie) (routes : List Route) → IsProp (HoldsRoutes trie routes)
HoldsRoutes-prop trie routes = hlevel (props, IsLawful-prop, IsOrdered-prop, routes_set)

pub HoldsTable-prop : (book : BookContents) → IsProp (HoldsTable book)
HoldsTable-prop book = HoldsRoutes-prop book.trie (table_of book)
