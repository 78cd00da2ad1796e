-- Examples that test the definitions of rt_trie, each under a line with the definition's name. Both sides are computed;
-- a relation or a theorem is spelled out for some values.
use Rattle.std.proofs.Common.{◌≡◌, ℕ, true, false, Some, None, [], ◌∷◌, refl, arith}
use Rattle.rt_cidr.specs.declared.prefixes.Prefix.{Prefix}
use Rattle.table_examples.proofs.Cidr.{ten_8, ten_0_16, last_32}
use Rattle.rt_trie.specs.Map.{Pairs, before, IsBeforeAll, IsOrdered, get, IsStored, put, erase, first}
use Rattle.rt_trie.specs.Map.{next_after, covering, within, containing, address_at}
use Rattle.rt_trie.specs.FromPrefix.{from_prefix}
use Rattle.rt_trie.specs.Tree.{Tree, Vacant, Node, top, size, stored}
use Rattle.rt_trie.specs.Laws.{IsChildByBit}
use Rattle.rt_trie.specs.Lawful.{IsLawfulAt, IsLawfulTree, IsLawful}
use Rattle.std.specs.Prelude.{◌↔◌, IsSome, IfSome}
use Rattle.std.specs.Prelude.{length}
use Rattle.rt_trie.specs.declared.nodes.Link.{Empty}
use Rattle.rt_trie.specs.Halves.{middle_at, middle, past, IsInBlock, IsChild}
use Rattle.rt_trie.specs.inside.Lawful.{IsFilled}
use Rattle.rt_trie.specs.Nodes.{IsNodeAt, CountsNodes}
use Rattle.rt_trie.specs.TrieContents.{TrieContents}
use Rattle.rt_trie.specs.TrieLends.{contents_with}
use Rattle.rt_trie.specs.inside.Links.{own_pair}

-- 10.1.0.0/16 and 10.128.0.0/9
abbrev ten_1_16 : Prefix
ten_1_16 = record { base = 167837696; len = 16; is_prefix = record { short = omega arith; fits = omega arith; clear = refl } }

abbrev ten_128_9 : Prefix
ten_128_9 = record { base = 176160768; len = 9; is_prefix = record { short = omega arith; fits = omega arith; clear = refl } }

-- two values, and the trie that stores them below a node without a value
abbrev two : Pairs ℕ
two = (ten_1_16, 5) ∷ (ten_128_9, 7) ∷ []

abbrev leaf : Prefix → Tree
leaf p = Node p true Vacant Vacant

abbrev below_ten_8 : Tree
below_ten_8 = Node ten_8 false (leaf ten_1_16) (leaf ten_128_9)

-- before
by_base : before ten_1_16 ten_128_9 ≡ true
by_base = refl

by_length_where_the_base_is_one : before ten_8 ten_0_16 ≡ true
by_length_where_the_base_is_one = refl

not_itself : before ten_8 ten_8 ≡ false
not_itself = refl

neither_a_greater_base_nor_a_lesser_length : (before ten_128_9 ten_8 ≡ false) × (before ten_0_16 ten_8 ≡ false) × (before ten_1_16 ten_8 ≡ false)
neither_a_greater_base_nor_a_lesser_length = (refl, refl, refl)

not_a_shorter_one_of_a_greater_base : before ten_128_9 ten_1_16 ≡ false
not_a_shorter_one_of_a_greater_base = refl

-- IsBeforeAll
before_both : IsBeforeAll ten_8 two
before_both = (refl, (refl, tt))

not_before_itself : ¬ IsBeforeAll ten_1_16 two
not_before_itself h = let same = h.0 in cc

-- IsOrdered
two_in_order : IsOrdered two
two_in_order = ((refl, tt), (tt, tt))

none_twice : ¬ IsOrdered {V = ℕ} ((ten_8, 5) ∷ (ten_8, 7) ∷ [])
none_twice h = let same = h.0.0 in cc

-- get
the_value_at_a_prefix : get two ten_128_9 ≡ Some 7
the_value_at_a_prefix = refl

none_at_a_shorter_one : get two ten_8 ≡ None
none_at_a_shorter_one = refl

-- top
the_topmost : top below_ten_8 ≡ Some ten_8
the_topmost = refl

no_node_no_top : top Vacant ≡ None
no_node_no_top = refl

-- size
three_nodes : size below_ten_8 ≡ 3
three_nodes = refl

one_more_than_below_it : (size Vacant ≡ 0) × (size (Node ten_8 true (leaf ten_1_16) Vacant) ≡ 2) × (size (Node ten_8 true Vacant (leaf ten_128_9)) ≡ 2)
one_more_than_below_it = (refl, refl, refl)

-- stored
two_have_a_value : stored below_ten_8 ≡ ten_1_16 ∷ ten_128_9 ∷ []
two_have_a_value = refl

its_own_comes_first : stored (Node ten_8 true Vacant (leaf ten_128_9)) ≡ ten_8 ∷ ten_128_9 ∷ []
its_own_comes_first = refl

its_own_and_then_those_on_each_side : (stored (Node ten_8 true (leaf ten_1_16) (leaf ten_128_9)) ≡ ten_8 ∷ ten_1_16 ∷ ten_128_9 ∷ []) × (stored Vacant ≡ [])
its_own_and_then_those_on_each_side = (refl, refl)

-- IsChildByBit
on_the_lower_side : IsChildByBit ten_8 false ten_1_16
on_the_lower_side = record { longer = omega arith; contained = refl; next_bit = refl }

on_the_upper_side : IsChildByBit ten_8 true ten_128_9
on_the_upper_side = record { longer = omega arith; contained = refl; next_bit = refl }

not_on_the_other_side : ¬ IsChildByBit ten_8 false ten_128_9
not_on_the_other_side h = let bit = h.next_bit in cc

no_child_of_itself : ¬ IsChildByBit ten_8 false ten_8
no_child_of_itself h = omega (arith, h.longer)

-- IsLawfulAt
two_children_without_a_value : IsLawfulAt ten_8 false (leaf ten_1_16) (leaf ten_128_9)
two_children_without_a_value = record { needed = λ _. (refl, refl); lower = on_the_lower_side; upper = on_the_upper_side }

not_one_child_without_a_value : ¬ IsLawfulAt ten_8 false (leaf ten_1_16) Vacant
not_one_child_without_a_value h = let second = (h.needed refl).1 in cc

what_a_node_without_a_value_has :
    (left right : Tree) → IsLawfulAt ten_8 false left right
    → (IsSome (top left) × IsSome (top right)) × IfSome (top left) (IsChildByBit ten_8 false) × IfSome (top right) (IsChildByBit ten_8 true)
what_a_node_without_a_value_has left right h = (h.needed refl, h.lower, h.upper)

-- IsLawfulTree
lawful_at_each_node : IsLawfulTree below_ten_8
lawful_at_each_node = (
  two_children_without_a_value,
  (record { needed = λ e. cc; lower = tt; upper = tt }, tt, tt),
  (record { needed = λ e. cc; lower = tt; upper = tt }, tt, tt),
)

not_with_sides_exchanged : ¬ IsLawfulTree (Node ten_8 false (leaf ten_128_9) (leaf ten_1_16))
not_with_sides_exchanged h = not_on_the_other_side h.0.lower

-- IsLawful
the_trie_of_two_values : IsLawful {V = ℕ} (record { pairs = two; nodes = 3; tree = below_ten_8 })
the_trie_of_two_values = record { tree = lawful_at_each_node; stored = refl; count = refl }

no_value_left_out : ¬ IsLawful {V = ℕ} (record { pairs = two; nodes = 1; tree = leaf ten_1_16 })
no_value_left_out h = let stored = h.stored in cc

no_node_uncounted : ¬ IsLawful {V = ℕ} (record { pairs = two; nodes = 2; tree = below_ten_8 })
no_node_uncounted h = let count = h.count in cc

-- Pairs
a_prefix_and_its_value : Pairs ℕ
a_prefix_and_its_value = (ten_8, 5) ∷ []

-- IsStored
a_value_stands_there : IsStored two ten_1_16
a_value_stands_there = refl

none_stands_at_a_shorter : ¬ IsStored two ten_8
none_stands_at_a_shorter h = cc

-- put
in_its_place :
    (put two ten_8 9 ≡ (ten_8, 9) ∷ two) × (put two ten_1_16 9 ≡ (ten_1_16, 9) ∷ (ten_128_9, 7) ∷ [])
    × (put two ten_128_9 9 ≡ (ten_1_16, 5) ∷ (ten_128_9, 9) ∷ []) × (put {V = ℕ} ((ten_8, 9) ∷ []) ten_1_16 5 ≡ (ten_8, 9) ∷ (ten_1_16, 5) ∷ [])
in_its_place = (refl, refl, refl, refl)

-- erase
without_it :
    (erase two ten_1_16 ≡ (ten_128_9, 7) ∷ []) × (erase two ten_128_9 ≡ (ten_1_16, 5) ∷ []) × (erase two ten_8 ≡ two) × (erase {V = ℕ} [] ten_8 ≡ [])
without_it = (refl, refl, refl, refl)

-- first
the_least_of_two : first two ≡ Some ten_1_16
the_least_of_two = refl

none_of_nothing : first {V = ℕ} [] ≡ None
none_of_nothing = refl

-- next_after
one_after_another : (next_after two ten_8 ≡ Some ten_1_16) × (next_after two ten_1_16 ≡ Some ten_128_9) × (next_after two ten_128_9 ≡ None)
one_after_another = (refl, refl, refl)

-- covering
each_that_covers_it_the_shortest_first : covering ((ten_8, 4) ∷ two) (record { 0 = 167837697 }) ≡ (ten_8, 4) ∷ (ten_1_16, 5) ∷ []
each_that_covers_it_the_shortest_first = refl

none_that_does_not_cover_it : (covering two (record { 0 = 167772160 }) ≡ []) × (covering {V = ℕ} [] (record { 0 = 0 }) ≡ [])
none_that_does_not_cover_it = (refl, refl)

-- from_prefix
itself_and_what_comes_after_it : (from_prefix ((ten_8, 4) ∷ two) ten_8 ≡ (ten_8, 4) ∷ two) × (from_prefix ((ten_8, 4) ∷ two) ten_1_16 ≡ two)
itself_and_what_comes_after_it = (refl, refl)

also_where_it_is_not_stored : (from_prefix ((ten_8, 4) ∷ two) ten_0_16 ≡ two) × (from_prefix two last_32 ≡ [])
also_where_it_is_not_stored = (refl, refl)

-- within
itself_and_the_longer_ones_in_it : (within ((ten_8, 4) ∷ two) ten_8 ≡ (ten_8, 4) ∷ two) × (within ((ten_8, 4) ∷ two) ten_1_16 ≡ (ten_1_16, 5) ∷ [])
itself_and_the_longer_ones_in_it = (refl, refl)

neither_a_shorter_one_nor_one_beside_it : (within ((ten_8, 4) ∷ two) ten_128_9 ≡ (ten_128_9, 7) ∷ []) × (within two ten_0_16 ≡ [])
neither_a_shorter_one_nor_one_beside_it = (refl, refl)

-- containing
itself_and_the_shorter_ones_around_it : containing ((ten_8, 4) ∷ two) ten_1_16 ≡ (ten_8, 4) ∷ (ten_1_16, 5) ∷ []
itself_and_the_shorter_ones_around_it = refl

neither_a_longer_one_nor_one_beside_it : (containing ((ten_8, 4) ∷ two) ten_8 ≡ (ten_8, 4) ∷ []) × (containing two ten_0_16 ≡ [])
neither_a_longer_one_nor_one_beside_it = (refl, refl)

-- address_at
the_second_of_two : address_at (record { 0 = 7 } ∷ record { 0 = 9 } ∷ []) 1 ≡ record { 0 = 9 }
the_second_of_two = refl

the_least_behind_the_last : address_at [] 0 ≡ record { 0 = 0 }
the_least_behind_the_last = refl

-- middle_at
where_the_upper_half_begins : middle_at 8 167772160 ≡ 176160768
where_the_upper_half_begins = refl

-- middle
the_middle_of_ten_8 : middle ten_8 ≡ 176160768
the_middle_of_ten_8 = refl

-- past
behind_ten_8 : past ten_8 ≡ 184549376
behind_ten_8 = refl

-- IsChild
in_the_lower_half : (c : Prefix) → IsChild ten_8 false c → IsInBlock 167772160 176160768 9 c
in_the_lower_half c h = h

in_the_upper_half : (c : Prefix) → IsChild ten_8 true c → IsInBlock 176160768 184549376 9 c
in_the_upper_half c h = h

-- CountsNodes
three_nodes_listed_in_order :
    (m : Pairs ℕ) (h : CountsNodes m 3) → IsOrdered h.nodes × (IsStored h.nodes ten_8 ↔ IsNodeAt m ten_8) × (length h.nodes ≡ 3)
three_nodes_listed_in_order m h = (h.ordered, h.each ten_8, h.count)

-- the map of two values, with its nodes
abbrev the_two : TrieContents ℕ
the_two = record { pairs = two; nodes = 3; tree = below_ten_8 }

-- TrieContents
its_pairs_its_nodes_and_their_tree : (the_two.pairs ≡ two) × (the_two.nodes ≡ 3) × (the_two.tree ≡ below_ten_8)
its_pairs_its_nodes_and_their_tree = (refl, refl, refl)

-- contents_with
the_pairs_alone_change : contents_with the_two ten_1_16 9 ≡ record { pairs = (ten_1_16, 9) ∷ (ten_128_9, 7) ∷ []; nodes = 3; tree = below_ten_8 }
the_pairs_alone_change = refl

-- IsFilled
not_by_nothing : (V A : Type 0) → ¬ IsFilled {V = V} {A = A} Empty
not_by_nothing V A h = cc

-- own_pair
its_prefix_and_its_value : (own_pair {V = ℕ} ten_8 (Some 5) ≡ (ten_8, 5) ∷ []) × (own_pair {V = ℕ} ten_8 None ≡ [])
its_prefix_and_its_value = (refl, refl)
