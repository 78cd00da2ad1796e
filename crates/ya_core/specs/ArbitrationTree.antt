-- The arbitration tree (Yang and Anderson 1995): the node and side of each place at each level, and the numbers of the
-- words in one flat row.
use Rattle.std.specs.Prelude.{◌≡◌, ◌≢◌, ℕ, ◌+◌, ◌-◌, ◌*◌, ◌/◌, ◌%◌, ◌^◌, ◌<◌, ◌≤◌}
use Rattle.ya_core.specs.declared.limits.TheConstants.{MAX_LEVELS}
use Rattle.ya_core.specs.declared.word.Word.{Word}
use Rattle.ya_core.specs.declared.word.Word.TheVariants.{C, T, P}

-- a tree has 1 to MAX_LEVELS levels
abbrev pub HasShape : ℕ → Type 0
HasShape levels = (1 ≤ levels) × (levels ≤ MAX_LEVELS)

-- the node of a place at a level; level 1 holds the leaves
unfoldable pub node_of : ℕ → ℕ → ℕ
node_of level place = place / 2 ^ level

-- the side of that node on which the place competes, 0 or 1
unfoldable pub side_of : ℕ → ℕ → ℕ
side_of level place = place / 2 ^ (level - 1) % 2

-- two places compete if they have the same node and different sides; `node` and `side` map each place to its node
-- and side
abbrev pub Rivals : (node side : ℕ → ℕ) → ℕ → ℕ → Type 0
Rivals node side p q = (node p ≡ node q) × (side p ≢ side q)

-- the two places compete with each other at that level
abbrev pub AreRivals : ℕ → ℕ → ℕ → Type 0
AreRivals level = Rivals (node_of level) (side_of level)

-- the tree of this many levels has the word
abbrev pub IsWord : ℕ → Word → Type 0
IsWord levels (C level node side) = (1 ≤ level) × (level ≤ levels) × (node < 2 ^ (levels - level)) × (side < 2)
IsWord levels (T level node) = (1 ≤ level) × (level ≤ levels) × (node < 2 ^ (levels - level))
IsWord levels (P level place) = (1 ≤ level) × (level ≤ levels) × (place < 2 ^ levels)

-- the number of nodes in the levels below
abbrev pub nodes_below : ℕ → ℕ → ℕ
nodes_below levels level = 2 ^ levels - 2 ^ (levels - level + 1)

-- the number of a word: first the words C by level, node and side, then the words T, then the words P by level, place
unfoldable pub number_of : ℕ → Word → ℕ
number_of levels (C level node side) = 2 * (nodes_below levels level + node) + side
number_of levels (T level node) = 2 * (2 ^ levels - 1) + nodes_below levels level + node
number_of levels (P level place) = 3 * (2 ^ levels - 1) + (level - 1) * 2 ^ levels + place

-- the number of words of the tree
unfoldable pub count_of_words : ℕ → ℕ
count_of_words levels = 3 * (2 ^ levels - 1) + levels * 2 ^ levels
