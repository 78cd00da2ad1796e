-- How far an answer holds: up to where a prefix begins or ends.
use Rattle.std.proofs.Common.{◌≡◌, ℕ, ◌+◌, ◌-◌, ◌<◌, ◌≤◌, false, Some, None, inl, arith}
use Rattle.std.specs.Prelude.{IfSome}
use Rattle.rt_cidr.specs.declared.prefixes.Prefix.{Prefix}
use Rattle.rt_cidr.specs.declared.address.Addr.{Addr}
use Rattle.rt_cidr.specs.Prefix.{covers}
use Rattle.rt_trie.specs.declared.nodes.Link.{Link}
use Rattle.rt_trie.specs.Halves.{IsInBlock}
use Rattle.rt_trie.specs.inside.Lawful.{root, IsLawfulBelow}
use Rattle.rt_trie.specs.inside.Links.{last_cover, pairs}
use Rattle.rt_trie.proofs.Blocks.{past_fits}
use Rattle.rt_trie.proofs.NodePairs.{covers-outside}
use Rattle.rt_trie.proofs.JoinedPairs.{AllKeys-map, last_cover-none}
use Rattle.rt_trie.proofs.LinkOrder.{if_some_map, pairs_within}

-- an address before the base that a link keeps is before its node
pub before_key : {V A : Type 0} (link : Link V A) (q : Prefix) (base x a : ℕ) → root link ≡ Some q → base ≡ q.base
    → IfSome (root link) (λ y. a < y.base) → x ≤ base - 1 → IfSome (root link) (λ y. x < y.base)
before_key link q base x a e k after h = let s = rw e at after in rw e (omega arith)

-- nothing below a link covers an address before its node's
pub none_before : {V A : Type 0} (link : Link V A) (a : Addr) → IsLawfulBelow link → IfSome (root link) (λ q. a.0 < q.base)
    → last_cover (pairs link) a ≡ None
none_before link a h k =
    let on = if_some_map (root link) (λ q. a.0 < q.base) (IsInBlock (a.0 + 1) 4294967296 0)
    (λ q lt. record { long = omega arith; from = omega (arith, lt); to = past_fits q }) k in
    last_cover-none (pairs link) a (AllKeys-map (IsInBlock (a.0 + 1) 4294967296 0) (λ q. covers q a ≡ false) (pairs link)
    (λ q w. covers-outside (a.0 + 1) 4294967296 0 q a (inl (omega arith)) w) (pairs_within link (a.0 + 1) 4294967296 0 h on))
