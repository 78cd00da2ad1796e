use Rattle.std.proofs.Common.{◌≡◌, ℕ, Option, Some, None, Bor, subst}
use Rattle.rt_cidr.specs.declared.address.Addr.{Addr}
use Rattle.rt_cidr.specs.declared.prefixes.Prefix.{Prefix}
use Rattle.rt_trie.specs.Map.{Pairs, IsLongest, pair_copied}
use Rattle.walkthrough.proofs.trie.port_of.Goals as goal

-- what was found in a map is the longest in an equal map
longest_in : (m n : Pairs ℕ) (a : Addr) (found is : Option (Prefix × Bor ℕ)) → m ≡ n → found ≡ is
    → IsLongest m a (pair_copied found) → IsLongest n a (pair_copied is)
longest_in m n a found is same then longest =
    subst (λ (l : Pairs ℕ). IsLongest l a (pair_copied is)) same
    (subst (λ (o : Option (Prefix × Bor ℕ)). IsLongest m a (pair_copied o)) then longest)

pub returns-in-Some : goal.returns-in-Some
returns-in-Some c =
    longest_in c.in_ok-ports.ports.pairs _ c.args.address c.longest.result (Some (c.in-Some.prefix, c.in-Some.port))
    c.in_ok-ports.ensures c.in-Some.is c.longest.ensures

pub returns : goal.returns
returns c =
    longest_in c.in_ok-ports.ports.pairs _ c.args.address c.longest.result None c.in_ok-ports.ensures c.in-None.is c.longest.ensures
