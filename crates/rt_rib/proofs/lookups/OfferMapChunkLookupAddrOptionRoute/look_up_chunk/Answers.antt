use Rattle.std.proofs.Common.{◌≡◌, ℕ, ◌+◌, ◌<◌, List, ◌++◌, length, set, get_or, Option, None, sym, subst, ap, ◌∙◌, arith}
use Rattle.std.specs.Borrow.{Bor}
use Rattle.std.proofs.lemmas.List.{get_or_append_left, get_or_default, length-take-le}
use Rattle.rt_cidr.specs.declared.address.Addr.{Addr}
use Rattle.rt_cidr.specs.declared.prefixes.Prefix.{Prefix}
use Rattle.rt_trie.specs.Map.{Pairs, pair_copied, IsLongest, AreLongest, address_at}
use Rattle.rt_rib.specs.Book.{OfferTrie}
use Rattle.rt_rib.specs.LookUp.{look_up}
use Rattle.rt_rib.specs.Maps.{routes_of}
use Rattle.rt_rib.proofs.ChunkAnswers.{answered_more}
use Rattle.rt_rib.proofs.lookups.OfferMapChunkLookupAddrOptionRoute.look_up_chunk.Goals as goal

-- an answer read among the answers to the addresses
longest_at : {V : Type 0} (m : Pairs V) (addresses : List Addr) (k : ℕ) (answers rest : List (Option (Prefix × Bor V)))
    (d : Option (Prefix × Bor V)) → k < length addresses → length answers ≡ length addresses → AreLongest m addresses answers
    → IsLongest m (address_at addresses k) (pair_copied (get_or (answers ++ rest) k d))
longest_at m addresses k answers rest d within long are =
    let answer = get_or_append_left answers rest d k (omega (arith, within, long)) ∙ get_or_default answers k d None (omega (arith, within, long)) in
    subst (λ o. IsLongest m (address_at addresses k) (pair_copied o)) (sym answer) (are k within)

pub loop-k-preserved : goal.loop-k-preserved
loop-k-preserved g c =
    let k = c.loop-k.k in
    let m = c.self.inside.trie.pairs in
    let addresses = c.args.addresses.now in
    let new = c.best_at.result in
    let longest = longest_at m addresses k c.longest_many.new.answers _ c.index-longest-k.result c.loop-k-test.true
    (c.longest_many.auto.answers ∙ length-take-le (length addresses) _ c.requires.chunk) c.longest_many.ensures in
    let here = subst (λ (trie : OfferTrie). new ≡ look_up (address_at addresses k) (routes_of trie.pairs)) c.self.view_is
    (c.best_at.ensures m (address_at addresses k) c.self.invariant longest) in
    ap (λ l. set l k new) c.loop-k.invariant
    ∙ answered_more (λ (addr : Addr) earlier. look_up addr (routes_of c.args.self.now.pairs)) k (k + 1) addresses c.args.answers.now (record { 0 = 0 }) None new
    (omega arith) c.loop-k-test.true c.requires.size here
