use Rattle.std.proofs.Common.{◌≡◌, ◌^◌, List, [], ◌∷◌, ◌++◌, All, map, length, ◌∙◌, sym, ap, subst, arith, append_assoc, append-nil}
use Rattle.std.proofs.lemmas.List.Elements.{All-head, All-tail}
use Rattle.std.specs.Vec.Iter.{into_iter_items}
use Rattle.ya_lock.specs.Lock.{IdlePass}
use Rattle.std.proofs.lemmas.List.{nil_from_length}
use Rattle.rt_shared.specs.declared.lent.Lent.{Lent}
use Rattle.rt_shared.specs.SharedTable.{HeldPass, SharedId, ArePassesOf}
use Rattle.rt_shared.specs.inside.PassModel.{of_feed}
use Rattle.rt_shared.proofs.Passes.{HasFeed, in_range, are_dealt, have_seen}
use Rattle.rt_shared.proofs.shared_rib.SharedRib.new.Goals as goal

pub loop-pass-init : goal.loop-pass-init
loop-pass-init g c =
    let e = c.in-Ok.ensures in let it = c.into_iter-pass-iterator.ensures.into_iter_gives in
    let few : 2 ^ g.row.L ≡ c.in_ok-lent.lent.feeds = sym (c.in_ok-lent.ensures.feeds ∙ c.feeds-feeds.ensures.value) in
    record {
      next = tt;
      finite = tt;
      long = it.1 ∙ (c.in-Ok.passes.ok.0 ∙ ap length (sym it.0));
      rest = subst (All HasFeed) (sym it.0) (in_range c.in-Ok.lock g.row.L c.in_ok-lent.lent c.in-Ok.passes.items e.passes few);
      made = ap (λ (l : List HeldPass). l ++ map of_feed (into_iter_items c.into_iter-pass-iterator.result)) c.in_ok-feed_passes.ensures.items;
      room = omega (arith, c.in_ok-feed_passes.ensures.len, c.in_ok-feed_passes.ensures.capacity, ap length it.0, e.passes.count, c.feeds-feeds.ensures.value);
    }

pub of-requires : goal.of-requires
of-requires g c =
    let i = c.loop-pass.invariant in let next = c.in-Some.ensures.steps.0 in
    All-head HasFeed c.in-Some.pass (into_iter_items c.next.new.self) (subst (All HasFeed) next i.rest)

pub loop-pass-preserved : goal.loop-pass-preserved
loop-pass-preserved g c =
    let i = c.loop-pass.invariant in let next = c.in-Some.ensures.steps.0 in let p = c.push_reserved.ensures in
    let rest : List (IdlePass Lent) = into_iter_items c.next.new.self in
    record {
      next = tt;
      finite = tt;
      long = omega (arith, i.long, c.in-Some.ensures.steps.1, ap length next);
      rest = All-tail HasFeed c.in-Some.pass rest (subst (All HasFeed) next i.rest);
      made = ap (λ (l : List HeldPass). l ++ map of_feed rest) (p.items ∙ ap (λ (x : HeldPass). c.loop-pass.feed_passes.items ++ x ∷ []) c.of.ensures)
          ∙ (append_assoc c.loop-pass.feed_passes.items (of_feed c.in-Some.pass ∷ []) (map of_feed rest)
          ∙ (ap (λ (l : List (IdlePass Lent)). c.loop-pass.feed_passes.items ++ map of_feed l) (sym next) ∙ i.made));
      room = omega (arith, p.len, p.capacity, i.room, ap length next);
    }

pub returns-clause-passes : goal.returns-clause-passes
returns-clause-passes g c =
    let i = c.loop-pass.invariant in let e = c.in-Ok.ensures in let it = c.into_iter-pass-iterator.ensures.into_iter_gives in
    let few : 2 ^ g.row.L ≡ c.in_ok-lent.lent.feeds = sym (c.in_ok-lent.ensures.feeds ∙ c.feeds-feeds.ensures.value) in
    let few' = c.in_ok-lent.ensures.feeds ∙ c.feeds-feeds.ensures.value in
    let empty : into_iter_items c.loop-pass.pass-iterator ≡ [] =
    nil_from_length (into_iter_items c.loop-pass.pass-iterator) (sym i.long ∙ c.in-None.ensures.steps.0) in
    let made : c.loop-pass.feed_passes.items ≡ map of_feed c.in-Ok.passes.items =
    sym (append-nil c.loop-pass.feed_passes.items)
    ∙ (ap (λ (l : List (IdlePass Lent)). c.loop-pass.feed_passes.items ++ map of_feed l) (sym empty) ∙ (i.made ∙ ap (map of_feed) it.0)) in
    let lent : SharedId = record { lock = c.in-Ok.lock; limit = c.in_ok-lent.lent.book.limit; feeds = c.in_ok-lent.lent.feeds } in
    let table : lent ≡ record { lock = c.in-Ok.lock; limit = c.args.limit; feeds = 2 ^ g.row.L } =
    λ i. record { lock = c.in-Ok.lock; limit = c.in_ok-lent.ensures.limit i; feeds = few' i } in
    subst (λ (t : SharedId). ArePassesOf t c.loop-pass.feed_passes.items) table (subst (ArePassesOf lent) (sym made)
    (are_dealt c.in-Ok.lock g.row.L c.in_ok-lent.lent c.in-Ok.passes.items e.passes few))

pub returns-clause-seen : goal.returns-clause-seen
returns-clause-seen g c =
    let i = c.loop-pass.invariant in let e = c.in-Ok.ensures in let it = c.into_iter-pass-iterator.ensures.into_iter_gives in
    let few : 2 ^ g.row.L ≡ c.in_ok-lent.lent.feeds = sym (c.in_ok-lent.ensures.feeds ∙ c.feeds-feeds.ensures.value) in
    let empty : into_iter_items c.loop-pass.pass-iterator ≡ [] =
    nil_from_length (into_iter_items c.loop-pass.pass-iterator) (sym i.long ∙ c.in-None.ensures.steps.0) in
    let made : c.loop-pass.feed_passes.items ≡ map of_feed c.in-Ok.passes.items =
    sym (append-nil c.loop-pass.feed_passes.items)
    ∙ (ap (λ (l : List (IdlePass Lent)). c.loop-pass.feed_passes.items ++ map of_feed l) (sym empty) ∙ (i.made ∙ ap (map of_feed) it.0)) in
    subst (All (λ (p : HeldPass). p.seen ≡ [])) (sym made)
    (have_seen c.in-Ok.lock g.row.L c.in_ok-lent.lent c.in-Ok.passes.items e.passes few c.in_ok-lent.ensures.journal)
