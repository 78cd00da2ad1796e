use Rattle.std.proofs.Common.{◌+◌, ◌∙◌, subst}
use Rattle.rt_diff.specs.inside.Parts.{IsFirstWithin}
use Rattle.rt_diff.proofs.Parts.{none_left, listing_begun, listing_more, listing_ended, fewer_left}
use Rattle.rt_diff.proofs.listing.list_in_turn.Goals.{After-next_within-next}
use Rattle.rt_diff.proofs.listing.list_in_turn.Goals as goal

pub loop-next-init : goal.loop-next-init
loop-next-init c = record {
  same = c.first_within-next.ensures.kept ∙ c.in_ok-comparison.ensures;
  far = rw c.new-list.ensures.items (listing_begun c.args.tables.now c.args.first.0 (c.args.last.0 + 1) c.first_within-next.result
      (subst (λ t. IsFirstWithin t c.args.first.0 (c.args.last.0 + 1) c.first_within-next.result) c.in_ok-comparison.ensures c.first_within-next.ensures.first));
}

-- the next range after one that was listed
first_behind : (c : After-next_within-next)
    → IsFirstWithin c.args.tables.now (c.in-Some.difference.last.0 + 1) (c.args.last.0 + 1) c.next_within-next.result
first_behind c =
    subst (λ t. IsFirstWithin t (c.in-Some.difference.last.0 + 1) (c.args.last.0 + 1) c.next_within-next.result)
    c.loop-next.invariant.same c.next_within-next.ensures.first

pub loop-next-preserved : goal.loop-next-preserved
loop-next-preserved c =
    let far = c.loop-next.invariant.far in
    record {
      same = c.next_within-next.ensures.kept ∙ c.loop-next.invariant.same;
      far = rw c.in_ok-push.ensures.items (listing_more c.args.tables.now c.args.first.0 (c.args.last.0 + 1) c.loop-next.list.items c.in-Some.difference c.next_within-next.result
          (rw c.in-Some.is at far) (first_behind c));
    }

pub loop-next-smaller : goal.loop-next-smaller
loop-next-smaller c =
    let far = rw c.in-Some.is at c.loop-next.invariant.far in
    rw c.in-Some.is (fewer_left c.args.tables.now far.from (c.args.last.0 + 1) c.in-Some.difference c.next_within-next.result far.is_next (first_behind c))

pub returns : goal.returns
returns c =
    let far = c.loop-next.invariant.far in
    let none = none_left c.loop-next.next c.in_default.not-Some in
    listing_ended c.args.tables.now c.args.first.0 (c.args.last.0 + 1) c.loop-next.list.items (rw none at far)
