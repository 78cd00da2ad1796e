use Rattle.std.proofs.Common.{◌≡◌, ◌+◌, ◌≤◌, [], length, Some, None, Ok, Err, refl, sym, ap, ◌∙◌, append-nil, arith}
use Rattle.rt_feed.specs.Addresses.{faults_said, faulty_lines}
use Rattle.rt_feed.proofs.LinesYield.{length-cut}
use Rattle.rt_feed.proofs.ReadAddresses.{counted-below, read_more, none_kept, numbered-within, named_alone}
use Rattle.rt_feed.proofs.addresses.read_addresses.Goals as goal

pub overflow_add-number : goal.overflow_add-number
overflow_add-number c =
    let within = numbered-within c.loop-line.invariant in
    let some = length-cut c.loop-line.rest.now c.in-Some.line.now c.in-Some.behind.now (c.in-Some.ensures {u = tt}) in
    let small : c.loop-line.number + 1 ≤ length c.args.text.now = omega (arith, within, some) in
    omega (arith, small)

pub put-requires : goal.put-requires
put-requires c = counted-below c.loop-line.invariant

pub loop-line-init : goal.loop-line-init
loop-line-init c =
    let copied : c.in_ok-to_vec.field-0.items ≡ c.args.named.now = (c.in_ok-to_vec.ensures {u = tt}).items_if_clones_equal (λ x y same. same) in
    let none : c.new.result.items ≡ [] = c.new.ensures.items in
    record {
      says = [];
      lines = refl;
      counted = refl;
      of_rows = rw (copied, none) (named_alone c.args.keep_invalid c.args.named.now);
      faults = c.none.ensures;
    }

pub loop-line-preserved-in_ok-push-in-Err : goal.loop-line-preserved-in_ok-push-in-Err
loop-line-preserved-in_ok-push-in-Err c =
    let read = c.loop-line.invariant in
    let before : c.len-before.result ≡ length c.loop-line.read.addresses.items = rw c.loop-line.read.addresses.ok.0 at c.len-before.ensures in
    read_more read (Err c.in-Err.fault) (c.in-Some.ensures {u = tt}) (c.in-Err.ensures {u = tt}) (sym (append-nil _))
    (rw c.if-keep_invalid.true (rw before at (c.in_ok-push-in-Err.ensures {u = tt}).items))
    (c.put.ensures (faults_said 1 read.says) read.faults)

pub loop-line-preserved-else-keep_invalid : goal.loop-line-preserved-else-keep_invalid
loop-line-preserved-else-keep_invalid c =
    let read = c.loop-line.invariant in
    read_more read (Err c.in-Err.fault) (c.in-Some.ensures {u = tt}) (c.in-Err.ensures {u = tt}) (sym (append-nil _))
    (rw c.if-keep_invalid.false (sym (append-nil _)))
    (c.put.ensures (faults_said 1 read.says) read.faults)

pub loop-line-preserved-in-None : goal.loop-line-preserved-in-None
loop-line-preserved-in-None c =
    let read = c.loop-line.invariant in
    read_more read (Ok None) (c.in-Some.ensures {u = tt}) (rw c.in-None.is at (c.in-Ok.ensures {u = tt})) (sym (append-nil _)) (none_kept _ _)
    (read.faults ∙ ap faulty_lines (sym (append-nil _)))

pub loop-line-preserved : goal.loop-line-preserved
loop-line-preserved c =
    let read = c.loop-line.invariant in
    let address = c.in-Some-said.address in
    read_more read (Ok (Some address)) (c.in-Some.ensures {u = tt}) (rw c.in-Some-said.is at (c.in-Ok.ensures {u = tt}))
    (c.in_ok-push-in-Some-said.ensures {u = tt}).items (none_kept _ _) (read.faults ∙ ap faulty_lines (sym (append-nil _)))
