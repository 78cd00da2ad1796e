use Rattle.std.proofs.Common.{◌≡◌, length, arith}
use Rattle.rt_fib.proofs.Shown.{put_extends, view_shows}
use Rattle.rt_fib.proofs.fib.Fib.write_view.Goals as goal

pub returns-clause-shown : goal.returns-clause-shown
returns-clause-shown g c = λ _.
    let dir = c.self.inside.dir in
    let list = c.hop_numbers.new.routers.items in
    let hops = rw c.values.ensures at c.in_ok-numbers.ensures in
    let shown = rw (c.deref.ensures.value, c.deref-2.ensures.value) at c.show_entries.ensures in
    let more = rw (c.values-2.ensures, c.deref-3.ensures.value) at c.show_blocks.ensures in
    let put = rw c.deref-4.ensures.value at c.put_entries.ensures in
    let size : c.len-3.result ≡ length list = omega arith in
    rw (size, ← c.self.view_is)
    (view_shows _ _ _ _ _ list _ dir.slabs dir.epoch.number _ _ c.self.invariant hops
    (put_extends c.args.routers.now c.put_entries.new.entries list (omega arith) put) shown more (omega arith))
