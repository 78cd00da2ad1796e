use Rattle.std.proofs.Common.{arith, ◌≡◌, ◌≢◌, ℕ, ◌^◌, ◌<◌, lit<, sym, ap, ◌∙◌, subst, ⊎_elim}
use Rattle.ya_core.specs.declared.walker.Op.TheVariants as op
use Rattle.ya_core.specs.declared.process.EntryPoint.TheVariants.{E7}
use Rattle.ya_core.specs.declared.process.ExitPoint.TheVariants.{X3}
use Rattle.ya_core.specs.declared.word.Access.{Access}
use Rattle.ya_core.specs.declared.word.Access.TheVariants.{Store}
use Rattle.ya_core.specs.WalkerModel.{Walk, IsWalk, MayBeTold, op_of}
use Rattle.ya_core.proofs.Promised.{store_due}
use Rattle.ya_lock.specs.inside.Lock.{OnWay, StoresFor, SeatOf}
use Rattle.ya_lock.proofs.EntryAccesses.{woken_in_tree, let_in_tree}
use Rattle.ya_lock.proofs.EntrySteps.{due_entering, due_leaving}
use Rattle.ya_lock.proofs.PassageSteps.{stays, owes}
use Rattle.ya_lock.proofs.DueAccesses.{due_word, due_index, may_step, goes_by}
use Rattle.ya_lock.proofs.passage.Passage.step_for.Goals as goal

-- the walk in the clauses is the walk of the fields
stores_to : {V : Type 0} (rival : ℕ) (inside seen : OnWay V) → inside ≡ seen → StoresFor rival seen.walk.process
    → StoresFor rival inside.walk.process
stores_to {V} rival inside seen is stores = subst (λ (p : OnWay V). StoresFor rival p.walk.process) (sym is) stores

-- such a store is a due access, for a rival in the tree
due_for : (w : Walk) (rival : ℕ) → StoresFor rival w.process → (op_of w ≢ op.Idle) × (op_of w ≢ op.Inside)
due_for w rival stores =
    ⊎_elim (λ e. due_entering w stores.0 (E7 rival) e) (λ e. due_leaving w stores.0 (X3 rival) e) stores.1

rival_in_tree : (w : Walk) (levels rival : ℕ) → IsWalk w → w.levels ≡ levels → StoresFor rival w.process → rival < 2 ^ levels
rival_in_tree w levels rival p tree stores =
    ⊎_elim (λ e. woken_in_tree w levels stores.0 rival p tree e) (λ e. let_in_tree w levels stores.0 rival p tree e) stores.1

pub overflow_mul-number : goal.overflow_mul-number
overflow_mul-number g c =
    let w = c.self.inside.walker in let p = c.op.ensures.proper in let a =
    store_due w c.in-Store.number c.in-Store.value (sym c.op.ensures.value ∙ c.in-Store.is) in
    let index = due_index w.levels c.in-Store.number a.0 p.most (due_word w (Store a.0 c.in-Store.value) p a.1) a.2 in
    omega (arith, index.2)

pub store-requires : goal.store-requires
store-requires g c =
    let s = c.self.inside in let w = s.walker in let p = c.op.ensures.proper in let table = c.lock.inside.table.shared in
    let a = store_due w c.in-Store.number c.in-Store.value (sym c.op.ensures.value ∙ c.in-Store.is) in
    let access : Access = Store a.0 c.in-Store.value in
    let may = may_step g.V.Kept.since g.V.Kept.done g.V.Kept.since_same g.V.Kept.since_done w access g.row.L
    c.in-Store.number table.key s.seat.id table.table_id s.seat.me s.seen.value
    (due_for w c.args.rival (stores_to c.args.rival _ c.args.self.now c.self.view_is c.requires)) c.self.invariant.seat p a.1
    (due_word w access p a.1) a.2 c.self.invariant.tree c.lock.invariant in
    (c.self.invariant.own ∙ sym c.lock.view_is, may.0, may.1)

pub ring-requires : goal.ring-requires
ring-requires g c =
    let s = c.self.inside in let i = c.self.invariant in let w = s.walker in
    let stores = stores_to c.args.rival _ c.args.self.now c.self.view_is c.requires in (
      lit< tt,
      (
        c.store.ensures.0 ∙ i.own,
        (
          rival_in_tree w g.row.L c.args.rival c.op.ensures.proper i.tree stores,
          owes g.V.Kept.since g.V.Kept.done w g.row.L c.in-Store.value c.args.rival s.seen.value s.seat.me c.store.new.seat.me
              (due_for w c.args.rival stores) stores i.seat i.tree c.store.ensures.2,
        ),
      ),
    )

pub invariant_of-self : goal.invariant_of-self
invariant_of-self g c =
    let s = c.self.inside in let i = c.self.invariant in let h = c.store.ensures in
    let is = c.done.ensures.after c.in-Store.value in
    let stores = stores_to c.args.rival _ c.args.self.now c.self.view_is c.requires in
    record {
      own = c.ring.ensures.lock ∙ (h.0 ∙ i.own);
      tree = ap (λ (w : Walk). w.levels) is ∙ i.tree;
      at = ap (λ (w : Walk). w.place) is ∙ i.at;
      seat = subst (λ m. SeatOf g.V.Kept.since g.V.Kept.done s.seen.value c.done.new.self m) (sym c.ring.ensures.me)
          (stays g.V.Kept.since g.V.Kept.done s.walker c.done.new.self g.row.L c.in-Store.value s.seen.value s.seat.me
          c.store.new.seat.me (due_for s.walker c.args.rival stores) i.seat i.tree h.2 is);
    }

pub returns-clause-onward : goal.returns-clause-onward
returns-clause-onward g c =
    let w = c.self.inside.walker in let value = c.in-Store.value in
    let a = store_due w c.in-Store.number value (sym c.op.ensures.value ∙ c.in-Store.is) in
    (goes_by _ c.args.self.now c.done.new.self value c.self.view_is c.op.ensures.proper
    (subst (λ d. MayBeTold d value) (sym a.3) tt) (c.done.ensures.after value)).0

pub returns-clause-count : goal.returns-clause-count
returns-clause-count g c =
    let w = c.self.inside.walker in let value = c.in-Store.value in
    let a = store_due w c.in-Store.number value (sym c.op.ensures.value ∙ c.in-Store.is) in
    (goes_by _ c.args.self.now c.done.new.self value c.self.view_is c.op.ensures.proper
    (subst (λ d. MayBeTold d value) (sym a.3) tt) (c.done.ensures.after value)).1

pub returns-clause-way : goal.returns-clause-way
returns-clause-way g c =
    let w = c.self.inside.walker in let value = c.in-Store.value in
    let a = store_due w c.in-Store.number value (sym c.op.ensures.value ∙ c.in-Store.is) in
    (goes_by _ c.args.self.now c.done.new.self value c.self.view_is c.op.ensures.proper
    (subst (λ d. MayBeTold d value) (sym a.3) tt) (c.done.ensures.after value)).2
