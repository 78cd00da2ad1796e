use Rattle.std.proofs.Common.{arith, ◌≡◌, ℕ, Bool, false, sym, ap, ◌∙◌, subst}
use Rattle.ya_core.specs.declared.word.Access.{Access}
use Rattle.ya_core.specs.declared.word.Access.TheVariants.{Load, Store}
use Rattle.ya_core.specs.WalkerModel.{Walk, MayBeTold, walk_after}
use Rattle.ya_core.proofs.Promised.{load_due, store_due}
use Rattle.ya_lock.specs.Rule.{bell_after}
use Rattle.ya_lock.specs.inside.Lock.{OnWay, is_to_ring, is_vain, has_looked_in_vain}
use Rattle.ya_lock.proofs.PassageSteps.{stays_free, told_due, looked}
use Rattle.ya_lock.proofs.DueAccesses.{due_word, due_index, may_step, due_to, goes_by}
use Rattle.ya_lock.proofs.passage.Passage.step.Goals as goal

-- the same for what the access stores
plain_to : {V : Type 0} (inside seen : OnWay V) → inside ≡ seen → is_to_ring seen.walk.process ≡ false
    → is_to_ring inside.walk.process ≡ false
plain_to {V} inside seen is plain = subst (λ (p : OnWay V). is_to_ring p.walk.process ≡ false) (sym is) plain

pub overflow_mul-number : goal.overflow_mul-number
overflow_mul-number g c =
    let w = c.self.inside.walker in let p = c.op.ensures.proper in let a =
    load_due w c.in-Load.number (sym c.op.ensures.value ∙ c.in-Load.is) in
    let index = due_index w.levels c.in-Load.number a.0 p.most (due_word w (Load a.0) p a.1) a.2 in omega (arith, index.2)

pub load-value-requires : goal.load-value-requires
load-value-requires g c =
    let s = c.self.inside in let w = s.walker in let p = c.op.ensures.proper in let table = c.lock.inside.table.shared in
    let a = load_due w c.in-Load.number (sym c.op.ensures.value ∙ c.in-Load.is) in
    let may = may_step g.V.Kept.since g.V.Kept.done g.V.Kept.since_same g.V.Kept.since_done w (Load a.0) g.row.L
    c.in-Load.number table.key s.seat.id table.table_id s.seat.me s.seen.value
    (due_to _ c.args.self.now c.self.view_is (c.requires.0, c.requires.1)) c.self.invariant.seat p a.1
    (due_word w (Load a.0) p a.1) a.2 c.self.invariant.tree c.lock.invariant in
    (c.self.invariant.own ∙ sym c.lock.view_is, may.0, may.1)

pub overflow_mul-number-in-Store : goal.overflow_mul-number-in-Store
overflow_mul-number-in-Store g c =
    let w = c.self.inside.walker in let p = c.op.ensures.proper in let a =
    store_due w c.in-Store.number c.in-Store.value (sym c.op.ensures.value ∙ c.in-Store.is) in
    let index = due_index w.levels c.in-Store.number a.0 p.most (due_word w (Store a.0 c.in-Store.value) p a.1) a.2 in
    omega (arith, index.2)

pub store-requires : goal.store-requires
store-requires g c =
    let s = c.self.inside in let w = s.walker in let p = c.op.ensures.proper in let table = c.lock.inside.table.shared in
    let a = store_due w c.in-Store.number c.in-Store.value (sym c.op.ensures.value ∙ c.in-Store.is) in
    let access : Access = Store a.0 c.in-Store.value in
    let may = may_step g.V.Kept.since g.V.Kept.done g.V.Kept.since_same g.V.Kept.since_done w access g.row.L
    c.in-Store.number table.key s.seat.id table.table_id s.seat.me s.seen.value
    (due_to _ c.args.self.now c.self.view_is (c.requires.0, c.requires.1)) c.self.invariant.seat p a.1
    (due_word w access p a.1) a.2 c.self.invariant.tree c.lock.invariant in
    (c.self.invariant.own ∙ sym c.lock.view_is, may.0, may.1)

pub invariant_of-self-in-Store : goal.invariant_of-self-in-Store
invariant_of-self-in-Store g c =
    let s = c.self.inside in let i = c.self.invariant in let h = c.store.ensures in
    let is = c.done.ensures.after c.in-Store.value in
    record {
      own = h.0 ∙ i.own;
      tree = ap (λ (w : Walk). w.levels) is ∙ i.tree;
      at = ap (λ (w : Walk). w.place) is ∙ i.at;
      seat = stays_free g.V.Kept.since g.V.Kept.done s.walker c.done.new.self g.row.L c.in-Store.value s.seen.value s.seat.me
          c.store.new.seat.me (due_to _ c.args.self.now c.self.view_is (c.requires.0, c.requires.1))
          (plain_to _ c.args.self.now c.self.view_is c.requires.2) i.seat i.tree h.2 is;
    }

pub invariant_of-self : goal.invariant_of-self
invariant_of-self g c =
    let s = c.self.inside in let i = c.self.invariant in let h = c.load-value.ensures in let is = c.saw.ensures.after in
    record {
      own = h.0 ∙ i.own;
      tree = ap (λ (w : Walk). w.levels) is ∙ i.tree;
      at = ap (λ (w : Walk). w.place) is ∙ i.at;
      seat = stays_free g.V.Kept.since g.V.Kept.done s.walker c.saw.new.self g.row.L c.load-value.result s.seen.value s.seat.me
          c.load-value.new.seat.me (due_to _ c.args.self.now c.self.view_is (c.requires.0, c.requires.1))
          (plain_to _ c.args.self.now c.self.view_is c.requires.2) i.seat i.tree h.2 is;
    }

pub returns-in-Store-clause-onward : goal.returns-in-Store-clause-onward
returns-in-Store-clause-onward g c =
    let w = c.self.inside.walker in let value = c.in-Store.value in
    let a = store_due w c.in-Store.number value (sym c.op.ensures.value ∙ c.in-Store.is) in
    (goes_by _ c.args.self.now c.done.new.self value c.self.view_is c.op.ensures.proper
    (subst (λ d. MayBeTold d value) (sym a.3) tt) (c.done.ensures.after value)).0

pub returns-in-Store-clause-count : goal.returns-in-Store-clause-count
returns-in-Store-clause-count g c =
    let w = c.self.inside.walker in let value = c.in-Store.value in
    let a = store_due w c.in-Store.number value (sym c.op.ensures.value ∙ c.in-Store.is) in
    (goes_by _ c.args.self.now c.done.new.self value c.self.view_is c.op.ensures.proper
    (subst (λ d. MayBeTold d value) (sym a.3) tt) (c.done.ensures.after value)).1

pub returns-in-Load-clause-onward : goal.returns-in-Load-clause-onward
returns-in-Load-clause-onward g c =
    let s = c.self.inside in let i = c.self.invariant in let due = due_to _ c.args.self.now c.self.view_is (c.requires.0, c.requires.1) in
    (goes_by _ c.args.self.now c.saw.new.self c.load-value.result c.self.view_is c.op.ensures.proper
    (told_due g.V.Kept.since g.V.Kept.done s.walker g.row.L c.load-value.result s.seen.value s.seat.me c.load-value.new.seat.me due
    i.seat i.tree c.load-value.ensures.2) c.saw.ensures.after).0

pub returns-in-Load-clause-count : goal.returns-in-Load-clause-count
returns-in-Load-clause-count g c =
    let s = c.self.inside in let i = c.self.invariant in let due = due_to _ c.args.self.now c.self.view_is (c.requires.0, c.requires.1) in
    (goes_by _ c.args.self.now c.saw.new.self c.load-value.result c.self.view_is c.op.ensures.proper
    (told_due g.V.Kept.since g.V.Kept.done s.walker g.row.L c.load-value.result s.seen.value s.seat.me c.load-value.new.seat.me due
    i.seat i.tree c.load-value.ensures.2) c.saw.ensures.after).1

-- the walk goes on with the value, and the seat knows whether it was a look in vain
goes_to : {V : Type 0} (inside seen : OnWay V) (new : Walk) (value : ℕ) (vain : Bool) → inside ≡ seen → new ≡ walk_after inside.walk value
    → vain ≡ is_vain (bell_after inside.walk.process value)
    → (found : ℕ) × (new ≡ walk_after seen.walk found) × (vain ≡ is_vain (bell_after seen.walk.process found))
goes_to {V} inside seen new value vain is goes looked =
    subst (λ (p : OnWay V). (found : ℕ) × (new ≡ walk_after p.walk found) × (vain ≡ is_vain (bell_after p.walk.process found))) is
    (value, goes, looked)

pub returns-in-Store-clause-goes : goal.returns-in-Store-clause-goes
returns-in-Store-clause-goes g c =
    let s = c.self.inside in let i = c.self.invariant in
    goes_to _ c.args.self.now c.done.new.self c.in-Store.value (has_looked_in_vain c.store.new.seat.me.0) c.self.view_is
    (c.done.ensures.after c.in-Store.value)
    (looked g.V.Kept.since g.V.Kept.done s.walker g.row.L c.in-Store.value s.seen.value s.seat.me c.store.new.seat.me
    (due_to _ c.args.self.now c.self.view_is (c.requires.0, c.requires.1)) i.seat i.tree c.store.ensures.2)

pub returns-in-Load-clause-goes : goal.returns-in-Load-clause-goes
returns-in-Load-clause-goes g c =
    let s = c.self.inside in let i = c.self.invariant in
    goes_to _ c.args.self.now c.saw.new.self c.load-value.result (has_looked_in_vain c.load-value.new.seat.me.0) c.self.view_is
    c.saw.ensures.after
    (looked g.V.Kept.since g.V.Kept.done s.walker g.row.L c.load-value.result s.seen.value s.seat.me c.load-value.new.seat.me
    (due_to _ c.args.self.now c.self.view_is (c.requires.0, c.requires.1)) i.seat i.tree c.load-value.ensures.2)

pub returns-in-Store-clause-way : goal.returns-in-Store-clause-way
returns-in-Store-clause-way g c =
    let w = c.self.inside.walker in let value = c.in-Store.value in
    let a = store_due w c.in-Store.number value (sym c.op.ensures.value ∙ c.in-Store.is) in
    (goes_by _ c.args.self.now c.done.new.self value c.self.view_is c.op.ensures.proper
    (subst (λ d. MayBeTold d value) (sym a.3) tt) (c.done.ensures.after value)).2

pub returns-in-Load-clause-way : goal.returns-in-Load-clause-way
returns-in-Load-clause-way g c =
    let s = c.self.inside in let i = c.self.invariant in let due = due_to _ c.args.self.now c.self.view_is (c.requires.0, c.requires.1) in
    (goes_by _ c.args.self.now c.saw.new.self c.load-value.result c.self.view_is c.op.ensures.proper
    (told_due g.V.Kept.since g.V.Kept.done s.walker g.row.L c.load-value.result s.seen.value s.seat.me c.load-value.new.seat.me due
    i.seat i.tree c.load-value.ensures.2) c.saw.ensures.after).2
