-- The seat of a guard after the value has left its slot.
use Rattle.std.proofs.Common.{◌≡◌, ℕ, ◌*◌, ◌≤◌, true, false, [], ◌∷◌, Some, None, sym, ap, ◌∙◌, subst}
use Rattle.std.specs.Prelude as std
use Rattle.atomic_table.specs.Table.{Me, rest}
use Rattle.ya_core.specs.declared.process.Process.TheVariants.{Inside}
use Rattle.ya_core.specs.declared.walker.Op.TheVariants as op
use Rattle.ya_core.specs.WalkerModel.{Walk, walk, op_of}
use Rattle.ya_lock.specs.declared.rule.View.{View}
use Rattle.ya_lock.specs.declared.rule.View.TheVariants.{Seated}
use Rattle.ya_lock.specs.Lock.{LockId}
use Rattle.ya_lock.specs.inside.Lock.{HasTree, HasPlace, SeatInside, SeatOf}
use Rattle.ya_lock.proofs.TreeSize.{one_tree}
use Rattle.ya_lock.proofs.NewSteps.{one_value}
use Rattle.ya_lock.proofs.Ways.{is_inside_walk}

module _ {V : Type 0} where
  -- the seat of a walk without a request because it is inside has found a value
  pub entered : (since done : ℕ → V → V → Type 0) (w : Walk) (seen : V) (me : Me (std.Option V) (View V))
      → op_of w ≡ op.Inside → SeatOf since done seen w me
      → SeatOf since done seen (walk w.levels w.place Inside false w.remote) me
  entered since done w seen me inside h =
      subst (λ (v : Walk). SeatOf since done seen v me) (is_inside_walk w inside) h

  -- there is a slot to take it from
  pub has_slot : (since done : ℕ → V → V → Type 0) (levels place : ℕ) (seen : V) (remote : ℕ) (me : Me (std.Option V) (View V))
      → SeatOf since done seen (walk levels place Inside false remote) me → (x : std.Option V) × (me.1 ≡ (0, x) ∷ rest me.1)
  has_slot since done levels place seen remote me h =
      let is = h.2 in (Some h.0, ap (λ (m : Me (std.Option V) (View V)). m.1) is ∙ (λ i. (0, Some h.0) ∷ rest (sym is i).1))

  -- the value in the slot is the value found, and the slot is left empty
  pub taken : (since done : ℕ → V → V → Type 0) (levels place : ℕ) (seen value : V) (remote : ℕ) (x : std.Option V)
      (me after : Me (std.Option V) (View V)) → SeatOf since done seen (walk levels place Inside false remote) me → me.1 ≡ (0, x) ∷ rest me.1
      → x ≡ Some value
      → after ≡ (me.0, (0, None) ∷ rest me.1)
      → (after ≡ (Seated place Inside value remote, (0, None) ∷ [])) × since place seen value
  taken since done levels place seen value remote x me after entered slot is new =
      let h = entered in
      let own : me.1 ≡ (0, Some h.0) ∷ [] = ap (λ (m : Me (std.Option V) (View V)). m.1) h.2 in
      let same : h.0 ≡ value = one_value h.0 value (sym own ∙ (slot ∙ (λ i. (0, is i) ∷ rest (own i)))) in (
        new ∙ (λ i. ((h.2 i).0, (0, None) ∷ rest (own i))) ∙ (λ i. (Seated place Inside (same i) remote, (0, None) ∷ [])),
        let P : V → Type 0 = λ v. since place seen v in subst P same h.1,
      )

  -- a guard satisfies the invariant of its type
  pub guarded : (since done : ℕ → V → V → Type 0) (levels place here remote : ℕ) (seen value recalled : V) (x : std.Option V)
      (lock old own : LockId) (me after : Me (std.Option V) (View V))
      → lock ≡ old → old ≡ own → HasTree own levels → HasPlace old place → here ≡ place → remote ≤ 7 * levels
      → SeatOf since done seen (walk levels here Inside false remote) me → me.1 ≡ (0, x) ∷ rest me.1 → x ≡ Some value
      → after ≡ (me.0, (0, None) ∷ rest me.1) → recalled ≡ value → SeatInside lock place recalled remote after
  guarded since done levels place here remote seen value recalled x lock old own me after e f tree is_place at most h slot is
      new recall =
      let t = taken since done levels here seen value remote x me after h slot is new in
      record {
        process = t.0 ∙ (λ i. (Seated (at i) Inside (sym recall i) remote, (0, None) ∷ []));
        in_tree = subst (λ (l : LockId). HasPlace l place) (sym e) is_place;
        count = λ levels' tree'. subst (λ (l : ℕ). remote ≤ 7 * l)
            (sym (one_tree lock own levels' levels (e ∙ f) tree' tree)) most;
      }

  -- after `begin_exit`, with the value to be left back in its slot, the seat is ready for the way out
  pub told_to_leave : (since done : ℕ → V → V → Type 0) (w : Walk) (levels place remote : ℕ) (found value seen : V)
      (me after : Me (std.Option V) (View V)) → w ≡ walk levels place Inside true remote → done place found value
      → seen ≡ value → me ≡ (Seated place Inside found remote, (0, None) ∷ [])
      → after ≡ (me.0, (0, Some value) ∷ rest me.1) → SeatOf since done seen w after
  told_to_leave since done w levels place remote found value seen me after is may same process new =
      subst (λ (v : Walk). SeatOf since done seen v after) (sym is)
      (subst (λ (x : V). SeatOf since done x (walk levels place Inside true remote) after) (sym same)
      (found, may, new ∙ ap (λ (m : Me (std.Option V) (View V)). (m.0, (0, Some value) ∷ rest m.1)) process))
