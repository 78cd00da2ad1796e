-- `open` tests the pointer: what it owns goes with it.
use mathlib.Core.Path.{refl, sym, subst}
use mathlib.Core.List.{List, [], ◌∷◌, ◌++◌}
use seplogic.Ra.Ura.{Ura}
use lib.Dec.{lit<}
use mathlib.Core.Path.{◌≡◌}
use mir.Val.{Val, vnull, vstruct, vcons, vnil, of_list}
use base.Logic.{ent, emp, id⊢}
use base.Fml.{ftrue, fsep}
use prog.Model.{Model}
use prog.Wp.{WpFn}
use types.Logic.{Logic}
use contract.Running.{Running, MachineTables, tables}
use types.Kit.{Item, at_ret, given, learn, ‵, raw, ◌⊛◌, ◌$◌, ◌∵◌, !, qed, by, move, drop, use0, use1, join, split, fsplit, fjoin, fpick, feq_l, suffices, done}
use types.Part.{whole, sub, agg}
use types.Match.{live}
use types.Run.{stop, fld, lit, bin, first, branches, exec, no_more, and_then, of_opd, returns, enter}
use types.ByLocal.{alloc_all, pass_all, free_all, look_at, get, get_in, sets, sets_last, env}
use denote.Exit.{yes}
use denote.RawPtr.{Ptr, block_ptr, null_ptr, ptr_val, tests_null}
use Rattle.std.specs.declared.option.Option.TheVariants.{None, Some}
use denote.Signature.{type_at}
use denote.Steps.{nothing}
use denote.Triple.Clauses.{Clauses}
use denote.Triple.Walked.{says, Stays, stay_dropped, walk_of, ends_at, Goes-dropped}
use Rattle.std.proofs.alloc.Calls.{handle_tells, token}
use Rattle.std.proofs.VecSteps.Shapes.{after}
use Rattle.std.proofs.option.Made.{Some-of, none_of}
use Rattle.std.specs.Box.Ownership.{box_owns}
use Rattle.std.proofs.ResultValues.{and_tt}
use Rattle.std.proofs.raw_atomic.Walks.{proved_at}
use Rattle.std.proofs.BoxSteps.Form.{D, B, R, word, box_typed}
use Rattle.std.proofs.BoxSteps.Steps.{box_out, box_in}
use Rattle.std.specs.declared.alloc.Global.{Global}
use Rattle.yarib_c.specs.declared.held.Held.{Held}
use Rattle.yarib_c.proofs.AsBox.{E, FromHandle as From, tested}
use Rattle.yarib_c.specs.contracts.loose.Loose as Loose
use Rattle.yarib_c.specs.contracts.handle.Yarib as Yarib
use Rattle.yarib_c.specs.contracts.handle.Yarib.open as F
use Rattle.yarib_c.specs.contracts.handle.Yarib.open.Key.{name as #self}
use Rattle.yarib_c.proofs.handle.Yarib.open.Statement as stated
use Rattle.yarib_c.proofs.handle.Yarib.open.Code as code

abbrev stayed : Stays (F.ended).signature.params (F.ended).kept
stayed = (stay_dropped From yes, tt)

module _ {M : Type 1} {𝓤 : Ura M} (𝓛 : Logic 𝓤) (𝓜 : Model 𝓤 𝓛.H) (𝓡 : Running 𝓤 𝓛.H 𝓜) where
  open 𝓛 use {H}

  abbrev clauses : Clauses 𝓤 F.ended
  clauses = F.clauses 𝓛 𝓜.mem 𝓡.returns

  abbrev 𝓣 : MachineTables 𝓤 H 𝓜
  𝓣 = tables 𝓤 H 𝓜 𝓡 𝓡.env

  abbrev bound : Ptr → Global → Held → List Val → (walk_of 𝓛 F.ended stayed clauses).Ghost
  bound p a x vs = ((tt, tt, tt, (record { at = p; alloc = a; held = x }, tt), (vs, tt)), tt)

  at_each : (p : Ptr) (a : Global) (x : Held) (vs : List Val)
      → ent 𝓤 ((walk_of 𝓛 F.ended stayed clauses).pre (bound p a x vs)) (WpFn 𝓤 H 𝓣.C 𝓣.Λ code.function (vs ++ []) ((walk_of 𝓛 F.ended stayed clauses).post (bound p a x vs)))
  at_each (block_ptr c n) a x vs =
      let z = bound (block_ptr c n) a x vs in
      let Post = (walk_of 𝓛 F.ended stayed clauses).post z in
      let v : D E = record { ptr = block_ptr c n; alloc = a; value = x } in
      let Out = type_at (F.signature).result tt in
      let Lr = Loose.the_row E.row E.al.row E.al.g in
      qed 𝓛 ((‵ ftrue ⊛ ‵ (fsep ((B E).own_val v vs) ftrue)) ∷ raw (emp 𝓤) ∷ []) ∵ split ! $ drop ! $ fsplit ! $
      box_out E ! v vs (λ b o hv e ws fa. fjoin ! $
      use1 𝓛 (given (denote.RawPtr.Testable (block_ptr b o)) (‵ (box_owns (token E.al a) (R E) (block_ptr b o) x))) (tested 𝓛 a (block_ptr b o) x) $ learn ! (λ t. fsplit ! $
      let d : D E = record { ptr = block_ptr b o; alloc = a; value = x } in let made : Lr.Denot = record { ptr = block_ptr b o; alloc = a; value = x } in
      let w = word E hv b o in let v₁ : Val = live 1 (vcons w vnil) in let typed = box_typed E hv b o fa in
      box_in E ! d b o x refl refl $ use1 𝓛 (‵ (Lr.own_val made (w ∷ []))) (id⊢ 𝓤 _) $ move ! (1 ∷ 2 ∷ []) $ drop ! $ drop ! $
      let Γ : List (Item 𝓤) = ‵ (Lr.own_val made (w ∷ [])) ∷ [] in
      by ! (subst (λ (us : List Val). ent 𝓤 (types.Kit.⋆ 𝓛 Γ) (WpFn 𝓤 H 𝓣.C 𝓣.Λ code.function (us ++ []) Post)) (sym ws)
      (qed 𝓛 Γ ∵ enter ! 𝓣.C 𝓣.Λ code.function (w ∷ []) _ $ alloc_all ! (λ ls. let Ev = env code.function.locals ls in pass_all ! refl (typed, tt) $
      sets ! (of_opd ! (get_in ! (fld ! refl (stop !)) (sub ! 0 refl (whole !)))) refl (tt, tt) $ sets ! (of_opd ! (get_in ! (fld ! refl (stop !)) (sub ! 1 refl (whole !)))) refl fa $
      sets ! (bin ! (get ! refl) (lit ! tt) (tests_null (block_ptr b o) t)) refl (tt, tt) $ first ! $ branches ! (get ! refl) (λ wrong. absurd wrong) (λ _.
      sets ! (of_opd ! (get ! refl)) refl (tt, tt) $ sets ! (agg ! (and_then ! (get ! refl) (and_then ! (get ! refl) (no_more !)))) refl typed $
      sets_last ! (agg ! (and_then ! (lit ! tt) (and_then ! (get ! refl) (no_more !)))) refl (and_tt _ typed.0, (record { fits = lit< tt }, (typed.1, tt))) $
      exec ! 𝓣.C 𝓣.Λ Ev (after 4 (code.function).body) (at_ret Ev Post) $ sets ! (of_opd ! (get ! refl)) refl (and_tt _ typed.0, (record { fits = lit< tt }, (typed.1, tt))) $
      use1 𝓛 (‵ (Out.own_val (Some made) (v₁ ∷ []))) (Some-of 𝓛 Lr made w) $ returns ! (look_at ! 0 refl) $ free_all ! refl $
      suffices ! _ (ends_at 𝓛 F.ended stayed clauses z v₁ (Some made) (tt, tt) (tt, tt)) $ says ! refl $
      nothing ! $ nothing ! $ fjoin ! $ join ! $ nothing ! $ join ! $ done !))))))
  at_each null_ptr a x vs =
      let z = bound null_ptr a x vs in
      let Post = (walk_of 𝓛 F.ended stayed clauses).post z in
      let Out = type_at (F.signature).result tt in
      let Lr = Loose.the_row E.row E.al.row E.al.g in
      let held : Yarib.the_row.Denot = record { at = null_ptr; alloc = a; held = x } in
      qed 𝓛 ((‵ ftrue ⊛ ‵ (fsep (Yarib.the_row.own_val held vs) ftrue)) ∷ raw (emp 𝓤) ∷ []) ∵ split ! $ drop ! $ fsplit ! $ fsplit ! $
      fpick ! (λ vss. fsplit ! $ feq_l ! (λ ev. fsplit ! $ feq_l ! (λ ep. fsplit ! $ handle_tells E.al ! a vss.1.0 (λ hv ea fa. drop ! $ drop ! $ drop ! $ drop ! $ drop ! $
      let w : Val = vstruct (vcons vnull (vcons hv vnil)) in let none : Val = live 0 vnil in
      let ws : vs ≡ w ∷ [] = subst (λ (us : List Val). vs ≡ vstruct (of_list (ptr_val null_ptr ∷ (us ++ []))) ∷ []) ea (subst (λ (ps : List Val). vs ≡ vstruct (of_list (ps ++ (vss.1.0 ++ []))) ∷ []) ep ev) in
      by ! (subst (λ (us : List Val). ent 𝓤 (types.Kit.⋆ 𝓛 []) (WpFn 𝓤 H 𝓣.C 𝓣.Λ code.function (us ++ []) Post)) (sym ws)
      (qed 𝓛 [] ∵ enter ! 𝓣.C 𝓣.Λ code.function (w ∷ []) _ $ alloc_all ! (λ ls. let Ev = env code.function.locals ls in pass_all ! refl ((and_tt _ fa.0, (record { fits = lit< tt }, (fa.1, tt))), tt) $
      sets ! (of_opd ! (get_in ! (fld ! refl (stop !)) (sub ! 0 refl (whole !)))) refl (tt, record { fits = lit< tt }) $ sets ! (of_opd ! (get_in ! (fld ! refl (stop !)) (sub ! 1 refl (whole !)))) refl fa $
      sets ! (bin ! (get ! refl) (lit ! tt) tt) refl (tt, tt) $ first ! $ branches ! (get ! refl) (λ _.
      sets_last ! (agg ! (and_then ! (lit ! tt) (no_more !))) refl (tt, (record { fits = lit< tt }, tt)) $
      exec ! 𝓣.C 𝓣.Λ Ev (after 4 (code.function).body) (at_ret Ev Post) $ sets ! (of_opd ! (get ! refl)) refl (tt, (record { fits = lit< tt }, tt)) $
      use0 𝓛 (‵ (Out.own_val None (none ∷ []))) (none_of 𝓛 Lr) $ returns ! (look_at ! 0 refl) $ free_all ! refl $
      suffices ! _ (ends_at 𝓛 F.ended stayed clauses z none None (tt, tt) (tt, tt)) $ says ! refl $
      nothing ! $ nothing ! $ fjoin ! $ join ! $ nothing ! $ join ! $ done !) (λ wrong. absurd wrong))))))))

pub open_spec : {M : Type 1} → stated.statement M
open_spec 𝓤 𝓛 𝓜 𝓡 wired =
    proved_at 𝓛 F.ended stayed (clauses 𝓛 𝓜 𝓡) 𝓜 𝓡 (Goes-dropped 𝓛 0 From yes (λ κs x f. refl), tt) #self code.function (code.unfolded 𝓤 𝓛.H 𝓜 𝓡 wired)
    (λ z are. at_each 𝓛 𝓜 𝓡 z.0.3.0.at z.0.3.0.alloc z.0.3.0.held z.0.4.0)
