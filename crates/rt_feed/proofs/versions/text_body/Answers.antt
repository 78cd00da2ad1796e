use Rattle.std.proofs.Common.{subst, sym, ◌∙◌, ap, length, refl, arith}
use Rattle.std.proofs.lemmas.Bool.Decides.{Decides-eqb}
use Rattle.std.proofs.lemmas.Slice.Eq.{slice_eq-Decides}
use Rattle.rt_feed.specs.Lines.{CutsLine}
use Rattle.rt_feed.proofs.LinesYield.{length-cut}
use Rattle.rt_feed.proofs.OneCut.{one_cut}
use Rattle.rt_feed.proofs.versions.text_body.Goals as goal
use Rattle.rt_feed.proofs.versions.text_body.Goals.{in-Some+else-eq, in_default}

pub returns : goal.returns
returns c = (
  λ rest told. elim c.match-next_line.branch [
    | in-Some+else-eq w ↦
        let line = (one_cut c.args.text.now w.in-Some.line.now w.in-Some.lines.now _ rest w.in-Some.ensures told).0 in
        let equal = (slice_eq-Decides Decides-eqb _ _ _ w.eq.ensures).1 line in
        let clash = sym equal ∙ w.if-eq.false in cc
    | in_default w ↦ absurd (omega (arith, length-cut c.args.text.now _ rest told, ap length w.in_default.ensures))
  ],
  refl,
)

pub returns-then-eq : goal.returns-then-eq
returns-then-eq c =
    subst (λ line. CutsLine c.args.text.now line c.in-Some.lines.now) ((slice_eq-Decides Decides-eqb _ _ _ c.eq.ensures).0 c.if-eq.true)
    (c.in-Some.ensures {u = tt})
