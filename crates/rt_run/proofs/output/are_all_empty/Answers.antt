use Rattle.std.proofs.Common.{◌≡◌, ◌+◌, ◌<◌, List, [], ◌∷◌, ◌++◌, length, take, ap, ◌∙◌, sym, refl, arith, length-append}
use Rattle.std.proofs.lemmas.Bool.Decides.{nat_tests}
use Rattle.std.proofs.lemmas.Grind.{flat_map-append}
use Rattle.std.proofs.lemmas.List.Folds.{length-flat_map-take}
use Rattle.std.proofs.lemmas.List.{take_all, take_more}
use Rattle.std.specs.List.{flat_map}
use Rattle.std.specs.declared.vec.Vec.{Vec}
use Rattle.std.specs.declared.alloc.Global.{Global}
use Rattle.rt_rib.specs.declared.routes.Route.{Route}
use Rattle.rt_run.proofs.output.are_all_empty.Goals as goal

abbrev routes_of : List (Vec Route Global) → List Route
routes_of pieces = flat_map (λ piece. piece.items) pieces

pub returns-then-not-is_empty : goal.returns-then-not-is_empty
returns-then-not-is_empty c =
    let pieces = c.args.pieces.now in
    let piece = c.piece-item.result in
    let routes : 0 < length piece.items = grind (arith, nat_tests, c.is_empty.ensures, c.if-not-is_empty.true, piece.ok.0) in
    let within = length-flat_map-take (λ (one : Vec Route Global). one.items) pieces c.loop-piece.piece-index piece c.loop-piece-test.true in
    let some : 0 < length (routes_of pieces) = omega (arith, routes, within, ap (λ (one : Vec Route Global). length one.items) c.piece-item.is) in
    grind (arith, nat_tests, some)

pub loop-piece-preserved : goal.loop-piece-preserved
loop-piece-preserved c =
    let pieces = c.args.pieces.now in
    let piece = c.piece-item.result in
    let i = c.loop-piece.piece-index in
    let none : length piece.items ≡ 0 = grind (arith, nat_tests, c.is_empty.ensures, c.if-not-is_empty.false, piece.ok.0) in
    let more : routes_of (take (i + 1) pieces) ≡ routes_of (take i pieces) ++ routes_of (piece ∷ []) =
    ap routes_of (take_more pieces i piece c.loop-piece-test.true)
    ∙ flat_map-append (λ (one : Vec Route Global). one.items) (take i pieces) _
    ∙ ap (λ (x : Vec Route Global). routes_of (take i pieces) ++ routes_of (x ∷ [])) (sym c.piece-item.is) in
    omega (arith, ap length more, length-append (routes_of (take i pieces)) (routes_of (piece ∷ [])), length-append piece.items [], c.loop-piece.invariant, none)

pub returns : goal.returns
returns c =
    let all = take_all c.loop-piece.piece-index c.args.pieces.now c.loop-piece-test.false in
    let none : length (routes_of c.args.pieces.now) ≡ 0 = ap (λ l. length (routes_of l)) (sym all) ∙ c.loop-piece.invariant in
    rw none refl
