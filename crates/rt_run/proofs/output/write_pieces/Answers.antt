use Rattle.std.proofs.Common.{◌≡◌, ℕ, List, ◌∷◌, ◌++◌, refl}
use Rattle.std.proofs.lemmas.Grind.{flat_map-append}
use Rattle.std.specs.List.{flat_map}
use Rattle.std.specs.declared.vec.Vec.{Vec}
use Rattle.std.specs.declared.alloc.Global.{Global}
use Rattle.rt_rib.specs.declared.routes.Route.{Route}
use Rattle.rt_print.specs.Styles.{StyleContents, label_of, row_as, rows_as}
use Rattle.rt_print.proofs.Promised.{appends_next, stops_all}
use Rattle.rt_run.proofs.output.write_pieces.Goals as goal

abbrev rows_of : StyleContents → List (Vec Route Global) → List ℕ
rows_of style pieces = rows_as style (flat_map (λ piece. piece.items) pieces)

rows_more : (style : StyleContents) (piece : Vec Route Global) (pieces : List (Vec Route Global)) → rows_of style (piece ∷ pieces) ≡ rows_as style piece.items ++ rows_of style pieces
rows_more style piece pieces = flat_map-append (row_as style.syntax (label_of style.labels)) piece.items (flat_map (λ piece. piece.items) pieces)

pub returns-in_err-write_on_threads : goal.returns-in_err-write_on_threads
returns-in_err-write_on_threads g c =
    let style = c.args.style.now in
    stops_all (λ n piece. rows_as style piece.items) (λ n. rows_of style) (λ n. refl) (λ n. rows_more style) c.args.pieces.now c.loop-piece.piece-index
    c.piece-item.result c.loop-piece-test.true c.piece-item.is _ _ _ c.loop-piece.invariant _ c.from_residual.ensures.0
    (rw c.as_slice.ensures.value at c.in_err-write_on_threads.ensures.err)

pub loop-piece-preserved : goal.loop-piece-preserved
loop-piece-preserved g c =
    let style = c.args.style.now in
    appends_next (λ n piece. rows_as style piece.items) (λ n. rows_of style) (λ n. refl) (λ n. rows_more style) c.args.pieces.now c.loop-piece.piece-index
    c.piece-item.result c.loop-piece-test.true c.piece-item.is _ _ _ c.loop-piece.invariant
    (rw c.as_slice.ensures.value at c.in_ok-write_on_threads.ensures.ok)
