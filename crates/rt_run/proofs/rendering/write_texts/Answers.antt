use Rattle.std.proofs.Common.{◌≡◌, ◌+◌, ◌*◌, take, drop, sym, subst, arith, take-append-drop}
use Rattle.std.specs.List.{flat_map}
use Rattle.std.specs.Io.KnownBytes.{Appends}
use Rattle.rt_cidr.specs.Output.{AppendsBeginning}
use Rattle.rt_cidr.proofs.Promised.{appends_after}
use Rattle.rt_print.proofs.Promised.{breaks_off}
use Rattle.rt_run.specs.declared.rendering.TheConstants.{PIECE_ITEMS}
use Rattle.rt_run.proofs.Pieces.{rows_begin, rows_split, rows_next}
use Rattle.rt_run.proofs.rendering.write_texts.Goals as goal

pub returns-in_err-write_piece : goal.returns-in_err-write_piece
returns-in_err-write_piece g c =
    let row = g.P.Rows.row_of c.args.rows.now in
    let items = c.args.items.now in
    let n = c.loop-index.index * PIECE_ITEMS in
    breaks_off _ _ _ _ c.from_residual.ensures.0 (rows_begin row items (drop n items) (take PIECE_ITEMS (drop n items)) (drop PIECE_ITEMS (drop n items))
    (flat_map row (take n items)) (rows_split row n items) (sym (take-append-drop PIECE_ITEMS (drop n items))) _ _ _ c.loop-index.invariant
    (subst (λ xs. AppendsBeginning (g.W.Write.contents c.loop-index.w) (g.W.Write.contents c.write_piece.new.w) (flat_map row xs)) c.piece_at.ensures c.in_err-write_piece.ensures.err))

pub loop-index-preserved : goal.loop-index-preserved
loop-index-preserved g c =
    let row = g.P.Rows.row_of c.args.rows.now in
    let items = c.args.items.now in
    let n = c.loop-index.index * PIECE_ITEMS in
    let next : (c.loop-index.index + 1) * PIECE_ITEMS ≡ n + PIECE_ITEMS = omega arith in
    rw (next, rows_next row n PIECE_ITEMS items) (appends_after _ _ _ (flat_map row (take n items)) (flat_map row (take PIECE_ITEMS (drop n items))) c.loop-index.invariant
    (subst (λ xs. Appends (g.W.Write.contents c.loop-index.w) (g.W.Write.contents c.write_piece.new.w) (flat_map row xs)) c.piece_at.ensures c.in_ok-write_piece.ensures.ok))
