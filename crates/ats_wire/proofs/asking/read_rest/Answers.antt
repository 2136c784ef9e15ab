use Rattle.std.proofs.Common.{◌++◌, ℕ, List, [], take, sym, arith, length-append}
use Rattle.std.proofs.lemmas.List.{length-take-le}
use Rattle.std.proofs.lemmas.Result.{err_from_is_err_and}
use Rattle.ats_wire.proofs.Moved.{moves_then, moves_none, moves_idle}
use Rattle.ats_wire.proofs.asking.read_rest.Goals as goal

pub pieces-init : goal.pieces-init
pieces-init g c = rw c.new-bytes.ensures (record { few = omega arith; moved = moves_none (g.L.Link.told c.args.link.now) })

pub returns-in_err-count-clause-err : goal.returns-in_err-count-clause-err
returns-in_err-count-clause-err g c =
    let failed = c.in_err-count.ensures.err in
    let told = err_from_is_err_and c.from_residual.result c.from_residual.ensures.1 in
    rw (told.1, told.2) (
      c.pieces.bytes ++ failed.0,
      moves_then (g.L.Link.told c.args.link.now) (g.L.Link.told c.pieces.link) (g.L.Link.told c.read_piece.new.link) c.pieces.bytes [] failed.0 [] 1 c.pieces.invariant.moved failed.1,
      failed.2 c.pieces.bytes (sym c.len-in-pieces.ensures),
    )

pub returns-then-is_err-clause-err : goal.returns-then-is_err-clause-err
returns-then-is_err-clause-err g c =
    let bytes : List ℕ = c.pieces.bytes in
    let read = c.in_ok-count.ensures.ok in
    let came : List ℕ = take c.in_ok-count.count c.read_piece.new.piece in (
      bytes ++ came,
      moves_idle _ _ _ _ (moves_then (g.L.Link.told c.args.link.now) (g.L.Link.told c.pieces.link) (g.L.Link.told c.read_piece.new.link) bytes [] came [] 0
          c.pieces.invariant.moved read.3),
      omega (arith, length-append bytes came, length-take-le c.in_ok-count.count c.read_piece.new.piece read.1, read.2),
    )
