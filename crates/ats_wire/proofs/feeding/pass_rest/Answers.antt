use Rattle.std.proofs.Common.{◌++◌, ℕ, List, [], take, arith, append_assoc, length-append, subst}
use Rattle.std.proofs.lemmas.List.{length-take-le}
use Rattle.std.proofs.lemmas.Result.{err_from_is_err_and}
use Rattle.ats_wire.specs.Inner.Asking.{RestFault}
use Rattle.ats_wire.proofs.Moved.{moves_then}
use Rattle.ats_wire.proofs.feeding.pass_rest.Goals as goal

pub returns-in_err-done-clause-err : goal.returns-in_err-done-clause-err
returns-in_err-done-clause-err g c =
    let inv = c.pieces.invariant in
    let failed = c.in_err-done.ensures.err in
    let told = err_from_is_err_and c.from_residual.result c.from_residual.ensures.1 in
    rw (told.1, told.2) (
      inv.1.0 ++ failed.0,
      moves_then (g.L.Link.told c.args.link.now) (g.L.Link.told c.pieces.link) (g.L.Link.told c.read_piece.new.link) inv.1.0 [] failed.0 [] 1 inv.1.2 failed.1,
      λ front first. subst (λ (x : List ℕ). RestFault (g.L.Link.told c.read_piece.new.link) c.args.size x c.in_err-done.field-0.0) (append_assoc front inv.1.0 failed.0)
          (failed.2 (front ++ inv.1.0) (omega (arith, length-append front inv.1.0, first, inv.1.1))),
    )

pub pieces-preserved : goal.pieces-preserved
pieces-preserved g c =
    let inv = c.pieces.invariant in
    let read = c.in_ok-done.ensures.ok in
    let came : List ℕ = take c.in_ok-done.field-0 c.read_piece.new.piece in
    let long = length-take-le c.in_ok-done.field-0 c.read_piece.new.piece read.1 in (
      omega (arith, read.2),
      (
        inv.1.0 ++ came,
        omega (arith, length-append inv.1.0 came, long, inv.1.1),
        moves_then (g.L.Link.told c.args.link.now) (g.L.Link.told c.pieces.link) (g.L.Link.told c.read_piece.new.link) inv.1.0 [] came [] 0 inv.1.2 read.3,
      ),
    )
