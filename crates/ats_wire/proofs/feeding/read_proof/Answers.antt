use Rattle.std.proofs.Common.{◌≡◌, ◌++◌, ◌∙◌, ℕ, List, [], length, take, sym, arith, length-append}
use Rattle.std.proofs.lemmas.List.{length-take-le}
use Rattle.std.proofs.lemmas.Result.{err_from_is_err_and}
use Rattle.ats_wire.proofs.Moved.{moves_then, moves_none, moves_idle}
use Rattle.ats_wire.proofs.PiecesRead.{bad_stays, extended}
use Rattle.ats_wire.proofs.feeding.read_proof.Goals as goal
use Rattle.ats_wire.proofs.feeding.read_proof.Goals.{in-Ok-pass_rest, in-Err-pass_rest}

pub pieces-init : goal.pieces-init
pieces-init g c = rw c.new-bytes.ensures (record {
  few = omega arith;
  moved = moves_none (g.L.Link.told c.args.link.now);
  all = c.in-Ok.ensures.few.1 ∙ c.from.ensures;
  fed = c.in-Ok.ensures.none.0;
  stands = c.in-Ok.ensures.none.1;
})

pub returns-in_err-count-clause-err : goal.returns-in_err-count-clause-err
returns-in_err-count-clause-err g c =
    let failed = c.in_err-count.ensures.err in
    let told = err_from_is_err_and c.from_residual.result c.from_residual.ensures.1 in
    rw (told.1, told.2) (
      c.pieces.bytes ++ failed.0,
      moves_then (g.L.Link.told c.args.link.now) (g.L.Link.told c.pieces.link) (g.L.Link.told c.read_piece.new.link) c.pieces.bytes [] failed.0 [] 1 c.pieces.invariant.moved failed.1,
      failed.2 c.pieces.bytes (sym c.len-in-pieces.ensures),
    )

pub returns-in-Err-clause-ok : goal.returns-in-Err-clause-ok
returns-in-Err-clause-ok g c =
    let bytes : List ℕ = c.pieces.bytes in
    let read = c.in_ok-count.ensures.ok in
    let buf : List ℕ = take c.in_ok-count.count c.read_piece.new.piece in
    let before = g.L.Link.told c.args.link.now in
    let mid = g.L.Link.told c.read_piece.new.link in
    let long_piece : length buf ≡ c.in_ok-count.count = length-take-le c.in_ok-count.count c.read_piece.new.piece read.1 in
    let bad = c.in-Err.ensures.refused bytes c.pieces.invariant.stands in
    let long = length-append bytes buf in
    elim c.match-pass_rest.branch [
      | in-Ok-pass_rest w ↦
          let rest = w.in-Ok-pass_rest.ensures.ok in
          let all = length-append (bytes ++ buf) rest.0 in
          rw w.result-is (
            (bytes ++ buf) ++ rest.0,
            omega (arith, all, long, long_piece, rest.1, c.len-in-Err.ensures),
            moves_then before mid (g.L.Link.told c.pass_rest.new.link) (bytes ++ buf) [] rest.0 [] 0
                (moves_then before (g.L.Link.told c.pieces.link) mid bytes [] buf [] 0 c.pieces.invariant.moved read.3) rest.2,
            bad_stays (bytes ++ buf) rest.0 c.in-Err.fault bad.0 bad.1 (omega (arith, all, long, long_piece, rest.1, c.len-in-Err.ensures, c.requires)),
          )
      | in-Err-pass_rest w ↦ rw w.result-is tt
    ]

pub returns-in-Err-clause-err : goal.returns-in-Err-clause-err
returns-in-Err-clause-err g c =
    let bytes : List ℕ = c.pieces.bytes in
    let read = c.in_ok-count.ensures.ok in
    let buf : List ℕ = take c.in_ok-count.count c.read_piece.new.piece in
    let before = g.L.Link.told c.args.link.now in
    let mid = g.L.Link.told c.read_piece.new.link in
    let now = g.L.Link.told c.pass_rest.new.link in
    let long_piece : length buf ≡ c.in_ok-count.count = length-take-le c.in_ok-count.count c.read_piece.new.piece read.1 in
    let first = moves_then before (g.L.Link.told c.pieces.link) mid bytes [] buf [] 0 c.pieces.invariant.moved read.3 in
    elim c.match-pass_rest.branch [
      | in-Ok-pass_rest w ↦ rw w.result-is tt
      | in-Err-pass_rest w ↦
          let rest = w.in-Err-pass_rest.ensures.err in
          rw w.result-is (
            (bytes ++ buf) ++ rest.0,
            moves_then before mid now (bytes ++ buf) [] rest.0 [] 1 first rest.1,
            rest.2 (bytes ++ buf) (omega (arith, length-append bytes buf, long_piece, c.len-in-Err.ensures)),
          )
    ]

pub returns-then-is_err-clause-err : goal.returns-then-is_err-clause-err
returns-then-is_err-clause-err g c =
    let bytes : List ℕ = c.pieces.bytes in
    let read = c.in_ok-count.ensures.ok in
    let buf : List ℕ = take c.in_ok-count.count c.read_piece.new.piece in
    let long_piece : length buf ≡ c.in_ok-count.count = length-take-le c.in_ok-count.count c.read_piece.new.piece read.1 in (
      bytes ++ buf,
      moves_idle _ _ _ _ (moves_then (g.L.Link.told c.args.link.now) (g.L.Link.told c.pieces.link) (g.L.Link.told c.read_piece.new.link) bytes [] buf [] 0
          c.pieces.invariant.moved read.3),
      omega (arith, length-append bytes buf, long_piece, read.2),
    )

pub pieces-preserved : goal.pieces-preserved
pieces-preserved g c =
    let bytes : List ℕ = c.pieces.bytes in
    let read = c.in_ok-count.ensures.ok in
    let buf : List ℕ = take c.in_ok-count.count c.read_piece.new.piece in
    let long_piece : length buf ≡ c.in_ok-count.count = length-take-le c.in_ok-count.count c.read_piece.new.piece read.1 in
    let long = length-append bytes buf in
    let more = c.feed.ensures.more in
    let kept : c.extend.new.self ≡ bytes ++ buf = extended c.extend.result c.is_err.result c.extend.new.self _ _ c.is_err.ensures.value c.if-is_err.false c.extend.ensures in
    rw kept (record {
      few = omega (arith, long, long_piece, read.2);
      moved = moves_then (g.L.Link.told c.args.link.now) (g.L.Link.told c.pieces.link) (g.L.Link.told c.read_piece.new.link) bytes [] buf [] 0 c.pieces.invariant.moved read.3;
      all = more.0 ∙ c.pieces.invariant.all;
      fed = omega (arith, long, more.1, c.pieces.invariant.fed);
      stands = c.feed.ensures.stands bytes c.pieces.invariant.stands;
    })
