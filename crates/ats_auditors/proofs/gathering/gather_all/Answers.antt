use Rattle.std.proofs.Common.{ℕ, arith}
use Rattle.ats_console.proofs.Public.{passed}
use Rattle.ats_auditors.proofs.GatherSteps.{none_so_far, stops_at, passes_at, memory_at, so_far_more, gathered_all}
use Rattle.ats_auditors.proofs.gathering.gather_all.Goals as goal

pub loop-entry-init : goal.loop-entry-init
loop-entry-init g c = rw c.new-proofs.ensures.items (none_so_far (g.S.Shelf.told c.args.shelf.now) c.args.entries.now)

pub returns-in_err-proof-clause-stop : goal.returns-in_err-proof-clause-stop
returns-in_err-proof-clause-stop g c =
    let i : ℕ = c.loop-entry.entry-index in
    passed _ c.from_residual.result c.from_residual.ensures.1
    (stops_at (g.S.Shelf.told c.args.shelf.now) (g.S.Shelf.told c.loop-entry.shelf) c.args.entries.now i c.entry-item.result c.loop-entry-test.true c.entry-item.is
    c.loop-entry.proofs.items c.loop-entry.total c.loop-entry.invariant (g.S.Shelf.told c.proof_or_long.new.shelf) c.in_err-proof.field-0.0 c.in_err-proof.ensures.stop)

pub returns-then-total-gt-PROOFS_LIMIT-clause-stop : goal.returns-then-total-gt-PROOFS_LIMIT-clause-stop
returns-then-total-gt-PROOFS_LIMIT-clause-stop g c =
    let i : ℕ = c.loop-entry.entry-index in
    passes_at (g.S.Shelf.told c.args.shelf.now) (g.S.Shelf.told c.loop-entry.shelf) c.args.entries.now i c.entry-item.result c.loop-entry-test.true c.entry-item.is
    c.loop-entry.proofs.items c.loop-entry.total c.loop-entry.invariant (g.S.Shelf.told c.proof_or_long.new.shelf) c.in_ok-proof.proof c.in_ok-proof.ensures.ok
    c.bytes.result.now c.bytes.ensures _ c.proofs_too_long.ensures (omega (arith, c.if-total-gt-PROOFS_LIMIT.true))

pub returns-in_err-push-clause-stop : goal.returns-in_err-push-clause-stop
returns-in_err-push-clause-stop g c =
    let i : ℕ = c.loop-entry.entry-index in
    passed _ c.from_residual-in_err-push.result c.from_residual-in_err-push.ensures.1
    (memory_at (g.S.Shelf.told c.args.shelf.now) (g.S.Shelf.told c.loop-entry.shelf) c.args.entries.now i c.entry-item.result c.loop-entry-test.true c.entry-item.is
    c.loop-entry.proofs.items c.loop-entry.total c.loop-entry.invariant (g.S.Shelf.told c.proof_or_long.new.shelf) c.in_ok-proof.proof c.in_ok-proof.ensures.ok
    c.bytes.result.now c.bytes.ensures)

pub loop-entry-preserved : goal.loop-entry-preserved
loop-entry-preserved g c =
    let i : ℕ = c.loop-entry.entry-index in
    rw c.in_ok-push.ensures.items
    (so_far_more (g.S.Shelf.told c.args.shelf.now) (g.S.Shelf.told c.loop-entry.shelf) c.args.entries.now i c.entry-item.result c.loop-entry-test.true c.entry-item.is
    c.loop-entry.proofs.items c.loop-entry.total c.loop-entry.invariant (g.S.Shelf.told c.proof_or_long.new.shelf) c.in_ok-proof.proof c.in_ok-proof.ensures.ok
    c.bytes.result.now c.bytes.ensures (omega (arith, c.if-total-gt-PROOFS_LIMIT.false)))

pub returns-clause-ok : goal.returns-clause-ok
returns-clause-ok g c =
    gathered_all (g.S.Shelf.told c.args.shelf.now) (g.S.Shelf.told c.loop-entry.shelf) c.args.entries.now c.loop-entry.entry-index c.loop-entry-test.false
    c.loop-entry.proofs.items c.loop-entry.total c.loop-entry.invariant
