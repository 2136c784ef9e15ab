use Rattle.std.proofs.Common.{◌≡◌, ◌+◌, ◌∙◌, ◌++◌, ◌∷◌, Bool, [], refl, sym, ap, arith, add-zero, cond}
use Rattle.ats_wire.specs.Connections.{is_fault}
use Rattle.ats_top.proofs.Sessions.{had_none, took_none}
use Rattle.ats_top.proofs.Attending.{one_more, untold}
use Rattle.ats_top.proofs.serving.serve_links.Goals as goal
use Rattle.ats_top.proofs.serving.serve_links.Goals.{then-is_fault, else-is_fault}

pub loop-before-init : goal.loop-before-init
loop-before-init g c = record { opened = c.requires; few = omega arith; had = ([], (refl, refl, had_none _ _, took_none _)) }

pub returns-in-Err : goal.returns-in-Err
returns-in-Err g c =
    let so_far = c.loop-before.invariant.had in
    let one = c.in-Ok.ensures.had in (
      _,
      untold _ c.loop-before.before c.loop-before.faults (g.D.Door.told c.args.door.now) (g.D.Door.told c.loop-before.door) (g.D.Door.told c.serve_link.new.door)
          (g.K.Sink.told c.args.out.now) (g.K.Sink.told c.loop-before.out) (g.K.Sink.told c.announce.new.out) so_far.0 one.0 c.in-Ok.served
          c.args.connections c.in-Err.halt c.loop-before-test.true so_far.1 one.1 one.2 c.in-Err.ensures.halt,
    )

pub loop-before-preserved : goal.loop-before-preserved
loop-before-preserved g c =
    let so_far = c.loop-before.invariant.had in
    let one = c.in-Ok.ensures.had in
    let faults = c.loop-before.faults in
    let count : c.if-is_fault.faults ≡ faults + cond (is_fault c.in-Ok.served.end) 1 0 = elim c.if-is_fault.branch [
      | then-is_fault w ↦ w.faults-is ∙ ap (λ (b : Bool). faults + cond b 1 0) (sym (sym c.is_fault.ensures ∙ w.if-is_fault.true))
      | else-is_fault w ↦ w.faults-is ∙ sym (add-zero faults) ∙ ap (λ (b : Bool). faults + cond b 1 0) (sym (sym c.is_fault.ensures ∙ w.if-is_fault.false))
    ] in
    record {
      opened = c.serve_link.ensures.stays;
      few = elim c.if-is_fault.branch [ then-is_fault w ↦ omega arith | else-is_fault w ↦ omega arith ];
      had = (
        so_far.0 ++ one.0 ∷ [],
        one_more _ c.loop-before.before faults (g.D.Door.told c.args.door.now) (g.D.Door.told c.loop-before.door) (g.D.Door.told c.serve_link.new.door)
            (g.K.Sink.told c.args.out.now) (g.K.Sink.told c.loop-before.out) (g.K.Sink.told c.announce.new.out) so_far.0 one.0 c.in-Ok.served
            c.if-is_fault.faults count so_far.1 one.1 one.2 c.in-Ok-announce.ensures.told,
      );
    }
