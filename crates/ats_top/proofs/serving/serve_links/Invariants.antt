use Rattle.std.proofs.Common.{◌≡◌, ◌≤◌, List, true}
use Rattle.ats_top.specs.Answering.{gives}
use Rattle.ats_top.specs.Serving.{Session}
use Rattle.ats_top.proofs.Attending.{Had}
use Rattle.ats_top.proofs.serving.serve_links.Given as goal

-- this many links were served
abbrev pub invariant-loop-before : goal.invariant-loop-before
invariant-loop-before g l = record {
  opened : (g.D.Door.told l.door).is_open ≡ true;
  few : l.faults ≤ l.before;
  had : (sessions : List Session) × Had (gives g.H.HashKind.hash l.index) l.before l.faults
      (g.D.Door.told l.fn.door) (g.D.Door.told l.door) (g.K.Sink.told l.fn.out) (g.K.Sink.told l.out) sessions;
}
