use Rattle.std.proofs.Common.{false, ◌≡◌, ◌≤◌, ◌-◌, ◌↔◌, ℕ, List, length}
use Rattle.std.specs.List.{All}
use Rattle.ats_wire.specs.Requests.{Question}
use Rattle.ats_wire.specs.Moving.{Moves}
use Rattle.ats_wire.specs.Connections.{IsAnswered, frames, replies}
use Rattle.ats_wire.specs.declared.reply.Reply.{Reply}
use Rattle.ats_wire.proofs.serving.serve_connection.Given as goal

-- this many frames were read and answered, and the answerer still has its relation
abbrev pub invariant-turns : goal.invariant-turns
invariant-turns g l = record {
  few : l.requests ≤ 65536;
  same : (question : Question) (reply : Reply) → (g.A.Answerer.gives l.answerer question reply ↔ g.A.Answerer.gives l.fn.answerer question reply);
  answered : (turns : List (List ℕ × Reply)) × (l.requests ≡ length turns) × All (IsAnswered (g.A.Answerer.gives l.fn.answerer)) turns
      × Moves (g.L.Link.told l.fn.link) (g.L.Link.told l.link) (frames turns) (replies turns) 0 false;
}

abbrev pub decreases-turns : goal.decreases-turns
decreases-turns g l = 65536 - l.requests
