use Rattle.std.proofs.Common.{◌≡◌, ◌∙◌, ℕ, List, [], length, take, sym, arith, length-take-le}
use Rattle.ats_wire.proofs.Moved.{moves_then}
use Rattle.ats_wire.proofs.Turns.{err_part, ok_part, answers_same, ends_reading, one_more, cut_turn}
use Rattle.std.proofs.Common.{subst}
use Rattle.std.proofs.lemmas.List.{length-take-le}
use Rattle.ats_wire.specs.Inner.Connections.{IsReplied, IsCutReply}
use Rattle.ats_wire.proofs.serving.serve_connection.Goals as goal

pub returns-in-Err-clause-served : goal.returns-in-Err-clause-served
returns-in-Err-clause-served g c =
    let gives = g.A.Answerer.gives c.args.answerer.now in
    let before = g.L.Link.told c.args.link.now in
    let mid = g.L.Link.told c.turns.link in
    let now = g.L.Link.told c.read_frame.new.link in
    let so_far = c.turns.invariant.answered in
    let end = c.in-Err.ensures.end in
    record {
      turns = so_far.0;
      tail = end.0;
      part = [];
      answered = so_far.2;
      count = so_far.1;
      moved = moves_then before mid now _ _ _ _ 1 so_far.3 end.1;
      ends = ends_reading gives now c.turns.requests end.0 c.in-Err.end c.turns-test.true end.2;
    }

pub returns-then-is_err-clause-served : goal.returns-then-is_err-clause-served
returns-then-is_err-clause-served g c =
    let gives = g.A.Answerer.gives c.args.answerer.now in
    let read = g.L.Link.told c.read_frame.new.link in
    let now = g.L.Link.told c.answer_frame.new.link in
    let size = c.in-Ok.size in
    let buffer : List ℕ = c.read_frame.new.buffer in
    let came = c.in-Ok.ensures.frame in
    let so_far = c.turns.invariant.answered in
    let cut = err_part c.answer_frame.result (sym c.is_err.ensures.value ∙ c.if-is_err.true) c.answer_frame.ensures.part in
    let same : IsCutReply gives read now (take size c.deref_mut-in-turns.result.now) =
    (cut.0, answers_same (g.A.Answerer.gives c.turns.answerer) gives _ cut.0 c.turns.invariant.same cut.1, cut.2) in
    let of_buffer : IsCutReply gives read now (take size buffer) = subst (λ (r : List ℕ). IsCutReply gives read now (take size r)) c.deref_mut-in-turns.ensures.value same in
    let long : length (take size buffer) ≡ size = length-take-le size buffer (omega (arith, came.0.1, c.read_frame.auto.buffer)) in
    cut_turn gives (g.L.Link.told c.args.link.now) (g.L.Link.told c.turns.link) read now so_far.0 (take size buffer) c.turns.requests so_far.1 c.turns-test.true
    so_far.2 so_far.3 (omega (arith, long, came.0.0), omega (arith, long, came.0.1)) came.1 of_buffer

pub turns-preserved : goal.turns-preserved
turns-preserved g c =
    let gives = g.A.Answerer.gives c.args.answerer.now in
    let read = g.L.Link.told c.read_frame.new.link in
    let now = g.L.Link.told c.answer_frame.new.link in
    let size = c.in-Ok.size in
    let buffer : List ℕ = c.read_frame.new.buffer in
    let came = c.in-Ok.ensures.frame in
    let so_far = c.turns.invariant.answered in
    let sent = ok_part c.answer_frame.result (sym c.is_err.ensures.value ∙ c.if-is_err.false) c.answer_frame.ensures.all in
    let same : IsReplied gives read now (take size c.deref_mut-in-turns.result.now) =
    (sent.0, answers_same (g.A.Answerer.gives c.turns.answerer) gives _ sent.0 c.turns.invariant.same sent.1, sent.2) in
    let of_buffer : IsReplied gives read now (take size buffer) = subst (λ (r : List ℕ). IsReplied gives read now (take size r)) c.deref_mut-in-turns.ensures.value same in
    let long : length (take size buffer) ≡ size = length-take-le size buffer (omega (arith, came.0.1, c.read_frame.auto.buffer)) in
    record {
      few = omega (arith, c.turns-test.true);
      same = λ question reply.
          let still = c.answer_frame.ensures.still question reply in
          let was = c.turns.invariant.same question reply in
          (λ given. was.0 (still.0 given), λ given. still.1 (was.1 given));
      answered = one_more gives (g.L.Link.told c.args.link.now) (g.L.Link.told c.turns.link) read now so_far.0 (take size buffer) c.turns.requests so_far.1
          so_far.2 so_far.3 (omega (arith, long, came.0.0), omega (arith, long, came.0.1)) came.1 of_buffer;
    }
