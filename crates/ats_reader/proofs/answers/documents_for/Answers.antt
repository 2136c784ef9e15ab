use Rattle.std.proofs.Common.{refl}
use Rattle.ats_reader.proofs.answers.documents_for.Goals as goal

-- there are more documents than the room is for
pub returns-then-room-documents-clause-fault : goal.returns-then-room-documents-clause-fault
returns-then-room-documents-clause-fault c = (
  refl,
  c.if-room-documents.true,
  c.in_ok-shown.shown,
  record {
    query = c.in_ok-query.query;
    terms = c.in_ok-query.ensures.query;
    proof = c.in_ok-proof.proof;
    proved = record { says = c.in_ok-proof.ensures.spelled; accepts = c.in_ok-check_both.ensures.accepts };
    headline = c.in_ok-check_both.ensures.both;
    all = c.in_ok-shown.ensures;
  },
  c.len-documents.ensures,
)
