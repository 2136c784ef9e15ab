use Rattle.std.proofs.Common.{◌≡◌, ◌<◌, ◌≤◌, ◌+◌, ◌*◌, ℕ, length, drop}
use Rattle.ats_bound.specs.Lookup.{looked_score, looked_score_from}
use Rattle.ats_proof.specs.SeenDocs.{section_of}
use Rattle.ats_client.specs.Bracketing.{impact_shown}
use Rattle.ats_client.specs.Documents.{IsTermSlotRight}
use Rattle.ats_client.specs.Inner.KeptTerms.{numbers_of, bare_lanes}
use Rattle.ats_client.specs.Inner.SeenTerms.{terms_left, document_of}
use Rattle.ats_client.proofs.Rising.{IsBefore}
use Rattle.ats_client.proofs.document.document.Given as goal

abbrev pub invariant-loop-i : goal.invariant-loop-i
invariant-loop-i g l = record {
  leaves : terms_left l.walk.all ≡ (section_of l.doc).leaves;
  right : (j : ℕ) → j < l.i → IsTermSlotRight l.query (numbers_of l.terms) (section_of l.doc) j;
  score : l.score + looked_score_from l.i (λ i other. impact_shown (section_of l.doc) i) (drop l.i (bare_lanes l.terms)) (document_of l.doc).doc
      ≡ looked_score (λ i other. impact_shown (section_of l.doc) i) (bare_lanes l.terms) (document_of l.doc).doc;
  small : l.score ≤ l.i * 8589934592;
  cost : l.steps ≤ l.initial.steps + l.i * 262144;
  before : IsBefore l.walk.place (section_of l.doc).slots l.i;
  most : l.steps + length (terms_left l.walk.left) ≤ l.initial.steps + length (section_of l.doc).leaves + 2 * l.i;
}
