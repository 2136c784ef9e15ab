use Rattle.std.proofs.Common.{◌∙◌, ◌<◌, ℕ, List, length, ap, below_more, inl, inr, arith}
use Rattle.ats_bound.specs.Lookup.{looked_score}
use Rattle.ats_proof.specs.SeenDocs.{section_of}
use Rattle.ats_proof.specs.Value.{ShownTerm, TermsSection}
use Rattle.ats_proof.specs.declared.terms.TermsView.{TermsView}
use Rattle.ats_client.specs.declared.kept_terms.PresentTerm.{PresentTerm}
use Rattle.ats_client.specs.Bracketing.{impact_shown}
use Rattle.ats_client.specs.Documents.{MetDocument, IsTermSlotRight, document_rules}
use Rattle.ats_base.specs.Rules.{IsFirstFault}
use Rattle.ats_client.specs.Inner.KeptTerms.{numbers_of, bare_lanes}
use Rattle.ats_client.specs.Inner.SeenTerms.{terms_left, document_of}
use Rattle.ats_client.proofs.Faults.{passed_on}
use Rattle.ats_client.proofs.Looked.{looked_more, number_right, slot_fails}
use Rattle.ats_client.proofs.TermsLeft.{at_place}
use Rattle.ats_client.proofs.Rising.{before_first, before_next}
use Rattle.ats_client.proofs.document.document.Goals as goal

pub loop-i-init : goal.loop-i-init
unfolding terms_left
loop-i-init g c = record {
  leaves = ap terms_left c.over-walk.ensures.all ∙ c.terms.ensures.leaves;
  right = λ j low. absurd (omega (arith, low));
  score = omega arith;
  small = omega arith;
  cost = omega arith;
  before = before_first c.over-walk.result.place (section_of c.args.doc.now).slots c.over-walk.ensures.place;
  most = omega (arith, ap (λ (view : TermsView). length (terms_left view)) c.over-walk.ensures.left, ap (λ (leaves : List ShownTerm). length leaves) c.terms.ensures.leaves);
}

pub impact-requires-clause-number : goal.impact-requires-clause-number
impact-requires-clause-number g c =
    at_place (λ (term : PresentTerm). term.number < length c.args.query.now) c.args.terms.now c.loop-i.i c.get-number.result c.requires.numbers c.get-number.ensures.term

pub returns-in_err-impact-clause-fault : goal.returns-in_err-impact-clause-fault
returns-in_err-impact-clause-fault g c =
    let one : MetDocument = document_of c.args.doc.now in
    let fault = slot_fails c.args.query.now c.args.terms.now one c.loop-i.i c.get-number.result c.in_err-impact.field-0.0 c.get-number.ensures.term c.loop-i.invariant.right
    c.in_err-impact.ensures.told c.in_err-impact.ensures.wrong in
    passed_on (IsFirstFault (document_rules g.H.HashKind.hash c.args.query.now (numbers_of c.args.terms.now) one)) c.from_residual-in_err-impact.result c.in_err-impact.field-0.0
    c.from_residual-in_err-impact.ensures.1
    (inr (c.in_ok-rooted.ensures.holds, inl fault))

pub returns-in_err-impact-clause-most : goal.returns-in_err-impact-clause-most
returns-in_err-impact-clause-most g c =
    let section : TermsSection = section_of c.args.doc.now in
    let low : c.loop-i.i < length section.slots = omega (arith, c.loop-i-test.true, c.len-i-end.ensures.value, c.requires.each) in
    omega (arith, c.impact.ensures.most (c.loop-i.invariant.before c.loop-i.i (omega arith) low), c.loop-i.invariant.most, c.rooted.ensures.most, low, c.requires.each)

pub loop-i-preserved : goal.loop-i-preserved
loop-i-preserved g c =
    let one : MetDocument = document_of c.args.doc.now in
    let i : ℕ = c.loop-i.i in
    let term : PresentTerm = c.get-number.result in
    let here : IsTermSlotRight c.args.query.now (numbers_of c.args.terms.now) one.section i =
    number_right c.args.query.now c.args.terms.now one i term c.get-number.ensures.term c.in_ok-impact.ensures.right in
    let more = looked_more (λ i other. impact_shown one.section i) c.args.terms.now one.doc i term c.loop-i.score c.in_ok-impact.impact
    (looked_score (λ i other. impact_shown one.section i) (bare_lanes c.args.terms.now) one.doc) c.get-number.ensures.term c.in_ok-impact.ensures.impact c.loop-i.invariant.score in
    let gain = c.weighed-score.ensures.value in
    let low : i < length one.section.slots = omega (arith, c.loop-i-test.true, c.len-i-end.ensures.value, c.requires.each) in
    record {
      leaves = ap terms_left c.in_ok-impact.ensures.leaves ∙ c.loop-i.invariant.leaves;
      right = below_more (IsTermSlotRight c.args.query.now (numbers_of c.args.terms.now) one.section) i c.loop-i.invariant.right here;
      score = omega (arith, more, gain);
      small = omega (arith, c.loop-i.invariant.small, c.weighed-score.ensures.small);
      cost = omega (arith, c.impact.ensures.cost, c.loop-i.invariant.cost);
      before = before_next c.impact.new.walk.place one.section.slots i c.requires.spots (omega (arith, c.in_ok-impact.ensures.place));
      most = omega (arith, c.impact.ensures.most (c.loop-i.invariant.before i (omega arith) low), c.loop-i.invariant.most);
    }
