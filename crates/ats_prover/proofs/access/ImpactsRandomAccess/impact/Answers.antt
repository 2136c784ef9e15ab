use Rattle.std.proofs.Common.{◌<◌, ◌∙◌, ℕ, List, [], length, get_or, sym, ap, subst, arith}
use Rattle.ats_doctree.specs.Found.{LiesBetween, StandsAt}
use Rattle.ats_doctree.specs.Impacts.{doc_terms}
use Rattle.ats_doctree.specs.Sentinels.{impact_at}
use Rattle.ats_honest.proofs.Public.{looked_up_at, looked_up_between, looked_up_in, looked_up_out, looked_up_past}
use Rattle.ats_prover.proofs.access.ImpactsRandomAccess.impact.Goals as goal
use Rattle.ats_prover.proofs.access.ImpactsRandomAccess.impact.Goals.{then-lane-len-via-then-lane-len, then-lane-len-via-else-lane-len+then-doc-documents}

pub returns-then-lane-len : goal.returns-then-lane-len
returns-then-lane-len g c =
    let texts = c.args.self.now.index.now.texts in
    let terms = c.args.self.now.present.now in
    elim c.then-lane-len.branch [
      | then-lane-len-via-then-lane-len w ↦ sym (looked_up_past texts terms c.args.lane c.args.doc (omega (arith, w.if-lane-len.true, c.len.ensures.value)))
      | then-lane-len-via-else-lane-len+then-doc-documents w ↦ sym (looked_up_out texts terms c.args.lane c.args.doc
          (omega (arith, w.if-doc-documents.true, w.documents.ensures.value, ap (λ (ts : List (List ℕ)). length ts) w.collection.ensures.same)))
    ]

pub returns-in-At : goal.returns-in-At
returns-in-At g c =
    let texts = c.args.self.now.index.now.texts in
    let terms = c.args.self.now.present.now in
    let doc = c.args.doc in
    let p = c.in-At.p in
    let term : List ℕ = (get_or terms c.args.lane ([], 0)).0 in
    let low : doc < length texts = omega (arith, c.if-doc-documents.false, c.documents.ensures.value, ap (λ (ts : List (List ℕ)). length ts) c.collection.ensures.same) in
    let inside : c.args.lane < length terms = omega (arith, c.if-lane-len.false, c.len.ensures.value) in
    let stands : StandsAt (doc_terms texts doc) term p = subst (λ (t : List ℕ). StandsAt (doc_terms texts doc) t p) (c.term.ensures.value ([], 0))
    (subst (λ (items : List (List ℕ × ℕ)). StandsAt items c.term.result.now p) c.doc_terms-terms.ensures c.in-At.ensures.spot) in
    c.impact.ensures.value ∙ ap (λ (items : List (List ℕ × ℕ)). impact_at items p) c.doc_terms-terms.ensures
    ∙ sym (looked_up_at texts term doc low p stands) ∙ sym (looked_up_in texts terms c.args.lane doc ([], 0) inside)

pub returns-in-Between : goal.returns-in-Between
returns-in-Between g c =
    let texts = c.args.self.now.index.now.texts in
    let terms = c.args.self.now.present.now in
    let doc = c.args.doc in
    let p = c.in-Between.field-0 in
    let term : List ℕ = (get_or terms c.args.lane ([], 0)).0 in
    let low : doc < length texts = omega (arith, c.if-doc-documents.false, c.documents.ensures.value, ap (λ (ts : List (List ℕ)). length ts) c.collection.ensures.same) in
    let inside : c.args.lane < length terms = omega (arith, c.if-lane-len.false, c.len.ensures.value) in
    let lies : LiesBetween (doc_terms texts doc) term p = subst (λ (t : List ℕ). LiesBetween (doc_terms texts doc) t p) (c.term.ensures.value ([], 0))
    (subst (λ (items : List (List ℕ × ℕ)). LiesBetween items c.term.result.now p) c.doc_terms-terms.ensures c.in-Between.ensures.spot) in
    sym (looked_up_between texts term doc low p lies) ∙ sym (looked_up_in texts terms c.args.lane doc ([], 0) inside)
