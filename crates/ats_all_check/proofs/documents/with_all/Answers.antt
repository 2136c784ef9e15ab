use Rattle.std.proofs.Common.{◌≡◌, ◌++◌, ◌∙◌, ℕ, List, [], ◌∷◌, length, sym, ap, subst, arith}
use Rattle.std.specs.List.{All}
use Rattle.std.proofs.lemmas.List.Elements.{All-head, All-tail}
use Rattle.ats_proof.specs.SeenDocs.{sections_of}
use Rattle.ats_proof.specs.Value.{TermsSection}
use Rattle.ats_client.specs.Documents.{MetDocument}
use Rattle.ats_client.specs.Inner.SeenTerms.{document_of}
use Rattle.ats_all_check.specs.Documents.{with_all}
use Rattle.ats_all_check.specs.Inner.Met.{documents_left}
use Rattle.ats_all_check.proofs.Passing.{IsNext, takes, keeps, passes_over}
use Rattle.ats_all_check.proofs.documents.with_all.Goals as goal

abbrev HasSlots : ℕ → TermsSection → Type 0
HasSlots terms section = length section.slots ≡ terms

pub shows_all-requires-clause-each : goal.shows_all-requires-clause-each
shows_all-requires-clause-each c =
    let one : MetDocument = document_of c.in-Some.doc in
    let next : IsNext c.loop-doc.left c.next.new.self one = takes c.loop-doc.left c.next.new.self one c.in-Some.ensures.doc c.in-Some.ensures.leaf c.in-Some.ensures.section
    c.in-Some.ensures.passed_ids c.in-Some.ensures.passed_leaves c.in-Some.ensures.passed_sections in
    sym (All-head (HasSlots c.args.terms) one.section (sections_of c.next.new.self) (subst (All (HasSlots c.args.terms)) next.sections c.loop-doc.invariant.slots))

-- a document that has every term is kept
pub loop-doc-preserved-in-Continue-1 : goal.loop-doc-preserved-in-Continue-1
loop-doc-preserved-in-Continue-1 c =
    let one : MetDocument = document_of c.in-Some.doc in
    let before : List ℕ = c.loop-doc.documents in
    let later : List MetDocument = documents_left c.next.new.self in
    let next : IsNext c.loop-doc.left c.next.new.self one = takes c.loop-doc.left c.next.new.self one c.in-Some.ensures.doc c.in-Some.ensures.leaf c.in-Some.ensures.section
    c.in-Some.ensures.passed_ids c.in-Some.ensures.passed_leaves c.in-Some.ensures.passed_sections in
    let more : c.push.new.self ≡ before ++ one.doc ∷ [] = c.in_ok-push.ensures ∙ ap (λ (id : ℕ). before ++ id ∷ []) c.doc.ensures in
    record {
      kept =
          ap (λ (ids : List ℕ). ids ++ with_all later) more
          ∙ sym (ap (λ (ones : List MetDocument). before ++ with_all ones) next.all ∙ keeps before one later (sym c.shows_all.ensures.all ∙ c.if-shows_all.true))
          ∙ c.loop-doc.invariant.kept;
      slots = All-tail (HasSlots c.args.terms) one.section (sections_of c.next.new.self) (subst (All (HasSlots c.args.terms)) next.sections c.loop-doc.invariant.slots);
      cost = omega (arith, c.loop-doc.invariant.cost, c.next.ensures.cost, c.shows_all.ensures.cost, ap length next.ids, c.requires.terms);
    }

-- any other is not
pub loop-doc-preserved : goal.loop-doc-preserved
loop-doc-preserved c =
    let one : MetDocument = document_of c.in-Some.doc in
    let before : List ℕ = c.loop-doc.documents in
    let later : List MetDocument = documents_left c.next.new.self in
    let next : IsNext c.loop-doc.left c.next.new.self one = takes c.loop-doc.left c.next.new.self one c.in-Some.ensures.doc c.in-Some.ensures.leaf c.in-Some.ensures.section
    c.in-Some.ensures.passed_ids c.in-Some.ensures.passed_leaves c.in-Some.ensures.passed_sections in
    record {
      kept =
          sym (ap (λ (ones : List MetDocument). before ++ with_all ones) next.all ∙ passes_over before one later (sym c.shows_all.ensures.all ∙ c.if-shows_all.false))
          ∙ c.loop-doc.invariant.kept;
      slots = All-tail (HasSlots c.args.terms) one.section (sections_of c.next.new.self) (subst (All (HasSlots c.args.terms)) next.sections c.loop-doc.invariant.slots);
      cost = omega (arith, c.loop-doc.invariant.cost, c.next.ensures.cost, c.shows_all.ensures.cost, ap length next.ids, c.requires.terms);
    }
