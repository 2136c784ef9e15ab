-- What is known of the slots of met documents, if all that a proof shows is an archive's own.
use Rattle.std.proofs.Common.{◌≡◌, ◌<◌, ◌∙◌, ℕ, List, length, map, get_or, slice_get, Option, Some, sym, ap, subst, arith}
use Rattle.std.specs.List.{All}
use Rattle.std.proofs.lemmas.List.{length-map, get_or-map}
use Rattle.ats_terms.specs.Terms.{IsTerm}
use Rattle.ats_terms.specs.Query.{IsQuery}
use Rattle.ats_commit.specs.Archive.{Archive}
use Rattle.ats_commit.specs.Own.{AreTexts, IsDocumentOf}
use Rattle.ats_commit.specs.Ours.{asked_term}
use Rattle.ats_proof.specs.Value.{Documents, Proof, present_in}
use Rattle.ats_proof.specs.Ranges.{IsInRange, IsSectionInRange, IsTermInRange}
use Rattle.ats_client.specs.Documents.{MetDocument, documents_from, documents_in, term_shown, present_numbers, IsDocumentRight, AreDocumentsRight}
use Rattle.ats_client.specs.Groups.{AreSlotsRight, slot_at}
use Rattle.ats_client.specs.Presented.{Presented, presented}
use Rattle.ats_client.specs.Slots.{ShowsTerm}
use Rattle.ats_client.specs.Strings.{IsOwnDocument, IsOwn}
use Rattle.ats_client.proofs.Descent.{IsAsked, asked-terms}
use Rattle.ats_client.proofs.DescentDocuments.{each-known, sections-hold}
use Rattle.ats_client.proofs.PresentNumbers.{presented_numbers}
use Rattle.ats_client.proofs.TermsLeft.{at_place}

-- the document is one of the texts, what is shown of its terms is its own, and its slot shows the term
pub record HasOwnSlot (texts : List (List ℕ)) (one : MetDocument) (k : ℕ) (term : List ℕ) : Type 0 where
  pub inside : one.doc < length texts
  pub ranges : All IsTermInRange one.section.leaves
  pub leaves : IsOwnDocument texts one
  pub is_term : IsTerm term
  pub shows : ShowsTerm (map term_shown one.section.leaves) term (slot_at one.section.slots k)

module _ (H : List ℕ → List ℕ) (archive : Archive) (query : List (List ℕ × ℕ)) (proof : Proof) (are : AreTexts archive.texts) (asked : IsQuery query) (range : IsInRange proof)
    (enough : present_in proof.slots ≡ length proof.lists) (slots : AreSlotsRight query proof) (size : length proof.slots ≡ length query) (own : IsOwn H archive query proof)
    (right : AreDocumentsRight H query proof) (docs : Documents) (shown : proof.docs ≡ Some docs) (i : ℕ) (one : MetDocument)
    (there : slice_get (documents_from proof.met docs.leaves docs.sections) i ≡ Some one) where
  abbrev all : List MetDocument
  all = documents_from proof.met docs.leaves docs.sections

  -- a met document is one of the texts
  pub own_document : IsDocumentOf H archive.texts one.doc one.leaf
  own_document =
      at_place (λ (o : MetDocument). IsDocumentOf H archive.texts o.doc o.leaf) all i one
      (each-known H archive are proof.met docs.leaves docs.sections (range.shown docs shown).each (own.documents docs shown).leaves) there

  -- its slot of a present term
  pub own_slot : (k : ℕ) → k < length (presented query proof) → (d : Presented) → HasOwnSlot archive.texts one k (asked_term query (get_or (presented query proof) k d).number)
  own_slot k inside d =
      let ones : List Presented = presented query proof in
      let number : ℕ = (get_or ones k d).number in
      let numbers = presented_numbers query proof size in
      let named : get_or (present_numbers proof) k 0 ≡ number =
      ap (λ (ns : List ℕ). get_or ns k 0) (sym numbers) ∙ get_or-map (λ (one : Presented). one.number) ones k d 0 inside in
      let many : k < length (present_numbers proof) = omega (arith, inside, length-map ones (λ (one : Presented). one.number), ap (λ (ns : List ℕ). length ns) numbers) in
      let is_asked : IsAsked query proof.dict (get_or ones k d) = asked-terms query proof asked slots range enough k d inside in
      let rights : All (IsDocumentRight H query (present_numbers proof)) all =
      subst (λ (o : Option Documents). All (IsDocumentRight H query (present_numbers proof)) (documents_in proof.met o)) shown right in
      let is_right = at_place (IsDocumentRight H query (present_numbers proof)) all i one rights there in
      let is_ranged : IsSectionInRange one.section = at_place (λ (o : MetDocument). IsSectionInRange o.section) all i one
      (sections-hold IsSectionInRange proof.met docs.leaves docs.sections (range.shown docs shown).sections) there in
      record {
        inside = own_document.inside;
        ranges = is_ranged.each;
        leaves = at_place (IsOwnDocument archive.texts) all i one (own.documents docs shown).each there;
        is_term = subst IsTerm is_asked.same is_asked.term;
        shows = subst (λ n. ShowsTerm (map term_shown one.section.leaves) (asked_term query n) (slot_at one.section.slots k)) named (is_right.slots k many);
      }
