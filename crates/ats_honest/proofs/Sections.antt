-- What is shown of met documents has a leaf and a section for each.
use Rattle.std.proofs.Common.{◌≡◌, ℕ, suc, List, [], ◌∷◌, length, Option, Some, None, refl, ap, subst, ◌∙◌, arith}
use Rattle.std.specs.List.{All}
use Rattle.std.proofs.lemmas.List.{length-map}
use Rattle.std.proofs.lemmas.List.Elements.{All-cons}
use Rattle.ats_doctree.specs.Impacts.{doc_terms}
use Rattle.ats_proof.specs.declared.record.Algorithm.{Algorithm}
use Rattle.ats_proof.specs.declared.record.Algorithm.TheVariants.{Tra, Tnra}
use Rattle.ats_proof.specs.Value.{AreDocumentsOf, Documents, Proof, TermsSection, present_in}
use Rattle.ats_honest.specs.Terms.{slot_of}
use Rattle.ats_honest.specs.Documents.{AreHonestSections, HasDocuments, IsHonestSection, IsTermSpot, document_leaf}
use Rattle.ats_honest.proofs.Spots.{spots_each}

pub section_each : (H : List ℕ → List ℕ) (texts : List (List ℕ)) (terms : List (List ℕ × ℕ)) (met : List ℕ) (sections : List TermsSection)
    → AreHonestSections H texts terms met sections → length sections ≡ length met
section_each H texts terms [] [] are = refl
section_each H texts terms [] (section ∷ sections) are = absurd are
section_each H texts terms (doc ∷ met) [] are = absurd are
section_each H texts terms (doc ∷ met) (section ∷ sections) are = ap suc (section_each H texts terms met sections are.1)

abbrev HasSlots : ℕ → TermsSection → Type 0
HasSlots n section = length section.slots ≡ n

slots_in : (H : List ℕ → List ℕ) (items terms : List (List ℕ × ℕ)) (section : TermsSection) → IsHonestSection H items terms section → HasSlots (length terms) section
slots_in H items terms section is =
    ap (λ xs. length xs) is.slots ∙ length-map is.spots (slot_of is.positions) ∙ spots_each (IsTermSpot items) terms is.spots is.found

slot_each : (H : List ℕ → List ℕ) (texts : List (List ℕ)) (terms : List (List ℕ × ℕ)) (met : List ℕ) (sections : List TermsSection)
    → AreHonestSections H texts terms met sections → All (HasSlots (length terms)) sections
slot_each H texts terms [] [] are k d inside = absurd (omega (arith, inside))
slot_each H texts terms [] (section ∷ sections) are k d inside = absurd are
slot_each H texts terms (doc ∷ met) [] are k d inside = absurd are
slot_each H texts terms (doc ∷ met) (section ∷ sections) are k d inside =
    All-cons (HasSlots (length terms)) section sections (slots_in H (doc_terms texts doc) terms section are.0) (slot_each H texts terms met sections are.1) k d inside

pub are_documents : (H : List ℕ → List ℕ) (texts : List (List ℕ)) (terms : List (List ℕ × ℕ)) (algorithm : Algorithm) (proof : Proof) (docs : Option Documents)
    → HasDocuments algorithm H texts terms proof.met docs → length terms ≡ present_in proof.slots → AreDocumentsOf proof docs
are_documents H texts terms Tnra proof None are each = tt
are_documents H texts terms Tnra proof (Some docs) are each = absurd (cc)
are_documents H texts terms Tra proof None are each = tt
are_documents H texts terms Tra proof (Some docs) are each = record {
  leaf_each = ap (λ xs. length xs) are.leaves ∙ length-map proof.met (document_leaf H texts);
  section_each = section_each H texts terms proof.met docs.sections are.sections;
  slot_each = subst (λ (n : ℕ). All (HasSlots n) docs.sections) each (slot_each H texts terms proof.met docs.sections are.sections);
}
