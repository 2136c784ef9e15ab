-- What is shown of the met documents, one by one.
use Rattle.std.proofs.Common.{◌≡◌, ◌<◌, ◌≤◌, ◌++◌, ℕ, zero, suc, List, [], ◌∷◌, length, map, take, get_or, None, Some, refl, sym, ap, ◌∙◌, arith}
use Rattle.std.specs.List.{All, flat_map}
use Rattle.std.proofs.lemmas.List.{flat_map_more}
use Rattle.std.proofs.lemmas.List.Elements.{All-push}
use Rattle.ats_terms.specs.Query.{Rises}
use Rattle.ats_tree.specs.Elided.{elided_digests}
use Rattle.ats_dict.specs.declared.spot.Spot.{Spot}
use Rattle.ats_doctree.specs.Impacts.{AreImpacts, doc_terms}
use Rattle.ats_doctree.specs.declared.doc_leaf.DocLeaf.{DocLeaf}
use Rattle.ats_commit.specs.Trees.{documents_of}
use Rattle.ats_proof.specs.Written.{Written}
use Rattle.ats_proof.specs.declared.record.Algorithm.TheVariants.{Tra, Tnra}
use Rattle.ats_proof.specs.Parts.{counted}
use Rattle.ats_proof.specs.Value.{TermsSection, digest_fields, doc_fields, section_fields}
use Rattle.ats_honest.specs.Documents.{AreHonestSections, IsHonestSection, IsTermSpot, document_leaf}
use Rattle.ats_honest.specs.Inner.Order.{ComesIn}
use Rattle.ats_honest.specs.Terms.{AreNeeded, HaveSpots}
use Rattle.ats_honest.proofs.Public.{is_section, section_comes, section_of, IsSmall, documents_come}
use Rattle.ats_prover.specs.Inner.Writing.{AreDocumentsWritten, AreSectionsWritten, IsSectionWritten, IsStarted, put}
use Rattle.ats_prover.proofs.Putting.{put_put}

-- ---- a section

-- what is appended is the honest section
pub written_section : (H : List ℕ → List ℕ) → ((bytes : List ℕ) → length (H bytes) ≡ 32) → (items terms : List (List ℕ × ℕ)) (spots : List Spot) (positions : List ℕ) (before now : Written)
    → AreImpacts items → 1 ≤ length terms → Rises terms → HaveSpots (IsTermSpot items) terms spots → AreNeeded spots positions → length positions ≤ 64
    → now ≡ put before (section_fields (section_of H items spots positions)) → IsSectionWritten H items terms before now
written_section H sized items terms spots positions before now are some rises found needed few asked = record {
  section = section_of H items spots positions;
  honest = is_section H items terms spots positions found needed;
  come = section_comes H sized items terms spots positions are some rises found needed few;
  asked = asked;
}

-- ---- sections

pub no_sections : (H : List ℕ → List ℕ) (texts : List (List ℕ)) (terms : List (List ℕ × ℕ)) (w : Written) → IsStarted w → AreSectionsWritten H texts terms [] w w
no_sections H texts terms w started = record {
  sections = [];
  honest = tt;
  come = λ k d inside. absurd (omega (arith, inside));
  asked = sym started;
}

honest_more : (H : List ℕ → List ℕ) (texts : List (List ℕ)) (terms : List (List ℕ × ℕ)) (met : List ℕ) (i : ℕ) (sections : List TermsSection) (section : TermsSection) → i < length met
    → AreHonestSections H texts terms (take i met) sections → IsHonestSection H (doc_terms texts (get_or met i 0)) terms section
    → AreHonestSections H texts terms (take (suc i) met) (sections ++ section ∷ [])
honest_more H texts terms [] i sections section inside are own = absurd (omega (arith, inside))
honest_more H texts terms (doc ∷ met) zero [] section inside are own = (own, tt)
honest_more H texts terms (doc ∷ met) zero (s ∷ sections) section inside are own = absurd are
honest_more H texts terms (doc ∷ met) (suc i) [] section inside are own = absurd are
honest_more H texts terms (doc ∷ met) (suc i) (s ∷ sections) section inside are own =
    (are.0, honest_more H texts terms met i sections section (omega (arith, inside)) are.1 own)

pub sections_more : (H : List ℕ → List ℕ) (texts : List (List ℕ)) (terms : List (List ℕ × ℕ)) (met : List ℕ) (i : ℕ) (before now after : Written) → i < length met
    → AreSectionsWritten H texts terms (take i met) before now → IsSectionWritten H (doc_terms texts (get_or met i 0)) terms now after
    → AreSectionsWritten H texts terms (take (suc i) met) before after
sections_more H texts terms met i before now after inside are own = record {
  sections = are.sections ++ own.section ∷ [];
  honest = honest_more H texts terms met i are.sections own.section inside are.honest own.honest;
  come = All-push (ComesIn (length terms)) are.sections own.section are.come own.come;
  asked = own.asked ∙ ap (λ (w : Written). put w (section_fields own.section)) are.asked
      ∙ put_put before (flat_map section_fields are.sections) (section_fields own.section)
      ∙ ap (put before) (flat_map_more section_fields [] are.sections own.section);
}

-- ---- all of them

pub no_documents : (H : List ℕ → List ℕ) (texts : List (List ℕ)) (terms : List (List ℕ × ℕ)) (met : List ℕ) (w : Written) → IsStarted w → AreDocumentsWritten Tnra H texts terms met w w
no_documents H texts terms met w started = record { docs = None; honest = refl; come = refl; asked = sym started }

-- what is appended is what the honest proof shows
pub written_documents : (H : List ℕ → List ℕ) → ((bytes : List ℕ) → length (H bytes) ≡ 32) → (texts : List (List ℕ)) (terms : List (List ℕ × ℕ)) (met : List ℕ) (before middle now : Written)
    → All IsSmall (map (document_leaf H texts) met) → length texts ≤ 65536
    → middle ≡ put before (flat_map doc_fields (map (document_leaf H texts) met) ++ counted 4 digest_fields (elided_digests H (documents_of H texts) met))
    → AreSectionsWritten H texts terms met middle now → AreDocumentsWritten Tra H texts terms met before now
written_documents H sized texts terms met before middle now small few tree are =
    let leaves : List DocLeaf = map (document_leaf H texts) met in
    let digests : List (List ℕ) = elided_digests H (documents_of H texts) met in
    let front : List (List ℕ) = flat_map doc_fields leaves ++ counted 4 digest_fields digests in record {
      docs = Some (record { leaves = leaves; digests = digests; sections = are.sections });
      honest = record { leaves = refl; digests = refl; sections = are.honest };
      come = documents_come H sized texts terms met are.sections small few are.honest are.come;
      asked = are.asked ∙ ap (λ (w : Written). put w (flat_map section_fields are.sections)) tree ∙ put_put before front (flat_map section_fields are.sections);
    }
