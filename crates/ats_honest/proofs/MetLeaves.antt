-- The leaves of the met documents.
use Rattle.std.proofs.Common.{◌≡◌, ◌<◌, ◌≤◌, ◌^◌, ℕ, List, length, map, get_or, Some, ap, ◌∙◌, arith}
use Rattle.std.specs.List.{All}
use Rattle.std.proofs.lemmas.List.{get_or-map, length-map}
use Rattle.ats_tree.specs.Tree.{tree_of}
use Rattle.ats_tree.specs.Rebuild.{tree_of_places}
use Rattle.ats_tree.specs.Elided.{elided_digests, shown_with}
use Rattle.ats_tree.proofs.Public.{elided-sized, length-mth}
use Rattle.ats_doctree.specs.Impacts.{doc_terms, text_terms}
use Rattle.ats_doctree.specs.Sentinels.{terms_leaves}
use Rattle.ats_doctree.specs.declared.doc_leaf.DocLeaf.{DocLeaf}
use Rattle.ats_commit.specs.Trees.{documents_leaf, documents_of}
use Rattle.ats_proof.specs.Value.{Documents, TermsSection}
use Rattle.ats_honest.specs.Documents.{AreHonestSections, document_leaf}
use Rattle.ats_honest.specs.Inner.Order.{AreInOrder, ComesIn}
use Rattle.ats_honest.proofs.ComingDocuments.{IsGoodLeaf, come_documents}
use Rattle.ats_honest.proofs.Elided.{documents_few}
use Rattle.ats_honest.proofs.Sections.{section_each}

-- the documents tree has a leaf for each text
pub documents_each : (H : List ℕ → List ℕ) (texts : List (List ℕ)) → length (documents_of H texts) ≡ length texts
documents_each H texts = length-map texts (λ (text : List ℕ). documents_leaf H (terms_leaves (text_terms texts text)))

-- the number of leaves has 32 bits
abbrev pub IsSmall : DocLeaf → Type 0
IsSmall leaf = leaf.leaves < 2 ^ 32

module _ (H : List ℕ → List ℕ) (sized : (bytes : List ℕ) → length (H bytes) ≡ 32) (texts : List (List ℕ)) (terms : List (List ℕ × ℕ)) (met : List ℕ) where
  good_leaves : All IsSmall (map (document_leaf H texts) met) → All IsGoodLeaf (map (document_leaf H texts) met)
  good_leaves small k d inside =
      let made : ℕ → DocLeaf = document_leaf H texts in
      let here : k < length met = omega (arith, inside, length-map met made) in
      let at = get_or-map made met k 0 d here in record {
        small = small k d inside;
        root = ap (λ (leaf : DocLeaf). length leaf.root) at ∙ length-mth H sized (terms_leaves (doc_terms texts (get_or met k 0)));
      }

  -- what is shown of them, with these sections
  abbrev documents_with : List TermsSection → Documents
  documents_with sections = record {
    leaves = map (document_leaf H texts) met;
    digests = elided_digests H (documents_of H texts) met;
    sections = sections;
  }

  -- it is in the grammar's order
  pub documents_come : (sections : List TermsSection) → All IsSmall (map (document_leaf H texts) met) → length texts ≤ 65536 → AreHonestSections H texts terms met sections
      → All (ComesIn (length terms)) sections → AreInOrder (length met) (length terms) (Some (documents_with sections))
  documents_come sections small few honest come =
      let all = documents_of H texts in
      come_documents (length met) (length terms) (documents_with sections) (record {
        leaf_each = length-map met (document_leaf H texts);
        section_each = section_each H texts terms met sections honest;
        leaves = good_leaves small;
        few = documents_few H all met (omega (arith, few, documents_each H texts));
        digests = elided-sized H sized (tree_of_places (length all) (shown_with all met)) (tree_of all);
        sections = come;
      })
