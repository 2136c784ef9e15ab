-- What an honest proof shows of the met documents, if their scores are looked up.
use Rattle.std.specs.Prelude.{◌≡◌, ℕ, List, [], ◌∷◌, map, Option, Some, None}
use Rattle.ats_tree.specs.Elided.{elided_digests}
use Rattle.ats_dict.specs.declared.spot.Spot.{Spot}
use Rattle.ats_dict.specs.declared.spot.Spot.TheVariants.{At, Between}
use Rattle.ats_doctree.specs.Found.{LiesBetween, StandsAt}
use Rattle.ats_doctree.specs.Impacts.{doc_terms}
use Rattle.ats_doctree.specs.Sentinels.{item_at, terms_leaves}
use Rattle.ats_doctree.specs.declared.doc_leaf.DocLeaf.{DocLeaf}
use Rattle.ats_commit.specs.Trees.{documents_of, leaf_of_terms}
use Rattle.ats_proof.specs.declared.record.Algorithm.{Algorithm}
use Rattle.ats_proof.specs.declared.record.Algorithm.TheVariants.{Tra, Tnra}
use Rattle.ats_proof.specs.Value.{Documents, ShownTerm, TermsSection}
use Rattle.ats_honest.specs.Terms.{AreNeeded, HaveSpots, slot_of}

-- the place of a term among the leaves of a document's terms, given as a place in the dictionary is
abbrev pub IsTermSpot : List (List ℕ × ℕ) → List ℕ → Spot → Type 0
IsTermSpot items term (At p) = StandsAt items term p
IsTermSpot items term (Between p) = LiesBetween items term p

-- the leaf at a position
abbrev pub shown_term : List (List ℕ × ℕ) → ℕ → ShownTerm
shown_term items p = record { position = p; term = item_at items p }

-- the leaves of a document's terms that show where these terms are, the digests that their tree needs besides, and a
-- slot for each term
pub record IsHonestSection (H : List ℕ → List ℕ) (items terms : List (List ℕ × ℕ)) (section : TermsSection) : Type 0 where
  pub spots : List Spot
  pub found : HaveSpots (IsTermSpot items) terms spots
  pub positions : List ℕ
  pub needed : AreNeeded spots positions
  pub leaves : section.leaves ≡ map (shown_term items) positions
  pub digests : section.digests ≡ elided_digests H (terms_leaves items) positions
  pub slots : section.slots ≡ map (slot_of positions) spots

-- a section for each met document
abbrev pub AreHonestSections : (List ℕ → List ℕ) → List (List ℕ) → List (List ℕ × ℕ) → List ℕ → List TermsSection → Type 0
AreHonestSections H texts terms [] [] = Unit {0}
AreHonestSections H texts terms [] (section ∷ sections) = ⊥
AreHonestSections H texts terms (doc ∷ met) [] = ⊥
AreHonestSections H texts terms (doc ∷ met) (section ∷ sections) =
    IsHonestSection H (doc_terms texts doc) terms section × AreHonestSections H texts terms met sections

-- the leaf of a document
abbrev pub document_leaf : (List ℕ → List ℕ) → List (List ℕ) → ℕ → DocLeaf
document_leaf H texts doc = leaf_of_terms H (doc_terms texts doc)

-- the leaves of the met documents, the digests that the tree of all documents needs besides, and a section for each
-- document
pub record AreHonestDocuments (H : List ℕ → List ℕ) (texts : List (List ℕ)) (terms : List (List ℕ × ℕ)) (met : List ℕ) (docs : Documents) : Type 0 where
  pub leaves : docs.leaves ≡ map (document_leaf H texts) met
  pub digests : docs.digests ≡ elided_digests H (documents_of H texts) met
  pub sections : AreHonestSections H texts terms met docs.sections

-- TNRA shows no documents
abbrev pub HasDocuments : Algorithm → (List ℕ → List ℕ) → List (List ℕ) → List (List ℕ × ℕ) → List ℕ → Option Documents → Type 0
HasDocuments Tnra H texts terms met docs = docs ≡ None
HasDocuments Tra H texts terms met None = ⊥
HasDocuments Tra H texts terms met (Some docs) = AreHonestDocuments H texts terms met docs
