-- Fields that are appended to a writer.
use Rattle.std.specs.Prelude.{◌≡◌, ◌++◌, ℕ, List, [], length, Option}
use Rattle.std.specs.List.{All, concat, flat_map}
use Rattle.ats_commit.specs.Archive.{Archive}
use Rattle.ats_proof.specs.Written.{Written, after}
use Rattle.ats_proof.specs.declared.record.Algorithm.{Algorithm}
use Rattle.ats_grammar.specs.Table.{End}
use Rattle.ats_grammar.specs.Front.{Come}
use Rattle.ats_grammar.specs.Grammar as grammar
use Rattle.ats_proof.specs.Parts.{counted}
use Rattle.ats_proof.specs.Value.{AreDocumentsOf, Documents, Proof, TermsSection, documents_fields, fields_of, id_fields, prefix_fields, present_in, section_fields}
use Rattle.ats_honest.specs.Documents.{AreHonestSections, HasDocuments, IsHonestSection}
use Rattle.ats_honest.specs.Honest.{IsShownAt, prefixes}
use Rattle.ats_honest.specs.Lanes.{lanes_of, present}
use Rattle.ats_honest.specs.Inner.Order.{AreInOrder, ComesIn}

-- the writer after these fields were appended, one after another
abbrev pub put : Written → List (List ℕ) → Written
put written fields = after written (concat fields)

-- appending no bytes leaves the writer as it is; this holds once anything was appended
abbrev pub IsStarted : Written → Type 0
IsStarted written = put written [] ≡ written

-- the fields of an honest terms section were appended
pub record IsSectionWritten (H : List ℕ → List ℕ) (items terms : List (List ℕ × ℕ)) (before now : Written) : Type 0 where
  pub section : TermsSection
  pub honest : IsHonestSection H items terms section
  pub come : ComesIn (length terms) section
  pub asked : now ≡ put before (section_fields section)

-- the fields of a section for each met document were appended
pub record AreSectionsWritten (H : List ℕ → List ℕ) (texts : List (List ℕ)) (terms : List (List ℕ × ℕ)) (met : List ℕ) (before now : Written) : Type 0 where
  pub sections : List TermsSection
  pub honest : AreHonestSections H texts terms met sections
  pub come : All (ComesIn (length terms)) sections
  pub asked : now ≡ put before (flat_map section_fields sections)

-- the fields of all that is shown of the met documents were appended
pub record AreDocumentsWritten (algorithm : Algorithm) (H : List ℕ → List ℕ) (texts : List (List ℕ)) (terms : List (List ℕ × ℕ)) (met : List ℕ) (before now : Written) : Type 0 where
  pub docs : Option Documents
  pub honest : HasDocuments algorithm H texts terms met docs
  pub come : AreInOrder (length met) (length terms) docs
  pub asked : now ≡ put before (documents_fields docs)

-- the fields of what a proof shows at a cut were appended: the met documents, the fronts of the lists, and what is shown
-- of the documents; and then those of the answer
pub record IsCutWritten
    (algorithm : Algorithm)
    (H : List ℕ → List ℕ)
    (archive : Archive)
    (query : List (List ℕ × ℕ))
    (met cut picks : List ℕ)
    (before now : Written)
    : Type 0 where
  pub docs : Option Documents
  pub honest : HasDocuments algorithm H archive.texts (present archive.texts query) met docs
  pub come : AreInOrder (length met) (length (present archive.texts query)) docs
  pub asked : now ≡ put before (counted 4 id_fields met ++ flat_map prefix_fields (prefixes H archive.format met (lanes_of archive.texts query) cut) ++ documents_fields docs ++ counted 2 id_fields picks)

-- a proof of a cut with these rows
pub record IsShownWith (H : List ℕ → List ℕ) (archive : Archive) (query : List (List ℕ × ℕ)) (algorithm : Algorithm) (cut documents picks : List ℕ) (proof : Proof) : Type 0 where
  pub shows : IsShownAt H archive query algorithm cut documents proof
  pub rows : proof.answer ≡ picks

-- all fields of a proof that is such were appended, in the grammar's order
pub record IsWritten (IsSuch : Proof → Type 0) (before now : Written) : Type 0 where
  pub proof : Proof
  pub such : IsSuch proof
  pub come : Come (fields_of proof) grammar.proof End
  pub prefix_each : length proof.lists ≡ present_in proof.slots
  pub documents : AreDocumentsOf proof proof.docs
  pub asked : now ≡ put before (fields_of proof)
