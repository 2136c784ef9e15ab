-- The bytes of each record of a proof. All numbers are written high byte first.
use Rattle.std.specs.Prelude.{ℕ, List, ◌∷◌, ◌++◌, Bool, true, false}
use Rattle.std.specs.Int.{to_be_bytes, w16, w32}
use Rattle.ats_dict.specs.Entry.{dict_leaf_bytes}
use Rattle.ats_dict.specs.Header.{header_bytes}
use Rattle.ats_dict.specs.declared.header.Header.{Header}
use Rattle.ats_doctree.specs.DocumentLeaf.{doc_leaf_bytes}
use Rattle.ats_doctree.specs.Sentinels.{leaf_bytes}
use Rattle.ats_doctree.specs.declared.doc_leaf.DocLeaf.{DocLeaf}
use Rattle.ats_lists.specs.declared.format.Format.{Format}
use Rattle.ats_proof.specs.declared.record.Algorithm.{Algorithm}
use Rattle.ats_proof.specs.declared.record.Algorithm.TheVariants.{Tra, Tnra}
use Rattle.ats_proof.specs.declared.record.Slot.{Slot}
use Rattle.ats_proof.specs.Value.{number_of_format}

abbrev pub algorithm_byte : Algorithm → ℕ
algorithm_byte Tra = 1
algorithm_byte Tnra = 2

-- ATSP, the version of the format, the algorithm, the header, and how many terms the query has in 2 bytes
abbrev pub front_record : Format → Algorithm → Header → ℕ → List ℕ
front_record format algorithm header terms =
    65 ∷ 84 ∷ 83 ∷ 80 ∷ number_of_format format ∷ algorithm_byte algorithm
    ∷ header_bytes header.documents header.dict_leaves header.dict_root header.docs_root header.texts_root
    ++ to_be_bytes w16 terms

-- a count, in 2 bytes or in 4
abbrev pub count16_record : ℕ → List ℕ
count16_record n = to_be_bytes w16 n

abbrev pub count32_record : ℕ → List ℕ
count32_record n = to_be_bytes w32 n

-- the position in 4 bytes, then the leaf of the dictionary as it is hashed
abbrev pub dict_leaf_record : ℕ → List ℕ → ℕ → List ℕ → List ℕ
dict_leaf_record position term f root = to_be_bytes w32 position ++ dict_leaf_bytes term f root

-- a digest of 32 bytes
abbrev pub digest_record : List ℕ → List ℕ
digest_record digest = digest

-- 1 if the term is present, else 0
abbrev pub kind_byte : Bool → ℕ
kind_byte true = 1
kind_byte false = 0

-- the kind in one byte, then the index in 2
abbrev pub slot_record : Slot → List ℕ
slot_record slot = kind_byte slot.present ∷ to_be_bytes w16 slot.index

-- the number of a met document in 4 bytes
abbrev pub met_record : ℕ → List ℕ
met_record id = to_be_bytes w32 id

-- the met index in 4 bytes, then the impact in 2
abbrev pub entry_record : ℕ → ℕ → List ℕ
entry_record index impact = to_be_bytes w32 index ++ to_be_bytes w16 impact

-- the leaf of the documents as it is hashed
abbrev pub doc_leaf_record : DocLeaf → List ℕ
doc_leaf_record leaf = doc_leaf_bytes leaf.leaves leaf.root

-- the position in 4 bytes, then the leaf of the document's terms as it is hashed
abbrev pub term_leaf_record : ℕ → List ℕ → ℕ → List ℕ
term_leaf_record position term impact = to_be_bytes w32 position ++ leaf_bytes (term, impact)

-- the met index of a row in 4 bytes
abbrev pub answer_record : ℕ → List ℕ
answer_record index = to_be_bytes w32 index
