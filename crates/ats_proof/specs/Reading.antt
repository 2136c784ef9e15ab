-- The parts of a proof, read from their bytes, and how many bytes each has.
use Rattle.std.specs.Prelude.{ℕ, ◌+◌, ◌==◌, if◌then◌else◌, Bool, true, false, List, take, drop, Option, Some, None}
use Rattle.ats_dict.specs.declared.header.Header.{Header}
use Rattle.ats_postings.specs.declared.entry.Entry.{Entry}
use Rattle.ats_lists.specs.declared.format.Format.{Format}
use Rattle.ats_lists.specs.declared.format.Format.TheVariants.{One, Two}
use Rattle.ats_doctree.specs.declared.doc_leaf.DocLeaf.{DocLeaf}
use Rattle.ats_proof.specs.declared.record.Slot.{Slot}
use Rattle.ats_proof.specs.Parts.{number_in, parts_in, total_size, counted_in, counted_size}
use Rattle.ats_proof.specs.Value.{ShownEntry, Prefix, ShownTerm, TermsSection, Documents, Proof, present_in}

abbrev pub digest_size : List ℕ → ℕ
digest_size bytes = 32

abbrev pub digest_in : List ℕ → List ℕ
digest_in bytes = take 32 bytes

-- the length of the term after a position
abbrev pub term_length_in : List ℕ → ℕ
term_length_in bytes = number_in 1 (drop 4 bytes)

-- a leaf's position, length and term, and `after_term` bytes after the term
abbrev pub leaf_size : ℕ → List ℕ → ℕ
leaf_size after_term bytes = 5 + term_length_in bytes + after_term

abbrev pub entry_size : List ℕ → ℕ
entry_size bytes = leaf_size 36 bytes

abbrev pub entry_in : List ℕ → ShownEntry
entry_in bytes = record {
  position = number_in 4 bytes;
  entry = record {
    term = take (term_length_in bytes) (drop 5 bytes);
    f = number_in 4 (drop (5 + term_length_in bytes) bytes);
    root = take 32 (drop (5 + term_length_in bytes + 4) bytes);
  };
}

abbrev pub slot_size : List ℕ → ℕ
slot_size bytes = 3

abbrev pub slot_in : List ℕ → Slot
slot_in bytes = record { present = number_in 1 bytes == 1; index = number_in 2 (drop 1 bytes) }

abbrev pub id_size : List ℕ → ℕ
id_size bytes = 4

abbrev pub id_in : List ℕ → ℕ
id_in bytes = number_in 4 bytes

abbrev pub posting_size : List ℕ → ℕ
posting_size bytes = 6

abbrev pub posting_in : List ℕ → Entry
posting_in bytes = record { doc = number_in 4 bytes; impact = number_in 2 (drop 4 bytes) }

abbrev pub prefix_size : List ℕ → ℕ
prefix_size bytes = counted_size 4 posting_size bytes + counted_size 2 digest_size (drop (counted_size 4 posting_size bytes) bytes)

abbrev pub prefix_in : List ℕ → Prefix
prefix_in bytes = record {
  entries = counted_in 4 posting_size posting_in bytes;
  digests = counted_in 2 digest_size digest_in (drop (counted_size 4 posting_size bytes) bytes);
}

abbrev pub doc_size : List ℕ → ℕ
doc_size bytes = 36

abbrev pub doc_in : List ℕ → DocLeaf
doc_in bytes = record { leaves = number_in 4 bytes; root = take 32 (drop 4 bytes) }

abbrev pub term_size : List ℕ → ℕ
term_size bytes = leaf_size 2 bytes

abbrev pub term_in : List ℕ → ShownTerm
term_in bytes = record {
  position = number_in 4 bytes;
  term = (take (term_length_in bytes) (drop 5 bytes), number_in 2 (drop (5 + term_length_in bytes) bytes));
}

-- ---- a terms section, with a slot for each present term

abbrev pub section_leaves_size : List ℕ → ℕ
section_leaves_size bytes = counted_size 2 term_size bytes

abbrev pub section_slots_place : List ℕ → ℕ
section_slots_place bytes = section_leaves_size bytes + counted_size 2 digest_size (drop (section_leaves_size bytes) bytes)

abbrev pub section_size : ℕ → List ℕ → ℕ
section_size present bytes = section_slots_place bytes + total_size slot_size present (drop (section_slots_place bytes) bytes)

abbrev pub section_in : ℕ → List ℕ → TermsSection
section_in present bytes = record {
  leaves = counted_in 2 term_size term_in bytes;
  digests = counted_in 2 digest_size digest_in (drop (section_leaves_size bytes) bytes);
  slots = parts_in slot_size slot_in present (drop (section_slots_place bytes) bytes);
}

-- ---- the whole

-- the format of the lists, by the version
abbrev pub format_in : List ℕ → Format
format_in bytes = if number_in 1 (drop 4 bytes) == 2 then Two else One

abbrev pub header_in : List ℕ → Header
header_in bytes = record {
  documents = number_in 4 (drop 7 bytes);
  dict_leaves = number_in 4 (drop 11 bytes);
  dict_root = take 32 (drop 15 bytes);
  docs_root = take 32 (drop 47 bytes);
  texts_root = take 32 (drop 79 bytes);
}

-- the number of query terms, and where the parts after it begin
abbrev pub terms_in : List ℕ → ℕ
terms_in bytes = number_in 2 (drop 111 bytes)

abbrev pub dict_digests_place : List ℕ → ℕ
dict_digests_place bytes = 113 + counted_size 2 entry_size (drop 113 bytes)

abbrev pub slots_place : List ℕ → ℕ
slots_place bytes = dict_digests_place bytes + counted_size 2 digest_size (drop (dict_digests_place bytes) bytes)

abbrev pub slots_in : List ℕ → List Slot
slots_in bytes = parts_in slot_size slot_in (terms_in bytes) (drop (slots_place bytes) bytes)

abbrev pub met_place : List ℕ → ℕ
met_place bytes = slots_place bytes + total_size slot_size (terms_in bytes) (drop (slots_place bytes) bytes)

abbrev pub met_in : List ℕ → ℕ
met_in bytes = number_in 4 (drop (met_place bytes) bytes)

abbrev pub lists_place : List ℕ → ℕ
lists_place bytes = met_place bytes + counted_size 4 id_size (drop (met_place bytes) bytes)

abbrev pub docs_place : List ℕ → ℕ
docs_place bytes = lists_place bytes + total_size prefix_size (present_in (slots_in bytes)) (drop (lists_place bytes) bytes)

abbrev pub doc_digests_place : List ℕ → ℕ
doc_digests_place bytes = docs_place bytes + total_size doc_size (met_in bytes) (drop (docs_place bytes) bytes)

abbrev pub sections_place : List ℕ → ℕ
sections_place bytes = doc_digests_place bytes + counted_size 4 digest_size (drop (doc_digests_place bytes) bytes)

abbrev pub is_tra : List ℕ → Bool
is_tra bytes = number_in 1 (drop 5 bytes) == 1

abbrev pub answer_place : Bool → List ℕ → ℕ
answer_place true bytes = sections_place bytes + total_size (section_size (present_in (slots_in bytes))) (met_in bytes) (drop (sections_place bytes) bytes)
answer_place false bytes = docs_place bytes

abbrev pub documents_in : Bool → List ℕ → Option Documents
documents_in true bytes = Some (record {
  leaves = parts_in doc_size doc_in (met_in bytes) (drop (docs_place bytes) bytes);
  digests = counted_in 4 digest_size digest_in (drop (doc_digests_place bytes) bytes);
  sections = parts_in (section_size (present_in (slots_in bytes))) (section_in (present_in (slots_in bytes))) (met_in bytes) (drop (sections_place bytes) bytes);
})
documents_in false bytes = None

-- the proof that bytes spell, if they spell one
abbrev pub proof_in : List ℕ → Proof
proof_in bytes = record {
  format = format_in bytes;
  header = header_in bytes;
  dict = counted_in 2 entry_size entry_in (drop 113 bytes);
  dict_digests = counted_in 2 digest_size digest_in (drop (dict_digests_place bytes) bytes);
  slots = slots_in bytes;
  met = counted_in 4 id_size id_in (drop (met_place bytes) bytes);
  lists = parts_in prefix_size prefix_in (present_in (slots_in bytes)) (drop (lists_place bytes) bytes);
  docs = documents_in (is_tra bytes) bytes;
  answer = counted_in 2 id_size id_in (drop (answer_place (is_tra bytes) bytes) bytes);
}
