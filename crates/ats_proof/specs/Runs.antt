-- What is left of the runs that a view goes through.
use Rattle.std.specs.Prelude.{ℕ, ◌+◌, ◌<◌, List, [], ◌∷◌, map, take, drop, slice_index_or}
use Rattle.std.specs.List.{All}
use Rattle.std.specs.List.Sorted.{IsStrictlyIncreasing}
use Rattle.ats_tree.specs.Shown.{Shown}
use Rattle.ats_lists.specs.Leaf.{leaf_bytes}
use Rattle.ats_postings.specs.declared.entry.Entry.{Entry}
use Rattle.ats_dict.specs.Entry.{dict_leaf_bytes}
use Rattle.ats_doctree.specs.DocumentLeaf.{doc_leaf_bytes}
use Rattle.ats_doctree.specs.Sentinels as terms
use Rattle.ats_doctree.specs.declared.doc_leaf.DocLeaf.{DocLeaf}
use Rattle.ats_proof.specs.Parts.{number_in, parts_in}
use Rattle.ats_proof.specs.Value.{ShownEntry, ShownTerm, TermsSection}
use Rattle.ats_proof.specs.Reading.{term_length_in, leaf_size, posting_size, posting_in, section_size, section_in}

-- ---- leaves as they are hashed, with their positions

abbrev pub shown_entry : ShownEntry → Shown
shown_entry e = (e.position, dict_leaf_bytes e.entry.term e.entry.f e.entry.root)

abbrev pub shown_term : ShownTerm → Shown
shown_term t = (t.position, terms.leaf_bytes t.term)

-- the leaf of a document, whose position is its number
abbrev pub shown_docs : List ℕ → List DocLeaf → List Shown
shown_docs [] leaves = []
shown_docs (id ∷ ids) [] = []
shown_docs (id ∷ ids) (leaf ∷ leaves) = (id, doc_leaf_bytes leaf.leaves leaf.root) ∷ shown_docs ids leaves

-- the document that an entry names by its place among the met ids, with the entry's impact
abbrev pub named : List ℕ → Entry → Entry
named met e = record { doc = slice_index_or met e.doc 0; impact = e.impact }

-- the leaves of a list from a position on
abbrev pub shown_list : ℕ → List ℕ → List Entry → List Shown
shown_list at met [] = []
shown_list at met (e ∷ es) = (at, leaf_bytes (named met e)) ∷ shown_list (at + 1) met es

-- ---- positions

-- a leaf in a proof's bytes: its position, and the bytes from its length on, of which `after_term` follow the term
abbrev pub leaf_in : ℕ → List ℕ → Shown
leaf_in after_term bytes = (number_in 4 bytes, take (1 + term_length_in bytes + after_term) (drop 4 bytes))

abbrev pub leaves_in : ℕ → ℕ → List ℕ → List Shown
leaves_in after_term n bytes = parts_in (leaf_size after_term) (leaf_in after_term) n bytes

-- the positions of each section's leaves rise
abbrev pub section_rises : TermsSection → Type 0
section_rises section = IsStrictlyIncreasing (map (λ t. t.position) section.leaves)

abbrev pub sections_rise : ℕ → ℕ → List ℕ → Type 0
sections_rise present n bytes = All section_rises (parts_in (section_size present) (section_in present) n bytes)

-- each of the next entries names a met document
abbrev pub AreNamed : ℕ → ℕ → List ℕ → Type 0
AreNamed met n bytes = All (λ (e : Entry). e.doc < met) (parts_in posting_size posting_in n bytes)
