-- The byte strings that rebuilding the sections of a proof hashes, compared with an archive's own.
use Rattle.std.specs.Prelude.{◌≡◌, ℕ, List, [], ◌∷◌, ◌++◌, map, slice_get, Option, Some, None, MatchOption}
use Rattle.std.specs.List.{All, flat_map}
use Rattle.std.specs.Option.{ForSome}
use Rattle.ats_tree.specs.Differences.{Hashed, moved, Difference, first_difference, first_collision}
use Rattle.ats_tree.specs.Nodes.{numbers_of}
use Rattle.ats_tree.specs.Shown.{Shown}
use Rattle.ats_tree.specs.Strings.{node_strings}
use Rattle.ats_tree.specs.declared.places.Place.{Place}
use Rattle.ats_tree.specs.declared.places.Tree.{Tree}
use Rattle.ats_tree.specs.declared.places.Tree.TheVariants.{Header, Dictionary, List as ListOf, Documents as DocumentsTree, Terms}
use Rattle.ats_lists.specs.Formats.{prefix_strings}
use Rattle.ats_lists.specs.Leaf.{leaf_bytes}
use Rattle.ats_postings.specs.Lists.{list}
use Rattle.ats_dict.specs.Dictionary.{dict_leaves}
use Rattle.ats_dict.specs.declared.header.Header.{Header as Numbers}
use Rattle.ats_doctree.specs.Impacts.{doc_terms}
use Rattle.ats_doctree.specs.Sentinels.{terms_leaves}
use Rattle.ats_lists.specs.declared.format.Format.{Format}
use Rattle.ats_commit.specs.Archive.{Archive}
use Rattle.ats_commit.specs.Trees.{dictionary_of, documents_of}
use Rattle.ats_commit.specs.Root.{header_string}
use Rattle.ats_commit.specs.Ours.{asked_term, ours}
use Rattle.ats_commit.specs.Places.{in_tree}
use Rattle.ats_commit.specs.Own.{IsHeaderOf}
use Rattle.ats_proof.specs.Value.{Documents, Proof}
use Rattle.ats_proof.specs.Runs.{shown_entry, shown_list, shown_docs, shown_term}
use Rattle.ats_client.specs.Presented.{Presented, presented}
use Rattle.ats_client.specs.Documents.{MetDocument, documents_from}

-- the string of a header, with its place
abbrev pub hashed_header : Format → Numbers → Hashed Place
hashed_header format header = record {
  place = record { tree = Header; depth = 0; turns = 0 };
  text = header_string format header;
}

-- the strings of one tree of `leaves` leaves, in pre-order
abbrev pub strings_in : (List ℕ → List ℕ) → Tree → ℕ → List Shown → List (List ℕ) → List (Hashed Place)
strings_in H tree leaves shown digests =
    map (moved (in_tree tree)) (map (moved numbers_of) (node_strings H leaves shown digests))

-- the strings of the shown front of a present term's list
abbrev pub list_strings : (List ℕ → List ℕ) → Format → List ℕ → Presented → List (Hashed Place)
list_strings H format met one =
    map (moved (in_tree (ListOf one.number)))
    (prefix_strings H format one.entry.f (shown_list 0 met one.prefix.entries) one.prefix.digests)

-- the strings of what is shown of a met document's terms
abbrev pub terms_strings : (List ℕ → List ℕ) → MetDocument → List (Hashed Place)
terms_strings H one = strings_in H (Terms one.doc) one.leaf.leaves (map shown_term one.section.leaves) one.section.digests

-- the strings of what is shown of the met documents: those of the documents tree, then those of each one's terms
abbrev pub documents_strings : (List ℕ → List ℕ) → Numbers → List ℕ → Option Documents → List (Hashed Place)
documents_strings H header met None = []
documents_strings H header met (Some docs) =
    strings_in H DocumentsTree header.documents (shown_docs met docs.leaves) docs.digests
    ++ flat_map (terms_strings H) (documents_from met docs.leaves docs.sections)

-- the strings of a proof: the header's, then those of the dictionary, then those of each list in the order of terms, then
-- those of the met documents, if the proof shows them
abbrev pub strings_of : (List ℕ → List ℕ) → List (List ℕ × ℕ) → Proof → List (Hashed Place)
strings_of H query proof =
    hashed_header proof.format proof.header
    ∷ strings_in H Dictionary proof.header.dict_leaves (map shown_entry proof.dict) proof.dict_digests
    ++ (flat_map (list_strings H proof.format proof.met) (presented query proof)
    ++ documents_strings H proof.header proof.met proof.docs)

-- the first of them that differs from the archive's own at its place and has an equal digest
abbrev pub proof_collision : (List ℕ → List ℕ) → Archive → List (List ℕ × ℕ) → Proof → Option (Difference Place)
proof_collision H archive query proof = first_collision H (ours H archive query) (strings_of H query proof)

-- the shown leaves are those of a list of byte strings at their positions
abbrev pub AreLeavesOf : List (List ℕ) → List Shown → Type 0
AreLeavesOf leaves shown = All (λ s. slice_get leaves s.0 ≡ Some s.1) shown

-- the shown front is that of the term's list
abbrev pub IsOwnList : List (List ℕ) → List (List ℕ × ℕ) → List ℕ → Presented → Type 0
IsOwnList texts query met one = AreLeavesOf (map leaf_bytes (list texts (asked_term query one.number))) (shown_list 0 met one.prefix.entries)

-- the shown leaves of the document's terms are its own
abbrev pub IsOwnDocument : List (List ℕ) → MetDocument → Type 0
IsOwnDocument texts one = AreLeavesOf (terms_leaves (doc_terms texts one.doc)) (map shown_term one.section.leaves)

-- each shown documents leaf is the archive's own at its document's number, and so are the leaves of each document's terms
pub record AreOwnDocuments (H : List ℕ → List ℕ) (texts : List (List ℕ)) (met : List ℕ) (docs : Documents) : Type 0 where
  pub leaves : AreLeavesOf (documents_of H texts) (shown_docs met docs.leaves)
  pub each : All (IsOwnDocument texts) (documents_from met docs.leaves docs.sections)

-- all that the proof shows is the archive's own
pub record IsOwn (H : List ℕ → List ℕ) (archive : Archive) (query : List (List ℕ × ℕ)) (proof : Proof) : Type 0 where
  pub format : proof.format ≡ archive.format
  pub numbers : IsHeaderOf H archive proof.header
  pub terms : AreLeavesOf (dict_leaves (dictionary_of H archive)) (map shown_entry proof.dict)
  pub fronts : All (IsOwnList archive.texts query proof.met) (presented query proof)
  pub documents : ForSome proof.docs (AreOwnDocuments H archive.texts proof.met)

-- either all that the proof shows is the archive's own, or the first string that differs from the archive's has an
-- equal digest
abbrev pub IsBound : (List ℕ → List ℕ) → Archive → List (List ℕ × ℕ) → Proof → Type 0
IsBound H archive query proof =
    MatchOption (first_difference (ours H archive query) (strings_of H query proof)) (IsOwn H archive query proof) (λ c. H c.theirs ≡ H c.ours)
