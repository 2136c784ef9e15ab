-- The strings that are hashed from a proof of a cut are the archive's own, and so are those of an honest proof.
use Rattle.std.proofs.Common.{◌≡◌, ◌<◌, ◌≤◌, ℕ, Bool, cond, List, [], ◌∷◌, ◌++◌, length, map, take, get_or, Option, None, Some, IfSome, refl, sym, ap, ap₂, subst, ◌∙◌}
use Rattle.std.specs.List.{All, flat_map}
use Rattle.std.proofs.lemmas.Bool.{lt-ltb}
use Rattle.std.proofs.lemmas.List.Elements.{All-nil, All-cons, All-append, All-head, All-map, All-tail}
use Rattle.ats_tree.specs.Differences.{Hashed, moved, IsOurs}
use Rattle.ats_tree.specs.Elided.{elided_digests, shown_with}
use Rattle.ats_tree.specs.Nodes.{Node, NodeNumbers, by_path, numbers_of}
use Rattle.ats_tree.specs.Paths.{path_of}
use Rattle.ats_tree.specs.Shown.{Shown}
use Rattle.ats_tree.specs.Strings.{node_string, node_strings}
use Rattle.ats_tree.specs.declared.places.Place.{Place}
use Rattle.ats_tree.specs.declared.places.Tree.{Tree}
use Rattle.ats_tree.specs.declared.places.Tree.TheVariants.{Dictionary, List as ListOf, Documents as DocumentsTree, Terms}
use Rattle.ats_tree.proofs.Public.{numbers-lead, own-none, own-strings}
use Rattle.ats_postings.specs.declared.entry.Entry.{Entry}
use Rattle.ats_dict.specs.Dictionary.{dict_leaves}
use Rattle.ats_dict.specs.declared.header.Header.{Header}
use Rattle.ats_doctree.specs.Impacts.{doc_terms}
use Rattle.ats_doctree.specs.Sentinels.{terms_leaves}
use Rattle.ats_doctree.specs.declared.doc_leaf.DocLeaf.{DocLeaf}
use Rattle.ats_lists.specs.Formats.{first_leaves, list_string, prefix_digests, prefix_strings}
use Rattle.ats_lists.specs.declared.format.Format.{Format}
use Rattle.ats_lists.proofs.Public.{front-own}
use Rattle.ats_commit.specs.Archive.{Archive}
use Rattle.ats_commit.specs.Ours.{ours}
use Rattle.ats_commit.specs.Places.{in_tree}
use Rattle.ats_commit.specs.Root.{header_string}
use Rattle.ats_commit.specs.Trees.{dictionary_of, documents_of}
use Rattle.ats_proof.specs.declared.record.Algorithm.{Algorithm}
use Rattle.ats_proof.specs.declared.record.Algorithm.TheVariants.{Tra, Tnra}
use Rattle.ats_bound.specs.Ranked.{docs_of}
use Rattle.ats_bound.specs.Schedule.{WholeLane, IsCut, shown}
use Rattle.ats_proof.specs.Value.{Prefix, Proof, IsProof, Documents, TermsSection}
use Rattle.ats_proof.specs.Runs.{shown_docs, shown_list, shown_term}
use Rattle.ats_proof.specs.Runs as runs
use Rattle.ats_proof.proofs.Public.{one_value}
use Rattle.ats_client.specs.Documents.{documents_from}
use Rattle.ats_client.specs.Presented.{Presented, presented}
use Rattle.ats_client.specs.Strings.{hashed_header, strings_in, list_strings, terms_strings, documents_strings, strings_of, proof_collision}
use Rattle.ats_honest.specs.Documents.{AreHonestSections, HasDocuments, IsHonestSection, document_leaf}
use Rattle.ats_honest.specs.Honest.{AreMet, IsHonest, IsProved, IsShownAt}
use Rattle.ats_honest.specs.Lanes.{lanes_of, present}
use Rattle.ats_honest.proofs.Public.{documents_each, honest_cut, honest_met, lanes_have_lists}
use Rattle.ats_accepts.proofs.Accepted.{has_documents}
use Rattle.ats_accepts.proofs.AcceptedDocuments.{documents_shown}
use Rattle.ats_accepts.proofs.AcceptedLists.{IsEntryIn, IsFront, front_shown, fronts_each}
use Rattle.ats_accepts.proofs.AcceptedCut.{are_in, met_within, shown_presented}
use Rattle.ats_accepts.proofs.AcceptedSections.{section_shown}
use Rattle.ats_accepts.proofs.AcceptedTerms.{dictionary_shown}

-- ---- the strings of one tree

-- what is shown at some positions of a tree of the archive, with the digests that they need, has the archive's strings
tree_own : (H : List ℕ → List ℕ) (archive : Archive) (query : List (List ℕ × ℕ)) (tree : Tree) (leaves : List (List ℕ))
    → ((at : NodeNumbers) → ours H archive query (in_tree tree at) ≡ node_string H leaves (by_path (path_of at.depth at.turns)))
    → (n : ℕ) (shown : List Shown) (digests : List (List ℕ)) (positions : List ℕ)
    → n ≡ length leaves → shown ≡ shown_with leaves positions → digests ≡ elided_digests H leaves positions
    → All (IsOurs (ours H archive query)) (strings_in H tree n shown digests)
tree_own H archive query tree leaves same n shown digests positions size at needed =
    let Own : Hashed Place → Type 0 = IsOurs (ours H archive query) in
    let whole : List (Hashed Node) = node_strings H (length leaves) (shown_with leaves positions) (elided_digests H leaves positions) in
    let own = own-strings H leaves positions in
    subst (λ (k : ℕ). All Own (strings_in H tree k shown digests)) (sym size)
    (subst (λ (s : List Shown). All Own (strings_in H tree (length leaves) s digests)) (sym at)
    (subst (λ (ds : List (List ℕ)). All Own (strings_in H tree (length leaves) (shown_with leaves positions) ds)) (sym needed)
    (All-map Own (moved (in_tree tree)) (map (moved numbers_of) whole)
    (All-map (λ (s : Hashed NodeNumbers). Own (moved (in_tree tree) s)) (moved numbers_of) whole (λ k d inside.
    let s : Hashed Node = get_or whole k d in
    let there : ours H archive query (in_tree tree (numbers_of s.place)) ≡ node_string H leaves s.place =
    same (numbers_of s.place) ∙ ap (node_string H leaves) (numbers-lead s.place) in
    subst (λ (o : Option (List ℕ)). IfSome o (λ (mine : List ℕ). mine ≡ s.text)) (sym there) (own k d inside))))))

-- ---- the lists

module _ (H : List ℕ → List ℕ) (archive : Archive) (query : List (List ℕ × ℕ)) where
  abbrev Own : Hashed Place → Type 0
  Own = IsOurs (ours H archive query)

  -- the strings of a shown front are those that the list's first entries give
  front_strings : (met : List ℕ) (lane : WholeLane) (count : ℕ) (term : Presented) → IsFront H archive query met lane count term
      → count ≤ length lane.entries → All (IsEntryIn met) (take count lane.entries)
      → list_strings H archive.format met term
      ≡ map (moved (in_tree (ListOf term.number))) (prefix_strings H archive.format (length lane.entries) (first_leaves lane.entries count) (prefix_digests H archive.format lane.entries count))
  front_strings met lane count term is within are =
      let digests : List (List ℕ) = prefix_digests H archive.format lane.entries count in
      let put : List (Hashed NodeNumbers) → List (Hashed Place) = map (moved (in_tree (ListOf term.number))) in
      ap (λ (p : Prefix). put (prefix_strings H archive.format term.entry.f (shown_list 0 met term.prefix.entries) p.digests)) is.front
      ∙ ap₂ (λ (n : ℕ) (s : List Shown). put (prefix_strings H archive.format n s digests)) is.size (front_shown H archive query met lane count term is within are)

  front_own : (met : List ℕ) (lane : WholeLane) (count : ℕ) (term : Presented) → IsFront H archive query met lane count term
      → 1 ≤ count → count ≤ length lane.entries → All (IsEntryIn met) (take count lane.entries) → All Own (list_strings H archive.format met term)
  front_own met lane count term is some within are =
      let format : Format = archive.format in
      let strings : List (Hashed NodeNumbers) =
      prefix_strings H format (length lane.entries) (first_leaves lane.entries count) (prefix_digests H format lane.entries count) in
      subst (All Own) (sym (front_strings met lane count term is within are))
      (All-map Own (moved (in_tree (ListOf term.number))) strings (λ k d inside.
      let s : Hashed NodeNumbers = get_or strings k d in
      let there : ours H archive query (in_tree (ListOf term.number) s.place) ≡ Some s.text =
      ap (λ (es : List Entry). list_string H format es s.place) (sym is.own) ∙ front-own H format lane.entries count some within k d inside in
      subst (λ (o : Option (List ℕ)). IfSome o (λ (mine : List ℕ). mine ≡ s.text)) (sym there) refl))

  all_own : (met : List ℕ) (terms : List Presented) → All (λ (term : Presented). All Own (list_strings H archive.format met term)) terms → All Own (flat_map (list_strings H archive.format met) terms)
  all_own met [] each = All-nil Own
  all_own met (term ∷ terms) each =
      let IsOwn : Presented → Type 0 = λ (term : Presented). All Own (list_strings H archive.format met term) in
      All-append Own (list_strings H archive.format met term) (flat_map (list_strings H archive.format met) terms) (All-head IsOwn term terms each) (all_own met terms (All-tail IsOwn term terms each))

  -- ---- the met documents

  section_own : (terms : List (List ℕ × ℕ)) (doc : ℕ) (section : TermsSection) → doc < length archive.texts → IsHonestSection H (doc_terms archive.texts doc) terms section
      → All Own (terms_strings H (record { doc = doc; leaf = document_leaf H archive.texts doc; section = section }))
  section_own terms doc section low honest =
      let leaves : List (List ℕ) = terms_leaves (doc_terms archive.texts doc) in
      tree_own H archive query (Terms doc) leaves
      (λ at. ap (λ (b : Bool). node_string H (cond b leaves []) (by_path (path_of at.depth at.turns))) (lt-ltb doc (length archive.texts) low))
      (length leaves) (map shown_term section.leaves) section.digests honest.positions refl (section_shown H (doc_terms archive.texts doc) terms section honest) honest.digests

  sections_own : (terms : List (List ℕ × ℕ)) (met : List ℕ) (sections : List TermsSection) → AreHonestSections H archive.texts terms met sections
      → All (λ doc. doc < length archive.texts) met → All Own (flat_map (terms_strings H) (documents_from met (map (document_leaf H archive.texts) met) sections))
  sections_own terms [] sections are low = All-nil Own
  sections_own terms (doc ∷ met) [] are low = absurd are
  sections_own terms (doc ∷ met) (section ∷ sections) are low =
      let Low : ℕ → Type 0 = λ (d : ℕ). d < length archive.texts in
      All-append Own (terms_strings H (record { doc = doc; leaf = document_leaf H archive.texts doc; section = section }))
      (flat_map (terms_strings H) (documents_from met (map (document_leaf H archive.texts) met) sections))
      (section_own terms doc section (All-head Low doc met low) are.0) (sections_own terms met sections are.1 (All-tail Low doc met low))

  documents_own : (terms : List (List ℕ × ℕ)) (algorithm : Algorithm) (met : List ℕ) (docs : Option Documents) (header : Header)
      → header.documents ≡ length archive.texts → HasDocuments algorithm H archive.texts terms met docs → All (λ doc. doc < length archive.texts) met
      → All Own (documents_strings H header met docs)
  documents_own terms Tnra met None header own has low = All-nil Own
  documents_own terms Tnra met (Some docs) header own has low = absurd (cc)
  documents_own terms Tra met None header own has low = absurd has
  documents_own terms Tra met (Some docs) header own has low =
      All-append Own (strings_in H DocumentsTree header.documents (shown_docs met docs.leaves) docs.digests)
      (flat_map (terms_strings H) (documents_from met docs.leaves docs.sections))
      (tree_own H archive query DocumentsTree (documents_of H archive.texts) (λ at. refl) header.documents (shown_docs met docs.leaves) docs.digests met
      (own ∙ sym (documents_each H archive.texts)) (ap (shown_docs met) has.leaves ∙ documents_shown H archive.texts met low) has.digests)
      (subst (λ (leaves : List DocLeaf). All Own (flat_map (terms_strings H) (documents_from met leaves docs.sections))) (sym has.leaves)
      (sections_own terms met docs.sections has.sections low))

  -- ---- the whole proof

  module _ (algorithm : Algorithm) (cut documents : List ℕ) (proof : Proof) (is_cut : IsCut (lanes_of archive.texts query) cut)
      (are_met : AreMet (shown (lanes_of archive.texts query) cut) documents) (is : IsShownAt H archive query algorithm cut documents proof) where
    lists_own : All Own (flat_map (list_strings H proof.format proof.met) (presented query proof))
    lists_own =
        subst (λ (format : Format). All Own (flat_map (list_strings H format proof.met) (presented query proof))) (sym is.format)
        (all_own proof.met (presented query proof)
        (fronts_each H archive query proof.met (length archive.texts) (λ (term : Presented). All Own (list_strings H archive.format proof.met term))
        (λ lane count term front list. front_own proof.met lane count term front)
        (lanes_of archive.texts query) cut (presented query proof) (shown_presented H archive query algorithm cut documents proof is_cut are_met is)
        (lanes_have_lists archive.texts query) is_cut (are_in H archive query algorithm cut documents proof is_cut are_met is)))

    dictionary_own : All Own (strings_in H Dictionary proof.header.dict_leaves (map runs.shown_entry proof.dict) proof.dict_digests)
    dictionary_own =
        tree_own H archive query Dictionary (dict_leaves (dictionary_of H archive)) (λ at. refl)
        proof.header.dict_leaves (map runs.shown_entry proof.dict) proof.dict_digests is.positions
        (ap (λ (h : Header). h.dict_leaves) is.header) (dictionary_shown H archive query algorithm cut documents proof is) is.dict_digests

    pub shown_own : All Own (strings_of H query proof)
    shown_own =
        let header : Hashed Place = hashed_header proof.format proof.header in
        let dictionary : List (Hashed Place) = strings_in H Dictionary proof.header.dict_leaves (map runs.shown_entry proof.dict) proof.dict_digests in
        let lists : List (Hashed Place) = flat_map (list_strings H proof.format proof.met) (presented query proof) in
        let of_documents : List (Hashed Place) = documents_strings H proof.header proof.met proof.docs in
        All-cons Own header (dictionary ++ (lists ++ of_documents)) (ap₂ (λ (format : Format) (h : Header). header_string format h) (sym is.format) (sym is.header))
        (All-append Own dictionary (lists ++ of_documents) dictionary_own
        (All-append Own lists of_documents lists_own
        (documents_own (present archive.texts query) algorithm proof.met proof.docs proof.header (ap (λ (h : Header). h.documents) is.header) is.docs
        (met_within H archive query algorithm cut documents proof is_cut are_met is))))

    -- so none of them clashes
    pub shown_unclashing : proof_collision H archive query proof ≡ None
    shown_unclashing = own-none H (ours H archive query) (strings_of H query proof) shown_own

-- ---- an honest proof

pub honest_own : (H : List ℕ → List ℕ) (archive : Archive) (query : List (List ℕ × ℕ)) (r : ℕ) (algorithm : Algorithm) (proof : Proof)
    → (algorithm ≡ Tra → 1 ≤ length archive.texts) → IsHonest H archive query r algorithm proof → All (IsOurs (ours H archive query)) (strings_of H query proof)
honest_own H archive query r algorithm proof some honest =
    shown_own H archive query algorithm honest.cut (docs_of honest.brackets) proof (honest_cut _ _ H archive query algorithm proof honest)
    (honest_met _ _ H archive query algorithm proof honest) honest.shows

pub honest_unclashing : (H : List ℕ → List ℕ) (archive : Archive) (query : List (List ℕ × ℕ)) (r : ℕ) (algorithm : Algorithm) (proof : Proof)
    → (algorithm ≡ Tra → 1 ≤ length archive.texts) → IsHonest H archive query r algorithm proof → proof_collision H archive query proof ≡ None
honest_unclashing H archive query r algorithm proof some honest =
    own-none H (ours H archive query) (strings_of H query proof) (honest_own H archive query r algorithm proof some honest)

pub proved_unclashing : (H : List ℕ → List ℕ) (archive : Archive) (query : List (List ℕ × ℕ)) (r : ℕ) (algorithm : Algorithm) (bytes : List ℕ)
    → IsProved H archive query r algorithm bytes → (proof : Proof) → IsProof bytes proof → proof_collision H archive query proof ≡ None
proved_unclashing H archive query r algorithm bytes is proof says =
    subst (λ (p : Proof). proof_collision H archive query p ≡ None) (one_value bytes is.proof proof is.spells says)
    (honest_unclashing H archive query r algorithm is.proof (λ tra. has_documents H archive query r algorithm bytes is) is.honest)
