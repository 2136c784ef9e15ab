-- How many items are left of the parts of a proof.
use Rattle.std.proofs.Common.{◌≡◌, ◌≤◌, ◌+◌, ◌*◌, ◌∙◌, ℕ, List, [], ◌∷◌, length, drop, slice_get, Option, Some, refl, sym, ap, subst, arith}
use Rattle.std.specs.List.{sum_by, range_with_len}
use Rattle.std.proofs.lemmas.List.Sums.{sum_by-cons}
use Rattle.ats_postings.specs.declared.entry.Entry.{Entry}
use Rattle.ats_doctree.specs.declared.doc_leaf.DocLeaf.{DocLeaf}
use Rattle.ats_tree.specs.Shown.{Shown, positions_of}
use Rattle.ats_proof.specs.Runs.{shown_docs, shown_list}
use Rattle.ats_proof.specs.Value.{Documents, Proof, items_of, items_of_prefix, items_of_section, items_of_documents}
use Rattle.ats_proof.proofs.Public.{length-shown_list}
use Rattle.ats_client.proofs.TermsLeft.{at_front}

-- how many items a proof has
pub items_are : (proof : Proof) → items_of proof
    ≡ length proof.dict + length proof.dict_digests + length proof.slots + length proof.met + sum_by items_of_prefix proof.lists
    + items_of_documents proof.docs + length proof.answer
items_are proof = refl

-- the items without the first
pub taken : {X : Type 0} (before after : List X) (x : X) → Some x ≡ slice_get before 0 → after ≡ drop 1 before → before ≡ x ∷ after
taken before after x first rest = at_front before 0 x (sym first) ∙ ap (λ xs. x ∷ xs) (sym rest)

pub sum_taken : {X : Type 0} (f : X → ℕ) (before after : List X) (x : X) → before ≡ x ∷ after → sum_by f before ≡ f x + sum_by f after
sum_taken f before after x is = ap (sum_by f) is ∙ sum_by-cons f x after

-- at most one leaf for each of the documents
pub length-shown_docs : (met : List ℕ) (leaves : List DocLeaf) → length (shown_docs met leaves) ≤ length leaves
length-shown_docs [] leaves = omega arith
length-shown_docs (id ∷ met) [] = omega arith
length-shown_docs (id ∷ met) (leaf ∷ leaves) = omega (arith, length-shown_docs met leaves)

-- the shown leaves and the digests of the documents tree are items
pub tree_items : (met : List ℕ) (shown : Option Documents) (docs : Documents) → shown ≡ Some docs
    → length (shown_docs met docs.leaves) + length docs.digests ≤ items_of_documents shown
tree_items met shown docs is =
    subst (λ (d : Option Documents). length (shown_docs met docs.leaves) + length docs.digests ≤ items_of_documents d) (sym is)
    (omega (arith, length-shown_docs met docs.leaves))

-- what rebuilding the documents tree takes, by its items
pub tree_most : (proof : Proof) (docs : Documents) (leaves : List Shown) (digests : List (List ℕ)) (before after : ℕ) → proof.docs ≡ Some docs
    → leaves ≡ shown_docs proof.met docs.leaves → digests ≡ docs.digests → after ≤ before + 3 * length leaves + 2 * length digests + 1
    → after ≤ before + 3 * items_of_documents proof.docs + 1
tree_most proof docs leaves digests before after is leaves_are digests_are most =
    let items = tree_items proof.met proof.docs docs is in
    let leaf_count : length leaves ≡ length (shown_docs proof.met docs.leaves) = ap (λ (l : List Shown). length l) leaves_are in
    let digest_count : length digests ≡ length docs.digests = ap (λ (l : List (List ℕ)). length l) digests_are in
    omega (arith, items, leaf_count, digest_count, most)

-- so are a leaf for each document, and what its section shows
pub section_items : (met : List ℕ) (shown : Option Documents) (docs : Documents) → shown ≡ Some docs → length docs.leaves ≡ length met
    → length met + sum_by items_of_section docs.sections ≤ items_of_documents shown
section_items met shown docs is each =
    subst (λ (d : Option Documents). length met + sum_by items_of_section docs.sections ≤ items_of_documents d) (sym is) (omega (arith, each))

pub shown_list_size : (at : ℕ) (met : List ℕ) (entries : List Entry) → length (shown_list at met entries) ≡ length entries
shown_list_size at met entries = length-shown_list at met entries

-- the leaves of a list stand at the positions from its first on
pub list-from : (at : ℕ) (met : List ℕ) (entries : List Entry) → positions_of (shown_list at met entries) ≡ range_with_len at (length entries)
list-from at met [] = refl
list-from at met (e ∷ entries) = ap (λ (ps : List ℕ). at ∷ ps) (list-from (at + 1) met entries)

pub list-front : (at : ℕ) (met : List ℕ) (entries : List Entry) → positions_of (shown_list at met entries) ≡ range_with_len at (length (shown_list at met entries))
list-front at met entries = list-from at met entries ∙ ap (range_with_len at) (sym (shown_list_size at met entries))
