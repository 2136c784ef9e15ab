-- The parts of an index that depend only on the terms of its documents.
use Rattle.std.proofs.Common.{◌≡◌, ◌<◌, ◌-◌, ◌+◌, ◌++◌, ℕ, List, [], ◌∷◌, length, get_or, map, take, drop, refl, sym, ap, ◌∙◌, arith}
use Rattle.std.proofs.lemmas.List.{drop_more, get_or-map, length-drop, length-map, take_more}
use Rattle.ats_terms.specs.Query.{counted}
use Rattle.ats_terms.specs.Terms.{terms}
use Rattle.ats_tree.specs.Kept.{kept_digests}
use Rattle.ats_doctree.specs.Impacts.{doc_terms, text_terms}
use Rattle.ats_doctree.specs.Sentinels.{terms_leaves}
use Rattle.ats_doctree.specs.declared.doc_leaf.DocLeaf.{DocLeaf}
use Rattle.ats_commit.specs.Trees.{documents_of, leaf_of, leaf_of_terms, documents_leaf}
use Rattle.ats_index.specs.Inner.Kept.{all_term_digests}
use Rattle.ats_index.specs.Parts.{all_leaves}
use Rattle.ats_index.specs.Inner.Parts.{all_counts, all_terms}

leaves_map : (H : List ℕ → List ℕ) (texts some : List (List ℕ))
    → map leaf_of (map (λ text. leaf_of_terms H (text_terms texts text)) some) ≡ map (λ text. documents_leaf H (terms_leaves (text_terms texts text))) some
leaves_map H texts [] = refl
leaves_map H texts (text ∷ some) = ap (λ xs. documents_leaf H (terms_leaves (text_terms texts text)) ∷ xs) (leaves_map H texts some)

-- the bytes of the documents' leaves are the documents tree's
pub leaves_are_documents : (H : List ℕ → List ℕ) (texts : List (List ℕ)) → map leaf_of (all_leaves H texts) ≡ documents_of H texts
leaves_are_documents H texts = leaves_map H texts texts

-- and so are the digests of their tree
pub nodes_are_documents : (H : List ℕ → List ℕ) (texts : List (List ℕ)) (leaves : List DocLeaf) (nodes : List (List ℕ)) → leaves ≡ all_leaves H texts
    → nodes ≡ kept_digests H (map leaf_of leaves) → nodes ≡ kept_digests H (documents_of H texts)
nodes_are_documents H texts leaves nodes own same =
    same ∙ ap (λ (strings : List (List ℕ)). kept_digests H strings)
    (ap (λ (all : List DocLeaf). map leaf_of all) own ∙ leaves_are_documents H texts)

mapped_twice : {X Y Z : Type 0} (g : Y → Z) (f : X → Y) (xs : List X) → map g (map f xs) ≡ map (λ x. g (f x)) xs
mapped_twice g f [] = refl
mapped_twice g f (x ∷ xs) = ap (λ zs. g (f x) ∷ zs) (mapped_twice g f xs)

-- the leaves of all documents follow from their terms
pub leaves_of_terms : (H : List ℕ → List ℕ) (texts : List (List ℕ)) → map (leaf_of_terms H) (all_terms texts) ≡ all_leaves H texts
leaves_of_terms H texts = mapped_twice (leaf_of_terms H) (text_terms texts) texts

-- and so do the digests of their trees
pub digests_of_terms : (H : List ℕ → List ℕ) (texts : List (List ℕ))
    → map (λ all. kept_digests H (terms_leaves all)) (all_terms texts) ≡ all_term_digests H texts
digests_of_terms H texts = mapped_twice (λ all. kept_digests H (terms_leaves all)) (text_terms texts) texts

-- the next counted terms are those of the next document
module _ (texts : List (List ℕ)) (doc : ℕ) (counts : List (List ℕ × ℕ)) (rest : List (List (List ℕ × ℕ)))
    (left : counts ∷ rest ≡ drop doc (all_counts texts)) where
  pub next_inside : doc < length texts
  next_inside =
      let size : length (counts ∷ rest) ≡ length texts - doc =
      ap length left ∙ length-drop doc (all_counts texts) ∙ ap (λ n. n - doc) (length-map texts (λ text. counted (terms text))) in
      omega (arith, size)

  more : counts ∷ rest ≡ get_or (all_counts texts) doc [] ∷ drop (doc + 1) (all_counts texts)
  more = left ∙ drop_more (all_counts texts) doc [] (omega (arith, next_inside, length-map texts (λ text. counted (terms text))))

  pub next_counts : counts ≡ counted (terms (get_or texts doc []))
  next_counts =
      ap (λ (all : List (List (List ℕ × ℕ))). get_or all 0 []) more ∙ get_or-map (λ text. counted (terms text)) texts doc [] [] next_inside

  pub next_left : rest ≡ drop (doc + 1) (all_counts texts)
  next_left = ap (drop 1) more

  pub next_terms : take doc (all_terms texts) ++ doc_terms texts doc ∷ [] ≡ take (doc + 1) (all_terms texts)
  next_terms =
      let own : get_or (all_terms texts) doc [] ≡ doc_terms texts doc = get_or-map (text_terms texts) texts doc [] [] next_inside in
      sym (take_more (all_terms texts) doc [] (omega (arith, next_inside, length-map texts (text_terms texts)))
      ∙ ap (λ (own : List (List ℕ × ℕ)). take doc (all_terms texts) ++ own ∷ []) own)
