-- Leaves with the bytes of a collection's own are true of its documents.
use Rattle.std.proofs.Common.{◌≡◌, ◌∙◌, ◌<◌, ◌≤◌, ◌+◌, ◌^◌, ℕ, List, [], length, get_or, slice_get, Some, refl, sym, ap₂, subst, inl, inr, arith}
use Rattle.std.specs.List.{All}
use Rattle.std.specs.Str.{bytes_eq}
use Rattle.std.proofs.lemmas.Bool.{cases_lt}
use Rattle.std.proofs.lemmas.List.{get_or-map, get_or_past, length-map}
use Rattle.std.proofs.lemmas.List.Sums.{count_by-le-length, get_or-le-sum_by}
use Rattle.std.proofs.lemmas.Option.{slice_get_within, get_or_from_slice_get}
use Rattle.std.proofs.lemmas.Str.{IsUtf8-nil}
use Rattle.ats_tree.specs.Tree.{mth}
use Rattle.ats_tree.proofs.Public.{numbered}
use Rattle.ats_terms.specs.Terms.{terms, IsTerm}
use Rattle.ats_terms.proofs.Public.{rises_less}
use Rattle.ats_impact.specs.Score.{count, total_terms}
use Rattle.ats_doctree.specs.DocumentLeaf.{doc_leaf_bytes}
use Rattle.ats_doctree.specs.Impacts.{doc_terms, text_terms, IsImpact}
use Rattle.ats_doctree.specs.Sentinels.{IsBelow, low, high, item_at, term_at, leaf_bytes, terms_leaves}
use Rattle.ats_doctree.specs.declared.doc_leaf.DocLeaf.{DocLeaf}
use Rattle.ats_doctree.proofs.Public.{impact_in_range, doc_terms_rise, doc_terms_few, term_stands, impact_tells, none_stands, leaf_parts, item_at-suc, item_at-last, length-terms_leaves, get_or-terms_leaves}
use Rattle.ats_commit.specs.Trees.{documents_of, documents_leaf}
use Rattle.ats_commit.specs.Own.{AreTexts, IsDocumentOf, IsImpactOf, AreTermNeighbours}
use Rattle.ats_commit.proofs.Enclosed.{at_each, none_between}
use Rattle.ats_commit.proofs.TermLemmas.{few_terms}

same_item : (a b : List ℕ × ℕ) → a.1 < 2 ^ 16 → b.1 < 2 ^ 16 → leaf_bytes a ≡ leaf_bytes b → a ≡ b
same_item a b small less same =
    let parts = leaf_parts a.0 b.0 a.1 b.1 small less same in
    let Made : List ℕ → ℕ → List ℕ × ℕ = λ (t : List ℕ) (n : ℕ). (t, n) in
    ap₂ Made parts.0 parts.1

module _ (texts : List (List ℕ)) (doc : ℕ) where
  abbrev text : List ℕ
  text = get_or texts doc []

  abbrev items : List (List ℕ × ℕ)
  items = doc_terms texts doc

  -- no text has more terms than all together; past the last document it is empty
  terms_among : length (terms text) ≤ total_terms texts
  terms_among = elim (cases_lt doc (length texts)) [
    | inl inside ↦ get_or-le-sum_by (λ (t : List ℕ). length (terms t)) texts doc [] inside
    | inr past ↦
        let none : length (terms text) ≤ 0 = subst (λ (t : List ℕ). length (terms t) ≤ 0) (sym (get_or_past texts doc [] past)) (few_terms [] IsUtf8-nil) in
        omega arith
  ]

  impacts_small : All (λ (item : List ℕ × ℕ). item.1 < 2 ^ 16) items
  impacts_small i d inside =
      let term : List ℕ = (get_or items i d).0 in
      let some : 1 ≤ total_terms texts =
      omega (arith, term_stands texts doc i d inside, count_by-le-length (bytes_eq term) (terms text), terms_among) in
      let range : IsImpact (get_or items i d).1 =
      subst IsImpact (sym (impact_tells texts doc i d inside)) (impact_in_range (count term text) (total_terms texts) (length (terms text)) (length texts) some) in
      omega (arith, range.few)

  at_places : (P : List ℕ × ℕ → Type 0) → P low → P high → All P items → (p : ℕ) → p < length items + 2 → P (item_at items p)
  at_places = at_each low high items (item_at items) refl (λ i. item_at-suc items i low) (item_at-last items)

  -- a leaf with the bytes of a term and an impact is theirs
  own_item : (p : ℕ) (item : List ℕ × ℕ) → item.1 < 2 ^ 16 → slice_get (terms_leaves items) p ≡ Some (leaf_bytes item)
      → (p < length items + 2) × (item_at items p ≡ item)
  own_item p item small there =
      let inside : p < length items + 2 = omega (arith, length-terms_leaves items, slice_get_within (terms_leaves items) p (leaf_bytes item) there) in
      let same : leaf_bytes (item_at items p) ≡ leaf_bytes item =
      sym (get_or-terms_leaves items p inside) ∙ get_or_from_slice_get (terms_leaves items) p (leaf_bytes item) [] there in
      let fits : (item_at items p).1 < 2 ^ 16 = at_places (λ (i : List ℕ × ℕ). i.1 < 2 ^ 16) (omega arith) (omega arith) impacts_small p inside in
      (inside, same_item (item_at items p) item fits small same)

  -- a term's leaf is no sentinel
  pub leaf_tells_impact : (p : ℕ) (item : List ℕ × ℕ) → IsTerm item.0 → item.1 < 2 ^ 16 → slice_get (terms_leaves items) p ≡ Some (leaf_bytes item)
      → IsImpactOf texts doc item
  leaf_tells_impact p item term small there =
      let own = own_item p item small there in
      let Tells : List ℕ × ℕ → Type 0 = λ (i : List ℕ × ℕ). IsTerm i.0 → IsImpactOf texts doc i in
      let all : All Tells items = λ k d inside is. record { some = term_stands texts doc k d inside; value = impact_tells texts doc k d inside } in
      let tells : Tells (item_at items p) = at_places Tells (λ is. absurd (omega (arith, is.some))) (λ is. absurd (omega (arith, is.front))) all p own.0 in
      subst Tells own.1 tells term

  -- two neighbours say that what lies between their terms is not in the text
  pub neighbours_tell_document : (p : ℕ) (lower upper : List ℕ × ℕ) (term : List ℕ) → AreTermNeighbours (terms_leaves items) p lower upper
      → IsBelow lower.0 term → IsBelow term upper.0 → count term text ≡ 0
  neighbours_tell_document p lower upper term are_there above below =
      let first = own_item p lower are_there.first_small are_there.first in
      let second = own_item (p + 1) upper are_there.second_small are_there.second in
      let after : IsBelow (term_at items p) term = subst (λ (i : List ℕ × ℕ). IsBelow i.0 term) (sym first.1) above in
      let before : IsBelow term (term_at items (p + 1)) = subst (λ (i : List ℕ × ℕ). IsBelow term i.0) (sym second.1) below in
      none_stands texts doc term
      (none_between low items (item_at items) (λ i. item_at-suc items i low) (λ (i : List ℕ × ℕ). i.0)
      (λ i j up inside. rises_less items i j low (doc_terms_rise texts doc) up inside) p term (omega (arith, second.0)) after before)

-- the leaf of a document
pub leaf_tells_document : (H : List ℕ → List ℕ) (texts : List (List ℕ)) → AreTexts texts → (doc : ℕ) (leaf : DocLeaf) → leaf.leaves < 2 ^ 32
    → slice_get (documents_of H texts) doc ≡ Some (doc_leaf_bytes leaf.leaves leaf.root) → IsDocumentOf H texts doc leaf
leaf_tells_document H texts are doc leaf small there =
    let leaves : List (List ℕ) = terms_leaves (doc_terms texts doc) in
    let made : List ℕ → List ℕ = λ (text : List ℕ). documents_leaf H (terms_leaves (text_terms texts text)) in
    let bytes : List ℕ = doc_leaf_bytes leaf.leaves leaf.root in
    let inside : doc < length texts = omega (arith, slice_get_within (documents_of H texts) doc bytes there, length-map texts made) in
    let same : bytes ≡ doc_leaf_bytes (length leaves) (mth H leaves) =
    sym (get_or_from_slice_get (documents_of H texts) doc bytes [] there) ∙ get_or-map made texts doc [] [] inside in
    let few : length leaves < 2 ^ 32 =
    omega (
      arith,
      length-terms_leaves (doc_terms texts doc),
      doc_terms_few texts doc,
      few_terms (get_or texts doc []) (are.utf8 doc [] inside),
      are.within.short doc [] inside,
    ) in
    let parts = numbered leaf.leaves (length leaves) leaf.root (mth H leaves) small few same in
    record { inside = inside; leaves = parts.0; root = parts.1 }
