-- The terms of a document of a collection and the counts of its text agree.
use Rattle.std.proofs.Common.{◌≡◌, ◌≢◌, ◌<◌, ◌≤◌, ◌∙◌, [], ℕ, List, length, get_or, zero-add, ap, sym, arith}
use Rattle.std.specs.List.{All}
use Rattle.ats_terms.specs.Terms.{terms}
use Rattle.ats_terms.specs.Query.{counted, Rises}
use Rattle.ats_terms.proofs.Public.{all_weigh, counted_counts, few_pairs, weight_at, weight_absent}
use Rattle.ats_impact.specs.Numbers.{impact}
use Rattle.ats_impact.specs.Score.{count, total_terms}
use Rattle.ats_doctree.specs.Impacts.{doc_terms}
use Rattle.ats_doctree.proofs.Counts.{length-with_impacts, get_or-with_impacts, impacts_rise}

module _ (texts : List (List ℕ)) (doc : ℕ) where
  abbrev text : List ℕ
  text = get_or texts doc []

  abbrev pairs : List (List ℕ × ℕ)
  pairs = counted (terms text)

  -- there is one for each count
  size : length (doc_terms texts doc) ≡ length pairs
  size = length-with_impacts (total_terms texts) (length (terms text)) (length texts) pairs

  item_of : (i : ℕ) (d : List ℕ × ℕ) → i < length pairs
      → get_or (doc_terms texts doc) i d ≡ ((get_or pairs i d).0, impact (get_or pairs i d).1 (total_terms texts) (length (terms text)) (length texts))
  item_of i d inside = get_or-with_impacts (total_terms texts) (length (terms text)) (length texts) pairs i d d inside

  -- how often a term of the pairs occurs in the text
  occurs : (i : ℕ) (d : List ℕ × ℕ) → i < length pairs → count (get_or pairs i d).0 text ≡ (get_or pairs i d).1
  occurs i d inside =
      let own = counted_counts (terms text) in
      sym (own.weights (get_or pairs i d).0) ∙ weight_at pairs i d own.rises inside

  pub doc_terms_rise : Rises (doc_terms texts doc)
  doc_terms_rise = impacts_rise (total_terms texts) (length (terms text)) (length texts) pairs (counted_counts (terms text)).rises

  pub doc_terms_few : length (doc_terms texts doc) ≤ length (terms text)
  doc_terms_few = omega (arith, size, few_pairs pairs (counted_counts (terms text)).some, all_weigh (terms text) [], zero-add (length (terms text)))

  -- each is a term that the document has
  pub term_stands : (i : ℕ) (d : List ℕ × ℕ) → i < length (doc_terms texts doc) → 0 < count (get_or (doc_terms texts doc) i d).0 text
  term_stands i d inside =
      let here : i < length pairs = omega (arith, size, inside) in
      rw (ap (λ (item : List ℕ × ℕ). item.0) (item_of i d here)) (omega (arith, occurs i d here, (counted_counts (terms text)).some i d here))

  -- with the impact of its count there
  pub impact_tells : (i : ℕ) (d : List ℕ × ℕ) → i < length (doc_terms texts doc)
      → (get_or (doc_terms texts doc) i d).1
      ≡ impact (count (get_or (doc_terms texts doc) i d).0 text) (total_terms texts) (length (terms text)) (length texts)
  impact_tells i d inside =
      let here : i < length pairs = omega (arith, size, inside) in
      let item = item_of i d here in
      ap (λ (x : List ℕ × ℕ). x.1) item
      ∙ ap (λ n. impact n (total_terms texts) (length (terms text)) (length texts)) (sym (occurs i d here) ∙ ap (λ (x : List ℕ × ℕ). count x.0 text) (sym item))

  -- and each term that the document has is among them
  pub none_stands : (term : List ℕ) → All (λ item. item.0 ≢ term) (doc_terms texts doc) → count term text ≡ 0
  none_stands term absent =
      let none : All (λ pair. pair.0 ≢ term) pairs =
      λ k d inside same. absent k d (omega (arith, size)) (ap (λ (item : List ℕ × ℕ). item.0) (item_of k d inside) ∙ same) in
      sym ((counted_counts (terms text)).weights term) ∙ weight_absent term pairs none
