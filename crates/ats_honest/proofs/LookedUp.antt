-- The impacts that are looked up are those of the documents' terms.
use Rattle.std.proofs.Common.{◌≡◌, ◌<◌, ℕ, zero, suc, true, false, nat_lt, cond, List, [], length, get_or, sym, ap, ◌∙◌, arith}
use Rattle.std.proofs.lemmas.Bool.{lt-ltb}
use Rattle.ats_impact.specs.Numbers.{impact}
use Rattle.ats_impact.specs.Score.{count, total_terms}
use Rattle.ats_terms.specs.Terms.{terms}
use Rattle.ats_terms.proofs.Public.{none_of}
use Rattle.ats_postings.specs.Lists.{list}
use Rattle.ats_postings.specs.Postings.{posting}
use Rattle.ats_doctree.specs.Found.{LiesBetween, StandsAt}
use Rattle.ats_doctree.specs.Impacts.{doc_terms}
use Rattle.ats_doctree.specs.Sentinels.{impact_at, high, low}
use Rattle.ats_doctree.proofs.Public.{impact_tells, none_stands, term_stands, item_at-suc}
use Rattle.ats_bound.specs.Ranked.{impact_in}
use Rattle.ats_bound.proofs.Public.{has, listed}

module _ (texts : List (List ℕ)) (term : List ℕ) (doc : ℕ) (low_doc : doc < length texts) where
  abbrev text : List ℕ
  text = get_or texts doc []

  abbrev items : List (List ℕ × ℕ)
  items = doc_terms texts doc

  -- by how often the term occurs in the document
  counted : 0 < count term text → impact_in doc (list texts term) ≡ impact (count term text) (total_terms texts) (length (terms text)) (length texts)
  unfolding posting
  counted some =
      let yes : has texts term doc doc ≡ true = lt-ltb 0 (count term text) some in
      listed texts term doc low_doc ∙ ap (λ b. cond b (posting texts term doc).impact 0) yes

  -- if the term is at a leaf, its impact there
  pub looked_up_at : (p : ℕ) → StandsAt items term p → impact_in doc (list texts term) ≡ impact_at items p
  looked_up_at zero is = absurd (omega (arith, is.some))
  looked_up_at (suc i) is =
      let inside : i < length items = omega (arith, is.within) in
      let item = item_at-suc items i low inside in
      let name : (get_or items i low).0 ≡ term = sym (ap (λ (x : List ℕ × ℕ). x.0) item) ∙ is.same in
      let some : 0 < count term text = omega (arith, term_stands texts doc i low inside, ap (λ (t : List ℕ). count t text) name) in
      counted some
      ∙ ap (λ (t : List ℕ). impact (count t text) (total_terms texts) (length (terms text)) (length texts)) (sym name)
      ∙ sym (impact_tells texts doc i low inside) ∙ sym (ap (λ (x : List ℕ × ℕ). x.1) item)

  -- if it lies between two, none
  pub looked_up_between : (p : ℕ) → LiesBetween items term p → impact_in doc (list texts term) ≡ 0
  looked_up_between p is =
      let none : count term text ≡ 0 = none_stands texts doc term (none_of low high items (λ (item : List ℕ × ℕ). item.0) term is.absent) in
      let no : has texts term doc doc ≡ false = ap (nat_lt 0) none in
      listed texts term doc low_doc ∙ ap (λ b. cond b (posting texts term doc).impact 0) no
