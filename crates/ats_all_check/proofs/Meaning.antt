-- Which documents are among all that have every term of a query.
use Rattle.std.proofs.Common.{◌≡◌, ◌↔◌, ◌<◌, ◌∙◌, ◌&&◌, ℕ, true, nat_lt, List, [], length, refl, sym, ap₂, get_or}
use Rattle.std.specs.Bool.{Decides}
use Rattle.std.specs.List.{All, Contains, list_all, range_with_len}
use Rattle.std.specs.List.Sorted.{IsStrictlyIncreasing}
use Rattle.std.proofs.lemmas.Bool.Decides.{Decides-by_and, Decides-ltb}
use Rattle.std.proofs.lemmas.List.Kept.{IsStrictlyIncreasing-filter}
use Rattle.ats_impact.specs.Score.{count}
use Rattle.ats_lists.proofs.Public.{range-rises}
use Rattle.ats_bound.proofs.Public.{contained_has, has_contained}
use Rattle.ats_client.proofs.Public.{below_in}
use Rattle.ats_all_check.specs.Documents.{has_all, both}
use Rattle.ats_all_check.proofs.Finds.{is_in, kept_found, in_below}
use Rattle.ats_all_check.proofs.Present.{and_first, and_second}

module _ (texts : List (List ℕ)) (query : List (List ℕ × ℕ)) where
  Has : ℕ → List ℕ × ℕ → Type 0
  Has doc pair = 0 < count pair.0 (get_or texts doc [])

  has_each : (doc : ℕ) → Decides (has_all texts query doc) (All (Has doc) query)
  unfolding Has
  has_each doc =
      Decides-by_and (λ (pair : List ℕ × ℕ). nat_lt 0 (count pair.0 (get_or texts doc []))) (Has doc)
      (list_all (λ (pair : List ℕ × ℕ). nat_lt 0 (count pair.0 (get_or texts doc []))))
      (λ pair. Decides-ltb 0 (count pair.0 (get_or texts doc []))) refl (λ pair pairs. refl) query

  -- a document is among them exactly if it is one of the texts and has every term
  pub has_documents : (doc : ℕ) → Contains (both texts query) doc ↔ ((doc < length texts) × All (λ (pair : List ℕ × ℕ). 0 < count pair.0 (get_or texts doc [])) query)
  unfolding Has
  has_documents doc = (
    λ inside.
        let found : (has_all texts query doc && is_in doc (range_with_len 0 (length texts))) ≡ true =
        sym (kept_found (has_all texts query) doc (range_with_len 0 (length texts))) ∙ has_contained doc (both texts query) inside in (
          in_below (length texts) doc (and_second (has_all texts query doc) (is_in doc (range_with_len 0 (length texts))) found),
          (has_each doc).0 (and_first (has_all texts query doc) (is_in doc (range_with_len 0 (length texts))) found),
        ),
    λ is.
        contained_has doc (both texts query)
        (kept_found (has_all texts query) doc (range_with_len 0 (length texts))
        ∙ ap₂ (λ a b. a && b) ((has_each doc).1 is.1) (below_in (length texts) doc is.0)),
  )

  -- and they rise
  pub rises : IsStrictlyIncreasing (both texts query)
  rises = IsStrictlyIncreasing-filter (has_all texts query) (range_with_len 0 (length texts)) (range-rises (length texts))
