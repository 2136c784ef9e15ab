-- Sums over the vocabulary of texts are within those over all their terms.
use Rattle.std.proofs.Common.{◌≡◌, ◌≤◌, ◌+◌, ℕ, zero, suc, true, cond, List, [], ◌∷◌, get_or, map, fold, nat_lt, refl, sym, ◌∙◌, arith}
use Rattle.std.specs.Prelude.{sum_by}
use Rattle.std.specs.List.{All, flat_map}
use Rattle.std.specs.Ordering.{match_ordering}
use Rattle.std.specs.declared.cmp.Ordering.{Ordering}
use Rattle.std.specs.declared.cmp.Ordering.TheVariants.{Less, Equal, Greater}
use Rattle.std.proofs.lemmas.Bool.Decides.{nat_tests}
use Rattle.std.proofs.lemmas.List.Concat.{length-flat_map}
use Rattle.std.proofs.lemmas.List.Elements.{All-tail}
use Rattle.std.proofs.lemmas.List.Sums.{sum_by-cons, sum_by-le-sum_by}
use Rattle.ats_terms.specs.Terms.{terms}
use Rattle.ats_terms.specs.Query.{byte_cmp, put_term, counted}
use Rattle.ats_terms.proofs.Public.{counted_counts, all_weigh, weight_at}
use Rattle.ats_impact.specs.Score.{count, frequency, total_terms}
use Rattle.ats_postings.specs.Lists.{vocabulary}
use Rattle.ats_postings.proofs.Public.{occurs_in}

module _ (g : List ℕ → ℕ) where
  abbrev of_pair : List ℕ × ℕ → ℕ
  of_pair pair = g pair.0

  step : (term : List ℕ) (pair : List ℕ × ℕ) (rest more : List (List ℕ × ℕ)) (o : Ordering) → sum_by of_pair more ≤ sum_by of_pair rest + g term
      → sum_by of_pair (match_ordering o ((term, 1) ∷ pair ∷ rest) ((pair.0, pair.1 + 1) ∷ rest) (pair ∷ more)) ≤ sum_by of_pair (pair ∷ rest) + g term
  step term pair rest more Less next = omega (arith, sum_by-cons of_pair (term, 1) (pair ∷ rest))
  step term pair rest more Equal next = omega (arith, sum_by-cons of_pair (pair.0, pair.1 + 1) rest, sum_by-cons of_pair pair rest)
  step term pair rest more Greater next = omega (arith, next, sum_by-cons of_pair pair more, sum_by-cons of_pair pair rest)

  put : (term : List ℕ) (pairs : List (List ℕ × ℕ)) → sum_by of_pair (put_term pairs term) ≤ sum_by of_pair pairs + g term
  unfolding put_term
  put term [] = omega arith
  put term (pair ∷ rest) = step term pair rest (put_term rest term) (byte_cmp term pair.0) (put term rest)

  all_put : (all : List (List ℕ)) (pairs : List (List ℕ × ℕ)) → sum_by of_pair (fold put_term pairs all) ≤ sum_by of_pair pairs + sum_by g all
  all_put [] pairs = omega arith
  all_put (term ∷ all) pairs = omega (arith, all_put all (put_term pairs term), put term pairs, sum_by-cons g term all)

  of_map : (pairs : List (List ℕ × ℕ)) → sum_by g (map (λ pair. pair.0) pairs) ≡ sum_by of_pair pairs
  of_map [] = refl
  of_map (pair ∷ pairs) = omega (arith, of_map pairs, sum_by-cons g pair.0 (map (λ (p : List ℕ × ℕ). p.0) pairs), sum_by-cons of_pair pair pairs)

  -- a sum over the distinct terms is at most that over all occurrences
  pub distinct_within : (texts : List (List ℕ)) → sum_by g (vocabulary texts) ≤ sum_by g (flat_map terms texts)
  unfolding vocabulary
  distinct_within texts = omega (arith, of_map (counted (flat_map terms texts)), all_put (flat_map terms texts) [])

-- ---- how many documents have the terms

pairs_within : (f : List ℕ → ℕ) (pairs : List (List ℕ × ℕ)) → All (λ pair. f pair.0 ≤ pair.1) pairs → sum_by (λ pair. f pair.0) pairs ≤ sum_by (λ pair. pair.1) pairs
pairs_within f [] all = omega arith
pairs_within f (pair ∷ pairs) all =
    omega (
      arith,
      all 0 pair (omega arith),
      pairs_within f pairs (All-tail (λ (p : List ℕ × ℕ). f p.0 ≤ p.1) pair pairs all),
      sum_by-cons (λ (p : List ℕ × ℕ). f p.0) pair pairs,
      sum_by-cons (λ (p : List ℕ × ℕ). p.1) pair pairs,
    )

one_of : (n : ℕ) → cond {A = ℕ} (nat_lt 0 n) 1 0 ≤ n
one_of zero = omega arith
one_of (suc n) =
    let some : nat_lt 0 (suc n) ≡ true = grind (arith, nat_tests) in
    rw some (omega arith)

frequency_few : (term : List ℕ) (texts : List (List ℕ)) → frequency term texts ≤ sum_by (count term) texts
frequency_few term texts = sum_by-le-sum_by (λ (text : List ℕ). cond (nat_lt 0 (count term text)) 1 0) (count term) texts (λ text. one_of (count term text))

-- the documents of all distinct terms together are no more than the terms of all texts
pub frequencies_within : (texts : List (List ℕ)) → sum_by (λ term. frequency term texts) (vocabulary texts) ≤ total_terms texts
unfolding vocabulary
frequencies_within texts =
    let all : List (List ℕ) = flat_map terms texts in
    let counts = counted_counts all in
    let each : All (λ pair. frequency pair.0 texts ≤ pair.1) (counted all) =
    λ i d inside.
    let pair : List ℕ × ℕ = get_or (counted all) i d in
    let weight = sym (weight_at (counted all) i d counts.rises inside) ∙ counts.weights pair.0 ∙ occurs_in pair.0 texts in
    omega (arith, frequency_few pair.0 texts, weight) in
    omega (
      arith,
      of_map (λ term. frequency term texts) (counted all),
      pairs_within (λ term. frequency term texts) (counted all) each,
      all_weigh all [],
      length-flat_map terms texts,
    )
