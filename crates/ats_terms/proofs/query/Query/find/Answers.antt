use Rattle.std.proofs.Common.{◌≡◌, ◌≢◌, ◌<◌, ℕ, List, [], length, get_or, Result, Ok, Err, IfSome, IfNone, rules}
use Rattle.std.specs.List.{All}
use Rattle.std.specs.List.Sorted.{IsBinarySearchResult, IsSearchInRange}
use Rattle.std.specs.Result.{result_ok}
use Rattle.std.proofs.lemmas.Fn.{always_returns_same}
use Rattle.ats_terms.specs.Order.{byte_cmp}
use Rattle.ats_terms.specs.Query.{Rises}
use Rattle.ats_terms.proofs.Counting.{equal_from}
use Rattle.ats_terms.proofs.Order.{compares_up, parted}
use Rattle.ats_terms.proofs.query.Query.find.Goals as goal

found : (pairs : List (List ℕ × ℕ)) (term : List ℕ) (r : Result ℕ ℕ) → IsSearchInRange r (length pairs)
    → IsBinarySearchResult (λ (p : List ℕ × ℕ). byte_cmp p.0 term) pairs r
    → IfSome (result_ok r) (λ i. (i < length pairs) × ((get_or pairs i ([], 0)).0 ≡ term))
found pairs term (Ok i) inside is = (inside, equal_from (get_or pairs i ([], 0)).0 term (is ([], 0)))
found pairs term (Err i) inside is = tt

none : (pairs : List (List ℕ × ℕ)) (term : List ℕ) (r : Result ℕ ℕ) → Rises pairs
    → IsBinarySearchResult (λ (p : List ℕ × ℕ). byte_cmp p.0 term) pairs r
    → IfNone (result_ok r) (All (λ pair. pair.0 ≢ term) pairs)
none pairs term (Ok i) rises is = tt
none pairs term (Err i) rises is = parted pairs term i (is (compares_up pairs term rises))

pub returns-clause-found : goal.returns-clause-found
returns-clause-found c =
    let term = c.args.term.now in
    let position = c.binary_search_by.ensures.position (λ (p : List ℕ × ℕ). byte_cmp p.0 term) (always_returns_same _ _ _ (λ a r g called. search rules)) in
    rw (c.ok.ensures.value, ← c.self.view_is, ← c.deref.ensures.value) (found c.deref.result.now term _ c.binary_search_by.ensures.bound position)

pub returns-clause-none : goal.returns-clause-none
returns-clause-none c =
    let term = c.args.term.now in
    let position = c.binary_search_by.ensures.position (λ (p : List ℕ × ℕ). byte_cmp p.0 term) (always_returns_same _ _ _ (λ a r g called. search rules)) in
    rw (c.ok.ensures.value, ← c.self.view_is, ← c.deref.ensures.value) (none c.deref.result.now term _ (rw c.deref.ensures.value c.self.invariant.rises) position)
