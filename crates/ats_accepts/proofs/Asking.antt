-- The terms of a query by their numbers.
use Rattle.std.proofs.Common.{◌≡◌, ◌+◌, ◌<◌, ℕ, suc, List, [], ◌∷◌, length, get_or, ap, ◌∙◌, arith}
use Rattle.std.proofs.lemmas.List.{get_or_default}
use Rattle.ats_commit.specs.Ours.{asked_term}

-- `ask` gives the terms of a query at the numbers from n on
abbrev pub Asks : (ℕ → List ℕ) → ℕ → List (List ℕ × ℕ) → Type 0
Asks ask n query = (i : ℕ) (d : List ℕ × ℕ) → i < length query → ask (n + i) ≡ (get_or query i d).0

module _ (ask : ℕ → List ℕ) (n : ℕ) (pair : List ℕ × ℕ) (query : List (List ℕ × ℕ)) (asks : Asks ask n (pair ∷ query)) where
  pub asks_first : ask n ≡ pair.0
  asks_first = let from : n ≡ n + 0 = omega arith in ap ask from ∙ asks 0 pair (omega arith)

  pub asks_later : Asks ask (n + 1) query
  asks_later i d inside = let next : (n + 1) + i ≡ n + suc i = omega arith in ap ask next ∙ asks (suc i) d (omega (arith, inside))

pub asks_own : (query : List (List ℕ × ℕ)) → Asks (asked_term query) 0 query
asks_own query i d inside =
    let from : 0 + i ≡ i = omega arith in
    ap (asked_term query) from ∙ ap (λ (pair : List ℕ × ℕ). pair.0) (get_or_default query i ([], 0) d inside)
