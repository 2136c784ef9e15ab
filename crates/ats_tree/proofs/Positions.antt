-- Rising positions: by neighbours, as contracts say it, and by recursion, as the proofs use it.
use Rattle.std.proofs.Common.{◌≡◌, ℕ, suc, ◌+◌, ◌<◌, ◌≤◌, List, [], ◌∷◌, arith, All}
use Rattle.std.specs.List.Sorted.{IsStrictlyIncreasing}
use Rattle.ats_tree.specs.Shown.{Shown, positions_of}
use Rattle.ats_tree.specs.Part.{RisesFrom}
use Rattle.ats_tree.specs.Inner.Part.{RisesWithin}

-- all but the first rise if all do
increasing-tail : (p : ℕ) (ps : List ℕ) → IsStrictlyIncreasing (p ∷ ps) → IsStrictlyIncreasing ps
increasing-tail p ps rises k less =
    let next : suc k + 1 ≡ suc (k + 1) = omega arith in rw next at (rises (suc k) (omega arith))

rises-first : (from : ℕ) (s : Shown) (rest : List Shown) → from ≤ s.0 → IsStrictlyIncreasing (positions_of (s ∷ rest)) → RisesFrom from (s ∷ rest)
rises-first from s [] low rises = (low, tt)
rises-first from s (t ∷ rest) low rises =
    let next : s.0 < t.0 = rises 0 (omega arith)
    in let above : s.0 + 1 ≤ t.0 = omega arith
    in (low, rises-first (s.0 + 1) t rest above (increasing-tail s.0 (positions_of (t ∷ rest)) rises))

pub rises-increasing : (shown : List Shown) → IsStrictlyIncreasing (positions_of shown) → RisesFrom 0 shown
rises-increasing [] rises = tt
rises-increasing (s ∷ rest) rises = rises-first 0 s rest (omega arith) rises

within-first : (from end p : ℕ) (ps : List ℕ) → from ≤ p → IsStrictlyIncreasing (p ∷ ps) → All (λ q. q < end) (p ∷ ps) → RisesWithin from end (p ∷ ps)
within-first from end p [] low rises below = (low, below 0 0 (omega arith), tt)
within-first from end p (q ∷ ps) low rises below =
    let next : p < q = rises 0 (omega arith)
    in let above : p + 1 ≤ q = omega arith
    in (
      low,
      below 0 0 (omega arith),
      within-first (p + 1) end q ps above (increasing-tail p (q ∷ ps) rises) (λ k d less. below (suc k) d (omega arith)),
    )

pub within-increasing : (end : ℕ) (ps : List ℕ) → IsStrictlyIncreasing ps → All (λ p. p < end) ps → RisesWithin 0 end ps
within-increasing end [] rises below = tt
within-increasing end (p ∷ ps) rises below = within-first 0 end p ps (omega arith) rises below
