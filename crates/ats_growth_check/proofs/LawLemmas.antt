-- The laws of growth, from the turns at a cut.
use Rattle.std.proofs.Common.{◌≡◌, ℕ, ◌+◌, ◌-◌, ◌*◌, ◌^◌, ◌<◌, ◌≤◌, List, [], ◌∷◌, ◌++◌, reverse, Bool, true, false, ap, ap₂, arith}
use Rattle.ats_tree.specs.Paths.{Path}
use Rattle.ats_growth_check.specs.Pair.{roots}
use Rattle.ats_growth_check.specs.Shape.{turns, need}
use Rattle.ats_growth_check.proofs.Digests.{reverse-last}
use Rattle.ats_growth_check.proofs.Leads.{turns-end, turns-left, turns-right}

same-le : (m : ℕ) → m ≤ m
same-le m = omega arith

pub need_all : (m : ℕ) (known : Bool) → need (turns m m) known ≡ need [] known
need_all m known = ap (λ (path : Path). need path known) (turns-end m m (same-le m))

pub need_left : (m n h : ℕ) (known : Bool) → 2 ^ h < n → n ≤ 2 * 2 ^ h → m ≤ 2 ^ h → need (turns m n) known ≡ 1 + need (turns m (2 ^ h)) known
need_left m n h known long few inside = ap (λ (path : Path). need path known) (turns-left h m n inside long few)

pub need_right : (m n h : ℕ) (known : Bool) → n ≤ 2 * 2 ^ h → 2 ^ h < m → m < n → need (turns m n) known ≡ 1 + need (turns (m - 2 ^ h) (n - 2 ^ h)) false
need_right m n h known few past more = ap (λ (path : Path). need path known) (turns-right h m n past more few)

module _ (H : List ℕ → List ℕ) where
  pub roots_all : (root : List ℕ) (m : ℕ) (known : Bool) (digests : List (List ℕ)) → roots H root (turns m m) known digests ≡ roots H root [] known digests
  roots_all root m known digests = ap (λ (path : Path). roots H root path known digests) (turns-end m m (same-le m))

  pub roots_left : (root y : List ℕ) (others : List (List ℕ)) (m n h : ℕ) (known : Bool) → 2 ^ h < n → n ≤ 2 * 2 ^ h → m ≤ 2 ^ h
      → roots H root (turns m n) known (reverse (others ++ y ∷ [])) ≡ roots H root (false ∷ turns m (2 ^ h)) known (y ∷ reverse others)
  roots_left root y others m n h known long few inside =
      ap₂ (λ (path : Path) (digests : List (List ℕ)). roots H root path known digests) (turns-left h m n inside long few) (reverse-last others y)

  pub roots_right : (root y : List ℕ) (others : List (List ℕ)) (m n h : ℕ) (known : Bool) → n ≤ 2 * 2 ^ h → 2 ^ h < m → m < n
      → roots H root (turns m n) known (reverse (others ++ y ∷ [])) ≡ roots H root (true ∷ turns (m - 2 ^ h) (n - 2 ^ h)) known (y ∷ reverse others)
  roots_right root y others m n h known few past more =
      ap₂ (λ (path : Path) (digests : List (List ℕ)). roots H root path known digests) (turns-right h m n past more few) (reverse-last others y)
