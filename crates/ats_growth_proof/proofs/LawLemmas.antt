-- The digests of an honest growth, from the turns at a cut.
use Rattle.std.proofs.Common.{◌≡◌, ℕ, ◌-◌, ◌*◌, ◌^◌, ◌<◌, ◌≤◌, List, ◌∷◌, [], ◌++◌, length, take, drop, reverse, Bool, false, ◌∙◌, ap, ap₂, arith}
use Rattle.ats_tree.specs.Paths.{Path}
use Rattle.ats_tree.specs.Tree.{Tree, tree_of, mth}
use Rattle.ats_tree.proofs.Public.{of-cut}
use Rattle.ats_growth_check.specs.Shape.{turns}
use Rattle.ats_growth_check.proofs.Public.{reverse-first, turns-end, turns-left, turns-right}
use Rattle.ats_growth_proof.specs.Honest.{shown}

omega_same : (m : ℕ) → m ≤ m
omega_same m = omega arith

module _ (H : List ℕ → List ℕ) where
  pub shown_all : (texts : List (List ℕ)) (known : Bool) → shown H (turns (length texts) (length texts)) known (tree_of texts) ≡ shown H [] known (tree_of texts)
  shown_all texts known = ap (λ (path : Path). shown H path known (tree_of texts)) (turns-end (length texts) (length texts) (omega_same (length texts)))

  pub shown_left : (texts : List (List ℕ)) (m h : ℕ) (known : Bool) → 2 ^ h < length texts → length texts ≤ 2 * 2 ^ h → m ≤ 2 ^ h
      → reverse (shown H (turns m (length texts)) known (tree_of texts))
      ≡ reverse (shown H (turns m (2 ^ h)) known (tree_of (take (2 ^ h) texts))) ++ mth H (drop (2 ^ h) texts) ∷ []
  shown_left texts m h known long few inside =
      ap₂ (λ (path : Path) (tree : Tree (List ℕ)). reverse (shown H path known tree)) (turns-left h m (length texts) inside long few) (of-cut h texts long few)
      ∙ reverse-first (mth H (drop (2 ^ h) texts)) (shown H (turns m (2 ^ h)) known (tree_of (take (2 ^ h) texts)))

  pub shown_right : (texts : List (List ℕ)) (m h : ℕ) (known : Bool) → length texts ≤ 2 * 2 ^ h → 2 ^ h < m → m < length texts
      → reverse (shown H (turns m (length texts)) known (tree_of texts))
      ≡ reverse (shown H (turns (m - 2 ^ h) (length texts - 2 ^ h)) false (tree_of (drop (2 ^ h) texts))) ++ mth H (take (2 ^ h) texts) ∷ []
  shown_right texts m h known few past more =
      let long : 2 ^ h < length texts = omega arith
      in ap₂ (λ (path : Path) (tree : Tree (List ℕ)). reverse (shown H path known tree)) (turns-right h m (length texts) past more few) (of-cut h texts long few)
      ∙ reverse-first (mth H (take (2 ^ h) texts)) (shown H (turns (m - 2 ^ h) (length texts - 2 ^ h)) false (tree_of (drop (2 ^ h) texts)))
