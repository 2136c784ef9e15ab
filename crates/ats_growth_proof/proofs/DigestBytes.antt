-- The digests of a growth as they are put one after another: those of a part, then that of the part beside it.
use Rattle.std.proofs.Common.{◌≡◌, ℕ, ◌+◌, ◌-◌, ◌*◌, ◌<◌, ◌≤◌, List, [], ◌∷◌, ◌++◌, length, take, drop, reverse, Bool, true, false, ◌∙◌, ap, ap₂, append-nil}
use Rattle.std.specs.List.{concat}
use Rattle.std.proofs.lemmas.List.Folds.{concat-append}
use Rattle.ats_tree.specs.Paths.{Path}
use Rattle.ats_tree.specs.Tree.{Tree, tree_of, digest_of, mth, IsPowerOfTwo}
use Rattle.ats_tree.proofs.Public.{part-tree-cut}
use Rattle.ats_growth_check.specs.Shape.{turns}
use Rattle.ats_growth_check.proofs.Public.{reverse-first, turns-end, cut-left, cut-right}
use Rattle.ats_growth_proof.specs.Honest.{shown}
use Rattle.ats_growth_proof.specs.Inner.Honest.{digest_bytes}

-- one digest more
more-bytes : (d : List ℕ) (ds : List (List ℕ)) → concat (reverse (d ∷ ds)) ≡ concat (reverse ds) ++ d
more-bytes d ds = ap concat (reverse-first d ds) ∙ concat-append (reverse ds) (d ∷ []) ∙ ap (λ (xs : List ℕ). concat (reverse ds) ++ xs) (append-nil d)

pub put-known : (H : List ℕ → List ℕ) (m n : ℕ) (tree : Tree (List ℕ)) → n ≤ m → digest_bytes H (turns m n) true tree ≡ []
put-known H m n tree whole = ap (λ (path : Path). digest_bytes H path true tree) (turns-end m n whole)

pub put-end : (H : List ℕ → List ℕ) (m n : ℕ) (tree : Tree (List ℕ)) → n ≤ m → digest_bytes H (turns m n) false tree ≡ digest_of H tree
put-end H m n tree whole = ap (λ (path : Path). digest_bytes H path false tree) (turns-end m n whole) ∙ append-nil (digest_of H tree)

module _ (H : List ℕ → List ℕ) (texts : List (List ℕ)) (from m n k : ℕ) (known : Bool) (power : IsPowerOfTwo k) (below : k < n) (largest : n ≤ 2 * k)
    (inside : from + n ≤ length texts) where
  pub put-left : m ≤ k → digest_bytes H (turns m n) known (tree_of (take n (drop from texts)))
      ≡ digest_bytes H (turns m k) known (tree_of (take k (drop from texts))) ++ mth H (take (n - k) (drop (from + k) texts))
  put-left le =
      ap₂ (λ (path : Path) (tree : Tree (List ℕ)). digest_bytes H path known tree) (cut-left m n k power below largest le) (part-tree-cut from k n texts power below largest inside)
      ∙ more-bytes (mth H (take (n - k) (drop (from + k) texts))) (shown H (turns m k) known (tree_of (take k (drop from texts))))

  pub put-right : k < m → m < n → digest_bytes H (turns m n) known (tree_of (take n (drop from texts)))
      ≡ digest_bytes H (turns (m - k) (n - k)) false (tree_of (take (n - k) (drop (from + k) texts))) ++ mth H (take k (drop from texts))
  put-right past more =
      ap₂ (λ (path : Path) (tree : Tree (List ℕ)). digest_bytes H path known tree) (cut-right m n k power largest past more) (part-tree-cut from k n texts power below largest inside)
      ∙ more-bytes (mth H (take k (drop from texts))) (shown H (turns (m - k) (n - k)) false (tree_of (take (n - k) (drop (from + k) texts))))
