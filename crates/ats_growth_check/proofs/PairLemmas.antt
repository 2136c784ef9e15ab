-- The turns at a cut by the largest power of two, and the roots that digests give there.
use Rattle.std.proofs.Common.{◌≡◌, ℕ, ◌+◌, ◌-◌, ◌*◌, ◌<◌, ◌≤◌, List, [], ◌∷◌, ◌++◌, length, take, drop, reverse, Bool, true, false, Some, refl, sym, ◌∙◌, ap, subst, arith, slice_get}
use Rattle.std.proofs.lemmas.List.{length-drop}
use Rattle.ats_tree.specs.Paths.{Path}
use Rattle.ats_tree.specs.Tree.{IsPowerOfTwo}
use Rattle.ats_growth_check.specs.Pair.{Roots, roots}
use Rattle.ats_growth_check.specs.Inner.Paired.{ArePaired}
use Rattle.ats_growth_check.specs.Shape.{turns, need}
use Rattle.ats_growth_check.proofs.Digests.{one-more, drop-more}
use Rattle.ats_growth_check.proofs.Leads.{turns-left, turns-right}

-- the parts of a tree that is cut after its first k leaves, all of which but the first m are fresh
pub cut-left : (m n k : ℕ) → IsPowerOfTwo k → k < n → n ≤ 2 * k → m ≤ k → turns m n ≡ false ∷ turns m k
cut-left m n k (h, power) below largest inside =
    subst (λ (k : ℕ). k < n → n ≤ 2 * k → m ≤ k → turns m n ≡ false ∷ turns m k) (sym power)
    (λ below largest inside. turns-left h m n inside below largest) below largest inside

pub cut-right : (m n k : ℕ) → IsPowerOfTwo k → n ≤ 2 * k → k < m → m < n → turns m n ≡ true ∷ turns (m - k) (n - k)
cut-right m n k (h, power) largest past more =
    subst (λ (k : ℕ). n ≤ 2 * k → k < m → turns m n ≡ true ∷ turns (m - k) (n - k)) (sym power)
    (λ largest past. turns-right h m n past more largest) largest past

-- ---- the roots

module _ (H : List ℕ → List ℕ) (root : List ℕ) where
  -- at the end of the turns
  pub paired-known : (path : Path) (ds : List (List ℕ)) → path ≡ [] → ArePaired H root path true ds root root ds
  paired-known path ds end =
      subst (λ (path : Path). ArePaired H root path true ds root root ds) (sym end) (record { old_root = refl; new_root = refl; rest = refl })

  pub paired-end : (path : Path) (ds rest : List (List ℕ)) (x : List ℕ) → path ≡ [] → slice_get ds 0 ≡ Some x → rest ≡ drop 1 ds → ArePaired H root path false ds x x rest
  paired-end path ds rest x end first left =
      let one : reverse (take 1 ds) ≡ x ∷ [] = one-more 0 ds x first
      in let both : roots H root [] false (reverse (take 1 ds)) ≡ roots H root [] false (x ∷ []) = ap (roots H root [] false) one
      in subst (λ (path : Path). ArePaired H root path false ds x x rest) (sym end)
      (record { old_root = sym (ap (λ (r : Roots). r.old) both); new_root = sym (ap (λ (r : Roots). r.new) both); rest = left })

  -- after a left turn
  pub paired-left : (whole path : Path) (known : Bool) (ds inner rest : List (List ℕ)) (old new y : List ℕ) → whole ≡ false ∷ path
      → ArePaired H root path known ds old new inner → slice_get inner 0 ≡ Some y → rest ≡ drop 1 inner
      → ArePaired H root whole known ds old (H (1 ∷ new ++ y)) rest
  paired-left whole path known ds inner rest old new y turn pair first left =
      let c : ℕ = need path known
      in let there : slice_get (drop c ds) 0 ≡ Some y = subst (λ (l : List (List ℕ)). slice_get l 0 ≡ Some y) pair.rest first
      in let one : reverse (take (1 + c) ds) ≡ y ∷ reverse (take c ds) = one-more c ds y there
      in let both : roots H root (false ∷ path) known (reverse (take (1 + c) ds)) ≡ roots H root (false ∷ path) known (y ∷ reverse (take c ds)) =
      ap (roots H root (false ∷ path) known) one
      in subst (λ (path : Path). ArePaired H root path known ds old (H (1 ∷ new ++ y)) rest) (sym turn) (record {
        old_root = pair.old_root ∙ sym (ap (λ (r : Roots). r.old) both);
        new_root = ap (λ (w : List ℕ). H (1 ∷ w ++ y)) pair.new_root ∙ sym (ap (λ (r : Roots). r.new) both);
        rest = left ∙ ap (drop 1) pair.rest ∙ drop-more c ds;
      })

  -- after a right turn
  pub paired-right : (whole path : Path) (known : Bool) (ds inner rest : List (List ℕ)) (old new y : List ℕ) → whole ≡ true ∷ path
      → ArePaired H root path false ds old new inner → slice_get inner 0 ≡ Some y → rest ≡ drop 1 inner
      → ArePaired H root whole known ds (H (1 ∷ y ++ old)) (H (1 ∷ y ++ new)) rest
  paired-right whole path known ds inner rest old new y turn pair first left =
      let c : ℕ = need path false
      in let there : slice_get (drop c ds) 0 ≡ Some y = subst (λ (l : List (List ℕ)). slice_get l 0 ≡ Some y) pair.rest first
      in let one : reverse (take (1 + c) ds) ≡ y ∷ reverse (take c ds) = one-more c ds y there
      in let both : roots H root (true ∷ path) known (reverse (take (1 + c) ds)) ≡ roots H root (true ∷ path) known (y ∷ reverse (take c ds)) =
      ap (roots H root (true ∷ path) known) one
      in subst (λ (path : Path). ArePaired H root path known ds (H (1 ∷ y ++ old)) (H (1 ∷ y ++ new)) rest) (sym turn) (record {
        old_root = ap (λ (w : List ℕ). H (1 ∷ y ++ w)) pair.old_root ∙ sym (ap (λ (r : Roots). r.old) both);
        new_root = ap (λ (w : List ℕ). H (1 ∷ y ++ w)) pair.new_root ∙ sym (ap (λ (r : Roots). r.new) both);
        rest = left ∙ ap (drop 1) pair.rest ∙ drop-more c ds;
      })

-- ---- how many turns and digests there are at a cut

module _ (m n k : ℕ) (power : IsPowerOfTwo k) (largest : n ≤ 2 * k) where
  pub length-left : k < n → m ≤ k → length (turns m n) ≡ 1 + length (turns m k)
  length-left below inside = let e = ap length (cut-left m n k power below largest inside) in omega (arith, e)

  pub need-left : (known : Bool) → k < n → m ≤ k → need (turns m n) known ≡ 1 + need (turns m k) known
  need-left known below inside = ap (λ (path : Path). need path known) (cut-left m n k power below largest inside)

  pub length-right : k < m → m < n → length (turns m n) ≡ 1 + length (turns (m - k) (n - k))
  length-right past more = let e = ap length (cut-right m n k power largest past more) in omega (arith, e)

  pub need-right : (known : Bool) → k < m → m < n → need (turns m n) known ≡ 1 + need (turns (m - k) (n - k)) false
  need-right known past more = ap (λ (path : Path). need path known) (cut-right m n k power largest past more)

-- the digest after those that are taken is there
pub one-left : (c : ℕ) (ds rest : List (List ℕ)) → rest ≡ drop c ds → 1 + c ≤ length ds → 1 ≤ length rest
one-left c ds rest is enough = omega (arith, ap length is, length-drop c ds)
