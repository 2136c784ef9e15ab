-- What the roots that digests give say of the trees with these roots: each digest is that of its range.
use Rattle.std.proofs.Common.{◌≡◌, ℕ, ◌+◌, ◌≤◌, List, [], ◌∷◌, length, drop, Bool, true, false, arith}
use Rattle.std.specs.List.{All}
use Rattle.std.proofs.lemmas.List.Elements.{All-head, All-tail}
use Rattle.ats_tree.specs.Paths.{Path}
use Rattle.ats_tree.specs.Rebuild.{first_digest}
use Rattle.ats_tree.specs.Strings.{string_at}
use Rattle.ats_tree.specs.Tree.{Tree, node, digest_of}
use Rattle.ats_tree.proofs.Public.{Binds}
use Rattle.ats_growth_check.specs.Shape.{need}
use Rattle.ats_growth_check.specs.Pair.{roots}
use Rattle.ats_growth_check.specs.Strings.{new_strings, old_strings}
use Rattle.ats_growth_check.proofs.Fits.{Fits}
use Rattle.ats_growth_check.proofs.Trees.{left-binds, right-binds}

-- ---- the digests

abbrev pub AreSized : List (List ℕ) → Type 0
AreSized ds = All (λ d. length d ≡ 32) ds

pub sized-first : (ds : List (List ℕ)) → AreSized ds → 1 ≤ length ds → length (first_digest ds) ≡ 32
sized-first [] all some = absurd (omega arith)
sized-first (d ∷ ds) all some = All-head (λ (d : List ℕ). length d ≡ 32) d ds all

pub sized-rest : (ds : List (List ℕ)) → AreSized ds → AreSized (drop 1 ds)
sized-rest [] all = all
sized-rest (d ∷ ds) all = All-tail (λ (d : List ℕ). length d ≡ 32) d ds all

pub fewer : (c : ℕ) (ds : List (List ℕ)) → 1 + c ≤ length ds → (1 ≤ length ds) × (c ≤ length (drop 1 ds))
fewer c [] enough = absurd (omega arith)
fewer c (d ∷ ds) enough = (omega arith, omega arith)

-- digests of 32 bytes give roots of 32 bytes
module _ (H : List ℕ → List ℕ) (sized : (m : List ℕ) → length (H m) ≡ 32) (root : List ℕ) (long : length root ≡ 32) where
  pub sized-new : (path : Path) (known : Bool) (ds : List (List ℕ)) → AreSized ds → need path known ≤ length ds → length (roots H root path known ds).new ≡ 32
  sized-new [] true ds all enough = long
  sized-new [] false ds all enough = sized-first ds all enough
  sized-new (false ∷ path) known ds all enough = sized _
  sized-new (true ∷ path) known ds all enough = sized _

  pub sized-old : (path : Path) (known : Bool) (ds : List (List ℕ)) → AreSized ds → need path known ≤ length ds → length (roots H root path known ds).old ≡ 32
  sized-old [] true ds all enough = long
  sized-old [] false ds all enough = sized-first ds all enough
  sized-old (false ∷ path) known ds all enough = sized-old path known (drop 1 ds) (sized-rest ds all) (fewer (need path known) ds enough).1
  sized-old (true ∷ path) known ds all enough = sized _

-- ---- each digest is that of its range in the new tree, and so is the old root, if the whole old tree is such a range

abbrev pub AreOwnNew : (List ℕ → List ℕ) → List ℕ → Path → Bool → List (List ℕ) → Tree (List ℕ) → Type 0
AreOwnNew H root [] true ds u = root ≡ digest_of H u
AreOwnNew H root [] false ds u = first_digest ds ≡ digest_of H u
AreOwnNew H root (false ∷ path) known ds (node l r) = (first_digest ds ≡ digest_of H r) × AreOwnNew H root path known (drop 1 ds) l
AreOwnNew H root (true ∷ path) known ds (node l r) = (first_digest ds ≡ digest_of H l) × AreOwnNew H root path false (drop 1 ds) r
AreOwnNew H root (turn ∷ path) known ds u = ⊥

-- each digest that forms the old root is that of its range in the old tree
abbrev pub AreOwnOld : (List ℕ → List ℕ) → Path → Bool → List (List ℕ) → Tree (List ℕ) → Type 0
AreOwnOld H [] true ds t = Unit {0}
AreOwnOld H [] false ds t = first_digest ds ≡ digest_of H t
AreOwnOld H (false ∷ path) known ds t = AreOwnOld H path known (drop 1 ds) t
AreOwnOld H (true ∷ path) known ds (node a b) = (first_digest ds ≡ digest_of H a) × AreOwnOld H path false (drop 1 ds) b
AreOwnOld H (true ∷ path) known ds t = ⊥

module _ (H : List ℕ → List ℕ) (sized : (m : List ℕ) → length (H m) ≡ 32) (root : List ℕ) (long : length root ≡ 32) where
  pub new-binds : (path : Path) (known : Bool) (ds : List (List ℕ)) (t u : Tree (List ℕ)) → Fits path t u → AreSized ds → need path known ≤ length ds
      → (roots H root path known ds).new ≡ digest_of H u → Binds H (string_at H u) (new_strings H root path known ds) (AreOwnNew H root path known ds u)
  new-binds [] true ds t u fit all enough is = is
  new-binds [] false ds t u fit all enough is = is
  new-binds (false ∷ path) known ds t (node l r) fit all enough is =
      let rest : List (List ℕ) = drop 1 ds
      in let fewer' = fewer (need path known) ds enough
      in left-binds H sized l r (roots H root path known rest).new (first_digest ds) (sized-new H sized root long path known rest (sized-rest ds all) fewer'.1) is
      (new_strings H root path known rest) (AreOwnNew H root path known rest l)
      (λ inner. new-binds path known rest t l fit (sized-rest ds all) fewer'.1 inner)
  new-binds (true ∷ path) known ds (node a b) (node l r) fit all enough is =
      let rest : List (List ℕ) = drop 1 ds
      in let fewer' = fewer (need path false) ds enough
      in right-binds H sized l r (roots H root path false rest).new (first_digest ds) (sized-first ds all fewer'.0) is
      (new_strings H root path false rest) (AreOwnNew H root path false rest r)
      (λ inner. new-binds path false rest b r fit.1 (sized-rest ds all) fewer'.1 inner)
  new-binds (turn ∷ path) known ds t u fit all enough is = absurd fit

  pub old-binds : (path : Path) (known : Bool) (ds : List (List ℕ)) (t u : Tree (List ℕ)) → Fits path t u → AreSized ds → need path known ≤ length ds
      → (roots H root path known ds).old ≡ digest_of H t → Binds H (string_at H t) (old_strings H root path known ds) (AreOwnOld H path known ds t)
  old-binds [] true ds t u fit all enough is = tt
  old-binds [] false ds t u fit all enough is = is
  old-binds (false ∷ path) known ds t (node l r) fit all enough is =
      old-binds path known (drop 1 ds) t l fit (sized-rest ds all) (fewer (need path known) ds enough).1 is
  old-binds (true ∷ path) known ds (node a b) (node l r) fit all enough is =
      let rest : List (List ℕ) = drop 1 ds
      in let fewer' = fewer (need path false) ds enough
      in right-binds H sized a b (roots H root path false rest).old (first_digest ds) (sized-first ds all fewer'.0) is
      (old_strings H root path false rest) (AreOwnOld H path false rest b)
      (λ inner. old-binds path false rest b r fit.1 (sized-rest ds all) fewer'.1 inner)
  old-binds (turn ∷ path) known ds t u fit all enough is = absurd fit
