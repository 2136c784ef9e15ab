-- If all digests are those of their ranges in both trees, the old leaves are the first of the new ones, unless there is
-- a collision in such a range.
use Rattle.std.proofs.Common.{◌≡◌, ℕ, List, [], ◌∷◌, ◌++◌, length, drop, Bool, true, false, sym, ◌∙◌, subst}
use Rattle.std.specs.List.{flat_map}
use Rattle.std.proofs.lemmas.Grind.{flat_map-append}
use Rattle.std.proofs.lemmas.List.{append-nil}
use Rattle.ats_tree.specs.Differences.{Hashed}
use Rattle.ats_tree.specs.Paths.{Path}
use Rattle.ats_tree.specs.Tree.{Tree, node, digest_of}
use Rattle.ats_tree.proofs.Public.{Binds, binds-both, binds-moved, binds-weaker}
use Rattle.ats_growth_check.specs.Strings.{Beside, Range, ranges, range_pairs, all_strings, beside, second_of}
use Rattle.ats_growth_check.proofs.Fits.{Fits, Extends, extends-same, extends-left, extends-right}
use Rattle.ats_growth_check.proofs.Sides.{AreOwnNew, AreOwnOld}
use Rattle.ats_growth_check.proofs.Trees.{AreAlike, alike-binds}

-- the root is known to be that of the whole old tree
abbrev pub IsKnown : (List ℕ → List ℕ) → List ℕ → Bool → Tree (List ℕ) → Type 0
IsKnown H root true t = root ≡ digest_of H t
IsKnown H root false t = Unit {0}

module _ (H : List ℕ → List ℕ) (sized : (m : List ℕ) → length (H m) ≡ 32) where
  -- one range
  range-binds : (t u : Tree (List ℕ)) → AreAlike t u → digest_of H t ≡ digest_of H u
      → Binds H second_of (range_pairs H (record { old = t; new = u })) (t ≡ u)
  range-binds t u alike same = binds-moved H (beside H 5 u) second_of (all_strings H t) (t ≡ u) (alike-binds H sized t u alike same)

  -- one range, as a list of ranges
  alone-binds : (t u : Tree (List ℕ)) → AreAlike t u → digest_of H t ≡ digest_of H u
      → Binds H second_of (flat_map (range_pairs H) (record { old = t; new = u } ∷ [])) (t ≡ u)
  alone-binds t u alike same =
      let one : Range = record { old = t; new = u }
      in subst (λ (ss : List (Hashed Beside)). Binds H second_of ss (t ≡ u)) (sym (append-nil (range_pairs H one))) (range-binds t u alike same)

  pub ranges-bind : (root : List ℕ) (path : Path) (known : Bool) (ds : List (List ℕ)) (t u : Tree (List ℕ)) → Fits path t u → IsKnown H root known t
      → AreOwnNew H root path known ds u → AreOwnOld H path known ds t → Binds H second_of (flat_map (range_pairs H) (ranges path t u)) (Extends t u)
  ranges-bind root [] true ds t u fit is new old =
      binds-weaker H second_of (flat_map (range_pairs H) (ranges [] t u)) (t ≡ u) (Extends t u) (extends-same t u)
      (alone-binds t u fit (sym is ∙ new))
  ranges-bind root [] false ds t u fit is new old =
      binds-weaker H second_of (flat_map (range_pairs H) (ranges [] t u)) (t ≡ u) (Extends t u) (extends-same t u)
      (alone-binds t u fit (sym old ∙ new))
  ranges-bind root (false ∷ path) known ds t (node l r) fit is new old =
      binds-weaker H second_of (flat_map (range_pairs H) (ranges path t l)) (Extends t l) (Extends t (node l r)) (extends-left t l r)
      (ranges-bind root path known (drop 1 ds) t l fit is new.1 old)
  ranges-bind root (true ∷ path) known ds (node a b) (node l r) fit is new old =
      let inner : List Range = ranges path b r
      in let one : Range = record { old = a; new = l }
      in let both : List (Hashed Beside) = flat_map (range_pairs H) inner ++ flat_map (range_pairs H) (one ∷ [])
      in let joined : flat_map (range_pairs H) (inner ++ one ∷ []) ≡ both = flat_map-append (range_pairs H) inner (one ∷ [])
      in subst (λ (ss : List (Hashed Beside)). Binds H second_of ss (Extends (node a b) (node l r))) (sym joined)
      (binds-weaker H second_of both (Extends b r × (a ≡ l)) (Extends (node a b) (node l r)) (λ known'. extends-right a b l r known'.1 known'.0)
      (binds-both H second_of (flat_map (range_pairs H) inner) (flat_map (range_pairs H) (one ∷ [])) (Extends b r) (a ≡ l)
      (ranges-bind root path false (drop 1 ds) b r fit.1 tt new.1 old.1)
      (λ _. alone-binds a l fit.0 (sym old.0 ∙ new.0))))
  ranges-bind root (turn ∷ path) known ds t u fit is new old = absurd fit
