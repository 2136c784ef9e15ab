-- The ranges whose digests form both roots, cut by cut, and the documents that they have.
use Rattle.std.proofs.Common.{◌≡◌, ◌∙◌, ℕ, ◌+◌, ◌-◌, ◌*◌, ◌^◌, ◌<◌, ◌≤◌, List, [], ◌∷◌, ◌++◌, length, take, drop, true, false, refl, sym, ap, ap₂, subst, arith}
use Rattle.std.proofs.Math.Seq.{take-length}
use Rattle.std.proofs.lemmas.Nat.{pow_pos}
use Rattle.ats_tree.specs.Paths.{Path}
use Rattle.ats_tree.specs.Tree.{Tree, node, tree_of}
use Rattle.ats_tree.proofs.Public.{of-cut, part-tree-cut}
use Rattle.ats_growth_check.specs.Shape.{turns}
use Rattle.ats_growth_check.specs.Strings.{Range, AreRangesOf, part_of, ranges}
use Rattle.ats_growth_check.proofs.Leads.{Leads, ends, left, right, leads, turns-end, turns-left, turns-right}

module _ (old new : List (List ℕ)) where
  abbrev all_ranges : List Range
  all_ranges = ranges (turns (length old) (length new)) (tree_of old) (tree_of new)

  -- ---- the cuts

  pub ranges_all : length old ≡ length new → all_ranges ≡ record { old = tree_of old; new = tree_of new } ∷ []
  ranges_all same = ap (λ (path : Path). ranges path (tree_of old) (tree_of new)) (turns-end (length old) (length new) (omega (arith, same)))

  pub ranges_left : (h : ℕ) → 2 ^ h < length new → length new ≤ 2 * 2 ^ h → length old ≤ 2 ^ h
      → all_ranges ≡ ranges (turns (length old) (2 ^ h)) (tree_of old) (tree_of (take (2 ^ h) new))
  ranges_left h long few inside =
      ap₂ (λ (path : Path) (u : Tree (List ℕ)). ranges path (tree_of old) u) (turns-left h (length old) (length new) inside long few) (of-cut h new long few)

  pub ranges_right : (h : ℕ) → length new ≤ 2 * 2 ^ h → 2 ^ h < length old → length old < length new
      → all_ranges
      ≡ ranges (turns (length old - 2 ^ h) (length new - 2 ^ h)) (tree_of (drop (2 ^ h) old)) (tree_of (drop (2 ^ h) new))
      ++ record { old = tree_of (take (2 ^ h) old); new = tree_of (take (2 ^ h) new) } ∷ []
  ranges_right h few past more =
      let path : Path = turns (length old - 2 ^ h) (length new - 2 ^ h) in
      ap (λ (whole : Path). ranges whole (tree_of old) (tree_of new)) (turns-right h (length old) (length new) past more few)
      ∙ ap₂ (λ (t u : Tree (List ℕ)). ranges (true ∷ path) t u) (of-cut h old past (omega (arith, few, more))) (of-cut h new (omega (arith, past, more)) few)

  -- ---- the documents

  -- one more range, of the k documents before the others
  ranges-more : (from k end : ℕ) → 1 ≤ k → (rs : List Range) → AreRangesOf old new (from + k) end rs
      → AreRangesOf old new from end (rs ++ record { old = part_of from k old; new = part_of from k new } ∷ [])
  ranges-more from k end some [] ends_there =
      let many : end - from ≡ k = omega (arith, ends_there) in
      (from, omega (arith, some, ends_there), ap (λ (n : ℕ). record { old = part_of from n old; new = part_of from n new }) (sym many), refl)
  ranges-more from k end some (range ∷ rs) are = (are.0, are.1, are.2, ranges-more from k are.0 some rs are.3)

  documents-of : {m n : ℕ} {path : Path} → Leads m n path → (from : ℕ) → from + m ≤ length old → from + n ≤ length new
      → AreRangesOf old new from (from + m) (ranges path (part_of from m old) (part_of from n new))
  documents-of {m} {n} (ends some one) from inside_old inside_new =
      let many : from + m - from ≡ m = omega arith in (
        from,
        omega (arith, some),
        ap₂ (λ (i j : ℕ). record { old = part_of from i old; new = part_of from j new }) (sym many) (sym (many ∙ one)),
        refl,
      )
  documents-of {m} {n} (left {path = path} h some inside long few rest) from inside_old inside_new =
      let cut = part-tree-cut from (2 ^ h) n new (h, refl) long few inside_new in
      subst (λ (u : Tree (List ℕ)). AreRangesOf old new from (from + m) (ranges (false ∷ path) (part_of from m old) u)) (sym cut)
      (documents-of rest from inside_old (omega (arith, inside_new, long)))
  documents-of {m} {n} (right {path = path} h past more few rest) from inside_old inside_new =
      let k : ℕ = 2 ^ h in
      let old_cut = part-tree-cut from k m old (h, refl) past (omega (arith, more, few)) inside_old in
      let new_cut = part-tree-cut from k n new (h, refl) (omega (arith, past, more)) few inside_new in
      let rs : List Range = ranges path (part_of (from + k) (m - k) old) (part_of (from + k) (n - k) new) in
      let same_end : from + k + (m - k) ≡ from + m = omega (arith, past) in
      let others : AreRangesOf old new (from + k) (from + m) rs =
      subst (λ (end : ℕ). AreRangesOf old new (from + k) end rs) same_end
      (documents-of rest (from + k) (omega (arith, past, inside_old)) (omega (arith, past, more, inside_new))) in
      subst (λ (t : Tree (List ℕ)). AreRangesOf old new from (from + m) (ranges (true ∷ path) t (part_of from n new))) (sym old_cut)
      (subst (λ (u : Tree (List ℕ)). AreRangesOf old new from (from + m) (ranges (true ∷ path) (node (part_of from k old) (part_of (from + k) (m - k) old)) u)) (sym new_cut)
      (ranges-more from k (from + m) (pow_pos h) rs others))

  pub ranges_documents : 1 ≤ length old → length old ≤ length new → AreRangesOf old new 0 (length old) all_ranges
  ranges_documents some within =
      let all = documents-of (leads (length old) (length new) some within) 0 (omega arith) (omega arith) in
      let none : 0 + length old ≡ length old = omega arith in
      let path : Path = turns (length old) (length new) in
      subst (λ (end : ℕ). AreRangesOf old new 0 end all_ranges) none
      (subst (λ (t : Tree (List ℕ)). AreRangesOf old new 0 (0 + length old) (ranges path t (tree_of new))) (ap tree_of (take-length old))
      (subst (λ (u : Tree (List ℕ)). AreRangesOf old new 0 (0 + length old) (ranges path (part_of 0 (length old) old) u)) (ap tree_of (take-length new)) all))
