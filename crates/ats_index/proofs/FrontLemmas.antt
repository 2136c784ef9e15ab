-- The first leaves of a list, shown one after another.
use Rattle.std.proofs.Common.{◌≡◌, ◌<◌, ◌≤◌, ◌+◌, ℕ, List, [], ◌∷◌, ◌++◌, length, map, drop, get_or, Some, None, refl, sym, ap, ◌∙◌, arith, append_assoc, length-append}
use Rattle.std.specs.List.{All}
use Rattle.std.proofs.lemmas.List.Elements.{All-head}
use Rattle.std.proofs.Math.Seq.{get_or-append_seam}
use Rattle.std.proofs.lemmas.List.FromFn.{get_or-map-range_with_len, length-map-range_with_len, map-range_with_len_more}
use Rattle.ats_tree.specs.Shown.{Shown, first_position, first_leaf}
use Rattle.ats_lists.specs.Formats.{first_leaves}
use Rattle.ats_lists.specs.Leaf.{leaf_bytes}
use Rattle.ats_postings.specs.declared.entry.Entry.{Entry}

-- no leaf is left
pub shown_none : (shown : List Shown) → first_position shown ≡ None → shown ≡ []
shown_none [] none = refl
shown_none (s ∷ rest) none = absurd (cc)

-- the first leaf that is left, at its position
pub shown_some : (shown : List Shown) (at : ℕ) → first_position shown ≡ Some at → shown ≡ (at, first_leaf shown) ∷ drop 1 shown
shown_some [] at some = absurd (cc)
shown_some (s ∷ rest) at some = let same : s.0 ≡ at = cc in ap (λ (p : ℕ). (p, s.1) ∷ rest) same

pub first_short : (shown : List Shown) → All (λ s. length s.1 ≤ 127) shown → length (first_leaf shown) ≤ 127
first_short [] short = omega arith
first_short (s ∷ rest) short = All-head (λ (s : Shown). length s.1 ≤ 127) s rest short

module _ (entries : List Entry) where
  -- the leaf at a position, shown
  abbrev pub shown_leaf : ℕ → Shown
  shown_leaf i = (i, get_or (map leaf_bytes entries) i [])

  pub first_length : (n : ℕ) → length (first_leaves entries n) ≡ n
  first_length n = length-map-range_with_len shown_leaf 0 n

  -- one leaf more
  pub first_more : (shown rest : List Shown) (s : Shown) (i : ℕ) → shown ≡ first_leaves entries i ++ s ∷ rest → s ≡ shown_leaf i
      → shown ≡ first_leaves entries (i + 1) ++ rest
  first_more shown rest s i is own =
      is
      ∙ sym (append_assoc (first_leaves entries i) (s ∷ []) rest)
      ∙ ap (λ (one : Shown). (first_leaves entries i ++ one ∷ []) ++ rest) own
      ∙ ap (λ (all : List Shown). all ++ rest) (sym (map-range_with_len_more shown_leaf 0 i i (omega arith)))

  -- after the first leaves comes the next one, if all that is shown are first leaves
  pub first_next : (shown rest : List Shown) (s : Shown) (i : ℕ) → shown ≡ first_leaves entries i ++ s ∷ rest
      → shown ≡ first_leaves entries (length shown) → s ≡ shown_leaf i
  first_next shown rest s i is all =
      let size : length shown ≡ i + length (s ∷ rest) =
      ap (λ (xs : List Shown). length xs) is ∙ length-append (first_leaves entries i) (s ∷ rest) ∙ ap (λ n. n + length (s ∷ rest)) (first_length i) in
      let there : get_or (first_leaves entries i ++ s ∷ rest) i s ≡ s =
      ap (λ n. get_or (first_leaves entries i ++ s ∷ rest) n s) (sym (first_length i)) ∙ get_or-append_seam (first_leaves entries i) s rest s in
      sym there
      ∙ ap (λ (xs : List Shown). get_or xs i s) (sym is ∙ all)
      ∙ get_or-map-range_with_len shown_leaf 0 (length shown) i i s (omega (arith, size)) (omega arith)

  -- no leaf is left after the first ones
  pub ended : (shown left : List Shown) (i : ℕ) → shown ≡ first_leaves entries i ++ left → first_position left ≡ None → length shown ≡ i
  ended shown left i is none =
      ap (λ (xs : List Shown). length xs) is ∙ length-append (first_leaves entries i) left
      ∙ ap (λ (xs : List Shown). length (first_leaves entries i) + length xs) (shown_none left none) ∙ omega (arith, first_length i)

  -- a leaf is left after them
  pub too_many : (shown left : List Shown) (i at : ℕ) → shown ≡ first_leaves entries i ++ left → first_position left ≡ Some at → i < length shown
  too_many shown left i at is some =
      omega (
        arith,
        ap (λ (xs : List Shown). length xs) is,
        length-append (first_leaves entries i) left,
        ap (λ (xs : List Shown). length xs) (shown_some left at some),
        first_length i,
      )
