-- The shown blocks of a list: what they need, and their roots.
use Rattle.std.proofs.Common.{◌≡◌, ℕ, zero, suc, ◌+◌, ◌-◌, ◌*◌, ◌<◌, ◌≤◌, List, [], ◌∷◌, ◌++◌, length, map, take, drop, refl, sym, ◌∙◌, ap, arith, inl, inr, nat_lt, if◌then◌else◌}
use Rattle.std.specs.Int.{div_ceil}
use Rattle.std.specs.List.{range_with_len, sum_by}
use Rattle.std.proofs.lemmas.List.Sums.{sum_by-append, sum_by-cons}
use Rattle.std.proofs.lemmas.Bool.{cond-true, cond-false, cases_lt, lt-ltb, le-ltb}
use Rattle.std.proofs.lemmas.List.{take_all}
use Rattle.ats_tree.specs.Tree.{tree_of}
use Rattle.ats_tree.specs.Shown.{Shown, positions_of, places}
use Rattle.ats_tree.specs.Part.{shown_from, IsPart}
use Rattle.ats_tree.specs.Rebuild.{need, inner_nodes}
use Rattle.ats_tree.proofs.Public.{length-places, full-need, places-from, from-from}
use Rattle.ats_lists.specs.Blocks.{blocks_in, items_in}
use Rattle.ats_lists.specs.ChainBound.{chain_inner_nodes}
use Rattle.ats_lists.specs.Inner.BlockRoots.{AreBlockRoots}
use Rattle.ats_lists.specs.ChainPrefix.{block_tree, block_need, block_root}
use Rattle.ats_lists.proofs.Fronts.{front-places, front-length, front-gone, range-more}

-- the leaves of a list that are shown are its first ones
abbrev pub IsShownFront : List Shown → Type 0
IsShownFront shown = positions_of shown ≡ range_with_len 0 (length shown)

-- a block that is all shown needs no digest
pub full-block : (f j : ℕ) (shown : List Shown) → IsShownFront shown → 64 * j + 64 ≤ length shown → need (block_tree f shown j) ≡ 0
full-block f j shown is full =
    let k : ℕ = length shown
    in let n : ℕ = items_in f j
    in let few : length (places (64 * j) n shown) ≤ k - 64 * j = omega (arith, length-places (64 * j) n shown)
    in full-need (k - 64 * j) (places (64 * j) n shown) few (front-places k (64 * j) n (k - 64 * j) shown is refl)

-- how many digests the blocks before block j need
abbrev pub taken : ℕ → List Shown → ℕ → ℕ
taken f shown j = if nat_lt j (blocks_in (length shown)) then 0 else block_need f shown

pub taken-none : (f j : ℕ) (shown : List Shown) → j < blocks_in (length shown) → taken f shown j ≡ 0
taken-none f j shown less = cond-true _ _ _ (lt-ltb j (blocks_in (length shown)) less)

pub taken-all : (f j : ℕ) (shown : List Shown) → blocks_in (length shown) ≤ j → taken f shown j ≡ block_need f shown
taken-all f j shown past = cond-false _ _ _ (le-ltb j (blocks_in (length shown)) past)

pub taken-next : (f j : ℕ) (shown : List Shown) → IsShownFront shown → j < blocks_in (length shown)
    → taken f shown (j + 1) ≡ need (block_tree f shown j)
taken-next f j shown is less =
    elim (cases_lt (j + 1) (blocks_in (length shown))) [
      | inl more ↦
          let full : 64 * j + 64 ≤ length shown = omega arith
          in taken-none f (j + 1) shown more ∙ sym (full-block f j shown is full)
      | inr end ↦
          let last : blocks_in (length shown) - 1 ≡ j = omega arith
          in taken-all f (j + 1) shown end ∙ ap (λ i. need (block_tree f shown i)) last
    ]

-- what the block that is rebuilt next gives and leaves
pub record IsNextRoot (H : List ℕ → List ℕ) (f j : ℕ) (shown : List Shown) (ds : List (List ℕ)) (x : List ℕ)
    (shown' : List Shown) (ds' : List (List ℕ)) : Type 0 where
  pub value : x ≡ block_root H f shown ds j
  pub leaves_left : shown' ≡ shown_from (64 * (j + 1)) shown
  pub digests_left : ds' ≡ drop (taken f shown (j + 1)) ds
  pub enough : taken f shown (j + 1) ≤ length ds

-- the places of a block hold the leaves that are left
pub block-left : (f j n : ℕ) (shown shown₁ : List Shown) → shown₁ ≡ shown_from (64 * j) shown → n ≡ items_in f j
    → tree_of (places (64 * j) n shown₁) ≡ block_tree f shown j
block-left f j n shown shown₁ left count =
    let low : 64 * j ≤ 64 * j = omega arith in rw (left, count, places-from (64 * j) (items_in f j) (64 * j) shown low) refl

pub next-root : (H : List ℕ → List ℕ) (f j n : ℕ) (shown shown₁ shown₂ : List Shown) (ds ds₁ ds₂ : List (List ℕ)) (x : List ℕ)
    → IsShownFront shown → length shown ≤ f → j < blocks_in (length shown) → n ≡ items_in f j
    → shown₁ ≡ shown_from (64 * j) shown → ds₁ ≡ drop (taken f shown j) ds
    → IsPart H (64 * j) n shown₁ ds₁ x shown₂ ds₂ → IsNextRoot H f j shown ds x shown₂ ds₂
next-root H f j n shown shown₁ shown₂ ds ds₁ ds₂ x is within less count left digests part =
    let t : tree_of (places (64 * j) n shown₁) ≡ block_tree f shown j = block-left f j n shown shown₁ left count
    in let all : ds₁ ≡ ds = digests ∙ ap (λ m. drop m ds) (taken-none f j shown less)
    in let needs : need (tree_of (places (64 * j) n shown₁)) ≡ taken f shown (j + 1) = ap need t ∙ sym (taken-next f j shown is less)
    in let size : length ds₁ ≡ length ds = ap length all
    in let back : 64 * j ≤ 64 * j + n = omega arith
    in record {
      value = part.value ∙ rw (t, all) refl;
      leaves_left = part.leaves_left ∙ ap (shown_from (64 * j + n)) left ∙ from-from (64 * j) (64 * j + n) shown back ∙ past;
      digests_left = part.digests_left ∙ rw (needs, all) refl;
      enough = omega (arith, part.enough);
    }
  where
    -- past the list's end no leaf is left
    past : shown_from (64 * j + n) shown ≡ shown_from (64 * (j + 1)) shown
    past =
        elim (cases_lt f (64 * j + 64)) [
          | inl end ↦
              let gone : 0 + length shown ≤ 64 * j + n = omega arith
              in let gone' : 0 + length shown ≤ 64 * (j + 1) = omega arith
              in front-gone 0 (length shown) (64 * j + n) shown is gone ∙ sym (front-gone 0 (length shown) (64 * (j + 1)) shown is gone')
          | inr more ↦ ap (λ b. shown_from b shown) (omega arith)
        ]

-- a block that lacks digests is the last shown one
pub next-short : (f j n : ℕ) (shown shown₁ : List Shown) (ds ds₁ : List (List ℕ))
    → IsShownFront shown → j < blocks_in (length shown) → n ≡ items_in f j
    → shown₁ ≡ shown_from (64 * j) shown → ds₁ ≡ drop (taken f shown j) ds
    → length ds₁ < need (tree_of (places (64 * j) n shown₁)) → length ds < block_need f shown
next-short f j n shown shown₁ ds ds₁ is less count left digests lacks =
    let t : tree_of (places (64 * j) n shown₁) ≡ block_tree f shown j = block-left f j n shown shown₁ left count
    in let all : ds₁ ≡ ds = digests ∙ ap (λ m. drop m ds) (taken-none f j shown less)
    in let needs : need (tree_of (places (64 * j) n shown₁)) ≡ taken f shown (j + 1) = ap need t ∙ sym (taken-next f j shown is less)
    in let size : length ds₁ ≡ length ds = ap length all
    in elim (cases_lt (j + 1) (blocks_in (length shown))) [
      | inl more ↦ absurd (omega (arith, taken-none f (j + 1) shown more))
      | inr end ↦ omega (arith, taken-all f (j + 1) shown end)
    ]

-- all roots are rebuilt
pub all-roots : (H : List ℕ → List ℕ) (f j : ℕ) (shown shown₁ : List Shown) (ds ds₁ roots : List (List ℕ))
    → IsShownFront shown → j ≡ blocks_in (length shown) → length roots ≡ j
    → shown₁ ≡ shown_from (64 * j) shown → ds₁ ≡ drop (taken f shown j) ds → taken f shown j ≤ length ds
    → take j roots ≡ map (block_root H f shown ds) (range_with_len 0 j)
    → AreBlockRoots H f shown ds roots shown₁ ds₁
all-roots H f j shown shown₁ ds ds₁ roots is end size left digests enough right =
    let past : blocks_in (length shown) ≤ j = omega arith
    in let needs : taken f shown j ≡ block_need f shown = taken-all f j shown past
    in let gone : 0 + length shown ≤ 64 * j = omega arith
    in let whole : length roots ≤ j = omega arith
    in let count : j ≡ blocks_in (length shown) - 0 = omega arith
    in record {
      enough = omega arith;
      value = sym (take_all j roots whole) ∙ right ∙ ap (λ n. map (block_root H f shown ds) (range_with_len 0 n)) count;
      leaves_left = left ∙ front-gone 0 (length shown) (64 * j) shown is gone;
      digests_left = digests ∙ ap (λ m. drop m ds) needs;
    }

-- leaves at the first k positions are the first ones
pub shown-front : (k : ℕ) (shown : List Shown) → positions_of shown ≡ range_with_len 0 k → IsShownFront shown
shown-front k shown is = is ∙ ap (range_with_len 0) (sym (front-length 0 k shown is))

pub blocks-div_ceil : (k : ℕ) (shown : List Shown) {b : ℕ} → positions_of shown ≡ range_with_len 0 k → b ≡ div_ceil k 64 → b ≡ blocks_in (length shown)
blocks-div_ceil k shown is count =
    let size : length shown ≡ k = front-length 0 k shown is in omega arith

-- ---- steps

-- how many nodes with two parts the blocks before block j hash
abbrev pub inner_before : ℕ → List Shown → ℕ → ℕ
inner_before f shown j = sum_by (λ i. inner_nodes (block_tree f shown i)) (range_with_len 0 j)

-- numbers from `from` on: one more is added to their sum
sum-next : (count : ℕ → ℕ) (from n j : ℕ) → from + n ≡ j
    → sum_by count (range_with_len from (n + 1)) ≡ sum_by count (range_with_len from n) + count j
sum-next count from n j at =
    let more : range_with_len from (n + 1) ≡ range_with_len from n ++ j ∷ [] = range-more from n j at
    in ap (sum_by count) more ∙ sum_by-append count (range_with_len from n) (j ∷ []) ∙ ap (λ m. sum_by count (range_with_len from n) + m) (sum_by-cons count j [] ∙ omega arith)

sum-front : (count : ℕ → ℕ) (from n m : ℕ) → n ≤ m → sum_by count (range_with_len from n) ≤ sum_by count (range_with_len from m)
sum-front count from zero m le = omega arith
sum-front count from (suc n) zero le = absurd (omega arith)
sum-front count from (suc n) (suc m) le =
    let le' : n ≤ m = omega arith
    in omega (
      arith,
      sum-front count (from + 1) n m le',
      sum_by-cons count from (range_with_len (from + 1) n),
      sum_by-cons count from (range_with_len (from + 1) m),
    )

pub inner-next : (f j n : ℕ) (shown shown₁ : List Shown) → shown₁ ≡ shown_from (64 * j) shown → n ≡ items_in f j
    → inner_before f shown (j + 1) ≡ inner_before f shown j + inner_nodes (tree_of (places (64 * j) n shown₁))
inner-next f j n shown shown₁ left count =
    sum-next (λ i. inner_nodes (block_tree f shown i)) 0 j j (omega arith)
    ∙ ap (λ t. inner_before f shown j + inner_nodes t) (sym (block-left f j n shown shown₁ left count))

pub inner-all : (f j : ℕ) (shown : List Shown) → j ≤ blocks_in (length shown) → inner_before f shown j ≤ chain_inner_nodes f shown
inner-all f j shown le =
    let le' : j ≤ blocks_in (length shown) - 0 = omega arith
    in sum-front (λ i. inner_nodes (block_tree f shown i)) 0 j (blocks_in (length shown) - 0) le'
