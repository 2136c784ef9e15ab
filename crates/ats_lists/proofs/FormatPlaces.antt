-- Where the strings of a list stand, in either format.
use Rattle.std.proofs.Common.{◌≡◌, ℕ, zero, suc, ◌+◌, ◌*◌, ◌/◌, ◌%◌, ◌^◌, ◌<◌, ◌≤◌, List, length, map, drop, min, refl, ◌∙◌, ap, arith, inl, inr, Option, IsSome, subst}
use Rattle.std.proofs.Math.Nat.{le-min}
use Rattle.std.proofs.Math.Pow.{pow_mono}
use Rattle.std.proofs.lemmas.Bool.{cases_lt, cond-true, cond-false, lt-ltb, le-ltb}
use Rattle.std.proofs.lemmas.List.{length-take, length-drop, length-map}
use Rattle.ats_tree.specs.Tree.{tree_of}
use Rattle.ats_tree.specs.Nodes.{NodeNumbers, by_path}
use Rattle.ats_tree.specs.Paths.{Path, path_of, number_of}
use Rattle.ats_tree.specs.Strings.{string_at}
use Rattle.ats_tree.proofs.Public.{length-path_of, node-ours, node-some, number_of-below}
use Rattle.ats_lists.specs.Blocks.{block}
use Rattle.ats_lists.specs.Chain.{chain_string, IsAtBlock}
use Rattle.ats_lists.specs.Formats.{deepest, list_string}
use Rattle.ats_lists.specs.Leaf.{leaf_bytes}
use Rattle.ats_postings.specs.declared.entry.Entry.{Entry}
use Rattle.ats_lists.specs.declared.format.Format.{Format}
use Rattle.ats_lists.specs.declared.format.Format.TheVariants.{One, Two}
use Rattle.ats_lists.proofs.ChainLaws.{not_some, strings-only}

-- ---- how deep

chain-within : (H : List ℕ → List ℕ) (ds : List (List ℕ)) (depth turns h : ℕ) → length ds ≤ 2 ^ h → IsSome (chain_string H ds depth turns) → depth ≤ min (1 + h) 7
chain-within H ds zero turns h few there = omega arith
chain-within H ds (suc depth) turns h few there =
    let There : Option (List ℕ) → Type 0 = λ o. IsSome o
    in let j : ℕ = turns / 64
    in let path : Path = path_of depth (turns % 64)
    in elim (cases_lt (turns % 64) (2 ^ depth)) [
      | inl low ↦
          let there' : IsSome (string_at H (tree_of (block ds j)) path) = subst There (cond-true _ _ _ (lt-ltb (turns % 64) (2 ^ depth) low)) there
          in let short : length (block ds j) ≤ 2 ^ 6 = omega (arith, length-take 64 (drop (64 * j) ds))
          in let few' : length (block ds j) ≤ 2 ^ h = omega (arith, length-take 64 (drop (64 * j) ds), length-drop (64 * j) ds)
          in let size : length path ≡ depth = length-path_of depth (turns % 64)
          in let low' : length path ≤ h = node-ours H h (block ds j) (by_path path) few' there'
          in let shallow : length path ≤ 6 = node-ours H 6 (block ds j) (by_path path) short there'
          in le-min (omega arith) (omega arith)
      | inr high ↦ absurd (not_some _ (cond-false _ _ _ (le-ltb (turns % 64) (2 ^ depth) high)) there)
    ]

pub list-within : (H : List ℕ → List ℕ) (format : Format) (entries : List Entry) (at : NodeNumbers) (h : ℕ) → length entries ≤ 2 ^ h
    → IsSome (list_string H format entries at) → at.depth ≤ deepest format h
list-within H One entries at h few there =
    omega (
      arith,
      length-path_of at.depth at.turns,
      node-ours H h (map leaf_bytes entries) (by_path (path_of at.depth at.turns)) (omega (arith, few, length-map entries leaf_bytes)) there,
    )
list-within H Two entries at h few there = chain-within H (map leaf_bytes entries) at.depth at.turns h (omega (arith, few, length-map entries leaf_bytes)) there

-- ---- which turns

-- the path of some turns is that of its own number, which is small
pub path-turns : (depth turns : ℕ) → depth ≤ 32 → (t : ℕ) × (t < 2 ^ 32) × (path_of depth t ≡ path_of depth turns)
path-turns depth turns shallow =
    let path : Path = path_of depth turns
    in let size : length path ≡ depth = length-path_of depth turns
    in let short : length path ≤ 32 = omega arith
    in let most : 2 ^ length path ≤ 2 ^ 32 = pow_mono short
    in (number_of path, omega (arith, number_of-below path, most), ap (λ d. path_of d (number_of path)) (omega arith) ∙ (node-some (by_path path)).0)

block-turns : (j depth turns : ℕ) → IsAtBlock j depth turns → turns < 64 * j + 64
block-turns j zero turns is = omega arith
block-turns j (suc depth) turns is =
    let short : length is.0 ≤ 6 = omega (arith, is.1, is.2)
    in let most : 2 ^ length is.0 ≤ 2 ^ 6 = pow_mono short
    in omega (arith, is.3, number_of-below is.0, most)

pub list-turns : (H : List ℕ → List ℕ) (format : Format) (entries : List Entry) (at : NodeNumbers) → length entries ≤ 2 ^ 31
    → IsSome (list_string H format entries at)
    → (turns : ℕ) × (turns < 2 ^ 32) × (list_string H format entries (record { depth = at.depth; turns = turns }) ≡ list_string H format entries at)
list-turns H One entries at few there =
    let deep : at.depth ≤ 31 = list-within H One entries at 31 few there
    in let same = path-turns at.depth at.turns (omega arith)
    in (same.0, same.1, ap (λ path. string_at H (tree_of (map leaf_bytes entries)) path) same.2)
list-turns H Two entries at few there =
    let found = strings-only H (map leaf_bytes entries) at.depth at.turns there
    in (
      at.turns,
      omega (arith, block-turns found.0 at.depth at.turns found.2, found.1, few, length-map entries leaf_bytes),
      refl,
    )
