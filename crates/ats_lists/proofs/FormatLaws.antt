-- The laws that lists keep in either format: what their own first entries give, and that strings have tags.
use Rattle.std.proofs.Common.{◌≡◌, ℕ, zero, suc, ◌+◌, ◌-◌, ◌*◌, ◌/◌, ◌%◌, ◌^◌, ◌≤◌, List, [], ◌∷◌, ◌++◌, length, map, drop, Bool, true, false, refl, ◌∙◌, ap, arith, Option, Some, None, subst, All, IfSome, get_or, nat_eq, nat_lt, if◌then◌else◌}
use Rattle.std.specs.List.{range_with_len}
use Rattle.std.proofs.lemmas.Bool.{cond-false, le-ltb}
use Rattle.std.proofs.lemmas.List.{length-take, length-drop, length-map, take_all}
use Rattle.std.proofs.lemmas.List.Elements.{All-append, All-cons, All-map, All-nil}
use Rattle.ats_tree.specs.Tree.{Tree, empty, leaf, node, tree_of, digest_of, mth}
use Rattle.ats_tree.specs.Shown.{Shown, places}
use Rattle.ats_tree.specs.Rebuild.{need}
use Rattle.ats_tree.specs.Elided.{elided_digests, elided_of, shown_with}
use Rattle.ats_tree.specs.Nodes.{NodeNumbers, by_path, numbers_of}
use Rattle.ats_tree.specs.Paths.{Path, path_of}
use Rattle.ats_tree.specs.Strings.{strings, string_at}
use Rattle.ats_tree.specs.Differences.{Hashed, moved}
use Rattle.ats_tree.proofs.Public.{length-places, length-mth, place-of, part-shape, part-own, part-elided, elided-sized, elided-first-own, elided-rebuilds, front-need, string-none}
use Rattle.ats_lists.specs.Blocks.{blocks_in, block, blocks_from}
use Rattle.ats_lists.specs.Chain.{link, no_block, chain_digest, chain_from, chain_link, chain_string}
use Rattle.ats_lists.specs.Formats.{list_root, list_string, prefix_root, prefix_strings, prefix_digests, first_leaves}
use Rattle.ats_lists.specs.Leaf.{leaf_bytes}
use Rattle.ats_postings.specs.declared.entry.Entry.{Entry}
use Rattle.ats_lists.specs.declared.format.Format.{Format}
use Rattle.ats_lists.specs.declared.format.Format.TheVariants.{One, Two}
use Rattle.ats_lists.proofs.Fronts.{front-places, front-within}
use Rattle.ats_lists.proofs.ChainLaws.{elided-few, first-own, first-rebuilds}
use Rattle.ats_lists.proofs.FormatLemmas.{numbers-own}

-- ---- the digests that the first entries need

pub front-few : (H : List ℕ → List ℕ) (format : Format) (entries : List Entry) (k : ℕ) → 1 ≤ k → k ≤ length entries → length entries ≤ 65536
    → length (prefix_digests H format entries k) ≤ 16
front-few H One entries k some within few =
    let leaves : List (List ℕ) = map leaf_bytes entries
    in let shown : List Shown = first_leaves entries k
    in let os : List (Option (List ℕ)) = places 0 (length leaves) shown
    in let short : length os ≤ 2 ^ 16 = omega (arith, length-places 0 (length leaves) shown, length-map entries leaf_bytes)
    in let count : k ≡ k - 0 = omega arith
    in omega (
      arith,
      part-elided H 0 (length leaves) shown leaves refl,
      front-need 16 k os some short (front-places k 0 (length leaves) k shown (place-of leaves (range_with_len 0 k)) count),
    )
front-few H Two entries k some within few =
    let leaves : List (List ℕ) = map leaf_bytes entries
    in let within' : k ≤ length leaves = omega (arith, length-map entries leaf_bytes)
    in omega (arith, elided-few H leaves k some within')

-- the digest of a block has 32 bytes, and so have the zero bytes after the last one
chain-sized : (H : List ℕ → List ℕ) → ((m : List ℕ) → length (H m) ≡ 32) → (roots : List (List ℕ)) → length (chain_digest H roots no_block) ≡ 32
chain-sized H sized [] = refl
chain-sized H sized (root ∷ roots) = sized (link root (chain_digest H roots no_block))

pub root-sized : (H : List ℕ → List ℕ) → ((m : List ℕ) → length (H m) ≡ 32) → (format : Format) (entries : List Entry) → length (list_root H format entries) ≡ 32
root-sized H sized One entries = length-mth H sized (map leaf_bytes entries)
root-sized H sized Two entries =
    let leaves : List (List ℕ) = map leaf_bytes entries
    in chain-sized H sized (map (λ i. mth H (block leaves i)) (blocks_from (length leaves) 0))

after-sized : (follows : Bool) (d : List ℕ) → length d ≡ 32 → All (λ e. length e ≡ 32) (if follows then d ∷ [] else [])
after-sized false d is = All-nil _
after-sized true d is = All-cons (λ e. length e ≡ 32) d [] is (All-nil _)

pub front-sized : (H : List ℕ → List ℕ) → ((m : List ℕ) → length (H m) ≡ 32) → (format : Format) (entries : List Entry) (k : ℕ)
    → All (λ d. length d ≡ 32) (prefix_digests H format entries k)
front-sized H sized One entries k =
    let leaves : List (List ℕ) = map leaf_bytes entries
    in elided-sized H sized (tree_of (places 0 (length leaves) (first_leaves entries k))) (tree_of leaves)
front-sized H sized Two entries k =
    let leaves : List (List ℕ) = map leaf_bytes entries
    in let last : List (List ℕ) = block leaves (blocks_in k - 1)
    in let positions : List ℕ = range_with_len 0 (k - 64 * (blocks_in k - 1))
    in let next : List ℕ = chain_from H leaves (blocks_in k)
    in All-append (λ d. length d ≡ 32) (elided_digests H last positions) (if nat_lt (64 * blocks_in k) (length leaves) then next ∷ [] else [])
    (elided-sized H sized (tree_of (places 0 (length last) (shown_with last positions))) (tree_of last))
    (after-sized (nat_lt (64 * blocks_in k) (length leaves)) next (chain-sized H sized (map (λ i. mth H (block leaves i)) (blocks_from (length leaves) (blocks_in k)))))

-- ---- what they rebuild

-- by as many leaves as the list has entries
rebuilds-leaves : (H : List ℕ → List ℕ) (format : Format) (entries : List Entry) (k : ℕ) → 1 ≤ k → k ≤ length (map leaf_bytes entries)
    → prefix_root H format (length (map leaf_bytes entries)) (first_leaves entries k) (prefix_digests H format entries k) ≡ Some (list_root H format entries)
rebuilds-leaves H One entries k some within =
    let leaves : List (List ℕ) = map leaf_bytes entries
    in let some' : 1 ≤ length leaves = omega arith
    in let inside : 0 + k ≤ length leaves = omega arith
    in elided-rebuilds H leaves (range_with_len 0 k) some' (front-within 0 k (length leaves) inside)
rebuilds-leaves H Two entries k some within = first-rebuilds H (map leaf_bytes entries) k some within

pub front-rebuilds : (H : List ℕ → List ℕ) (format : Format) (entries : List Entry) (k : ℕ) → 1 ≤ k → k ≤ length entries
    → prefix_root H format (length entries) (first_leaves entries k) (prefix_digests H format entries k) ≡ Some (list_root H format entries)
front-rebuilds H format entries k some within =
    let size : length (map leaf_bytes entries) ≡ length entries = length-map entries leaf_bytes
    in let within' : k ≤ length (map leaf_bytes entries) = omega arith
    in let Rebuilds : ℕ → Type 0 = λ n. prefix_root H format n (first_leaves entries k) (prefix_digests H format entries k) ≡ Some (list_root H format entries)
    in subst Rebuilds size (rebuilds-leaves H format entries k some within')

-- the strings of one tree, by its leaves
tree-own : (H : List ℕ → List ℕ) (entries : List Entry) (k : ℕ)
    → All (λ s. list_string H One entries s.place ≡ Some s.text)
    (prefix_strings H One (length (map leaf_bytes entries)) (first_leaves entries k) (prefix_digests H One entries k))
tree-own H entries k =
    let leaves : List (List ℕ) = map leaf_bytes entries
    in let shown : List Shown = first_leaves entries k
    in let t : Tree (Option (List ℕ)) = tree_of (places 0 (length leaves) shown)
    in let es : List (List ℕ) = elided_of H t (tree_of leaves)
    in let few : length es ≤ need t = omega (arith, part-elided H 0 (length leaves) shown leaves refl)
    in let each : All (λ s. string_at H (tree_of leaves) s.place ≡ Some s.text) (strings H t es) =
    elided-first-own H t (tree_of leaves) es (part-shape 0 (length leaves) shown leaves refl)
    (part-own leaves leaves (range_with_len 0 k) 0 (length leaves) refl (λ i less. ap (λ n. get_or leaves n []) (omega arith)))
    (take_all (need t) es few)
    in let Own : Hashed NodeNumbers → Type 0 = λ s. list_string H One entries s.place ≡ Some s.text
    in All-map Own (moved numbers_of) (map (moved by_path) (strings H t es))
    (All-map (λ s. Own (moved numbers_of s)) (moved by_path) (strings H t es) (λ i d less.
    numbers-own H entries (by_path (get_or (strings H t es) i d).place) ∙ each i d less))

-- by as many leaves as the list has entries
own-leaves : (H : List ℕ → List ℕ) (format : Format) (entries : List Entry) (k : ℕ) → 1 ≤ k → k ≤ length (map leaf_bytes entries)
    → All (λ s. list_string H format entries s.place ≡ Some s.text)
    (prefix_strings H format (length (map leaf_bytes entries)) (first_leaves entries k) (prefix_digests H format entries k))
own-leaves H One entries k some within = tree-own H entries k
own-leaves H Two entries k some within = first-own H (map leaf_bytes entries) k some within

pub front-own : (H : List ℕ → List ℕ) (format : Format) (entries : List Entry) (k : ℕ) → 1 ≤ k → k ≤ length entries
    → All (λ s. list_string H format entries s.place ≡ Some s.text)
    (prefix_strings H format (length entries) (first_leaves entries k) (prefix_digests H format entries k))
front-own H format entries k some within =
    let size : length (map leaf_bytes entries) ≡ length entries = length-map entries leaf_bytes
    in let within' : k ≤ length (map leaf_bytes entries) = omega arith
    in let Owns : ℕ → Type 0 = λ n. All (λ s. list_string H format entries s.place ≡ Some s.text) (prefix_strings H format n (first_leaves entries k) (prefix_digests H format entries k))
    in subst Owns size (own-leaves H format entries k some within')

-- ---- tags

abbrev IsTagged : List ℕ → Type 0
IsTagged text = (tag : ℕ) × (rest : List ℕ) × (tag ≤ 3) × (text ≡ tag ∷ rest)

node-tagged : (H : List ℕ → List ℕ) (tree : Tree (List ℕ)) (path : Path) → IfSome (string_at H tree path) IsTagged
node-tagged H empty path = tt
node-tagged H (leaf d) [] = (0, d, omega arith, refl)
node-tagged H (leaf d) (turn ∷ path) = tt
node-tagged H (node l r) [] = (1, digest_of H l ++ digest_of H r, omega arith, refl)
node-tagged H (node l r) (false ∷ path) = node-tagged H l path
node-tagged H (node l r) (true ∷ path) = node-tagged H r path

some-tagged : (there : Bool) (o : Option (List ℕ)) → IfSome o IsTagged → IfSome (if there then o else None) IsTagged
some-tagged false o is = tt
some-tagged true o is = is

chain-tagged : (H : List ℕ → List ℕ) (ds : List (List ℕ)) (depth turns : ℕ) → IfSome (chain_string H ds depth turns) IsTagged
chain-tagged H ds zero turns =
    let j : ℕ = turns / 64
    in let root : List ℕ = mth H (block ds j)
    in let next : List ℕ = chain_from H ds (j + 1)
    in some-tagged (nat_eq (turns % 64) 0) (chain_link H ds j)
    (some-tagged (nat_lt j (blocks_in (length ds))) (Some (link root next)) (3, root ++ next, omega arith, refl))
chain-tagged H ds (suc depth) turns =
    let tree : Tree (List ℕ) = tree_of (block ds (turns / 64))
    in let path : Path = path_of depth (turns % 64)
    in some-tagged (nat_lt (turns % 64) (2 ^ depth)) (string_at H tree path) (node-tagged H tree path)

pub list-tagged : (H : List ℕ → List ℕ) (format : Format) (entries : List Entry) (at : NodeNumbers) → IfSome (list_string H format entries at) IsTagged
list-tagged H One entries at = node-tagged H (tree_of (map leaf_bytes entries)) (path_of at.depth at.turns)
list-tagged H Two entries at = chain-tagged H (map leaf_bytes entries) at.depth at.turns

-- ---- a list without entries

none-if : (there : Bool) (o : Option (List ℕ)) → o ≡ None → (if there then o else None) ≡ None
none-if false o none = refl
none-if true o none = none

chain-empty : (H : List ℕ → List ℕ) (depth turns : ℕ) → chain_string H [] depth turns ≡ None
chain-empty H zero turns =
    let past : blocks_in 0 ≤ turns / 64 = omega arith
    in none-if (nat_eq (turns % 64) 0) (chain_link H [] (turns / 64)) (cond-false _ _ _ (le-ltb (turns / 64) (blocks_in 0) past))
chain-empty H (suc depth) turns =
    let leaves : List (List ℕ) = []
    in let j : ℕ = turns / 64
    in let none : length (block leaves j) ≡ 0 = omega (arith, length-take 64 (drop (64 * j) leaves), length-drop (64 * j) leaves)
    in none-if (nat_lt (turns % 64) (2 ^ depth)) (string_at H (tree_of (block leaves j)) (path_of depth (turns % 64)))
    (string-none H (block leaves j) (path_of depth (turns % 64)) none)

pub list-empty : (H : List ℕ → List ℕ) (format : Format) (at : NodeNumbers) → list_string H format [] at ≡ None
list-empty H One at = string-none H [] (path_of at.depth at.turns) refl
list-empty H Two at = chain-empty H at.depth at.turns
