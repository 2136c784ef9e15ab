-- The string at a node of the tree of a part of a list: at its root, and one turn below it.
use Rattle.std.proofs.Common.{◌≡◌, ◌≢◌, ℕ, suc, ◌+◌, ◌-◌, ◌*◌, ◌<◌, ◌≤◌, List, [], ◌∷◌, ◌++◌, length, take, drop, true, false, get_or, refl, ◌∙◌, ap, arith, Some, None, nat_eq}
use Rattle.std.specs.Int.{bit_at}
use Rattle.std.proofs.lemmas.List.{drop_more}
use Rattle.std.proofs.lemmas.Nat.Bits.{bit_at-lt}
use Rattle.ats_tree.specs.Tree.{Tree, leaf, node, tree_within, tree_of, mth, IsPowerOfTwo}
use Rattle.ats_tree.specs.Paths.{Path, path_of}
use Rattle.ats_tree.specs.Strings.{string_at}
use Rattle.ats_tree.proofs.Trees.{of-one}
use Rattle.ats_tree.proofs.RootLemmas.{part-tree-cut}

-- no leaf has no string
pub string-none : (H : List ℕ → List ℕ) (ds : List (List ℕ)) (path : Path) → length ds ≡ 0 → string_at H (tree_of ds) path ≡ None
unfolding tree_of tree_within
string-none H [] path none = refl
string-none H (d ∷ ds) path none = absurd (omega arith)

-- the tree of one leaf of a list
pub part-leaf : (from n : ℕ) (ds : List (List ℕ)) → n ≡ 1 → from + n ≤ length ds
    → tree_of (take n (drop from ds)) ≡ leaf (get_or ds from [])
part-leaf from n ds one within =
    let less : from < length ds = omega arith in rw (one, drop_more ds from [] less) (of-one (get_or ds from []))

-- at the root no turn is left
at-root : (H : List ℕ → List ℕ) (t : Tree (List ℕ)) (depth turns : ℕ) → depth ≡ 0 → string_at H t (path_of depth turns) ≡ string_at H t []
at-root H t depth turns root = ap (λ d. string_at H t (path_of d turns)) root

pub string-leaf : (H : List ℕ → List ℕ) (from n depth turns : ℕ) (ds : List (List ℕ)) → n ≡ 1 → from + n ≤ length ds → depth ≡ 0
    → string_at H (tree_of (take n (drop from ds))) (path_of depth turns) ≡ Some (0 ∷ get_or ds from [])
string-leaf H from n depth turns ds one within root =
    at-root H _ depth turns root ∙ ap (λ t. string_at H t []) (part-leaf from n ds one within)

pub string-node : (H : List ℕ → List ℕ) (from k n depth turns : ℕ) (ds : List (List ℕ)) → IsPowerOfTwo k → k < n → n ≤ 2 * k
    → from + n ≤ length ds → depth ≡ 0 → string_at H (tree_of (take n (drop from ds))) (path_of depth turns)
    ≡ Some (1 ∷ mth H (take k (drop from ds)) ++ mth H (take (n - k) (drop (from + k) ds)))
string-node H from k n depth turns ds power below largest within root =
    at-root H _ depth turns root ∙ ap (λ t. string_at H t []) (part-tree-cut from k n ds power below largest within)

-- below a leaf there is nothing
pub string-past : (H : List ℕ → List ℕ) (from n depth further turns : ℕ) (ds : List (List ℕ)) → n ≡ 1 → from + n ≤ length ds
    → depth ≡ suc further → string_at H (tree_of (take n (drop from ds))) (path_of depth turns) ≡ None
string-past H from n depth further turns ds one within deep =
    ap (λ t. string_at H t (path_of depth turns)) (part-leaf from n ds one within)
    ∙ ap (λ d. string_at H (leaf (get_or ds from [])) (path_of d turns)) deep

pub string-left : (H : List ℕ → List ℕ) (from k n depth further turns : ℕ) (ds : List (List ℕ)) → IsPowerOfTwo k → k < n → n ≤ 2 * k
    → from + n ≤ length ds → depth ≡ suc further → bit_at turns further ≡ 0
    → string_at H (tree_of (take n (drop from ds))) (path_of depth turns)
    ≡ string_at H (tree_of (take k (drop from ds))) (path_of further turns)
string-left H from k n depth further turns ds power below largest within deep left =
    let whole : Tree (List ℕ) = node (tree_of (take k (drop from ds))) (tree_of (take (n - k) (drop (from + k) ds)))
    in let turn : nat_eq (bit_at turns further) 1 ≡ false = ap (λ b. nat_eq b 1) left
    in ap (λ t. string_at H t (path_of depth turns)) (part-tree-cut from k n ds power below largest within)
    ∙ ap (λ d. string_at H whole (path_of d turns)) deep
    ∙ ap (λ b. string_at H whole (b ∷ path_of further turns)) turn

pub string-right : (H : List ℕ → List ℕ) (from k n depth further turns : ℕ) (ds : List (List ℕ)) → IsPowerOfTwo k → k < n → n ≤ 2 * k
    → from + n ≤ length ds → depth ≡ suc further → bit_at turns further ≢ 0
    → string_at H (tree_of (take n (drop from ds))) (path_of depth turns)
    ≡ string_at H (tree_of (take (n - k) (drop (from + k) ds))) (path_of further turns)
string-right H from k n depth further turns ds power below largest within deep right =
    let whole : Tree (List ℕ) = node (tree_of (take k (drop from ds))) (tree_of (take (n - k) (drop (from + k) ds)))
    in let digit : bit_at turns further ≡ 1 = omega (arith, bit_at-lt turns further)
    in let turn : nat_eq (bit_at turns further) 1 ≡ true = ap (λ b. nat_eq b 1) digit
    in ap (λ t. string_at H t (path_of depth turns)) (part-tree-cut from k n ds power below largest within)
    ∙ ap (λ d. string_at H whole (path_of d turns)) deep
    ∙ ap (λ b. string_at H whole (b ∷ path_of further turns)) turn
