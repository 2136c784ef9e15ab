-- Trees of byte strings: their leaves, two trees of one shape, and what equal digests say of them.
use Rattle.std.proofs.Common.{◌≡◌, ℕ, zero, suc, ◌^◌, ◌<◌, ◌≤◌, List, [], ◌∷◌, ◌++◌, length, take, drop, map, true, false, Option, refl, sym, ◌∙◌, ap, ap₂, subst, arith, inl, inr}
use Rattle.std.proofs.Math.Nat.{two-pow-succ}
use Rattle.std.proofs.lemmas.Bool.{cases_lt}
use Rattle.std.proofs.lemmas.List.{length-take, length-drop, take-append-drop}
use Rattle.ats_tree.specs.Differences.{Hashed}
use Rattle.ats_tree.specs.Paths.{Path}
use Rattle.ats_tree.specs.Strings.{below, string_at}
use Rattle.ats_tree.specs.Tree.{Tree, empty, leaf, node, tree_within, tree_of, digest_of}
use Rattle.ats_tree.proofs.Public.{below_power, of-within, within-cut, within-suc, parted, Binds, binds-both, binds-moved, binds-weaker, binds-one}
use Rattle.ats_growth_check.specs.Strings.{all_strings}

-- ---- the leaves of a tree

abbrev pub leaves_of : Tree (List ℕ) → List (List ℕ)
leaves_of empty = []
leaves_of (leaf text) = text ∷ []
leaves_of (node left right) = leaves_of left ++ leaves_of right

leaves-within : (h : ℕ) (xs : List (List ℕ)) → length xs ≤ 2 ^ h → leaves_of (tree_within h xs) ≡ xs
unfolding tree_within
leaves-within zero [] few = refl
leaves-within zero (x ∷ []) few = refl
leaves-within zero (x ∷ y ∷ xs) few = absurd (omega arith)
leaves-within (suc h) xs few =
    elim (cases_lt (2 ^ h) (length xs)) [
      | inr short ↦ ap leaves_of (within-suc h xs short) ∙ leaves-within h xs short
      | inl long ↦
          let left : length (take (2 ^ h) xs) ≤ 2 ^ h = omega (arith, length-take (2 ^ h) xs)
          in let right : length (drop (2 ^ h) xs) ≤ 2 ^ h = omega (arith, two-pow-succ h, length-drop (2 ^ h) xs)
          in ap leaves_of (within-cut h xs long)
          ∙ ap₂ (λ (a b : List (List ℕ)). a ++ b) (leaves-within h (take (2 ^ h) xs) left) (leaves-within h (drop (2 ^ h) xs) right)
          ∙ take-append-drop (2 ^ h) xs
    ]

pub leaves-of : (xs : List (List ℕ)) → leaves_of (tree_of xs) ≡ xs
leaves-of xs =
    let few : length xs ≤ 2 ^ length xs = omega (arith, below_power (length xs))
    in ap leaves_of (of-within (length xs) xs few) ∙ leaves-within (length xs) xs few

-- ---- two trees of one shape

abbrev pub AreAlike : Tree (List ℕ) → Tree (List ℕ) → Type 0
AreAlike empty empty = Unit {0}
AreAlike (leaf a) (leaf b) = Unit {0}
AreAlike (node a b) (node c d) = AreAlike a c × AreAlike b d
AreAlike t u = ⊥

alike-within : (h : ℕ) (xs ys : List (List ℕ)) → length xs ≡ length ys → length xs ≤ 2 ^ h → AreAlike (tree_within h xs) (tree_within h ys)
unfolding tree_within
alike-within zero [] [] same few = tt
alike-within zero (x ∷ []) (y ∷ []) same few = tt
alike-within zero xs ys same few = absurd (omega arith)
alike-within (suc h) xs ys same few =
    elim (cases_lt (2 ^ h) (length xs)) [
      | inr short ↦
          let short' : length ys ≤ 2 ^ h = omega arith
          in subst (λ (t : Tree (List ℕ)). AreAlike t (tree_within (suc h) ys)) (sym (within-suc h xs short))
          (subst (λ (u : Tree (List ℕ)). AreAlike (tree_within h xs) u) (sym (within-suc h ys short')) (alike-within h xs ys same short))
      | inl long ↦
          let long' : 2 ^ h < length ys = omega arith
          in let left : length (take (2 ^ h) xs) ≡ length (take (2 ^ h) ys) = omega (arith, length-take (2 ^ h) xs, length-take (2 ^ h) ys)
          in let right : length (drop (2 ^ h) xs) ≡ length (drop (2 ^ h) ys) = omega (arith, length-drop (2 ^ h) xs, length-drop (2 ^ h) ys)
          in let few_left : length (take (2 ^ h) xs) ≤ 2 ^ h = omega (arith, length-take (2 ^ h) xs)
          in let few_right : length (drop (2 ^ h) xs) ≤ 2 ^ h = omega (arith, two-pow-succ h, length-drop (2 ^ h) xs)
          in subst (λ (t : Tree (List ℕ)). AreAlike t (tree_within (suc h) ys)) (sym (within-cut h xs long))
          (subst (λ (u : Tree (List ℕ)). AreAlike (node (tree_within h (take (2 ^ h) xs)) (tree_within h (drop (2 ^ h) xs))) u) (sym (within-cut h ys long'))
          (alike-within h (take (2 ^ h) xs) (take (2 ^ h) ys) left few_left, alike-within h (drop (2 ^ h) xs) (drop (2 ^ h) ys) right few_right))
    ]

pub alike-of : (xs ys : List (List ℕ)) → length xs ≡ length ys → AreAlike (tree_of xs) (tree_of ys)
alike-of xs ys same =
    let few : length xs ≤ 2 ^ length xs = omega (arith, below_power (length xs))
    in let few' : length ys ≤ 2 ^ length xs = omega (arith, few)
    in subst (λ (t : Tree (List ℕ)). AreAlike t (tree_of ys)) (sym (of-within (length xs) xs few))
    (subst (λ (u : Tree (List ℕ)). AreAlike (tree_within (length xs) xs) u) (sym (of-within (length xs) ys few'))
    (alike-within (length xs) xs ys same few))

-- ---- digests

pub length-digest : (H : List ℕ → List ℕ) → ((m : List ℕ) → length (H m) ≡ 32) → (t : Tree (List ℕ)) → length (digest_of H t) ≡ 32
length-digest H sized empty = sized _
length-digest H sized (leaf text) = sized _
length-digest H sized (node left right) = sized _

-- two strings of nodes that are equal have equal digests of both parts
pub same-parts : (H : List ℕ → List ℕ) (a b c d : List ℕ) → length a ≡ length c → 1 ∷ a ++ b ≡ 1 ∷ c ++ d → (a ≡ c) × (b ≡ d)
same-parts H a b c d sized same = let joined : a ++ b ≡ c ++ d = cc in parted a c b d sized joined

-- a node with this left part whose string has the node's digest: its digests are those of both parts, and the left part
-- shows A
pub left-binds : (H : List ℕ → List ℕ) → ((m : List ℕ) → length (H m) ≡ 32) → (l r : Tree (List ℕ)) (w y : List ℕ) → length w ≡ 32
    → H (1 ∷ w ++ y) ≡ digest_of H (node l r) → (ss : List (Hashed Path)) (A : Type 0) → (w ≡ digest_of H l → Binds H (string_at H l) ss A)
    → Binds H (string_at H (node l r)) (record { place = []; text = 1 ∷ w ++ y } ∷ map (below false) ss) ((y ≡ digest_of H r) × A)
left-binds H sized l r w y long root ss A inner =
    let one : Hashed Path = record { place = []; text = 1 ∷ w ++ y }
    in let Parts : Type 0 = (digest_of H l ≡ w) × (digest_of H r ≡ y)
    in binds-weaker H (string_at H (node l r)) (one ∷ map (below false) ss) (Parts × A) ((y ≡ digest_of H r) × A) (λ both. (sym both.0.1, both.1))
    (binds-both H (string_at H (node l r)) (one ∷ []) (map (below false) ss) Parts A
    (binds-one H (string_at H (node l r)) one (1 ∷ digest_of H l ++ digest_of H r) Parts refl root
    (λ same. same-parts H (digest_of H l) (digest_of H r) w y (length-digest H sized l ∙ sym long) same))
    (λ parts. binds-moved H (λ (path : Path). false ∷ path) (string_at H (node l r)) ss A (inner (sym parts.0))))

-- the same of a right part
pub right-binds : (H : List ℕ → List ℕ) → ((m : List ℕ) → length (H m) ≡ 32) → (l r : Tree (List ℕ)) (w y : List ℕ) → length y ≡ 32
    → H (1 ∷ y ++ w) ≡ digest_of H (node l r) → (ss : List (Hashed Path)) (A : Type 0) → (w ≡ digest_of H r → Binds H (string_at H r) ss A)
    → Binds H (string_at H (node l r)) (record { place = []; text = 1 ∷ y ++ w } ∷ map (below true) ss) ((y ≡ digest_of H l) × A)
right-binds H sized l r w y long root ss A inner =
    let one : Hashed Path = record { place = []; text = 1 ∷ y ++ w }
    in let Parts : Type 0 = (digest_of H l ≡ y) × (digest_of H r ≡ w)
    in binds-weaker H (string_at H (node l r)) (one ∷ map (below true) ss) (Parts × A) ((y ≡ digest_of H l) × A) (λ both. (sym both.0.0, both.1))
    (binds-both H (string_at H (node l r)) (one ∷ []) (map (below true) ss) Parts A
    (binds-one H (string_at H (node l r)) one (1 ∷ digest_of H l ++ digest_of H r) Parts refl root
    (λ same. same-parts H (digest_of H l) (digest_of H r) y w (length-digest H sized l ∙ sym long) same))
    (λ parts. binds-moved H (λ (path : Path). true ∷ path) (string_at H (node l r)) ss A (inner (sym parts.1))))

-- two trees of one shape with equal digests are equal, unless there is a collision
pub alike-binds : (H : List ℕ → List ℕ) → ((m : List ℕ) → length (H m) ≡ 32) → (t u : Tree (List ℕ)) → AreAlike t u
    → digest_of H t ≡ digest_of H u → Binds H (string_at H u) (all_strings H t) (t ≡ u)
alike-binds H sized empty empty alike same = refl
alike-binds H sized (leaf a) (leaf b) alike same =
    binds-one H (string_at H (leaf b)) (record { place = []; text = 0 ∷ a }) (0 ∷ b) (leaf a ≡ leaf b) refl same
    (λ equal. let e : a ≡ b = cc in ap (λ (text : List ℕ). leaf text) e)
alike-binds H sized (node a b) (node c d) alike same =
    let own : Path → Option (List ℕ) = string_at H (node c d)
    in let one : Hashed Path = record { place = []; text = 1 ∷ digest_of H a ++ digest_of H b }
    in let left : List (Hashed Path) = map (below false) (all_strings H a)
    in let right : List (Hashed Path) = map (below true) (all_strings H b)
    in let Parts : Type 0 = (digest_of H c ≡ digest_of H a) × (digest_of H d ≡ digest_of H b)
    in binds-weaker H own (one ∷ left ++ right) (Parts × ((a ≡ c) × (b ≡ d))) (node a b ≡ node c d) (λ both. ap₂ node both.1.0 both.1.1)
    (binds-both H own (one ∷ []) (left ++ right) Parts ((a ≡ c) × (b ≡ d))
    (binds-one H own one (1 ∷ digest_of H c ++ digest_of H d) Parts refl same
    (λ equal. same-parts H (digest_of H c) (digest_of H d) (digest_of H a) (digest_of H b) (length-digest H sized c ∙ sym (length-digest H sized a)) equal))
    (λ parts. binds-both H own left right (a ≡ c) (b ≡ d)
    (binds-moved H (λ (path : Path). false ∷ path) own (all_strings H a) (a ≡ c) (alike-binds H sized a c alike.0 (sym parts.0)))
    (λ _. binds-moved H (λ (path : Path). true ∷ path) own (all_strings H b) (b ≡ d) (alike-binds H sized b d alike.1 (sym parts.1)))))
alike-binds H sized t u alike same = absurd alike
