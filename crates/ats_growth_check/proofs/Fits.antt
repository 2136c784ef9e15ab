-- The old tree and the new one along the turns: which parts have one shape, and which are the same.
use Rattle.std.proofs.Common.{◌≡◌, ℕ, ◌+◌, ◌-◌, ◌*◌, ◌^◌, ◌<◌, ◌≤◌, List, [], ◌∷◌, ◌++◌, length, take, drop, true, false, sym, ◌∙◌, ap, ap₂, subst, arith}
use Rattle.std.proofs.lemmas.List.{length-take, length-drop, append_assoc, append-nil, take-take, drop-take}
use Rattle.std.proofs.Math.Seq.{take-length}
use Rattle.ats_tree.specs.Paths.{Path}
use Rattle.ats_tree.specs.Tree.{Tree, node, tree_of}
use Rattle.ats_tree.proofs.Public.{of-cut}
use Rattle.ats_growth_check.proofs.Leads.{Leads, ends, left, right}
use Rattle.ats_growth_check.proofs.Trees.{AreAlike, alike-of, leaves_of}

-- the first tree has the shape of the old one in the second
abbrev pub Fits : Path → Tree (List ℕ) → Tree (List ℕ) → Type 0
Fits [] old new = AreAlike old new
Fits (false ∷ path) old (node l r) = Fits path old l
Fits (true ∷ path) (node a b) (node l r) = AreAlike a l × Fits path b r
Fits (turn ∷ path) old new = ⊥

-- the first tree is the old one in the second
abbrev pub Shares : Path → Tree (List ℕ) → Tree (List ℕ) → Type 0
Shares [] old new = old ≡ new
Shares (false ∷ path) old (node l r) = Shares path old l
Shares (true ∷ path) (node a b) (node l r) = (a ≡ l) × Shares path b r
Shares (turn ∷ path) old new = ⊥

pub fits : {m n : ℕ} {path : Path} → Leads m n path → (xs ys : List (List ℕ)) → length xs ≡ m → length ys ≡ n → Fits path (tree_of xs) (tree_of ys)
fits {m} {n} (ends some one) xs ys old new = let same : length xs ≡ length ys = omega arith in alike-of xs ys same
fits {m} {n} (left {path = path} h some inside long few rest) xs ys old new =
    let long' : 2 ^ h < length ys = omega arith
    in let few' : length ys ≤ 2 * 2 ^ h = omega arith
    in let part : length (take (2 ^ h) ys) ≡ 2 ^ h = omega (arith, length-take (2 ^ h) ys)
    in subst (λ (u : Tree (List ℕ)). Fits (false ∷ path) (tree_of xs) u) (sym (of-cut h ys long' few'))
    (fits rest xs (take (2 ^ h) ys) old part)
fits {m} {n} (right {path = path} h past more few rest) xs ys old new =
    let k : ℕ = 2 ^ h
    in let past' : 2 ^ h < length xs = omega arith
    in let long' : 2 ^ h < length ys = omega arith
    in let few' : length ys ≤ 2 * 2 ^ h = omega arith
    in let few_old : length xs ≤ 2 * 2 ^ h = omega arith
    in let first : length (take (2 ^ h) xs) ≡ length (take (2 ^ h) ys) = omega (arith, length-take (2 ^ h) xs, length-take (2 ^ h) ys)
    in let part : length (drop (2 ^ h) xs) ≡ m - 2 ^ h = omega (arith, length-drop (2 ^ h) xs)
    in let part' : length (drop (2 ^ h) ys) ≡ n - 2 ^ h = omega (arith, length-drop (2 ^ h) ys)
    in subst (λ (t : Tree (List ℕ)). Fits (true ∷ path) t (tree_of ys)) (sym (of-cut h xs past' few_old))
    (subst (λ (u : Tree (List ℕ)). Fits (true ∷ path) (node (tree_of (take (2 ^ h) xs)) (tree_of (drop (2 ^ h) xs))) u) (sym (of-cut h ys long' few'))
    (alike-of (take (2 ^ h) xs) (take (2 ^ h) ys) first, fits rest (drop (2 ^ h) xs) (drop (2 ^ h) ys) part part'))

pub shares : {m n : ℕ} {path : Path} → Leads m n path → (ys : List (List ℕ)) → length ys ≡ n → Shares path (tree_of (take m ys)) (tree_of ys)
shares {m} {n} (ends some one) ys new = ap tree_of (ap (λ k. take k ys) (one ∙ sym new) ∙ take-length ys)
shares {m} {n} (left {path = path} h some inside long few rest) ys new =
    let long' : 2 ^ h < length ys = omega arith
    in let few' : length ys ≤ 2 * 2 ^ h = omega arith
    in let part : length (take (2 ^ h) ys) ≡ 2 ^ h = omega (arith, length-take (2 ^ h) ys)
    in subst (λ (u : Tree (List ℕ)). Shares (false ∷ path) (tree_of (take m ys)) u) (sym (of-cut h ys long' few'))
    (subst (λ (xs : List (List ℕ)). Shares path (tree_of xs) (tree_of (take (2 ^ h) ys))) (take-take m (2 ^ h) ys inside)
    (shares rest (take (2 ^ h) ys) part))
shares {m} {n} (right {path = path} h past more few rest) ys new =
    let old : length (take m ys) ≡ m = omega (arith, length-take m ys)
    in let past' : 2 ^ h < length (take m ys) = omega arith
    in let few_old : length (take m ys) ≤ 2 * 2 ^ h = omega arith
    in let long' : 2 ^ h < length ys = omega arith
    in let few' : length ys ≤ 2 * 2 ^ h = omega arith
    in let inside : 2 ^ h ≤ m = omega arith
    in let split : 2 ^ h + (m - 2 ^ h) ≡ m = omega arith
    in let part : length (drop (2 ^ h) ys) ≡ n - 2 ^ h = omega (arith, length-drop (2 ^ h) ys)
    in let later : drop (2 ^ h) (take m ys) ≡ take (m - 2 ^ h) (drop (2 ^ h) ys) =
    ap (λ k. drop (2 ^ h) (take k ys)) (sym split) ∙ drop-take (2 ^ h) (m - 2 ^ h) ys
    in subst (λ (t : Tree (List ℕ)). Shares (true ∷ path) t (tree_of ys)) (sym (of-cut h (take m ys) past' few_old))
    (subst (λ (u : Tree (List ℕ)). Shares (true ∷ path) (node (tree_of (take (2 ^ h) (take m ys))) (tree_of (drop (2 ^ h) (take m ys)))) u) (sym (of-cut h ys long' few')) (
      ap tree_of (take-take (2 ^ h) m ys inside),
      subst (λ (xs : List (List ℕ)). Shares path (tree_of xs) (tree_of (drop (2 ^ h) ys))) (sym later) (shares rest (drop (2 ^ h) ys) part),
    ))

-- ---- the leaves of the first tree are the first of the second

pub record Extends (old new : Tree (List ℕ)) : Type 0 where
  pub rest : List (List ℕ)
  pub joined : leaves_of new ≡ leaves_of old ++ rest

pub extends-same : (old new : Tree (List ℕ)) → old ≡ new → Extends old new
extends-same old new same = record { rest = []; joined = ap leaves_of (sym same) ∙ sym (append-nil (leaves_of old)) }

pub extends-left : (old l r : Tree (List ℕ)) → Extends old l → Extends old (node l r)
extends-left old l r known = record {
  rest = known.rest ++ leaves_of r;
  joined = ap (λ (ls : List (List ℕ)). ls ++ leaves_of r) known.joined ∙ append_assoc (leaves_of old) known.rest (leaves_of r);
}

pub extends-right : (a b l r : Tree (List ℕ)) → a ≡ l → Extends b r → Extends (node a b) (node l r)
extends-right a b l r same known = record {
  rest = known.rest;
  joined = ap₂ (λ (ls rs : List (List ℕ)). ls ++ rs) (ap leaves_of (sym same)) known.joined ∙ sym (append_assoc (leaves_of a) (leaves_of b) known.rest);
}
