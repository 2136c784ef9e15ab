-- The depth and the turns of nodes.
use Rattle.std.proofs.Common.{◌≡◌, ℕ, zero, suc, ◌+◌, ◌*◌, ◌/◌, ◌%◌, ◌^◌, ◌<◌, ◌≤◌, List, [], ◌∷◌, length, take, drop, map, Bool, true, false, ◌&&◌, cond, refl, sym, ◌∙◌, ap, ap₂, arith, inl, inr, Option, Some, None, All, IsSome, nat_eq, subst}
use Rattle.std.specs.Int.{bit_at}
use Rattle.std.proofs.Math.Nat.{two-pow-succ, mod-eq_of_lt, mod-one}
use Rattle.std.proofs.Math.Arith.{mod-mul}
use Rattle.std.proofs.Math.Pow.{pow_mono}
use Rattle.std.proofs.lemmas.Nat.{pow_pos}
use Rattle.std.proofs.lemmas.Nat.Bits.{bit_at-lt}
use Rattle.std.proofs.lemmas.Bool.{cond-true, cond-false, cases_lt, cases_eq, cases_Bool, eq-eqb, ne_eqb}
use Rattle.std.proofs.lemmas.List.Elements.{All-append, All-map, All-nil, All-cons}
use Rattle.ats_tree.specs.Nodes.{Node, by_path, depth_of, turns_of, IsNodeAt, NodeNumbers, numbers_of}
use Rattle.ats_tree.specs.Paths.{Path, path_of, number_of}
use Rattle.ats_tree.specs.Tree.{Tree, node, tree_within}
use Rattle.ats_tree.specs.Shown.{Shown, places}
use Rattle.ats_tree.specs.Rebuild.{is_bare, need, tree_of_places}
use Rattle.ats_tree.specs.Differences.{Hashed, moved}
use Rattle.ats_tree.specs.Strings.{below, strings, string_at, node_string, node_strings}
use Rattle.ats_tree.proofs.Trees.{within-cut, within-suc, of-within}
use Rattle.ats_tree.proofs.ShownPlaces.{length-places}

-- ---- numbers of paths

pub length-path_of : (depth turns : ℕ) → length (path_of depth turns) ≡ depth
length-path_of zero turns = refl
length-path_of (suc depth) turns = ap suc (length-path_of depth turns)

pub number_of-below : (path : Path) → number_of path < 2 ^ length path
number_of-below [] = omega arith
number_of-below (false ∷ path) = omega (arith, two-pow-succ (length path), number_of-below path)
number_of-below (true ∷ path) = omega (arith, two-pow-succ (length path), number_of-below path)

-- one binary digit, as the number that it adds
digit-is : (b k : ℕ) → b < 2 → cond (nat_eq b 1) (2 ^ k) 0 ≡ b * 2 ^ k
digit-is b k less =
    elim (cases_eq b 1) [
      | inl one ↦
          let is : b * 2 ^ k ≡ 2 ^ k = rw one (omega arith) in cond-true _ _ _ (eq-eqb b 1 one) ∙ sym is
      | inr other ↦
          let none : b ≡ 0 = omega arith
          in let is : b * 2 ^ k ≡ 0 = rw none (omega arith)
          in cond-false _ _ _ (ne_eqb b 1 other) ∙ sym is
    ]

-- the number of a path that is cut from a number is the lowest digits of that number
pub number_of-path_of : (depth turns : ℕ) → number_of (path_of depth turns) ≡ turns % 2 ^ depth
number_of-path_of zero turns = sym (mod-one turns)
number_of-path_of (suc depth) turns =
    let digit : cond (nat_eq (bit_at turns depth) 1) (2 ^ length (path_of depth turns)) 0 ≡ bit_at turns depth * 2 ^ depth =
    ap (λ n. cond (nat_eq (bit_at turns depth) 1) (2 ^ n) 0) (length-path_of depth turns)
    ∙ digit-is (bit_at turns depth) depth (bit_at-lt turns depth)
    in let low : turns % (2 * 2 ^ depth) ≡ (turns / 2 ^ depth % 2) * 2 ^ depth + turns % 2 ^ depth =
    mod-mul turns (omega arith) (pow_pos depth)
    in let twice : 2 ^ suc depth ≡ 2 * 2 ^ depth = omega (arith, two-pow-succ depth)
    in rw (digit, number_of-path_of depth turns, twice) (sym low)

-- paths of one length with one number are one path
pub same_path : (p q : Path) → length p ≡ length q → number_of p ≡ number_of q → p ≡ q
same_path [] [] len num = refl
same_path [] (b ∷ q) len num = absurd (omega arith)
same_path (a ∷ p) [] len num = absurd (omega arith)
same_path (false ∷ p) (false ∷ q) len num =
    let len' : length p ≡ length q = omega arith
    in let num' : number_of p ≡ number_of q = omega arith
    in ap (λ r. false ∷ r) (same_path p q len' num')
same_path (true ∷ p) (true ∷ q) len num =
    let len' : length p ≡ length q = omega arith
    in let size : 2 ^ length p ≡ 2 ^ length q = ap (λ n. 2 ^ n) len'
    in let num' : number_of p ≡ number_of q = omega arith
    in ap (λ r. true ∷ r) (same_path p q len' num')
same_path (true ∷ p) (false ∷ q) len num =
    let len' : length p ≡ length q = omega arith
    in let size : 2 ^ length p ≡ 2 ^ length q = ap (λ n. 2 ^ n) len'
    in absurd (omega (arith, number_of-below q))
same_path (false ∷ p) (true ∷ q) len num =
    let len' : length p ≡ length q = omega arith
    in let size : 2 ^ length p ≡ 2 ^ length q = ap (λ n. 2 ^ n) len'
    in absurd (omega (arith, number_of-below p))

pub node-some : (node : Node) → IsNodeAt node (depth_of node) (turns_of node)
node-some (by_path path) = (
  same_path (path_of (length path) (number_of path)) path (length-path_of (length path) (number_of path))
      (number_of-path_of (length path) (number_of path) ∙ mod-eq_of_lt (number_of-below path)),
  number_of-below path,
)

pub node-only : (node : Node) (depth turns : ℕ) → IsNodeAt node depth turns → (depth ≡ depth_of node) × (turns ≡ turns_of node)
node-only (by_path path) depth turns is = (
  sym (length-path_of depth turns) ∙ ap length is.0,
  sym (mod-eq_of_lt is.1) ∙ sym (number_of-path_of depth turns) ∙ ap number_of is.0,
)

pub node-fits : (node : Node) → depth_of node ≤ 32 → turns_of node < 2 ^ 32
node-fits (by_path path) short = let most : 2 ^ length path ≤ 2 ^ 32 = pow_mono short in omega (arith, number_of-below path)

-- a node is where its two numbers lead
pub numbers-lead : (node : Node) → by_path (path_of (depth_of node) (turns_of node)) ≡ node
numbers-lead (by_path path) = ap by_path (node-some (by_path path)).0

-- two numbers are those of the node to which they lead, if the turns have no digit above the depth
pub numbers-back : (depth turns : ℕ) → turns < 2 ^ depth
    → numbers_of (by_path (path_of depth turns)) ≡ (let at : NodeNumbers = record { depth = depth; turns = turns } in at)
numbers-back depth turns inside =
    ap₂ (λ d t. let at : NodeNumbers = record { depth = d; turns = t } in at)
    (length-path_of depth turns) (number_of-path_of depth turns ∙ mod-eq_of_lt inside)

-- ---- how deep nodes are

-- a node with two parts has one turn more above it than its parts have
ours-node : (H : List ℕ → List ℕ) (h : ℕ) (l r : Tree (List ℕ)) (path : Path)
    → ((p : Path) → IsSome (string_at H l p) → length p ≤ h) → ((p : Path) → IsSome (string_at H r p) → length p ≤ h)
    → IsSome (string_at H (node l r) path) → length path ≤ suc h
ours-node H h l r [] left right there = omega arith
ours-node H h l r (false ∷ path) left right there = omega (arith, left path there)
ours-node H h l r (true ∷ path) left right there = omega (arith, right path there)

ours-within : (H : List ℕ → List ℕ) (h : ℕ) (ds : List (List ℕ)) (path : Path) → IsSome (string_at H (tree_within h ds) path) → length path ≤ h
unfolding tree_within
ours-within H zero [] path there = absurd (cc)
ours-within H zero (d ∷ ds) [] there = omega arith
ours-within H zero (d ∷ ds) (turn ∷ path) there = absurd (cc)
ours-within H (suc h) ds path there =
    let Found : Tree (List ℕ) → Type 0 = λ t. IsSome (string_at H t path)
    in elim (cases_lt (2 ^ h) (length ds)) [
      | inl long ↦
          ours-node H h _ _ path (ours-within H h (take (2 ^ h) ds)) (ours-within H h (drop (2 ^ h) ds))
          (subst Found (within-cut h ds long) there)
      | inr few ↦ omega (arith, ours-within H h ds path (subst Found (within-suc h ds few) there))
    ]

pub node-ours : (H : List ℕ → List ℕ) (h : ℕ) (ds : List (List ℕ)) (node : Node) → length ds ≤ 2 ^ h
    → IsSome (node_string H ds node) → depth_of node ≤ h
node-ours H h ds (by_path path) few there = ours-within H h ds path (subst (λ t. IsSome (string_at H t path)) (of-within h ds few) there)

-- the strings of a node with two parts have one turn more than those of the parts
theirs-node : (H : List ℕ → List ℕ) (h : ℕ) (l r : Tree (Option (List ℕ))) (ds : List (List ℕ))
    → ((es : List (List ℕ)) → All (λ s. length s.place ≤ h) (strings H l es))
    → ((es : List (List ℕ)) → All (λ s. length s.place ≤ h) (strings H r es))
    → All (λ s. length s.place ≤ suc h) (strings H (node l r) ds)
theirs-node H h l r ds left right =
    let Short : Hashed Path → Type 0 = λ s. length s.place ≤ suc h
    in let deeper : (turn : Bool) (ss : List (Hashed Path)) → All (λ s. length s.place ≤ h) ss → All Short (map (below turn) ss) =
    λ turn ss all. All-map Short (below turn) ss (λ k d less. omega (arith, all k d less))
    in elim (cases_Bool (is_bare l && is_bare r)) [
      | inl bare ↦ subst (All Short) (sym (cond-true _ _ _ bare)) (All-nil Short)
      | inr shows ↦
          subst (All Short) (sym (cond-false _ _ _ shows))
          (All-cons Short _ _ (omega arith)
          (All-append Short _ _ (deeper false _ (left (take (need l) ds))) (deeper true _ (right (drop (need l) ds)))))
    ]

pub theirs-within : (H : List ℕ → List ℕ) (h : ℕ) (os : List (Option (List ℕ))) (ds : List (List ℕ))
    → All (λ s. length s.place ≤ h) (strings H (tree_within h os) ds)
unfolding tree_within
theirs-within H zero [] ds = All-nil _
theirs-within H zero (None ∷ os) ds = All-nil _
theirs-within H zero (Some x ∷ os) ds =
    let Short : Hashed Path → Type 0 = λ s. length s.place ≤ 0
    in let here : Hashed Path = record { place = []; text = 0 ∷ x }
    in let short : length here.place ≤ 0 = omega arith
    in All-cons Short here [] short (All-nil Short)
theirs-within H (suc h) os ds =
    let Listed : Tree (Option (List ℕ)) → Type 0 = λ t. All (λ s. length s.place ≤ suc h) (strings H t ds)
    in elim (cases_lt (2 ^ h) (length os)) [
      | inl long ↦
          subst Listed (sym (within-cut h os long))
          (theirs-node H h (tree_within h (take (2 ^ h) os)) (tree_within h (drop (2 ^ h) os)) ds
          (theirs-within H h (take (2 ^ h) os)) (theirs-within H h (drop (2 ^ h) os)))
      | inr few ↦
          subst Listed (sym (within-suc h os few)) (λ k d less. omega (arith, theirs-within H h os ds k d less))
    ]

pub node-theirs : (H : List ℕ → List ℕ) (h n : ℕ) (shown : List Shown) (ds : List (List ℕ)) → n ≤ 2 ^ h
    → All (λ s. depth_of s.place ≤ h) (node_strings H n shown ds)
node-theirs H h n shown ds few =
    let short : length (places 0 n shown) ≤ 2 ^ h = omega (arith, length-places 0 n shown)
    in let Listed : Tree (Option (List ℕ)) → Type 0 = λ t. All (λ s. length s.place ≤ h) (strings H t ds)
    in let Shallow : Hashed Node → Type 0 = λ s. depth_of s.place ≤ h
    in All-map Shallow (moved by_path) (strings H (tree_of_places n shown) ds)
    (subst Listed (sym (of-within h (places 0 n shown) short)) (theirs-within H h (places 0 n shown) ds))
