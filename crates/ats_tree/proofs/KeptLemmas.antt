-- The digests of all nodes of a tree: how many there are, where they begin, and where those of the parts are.
use Rattle.std.proofs.Common.{◌≡◌, ℕ, zero, suc, ◌+◌, ◌-◌, ◌*◌, ◌/◌, ◌%◌, ◌^◌, ◌<◌, ◌≤◌, List, [], ◌∷◌, ◌++◌, length, take, drop, get_or, refl, sym, ◌∙◌, ap, ap₂, arith, inl, inr, Some}
use Rattle.std.specs.List.{All, slice_get}
use Rattle.std.proofs.Math.ListN.{set}
use Rattle.std.proofs.Math.Nat.{two-pow-succ}
use Rattle.std.proofs.Math.Seq.{take-length, take-append_seam, drop-append_seam}
use Rattle.std.proofs.lemmas.Bool.{cases_lt}
use Rattle.std.proofs.lemmas.Nat.{pow_pos}
use Rattle.std.proofs.lemmas.List.{append-nil, drop_more, length-take, length-drop, length-append, take_all, take-take, get_or-take, get_or-drop}
use Rattle.std.proofs.lemmas.List.Elements.{All-append, All-nil, All-cons}
use Rattle.ats_tree.specs.Tree.{Tree, empty, leaf, node, tree_within, tree_of, digest_of, mth, IsPowerOfTwo}
use Rattle.ats_tree.specs.Kept.{digests_of, kept_digests, nodes_in, IsNodeList}
use Rattle.ats_tree.specs.Paths.{Path, path_of}
use Rattle.ats_tree.specs.Strings.{string_at}
use Rattle.ats_tree.proofs.Trees.{below_power, within-cut, within-suc, of-within, of-cut, of-one}
use Rattle.ats_tree.proofs.RootLemmas.{part-cut, part-tree-cut}
use Rattle.ats_tree.proofs.TurnLemmas.{string-node}

-- the first digest is that of the tree
first-of : (H : List ℕ → List ℕ) (t : Tree (List ℕ)) (d other : List ℕ) → 0 < length (digests_of H t)
    → d ≡ get_or (digests_of H t) 0 other → d ≡ digest_of H t
first-of H empty d other some is = absurd (omega arith)
first-of H (leaf x) d other some is = is
first-of H (node l r) d other some is = is

pub kept-first : (H : List ℕ → List ℕ) (leaves ds : List (List ℕ)) (d other : List ℕ) → 0 < length ds → d ≡ get_or ds 0 other
    → ds ≡ kept_digests H leaves → d ≡ mth H leaves
kept-first H leaves ds d other some is same = first-of H (tree_of leaves) d other (rw same at some) (rw same at is)

-- ---- one leaf, and two parts

pub kept-one : (H : List ℕ → List ℕ) (d : List ℕ) → kept_digests H (d ∷ []) ≡ mth H (d ∷ []) ∷ []
kept-one H d = rw (of-one d) refl

-- a node, its left part, its right part
pub kept-node : (H : List ℕ → List ℕ) (t l r : Tree (List ℕ)) → t ≡ node l r
    → digests_of H t ≡ digest_of H t ∷ (digests_of H l ++ digests_of H r)
kept-node H t l r is =
    let both : List (List ℕ) = digests_of H l ++ digests_of H r
    in ap (digests_of H) is ∙ ap (λ d. d ∷ both) (sym (ap (digest_of H) is))

kept-part-one : (H : List ℕ → List ℕ) (from n : ℕ) (ds : List (List ℕ)) → n ≡ 1 → from + n ≤ length ds
    → kept_digests H (take n (drop from ds)) ≡ mth H (take n (drop from ds)) ∷ []
kept-part-one H from n ds one within =
    let less : from < length ds = omega arith in rw (one, drop_more ds from [] less) (kept-one H (get_or ds from []))

kept-part-cut : (H : List ℕ → List ℕ) (from k n : ℕ) (ds : List (List ℕ)) → IsPowerOfTwo k → k < n → n ≤ 2 * k → from + n ≤ length ds
    → kept_digests H (take n (drop from ds)) ≡ mth H (take n (drop from ds))
    ∷ (kept_digests H (take k (drop from ds)) ++ kept_digests H (take (n - k) (drop (from + k) ds)))
kept-part-cut H from k n ds power below largest within = kept-node H _ _ _ (part-tree-cut from k n ds power below largest within)

-- ---- how many there are, each of 32 bytes

nodes-within : {X : Type 0} (h : ℕ) (xs : List X) → 1 ≤ length xs → length xs ≤ 2 ^ h → nodes_in (tree_within h xs) + 1 ≡ 2 * length xs
unfolding tree_within
nodes-within zero [] some short = absurd (omega arith)
nodes-within zero (x ∷ []) some short = refl
nodes-within zero (x ∷ y ∷ xs) some short = absurd (omega arith)
nodes-within (suc h) xs some short =
    elim (cases_lt (2 ^ h) (length xs)) [
      | inl long ↦
          let power : 0 < 2 ^ h = pow_pos h
          in let many : length (take (2 ^ h) xs) ≡ 2 ^ h = omega (arith, length-take (2 ^ h) xs)
          in let others : length (drop (2 ^ h) xs) + 2 ^ h ≡ length xs = omega (arith, length-drop (2 ^ h) xs)
          in let left : nodes_in (tree_within h (take (2 ^ h) xs)) + 1 ≡ 2 * length (take (2 ^ h) xs) =
          nodes-within h (take (2 ^ h) xs) (omega arith) (omega arith)
          in let right : nodes_in (tree_within h (drop (2 ^ h) xs)) + 1 ≡ 2 * length (drop (2 ^ h) xs) =
          nodes-within h (drop (2 ^ h) xs) (omega arith) (omega (arith, two-pow-succ h))
          in rw (within-cut h xs long) (omega arith)
      | inr few ↦ rw (within-suc h xs few) (nodes-within h xs some few)
    ]

-- a tree of n leaves has 2 * n - 1 nodes
pub nodes-of : {X : Type 0} (xs : List X) → 1 ≤ length xs → nodes_in (tree_of xs) + 1 ≡ 2 * length xs
nodes-of xs some =
    let by_length : length xs ≤ 2 ^ length xs = omega (arith, below_power (length xs))
    in rw (of-within (length xs) xs by_length) (nodes-within (length xs) xs some by_length)

-- each has a digest
pub length-digests : (H : List ℕ → List ℕ) (t : Tree (List ℕ)) → length (digests_of H t) ≡ nodes_in t
length-digests H empty = refl
length-digests H (leaf d) = refl
length-digests H (node l r) =
    omega (arith, length-append (digests_of H l) (digests_of H r), length-digests H l, length-digests H r)

pub length-kept : (H : List ℕ → List ℕ) (leaves : List (List ℕ)) → 1 ≤ length leaves
    → length (kept_digests H leaves) + 1 ≡ 2 * length leaves
length-kept H leaves some = omega (arith, length-digests H (tree_of leaves), nodes-of leaves some)

-- it has the size of a digest
abbrev pub HasSize : List ℕ → Type 0
HasSize d = length d ≡ 32

sized-of : (H : List ℕ → List ℕ) → ((m : List ℕ) → HasSize (H m)) → (t : Tree (List ℕ)) → All HasSize (digests_of H t)
sized-of H sized empty = All-nil HasSize
sized-of H sized (leaf d) = All-cons HasSize (H (0 ∷ d)) [] (sized _) (All-nil HasSize)
sized-of H sized (node l r) =
    All-cons HasSize (digest_of H (node l r)) (digests_of H l ++ digests_of H r) (sized _)
    (All-append HasSize (digests_of H l) (digests_of H r) (sized-of H sized l) (sized-of H sized r))

pub sized-kept : (H : List ℕ → List ℕ) → ((m : List ℕ) → length (H m) ≡ 32) → (leaves : List (List ℕ))
    → All (λ d. length d ≡ 32) (kept_digests H leaves)
sized-kept H sized leaves = sized-of H sized (tree_of leaves)

pub is_node_list : (H : List ℕ → List ℕ) → ((m : List ℕ) → HasSize (H m)) → (leaves ds : List (List ℕ)) → 1 ≤ length leaves
    → length leaves ≤ 2 ^ 31 → ds ≡ kept_digests H leaves → IsNodeList ds
is_node_list H sized leaves ds some few same =
    let count : length (kept_digests H leaves) + 1 ≡ 2 * length leaves = length-kept H leaves some
    in rw same (record { sized = sized-kept H sized leaves; few = omega arith; odd = omega arith })

-- ---- how they are put in their places

-- the one node's own
filled : (own : List (List ℕ)) (d : List ℕ) → length own ≡ 1 → set own 0 d ≡ d ∷ []
filled [] d alone = absurd (omega arith)
filled (z ∷ []) d alone = refl
filled (z ∷ y ∷ own) d alone = absurd (omega arith)

-- of one leaf
pub fill-leaf : (H : List ℕ → List ℕ) (from n : ℕ) (ds own rest : List (List ℕ)) (d : List ℕ) → n ≡ 1 → from + n ≤ length ds
    → d ≡ mth H (take n (drop from ds)) → length own ≡ 1 → length rest ≡ 0
    → set own 0 d ++ rest ≡ kept_digests H (take n (drop from ds))
fill-leaf H from n ds own [] d one within value alone none =
    append-nil (set own 0 d) ∙ filled own d alone ∙ ap (λ (x : List ℕ). x ∷ []) value ∙ sym (kept-part-one H from n ds one within)
fill-leaf H from n ds own (_ ∷ _) d one within value alone none = absurd (omega arith)

part-some : (from n : ℕ) (ds : List (List ℕ)) → 1 ≤ n → from + n ≤ length ds → 1 ≤ length (take n (drop from ds))
part-some from n ds some within = omega (arith, length-take n (drop from ds), length-drop from ds)

-- a part's digests begin with that of its tree
part-begins : (H : List ℕ → List ℕ) (from n : ℕ) (ds part : List (List ℕ)) (other : List ℕ) → 1 ≤ n → from + n ≤ length ds
    → part ≡ kept_digests H (take n (drop from ds)) → get_or part 0 other ≡ mth H (take n (drop from ds))
part-begins H from n ds part other some within same =
    let leaves : List (List ℕ) = take n (drop from ds)
    in let many : 0 < length part = omega (arith, ap length same, length-kept H leaves (part-some from n ds some within))
    in kept-first H leaves part _ other many refl same

-- of two parts, after the node's own
pub fill-node : (H : List ℕ → List ℕ) (from k n : ℕ) (ds own left right : List (List ℕ)) (d x y : List ℕ)
    → IsPowerOfTwo k → k < n → n ≤ 2 * k → from + n ≤ length ds → length own ≡ 1
    → d ≡ H (1 ∷ get_or left 0 x ++ get_or right 0 y)
    → left ≡ kept_digests H (take k (drop from ds)) → right ≡ kept_digests H (take (n - k) (drop (from + k) ds))
    → set own 0 d ++ (left ++ right) ≡ kept_digests H (take n (drop from ds))
fill-node H from k n ds own left right d x y power below largest within alone is is_left is_right =
    let one : get_or left 0 x ≡ mth H (take k (drop from ds)) = part-begins H from k ds left x (omega arith) (omega arith) is_left
    in let other : get_or right 0 y ≡ mth H (take (n - k) (drop (from + k) ds)) =
    part-begins H (from + k) (n - k) ds right y (omega arith) (omega arith) is_right
    in let value : d ≡ mth H (take n (drop from ds)) =
    is ∙ ap₂ (λ (a b : List ℕ). H (1 ∷ a ++ b)) one other ∙ sym (part-cut H from k n ds power below largest within)
    in ap (λ (z : List (List ℕ)). z ++ (left ++ right)) (filled own d alone)
    ∙ ap₂ (λ (z : List ℕ) (both : List (List ℕ)). z ∷ both) value (ap₂ ◌++◌ is_left is_right)
    ∙ sym (kept-part-cut H from k n ds power below largest within)

-- ---- where the parts are

left-part : (ds a b : List (List ℕ)) (d : List ℕ) (k : ℕ) → ds ≡ d ∷ (a ++ b) → length a + 1 ≡ 2 * k → take (2 * k - 1) (drop 1 ds) ≡ a
left-part ds a b d k is count =
    let size : 2 * k - 1 ≡ length a = omega arith in rw (is, size) (take-append_seam a b)

right-rest : (ds a b : List (List ℕ)) (d : List ℕ) (k : ℕ) → ds ≡ d ∷ (a ++ b) → length a + 1 ≡ 2 * k → drop (2 * k) ds ≡ b
right-rest ds a b d k is count =
    let size : 2 * k ≡ suc (length a) = omega arith in rw (is, size) (drop-append_seam a b)

right-part : (ds a b : List (List ℕ)) (d : List ℕ) (k : ℕ) → ds ≡ d ∷ (a ++ b) → length a + 1 ≡ 2 * k
    → take (length ds - 2 * k) (drop (2 * k) ds) ≡ b
right-part ds a b d k is count =
    let rest : drop (2 * k) ds ≡ b = right-rest ds a b d k is count
    in let few : length b ≤ length ds - 2 * k = omega (arith, length-drop (2 * k) ds, ap length rest)
    in rw rest (take_all (length ds - 2 * k) b few)

module _ (H : List ℕ → List ℕ) (from k n : ℕ) (leaves ds : List (List ℕ)) (power : IsPowerOfTwo k) (below : k < n) (largest : n ≤ 2 * k)
    (within : from + n ≤ length leaves) (same : ds ≡ kept_digests H (take n (drop from leaves))) where
  abbrev pub left_kept : List (List ℕ)
  left_kept = kept_digests H (take k (drop from leaves))

  abbrev pub right_kept : List (List ℕ)
  right_kept = kept_digests H (take (n - k) (drop (from + k) leaves))

  two-parts : ds ≡ mth H (take n (drop from leaves)) ∷ (left_kept ++ right_kept)
  two-parts = same ∙ kept-part-cut H from k n leaves power below largest within

  left-count : length left_kept + 1 ≡ 2 * k
  left-count =
      let size : length (take k (drop from leaves)) ≡ k = omega (arith, length-take k (drop from leaves), length-drop from leaves)
      in let some : 1 ≤ length (take k (drop from leaves)) = omega arith
      in omega (arith, length-kept H (take k (drop from leaves)) some)

  -- the digests of the left part
  pub left-of-kept : take (2 * k - 1) (drop 1 ds) ≡ left_kept
  left-of-kept = left-part ds left_kept right_kept _ k two-parts left-count

  -- the digests of the right part
  pub right-of-kept : take (length ds - 2 * k) (drop (2 * k) ds) ≡ right_kept
  right-of-kept = right-part ds left_kept right_kept _ k two-parts left-count

  -- the digests of the two parts make the string at the root
  pub string-of-kept : (depth turns : ℕ) (x y : List ℕ) → length ds + 1 ≡ 2 * n → depth ≡ 0
      → string_at H (tree_of (take n (drop from leaves))) (path_of depth turns) ≡ Some (1 ∷ get_or ds 1 x ++ get_or ds (2 * k) y)
  string-of-kept depth turns x y nodes root =
      let one : List (List ℕ) = take (2 * k - 1) (drop 1 ds)
      in let other : List (List ℕ) = take (length ds - 2 * k) (drop (2 * k) ds)
      in let one_some : 0 < length one = omega (arith, length-take (2 * k - 1) (drop 1 ds), length-drop 1 ds)
      in let other_some : 0 < length other = omega (arith, length-take (length ds - 2 * k) (drop (2 * k) ds), length-drop (2 * k) ds)
      in let one_begins : 0 < 2 * k - 1 = omega arith
      in let other_begins : 0 < length ds - 2 * k = omega arith
      in let first : 2 * k ≡ 2 * k + 0 = omega arith
      in let left : get_or ds 1 x ≡ mth H (take k (drop from leaves)) =
      kept-first H _ one _ x one_some
      (sym (get_or-drop 1 ds 0 x) ∙ sym (get_or-take (2 * k - 1) (drop 1 ds) 0 x one_begins)) left-of-kept
      in let right : get_or ds (2 * k) y ≡ mth H (take (n - k) (drop (from + k) leaves)) =
      kept-first H _ other _ y other_some
      (ap (λ i. get_or ds i y) first ∙ sym (get_or-drop (2 * k) ds 0 y)
      ∙ sym (get_or-take (length ds - 2 * k) (drop (2 * k) ds) 0 y other_begins)) right-of-kept
      in string-node H from k n depth turns leaves power below largest within root
      ∙ ap₂ (λ (a b : List ℕ). Some (1 ∷ a ++ b)) (sym left) (sym right)

-- ---- the digests before a place stay

pub front-front : (a b c : List (List ℕ)) → take (length a) b ≡ a → take (length b) c ≡ b → take (length a) c ≡ a
front-front a b c first second =
    let le : length a ≤ length b = omega (arith, length-take (length a) b, ap length first)
    in sym (take-take (length a) (length b) c le) ∙ ap (take (length a)) second ∙ first

-- ---- the whole

kept-some : (H : List ℕ → List ℕ) (leaves : List (List ℕ)) → 0 < length (kept_digests H leaves) → 1 ≤ length leaves
unfolding tree_of tree_within
kept-some H [] some = absurd (omega arith)
kept-some H (x ∷ xs) some = omega arith

-- how many leaves there are
kept-leaves : (H : List ℕ → List ℕ) (leaves ds : List (List ℕ)) → length ds % 2 ≡ 1 → ds ≡ kept_digests H leaves
    → length ds / 2 + 1 ≡ length leaves
kept-leaves H leaves ds odd same =
    let sizes : length ds ≡ length (kept_digests H leaves) = ap length same
    in let some : 0 < length (kept_digests H leaves) = omega arith
    in omega (arith, length-kept H leaves (kept-some H leaves some))

-- the same, if the digests are seen through a view and counted there
pub kept-number : (H : List ℕ → List ℕ) (leaves ds view : List (List ℕ)) (count : ℕ) → length ds % 2 ≡ 1 → ds ≡ view → count ≡ length view
    → view ≡ kept_digests H leaves → count / 2 + 1 ≡ length leaves
kept-number H leaves ds view count odd seen counts same =
    let size : count ≡ length ds = counts ∙ ap length (sym seen)
    in rw size (kept-leaves H leaves ds odd (seen ∙ same))

pub string-whole : (H : List ℕ → List ℕ) (leaves : List (List ℕ)) (n : ℕ) (path : Path) → n ≡ length leaves
    → string_at H (tree_of (take n (drop 0 leaves))) path ≡ string_at H (tree_of leaves) path
string-whole H leaves n path whole = rw whole (ap (λ (xs : List (List ℕ)). string_at H (tree_of xs) path) (take-length leaves))

pub kept-whole : (H : List ℕ → List ℕ) (leaves : List (List ℕ)) (n : ℕ) → n ≡ length leaves
    → kept_digests H leaves ≡ kept_digests H (take n (drop 0 leaves))
kept-whole H leaves n whole = rw whole (ap (kept_digests H) (sym (take-length leaves)))

-- the same, if the digests are put in as many places
pub kept-placed : (H : List ℕ → List ℕ) (n count : ℕ) (leaves old now : List (List ℕ)) → 1 ≤ length leaves → n ≡ length leaves
    → count ≡ length old → length old + 1 ≡ 2 * n → now ≡ kept_digests H (take n (drop 0 leaves))
    → take count (now ++ drop (length now) old) ≡ kept_digests H leaves
kept-placed H n count leaves old now some whole counts nodes is =
    let same : now ≡ kept_digests H leaves = is ∙ sym (kept-whole H leaves n whole)
    in let size : count ≡ length now = omega (arith, ap length same, length-kept H leaves some)
    in rw size (take-append_seam now (drop (length now) old)) ∙ same

-- ---- the laws

first-digest : (H : List ℕ → List ℕ) (t : Tree (List ℕ)) → 0 < length (digests_of H t) → slice_get (digests_of H t) 0 ≡ Some (digest_of H t)
first-digest H empty some = absurd (omega arith)
first-digest H (leaf d) some = refl
first-digest H (node l r) some = refl

pub kept-root : (H : List ℕ → List ℕ) (leaves : List (List ℕ)) → 1 ≤ length leaves → slice_get (kept_digests H leaves) 0 ≡ Some (mth H leaves)
kept-root H leaves some =
    let many : 0 < length (kept_digests H leaves) = omega (arith, length-kept H leaves some)
    in first-digest H (tree_of leaves) many

pub kept-cut : (H : List ℕ → List ℕ) (ds : List (List ℕ)) (h : ℕ) → 2 ^ h < length ds → length ds ≤ 2 * 2 ^ h
    → kept_digests H ds ≡ mth H ds ∷ (kept_digests H (take (2 ^ h) ds) ++ kept_digests H (drop (2 ^ h) ds))
kept-cut H ds h long short = kept-node H _ _ _ (of-cut h ds long short)

pub kept-right : (H : List ℕ → List ℕ) (ds : List (List ℕ)) (h : ℕ) → 2 ^ h < length ds → length ds ≤ 2 * 2 ^ h
    → drop (2 * 2 ^ h) (kept_digests H ds) ≡ kept_digests H (drop (2 ^ h) ds)
kept-right H ds h long short =
    let front : List (List ℕ) = take (2 ^ h) ds
    in let size : length front ≡ 2 ^ h = omega (arith, length-take (2 ^ h) ds)
    in let some : 1 ≤ length front = omega (arith, pow_pos h)
    in let count : length (kept_digests H front) + 1 ≡ 2 * 2 ^ h = omega (arith, length-kept H front some)
    in right-rest _ _ _ _ (2 ^ h) (kept-cut H ds h long short) count
