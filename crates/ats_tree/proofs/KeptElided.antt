-- The digests at the places of the subtrees with no shown leaf: of a part and of its two parts, and of kept digests.
use Rattle.std.proofs.Common.{◌≡◌, ℕ, zero, suc, ◌+◌, ◌-◌, ◌*◌, ◌/◌, ◌^◌, ◌<◌, ◌≤◌, List, [], ◌∷◌, ◌++◌, length, take, drop, map, get_or, true, false, ◌==◌, ◌&&◌, refl, sym, ◌∙◌, ap, ap₂, subst, arith, inl, inr, Option, Some, None, nat_lt, eqb}
use Rattle.std.specs.List.{All, prefix_len}
use Rattle.std.proofs.Math.Seq.{drop-append_seam}
use Rattle.std.proofs.lemmas.Bool.{cond-true, cond-false, cases_lt, cases_eq, cases_Bool, eq-eqb, ne_eqb}
use Rattle.std.proofs.lemmas.List.{append-nil, append_assoc, take_all, length-drop, drop-drop, get_or-drop, length-map, map-append, take-map, drop-map}
use Rattle.std.proofs.lemmas.List.Elements.{All-drop}
use Rattle.ats_tree.specs.Tree.{Tree, empty, leaf, node, tree_within, tree_of, IsPowerOfTwo}
use Rattle.ats_tree.specs.Shown.{Shown, positions_of, shown_at, places}
use Rattle.ats_tree.specs.Part.{RisesFrom, shown_from}
use Rattle.ats_tree.specs.Inner.Part.{RisesWithin}
use Rattle.ats_tree.specs.Rebuild.{is_bare}
use Rattle.ats_tree.specs.Elided.{shown_with, elided_of, elided_digests}
use Rattle.ats_tree.specs.Kept.{digests_of, kept_digests, nodes_in, elided_places, digests_at, elided_part, elided_kept}
use Rattle.ats_tree.proofs.Trees.{within-cut, within-suc, of-one, bare-of}
use Rattle.ats_tree.proofs.ShownPlaces.{length-places, places-none, places-one}
use Rattle.ats_tree.proofs.Parts.{HasLeaf, has_leaf-of, IsCut, is_cut}
use Rattle.ats_tree.proofs.Bound.{SameShape}
use Rattle.ats_tree.proofs.ElidedLemmas.{rises-with, places-front, shown-back}
use Rattle.ats_tree.proofs.KeptLemmas.{HasSize, nodes-of, length-digests, length-kept}
use Rattle.ats_tree.proofs.LawLemmas.{shown-shape}

-- all digests from a place on, as a slice has them
abbrev pub slice_from : ℕ → List (List ℕ) → List (List ℕ)
slice_from m ds = take (length ds - m) (drop m ds)

all-from : (m : ℕ) (ds : List (List ℕ)) → slice_from m ds ≡ drop m ds
all-from m ds =
    let few : length (drop m ds) ≤ length ds - m = omega (arith, length-drop m ds) in take_all (length ds - m) (drop m ds) few

-- ---- places further on

-- what stands m places further on
shifted : (ds : List (List ℕ)) (m at : ℕ) (t : Tree (Option (List ℕ)))
    → digests_at ds (elided_places (m + at) t) ≡ digests_at (drop m ds) (elided_places at t)
shifted ds m at empty = refl
shifted ds m at (leaf None) = ap (λ (d : List ℕ). d ∷ []) (sym (get_or-drop m ds at []))
shifted ds m at (leaf (Some x)) = refl
shifted ds m at (node l r) =
    elim (cases_Bool (is_bare l && is_bare r)) [
      | inl bare ↦
          ap (digests_at ds) (cond-true _ _ _ bare)
          ∙ ap (λ (d : List ℕ). d ∷ []) (sym (get_or-drop m ds at []))
          ∙ sym (ap (digests_at (drop m ds)) (cond-true _ _ _ bare))
      | inr shows ↦
          let first : m + at + 1 ≡ m + (at + 1) = omega arith
          in let second : m + at + 1 + nodes_in l ≡ m + (at + 1 + nodes_in l) = omega arith
          in let left : digests_at ds (elided_places (m + at + 1) l) ≡ digests_at (drop m ds) (elided_places (at + 1) l) =
          ap (λ (i : ℕ). digests_at ds (elided_places i l)) first ∙ shifted ds m (at + 1) l
          in let right : digests_at ds (elided_places (m + at + 1 + nodes_in l) r)
          ≡ digests_at (drop m ds) (elided_places (at + 1 + nodes_in l) r) =
          ap (λ (i : ℕ). digests_at ds (elided_places i r)) second ∙ shifted ds m (at + 1 + nodes_in l) r
          in ap (digests_at ds) (cond-false _ _ _ shows)
          ∙ map-append _ (elided_places (m + at + 1) l) (elided_places (m + at + 1 + nodes_in l) r)
          ∙ ap₂ ◌++◌ left right
          ∙ sym (map-append _ (elided_places (at + 1) l) (elided_places (at + 1 + nodes_in l) r))
          ∙ sym (ap (digests_at (drop m ds)) (cond-false _ _ _ shows))
    ]

-- ---- the three returns

places-bare : (at : ℕ) (t : Tree (Option (List ℕ))) → HasLeaf t → is_bare t ≡ true → elided_places at t ≡ at ∷ []
places-bare at empty has bare = absurd has
places-bare at (leaf o) has bare = cond-true _ _ _ bare
places-bare at (node l r) has bare = cond-true _ _ _ bare

-- no shown leaf among the places
pub part-none : (ds : List (List ℕ)) (from n : ℕ) (shown : List Shown) → 1 ≤ n → RisesFrom (from + n) shown
    → elided_part ds from n shown ≡ get_or ds 0 [] ∷ []
part-none ds from n shown some rises =
    let many : 0 < length (places from n shown) = omega (arith, length-places from n shown)
    in ap (digests_at ds)
    (places-bare 0 _ (has_leaf-of (places from n shown) many) (bare-of (places from n shown) ∙ places-none from n shown rises))

-- one place, which is shown
pub part-one : (ds : List (List ℕ)) (from n : ℕ) (s : Shown) (rest : List Shown) → n ≡ 1 → from ≤ s.0 → s.0 < from + n
    → elided_part ds from n (s ∷ rest) ≡ []
part-one ds from n s rest one low high =
    let high' : s.0 < from + 1 = omega arith
    in let t : tree_of (places from n (s ∷ rest)) ≡ leaf (Some s.1) =
    rw one (ap tree_of (places-one from s rest low high') ∙ of-one _)
    in ap (λ t. digests_at ds (elided_places 0 t)) t

-- two parts
pub part-cut : (ds : List (List ℕ)) (from k n : ℕ) (shown : List Shown) → IsCut from k n shown → k < n → n ≤ 2 * k
    → elided_part ds from n shown
    ≡ elided_part (slice_from 1 ds) from k shown ++ elided_part (slice_from (2 * k) ds) (from + k) (n - k) (shown_from (from + k) shown)
part-cut ds from k n shown c below largest =
    let l : Tree (Option (List ℕ)) = tree_of (places from k shown)
    in let r : Tree (Option (List ℕ)) = tree_of (places (from + k) (n - k) (shown_from (from + k) shown))
    in let many : 1 ≤ length (places from k shown) = omega (arith, length-places from k shown)
    in let count : nodes_in l + 1 ≡ 2 * k = omega (arith, nodes-of (places from k shown) many, length-places from k shown)
    in let second : 0 + 1 + nodes_in l ≡ 2 * k + 0 = omega arith
    in let left : digests_at ds (elided_places (0 + 1) l) ≡ digests_at (drop 1 ds) (elided_places 0 l) = shifted ds 1 0 l
    in let right : digests_at ds (elided_places (0 + 1 + nodes_in l) r) ≡ digests_at (drop (2 * k) ds) (elided_places 0 r) =
    ap (λ (i : ℕ). digests_at ds (elided_places i r)) second ∙ shifted ds (2 * k) 0 r
    in rw (all-from 1 ds, all-from (2 * k) ds)
    (ap (λ t. digests_at ds (elided_places 0 t)) c.tree
    ∙ ap (digests_at ds) (cond-false _ _ _ c.shows)
    ∙ map-append _ (elided_places (0 + 1) l) (elided_places (0 + 1 + nodes_in l) r)
    ∙ ap₂ ◌++◌ left right)

-- ---- the same of positions

-- none among the places
pub kept-none : (ds items : List (List ℕ)) (from n : ℕ) (ps : List ℕ) → 1 ≤ n → length ps ≡ 0
    → elided_part ds from n (shown_with items ps) ≡ get_or ds 0 [] ∷ []
kept-none ds items from n [] some none = part-none ds from n [] some tt
kept-none ds items from n (p ∷ ps) some none = absurd (omega arith)

-- one place, which is shown
pub kept-shown : (ds items : List (List ℕ)) (from n : ℕ) (ps : List ℕ) → n ≡ 1 → 0 < length ps → RisesWithin from (from + n) ps
    → elided_part ds from n (shown_with items ps) ≡ []
kept-shown ds items from n [] one some rises = absurd (omega arith)
kept-shown ds items from n (p ∷ ps) one some rises =
    part-one ds from n (p, get_or items p []) (shown_with items ps) one rises.0 rises.1

-- two parts
pub kept-parts : (ds items : List (List ℕ)) (from k n m : ℕ) (ps front back : List ℕ) → m ≡ prefix_len (λ p. nat_lt p (from + k)) ps
    → front ≡ take m ps → back ≡ drop m ps → IsPowerOfTwo k → k < n → n ≤ 2 * k → (length ps == 0) ≡ false → RisesWithin from (from + n) ps
    → elided_part ds from n (shown_with items ps)
    ≡ elided_part (slice_from 1 ds) from k (shown_with items front) ++ elided_part (slice_from (2 * k) ds) (from + k) (n - k) (shown_with items back)
kept-parts ds items from k n m [] front back is first second power below largest some rises = absurd (cc)
kept-parts ds items from k n m (p ∷ ps) front back is first second power below largest some rises =
    let shown : List Shown = shown_with items (p ∷ ps)
    in let c : IsCut from k n shown =
    is_cut from k n p shown power below largest (rises-with items from (from + n) (p ∷ ps) rises) refl rises.1
    in let reach : from + k ≤ from + k = omega arith
    in rw (first, second)
    (part-cut ds from k n shown c below largest
    ∙ ap₂ ◌++◌
    (ap (λ os. digests_at (slice_from 1 ds) (elided_places 0 (tree_of os)))
    (sym (places-front items from (from + n) (from + k) m from k (p ∷ ps) is rises reach)))
    (ap (elided_part (slice_from (2 * k) ds) (from + k) (n - k)) (shown-back items from (from + n) (from + k) m (p ∷ ps) is rises)))

-- ---- the nodes of two parts

-- at least the nodes of a tree of n leaves, each of the size of a digest
abbrev pub HasNodes : ℕ → List (List ℕ) → Type 0
HasNodes n ds = (2 * n ≤ length ds + 1) × All HasSize ds

pub left-nodes : (ds : List (List ℕ)) (k n : ℕ) → k < n → HasNodes n ds → HasNodes k (slice_from 1 ds)
left-nodes ds k n below has =
    subst (HasNodes k) (sym (all-from 1 ds)) (omega (arith, length-drop 1 ds, has.0, below), All-drop HasSize 1 ds has.1)

pub right-nodes : (ds : List (List ℕ)) (k n : ℕ) → k < n → HasNodes n ds → HasNodes (n - k) (slice_from (2 * k) ds)
right-nodes ds k n below has =
    subst (HasNodes (n - k)) (sym (all-from (2 * k) ds)) (omega (arith, length-drop (2 * k) ds, has.0, below), All-drop HasSize (2 * k) ds has.1)

-- ---- the bytes of shown leaves play no part

blank : Option (List ℕ) → Option (List ℕ)
blank None = None
blank (Some x) = Some []

blank_tree : Tree (Option (List ℕ)) → Tree (Option (List ℕ))
blank_tree empty = empty
blank_tree (leaf o) = leaf (blank o)
blank_tree (node l r) = node (blank_tree l) (blank_tree r)

bare-blank : (t : Tree (Option (List ℕ))) → is_bare (blank_tree t) ≡ is_bare t
unfolding blank blank_tree
bare-blank empty = refl
bare-blank (leaf None) = refl
bare-blank (leaf (Some x)) = refl
bare-blank (node l r) = ap₂ ◌&&◌ (bare-blank l) (bare-blank r)

nodes-blank : (t : Tree (Option (List ℕ))) → nodes_in (blank_tree t) ≡ nodes_in t
unfolding blank blank_tree
nodes-blank empty = refl
nodes-blank (leaf o) = refl
nodes-blank (node l r) = ap₂ (λ (a b : ℕ). 1 + a + b) (nodes-blank l) (nodes-blank r)

places-blank : (at : ℕ) (t : Tree (Option (List ℕ))) → elided_places at (blank_tree t) ≡ elided_places at t
unfolding blank blank_tree
places-blank at empty = refl
places-blank at (leaf None) = refl
places-blank at (leaf (Some x)) = refl
places-blank at (node l r) =
    rw (bare-blank l, bare-blank r, nodes-blank l, places-blank (at + 1) l, places-blank (at + 1 + nodes_in l) r) refl

within-blank : (h : ℕ) (os : List (Option (List ℕ))) → tree_within h (map blank os) ≡ blank_tree (tree_within h os)
unfolding blank_tree tree_within
within-blank zero [] = refl
within-blank zero (o ∷ os) = refl
within-blank (suc h) os =
    let same : length (map blank os) ≡ length os = length-map os blank
    in elim (cases_lt (2 ^ h) (length os)) [
      | inl long ↦
          let long' : 2 ^ h < length (map blank os) = omega arith
          in within-cut h (map blank os) long'
          ∙ ap₂ node
          (ap (tree_within h) (take-map blank (2 ^ h) os) ∙ within-blank h (take (2 ^ h) os))
          (ap (tree_within h) (drop-map blank (2 ^ h) os) ∙ within-blank h (drop (2 ^ h) os))
          ∙ sym (ap blank_tree (within-cut h os long))
      | inr few ↦
          let few' : length (map blank os) ≤ 2 ^ h = omega arith
          in within-suc h (map blank os) few' ∙ within-blank h os ∙ sym (ap blank_tree (within-suc h os few))
    ]

blank-at : (shown : List Shown) (i : ℕ) → shown_at (shown_with [] (positions_of shown)) i ≡ blank (shown_at shown i)
unfolding blank
blank-at [] i = refl
blank-at (s ∷ rest) i =
    elim (cases_eq s.0 i) [
      | inl same ↦ cond-true (eqb s.0 i) _ _ (eq-eqb s.0 i same) ∙ sym (ap blank (cond-true (eqb s.0 i) _ _ (eq-eqb s.0 i same)))
      | inr other ↦
          cond-false (eqb s.0 i) _ _ (ne_eqb s.0 i other)
          ∙ blank-at rest i
          ∙ sym (ap blank (cond-false (eqb s.0 i) _ _ (ne_eqb s.0 i other)))
    ]

blank-places : (shown : List Shown) (from n : ℕ) → places from n (shown_with [] (positions_of shown)) ≡ map blank (places from n shown)
blank-places shown from zero = refl
blank-places shown from (suc n) = ap₂ ◌∷◌ (blank-at shown from) (blank-places shown (from + 1) n)

-- the digests of the subtrees, whatever the leaves are
pub part-blank : (ds : List (List ℕ)) (from n : ℕ) (shown : List Shown)
    → elided_part ds from n (shown_with [] (positions_of shown)) ≡ elided_part ds from n shown
unfolding tree_of
part-blank ds from n shown =
    let os : List (Option (List ℕ)) = places from n shown
    in let blanks : List Shown = shown_with [] (positions_of shown)
    in let size : length (places from n blanks) ≡ length os = length-places from n blanks ∙ sym (length-places from n shown)
    in ap (digests_at ds)
    (ap (elided_places 0)
    (ap₂ (λ (h : ℕ) (xs : List (Option (List ℕ))). tree_within h xs) size (blank-places shown from n) ∙ within-blank (length os) os)
    ∙ places-blank 0 (tree_of os))

pub place-of : (items : List (List ℕ)) (ps : List ℕ) → positions_of (shown_with items ps) ≡ ps
place-of items [] = refl
place-of items (p ∷ ps) = ap (λ (more : List ℕ). p ∷ more) (place-of items ps)

-- ---- the digests of a list

length-shape : (H : List ℕ → List ℕ) (t : Tree (Option (List ℕ))) (u : Tree (List ℕ)) → SameShape t u → length (digests_of H u) ≡ nodes_in t
length-shape H empty empty shape = refl
length-shape H empty (leaf y) shape = absurd shape
length-shape H empty (node l' r') shape = absurd shape
length-shape H (leaf o) empty shape = absurd shape
length-shape H (leaf o) (leaf y) shape = refl
length-shape H (leaf o) (node l' r') shape = absurd shape
length-shape H (node l r) empty shape = absurd shape
length-shape H (node l r) (leaf y) shape = absurd shape
length-shape H (node l r) (node l' r') shape =
    omega (arith, length-digests H (node l' r'), length-digests H l', length-digests H r', length-shape H l l' shape.0, length-shape H r r' shape.1)

-- the digest at a place is the first of those from there on
digest-there : (ds rest : List (List ℕ)) (d : List ℕ) (at : ℕ) → drop at ds ≡ d ∷ rest → get_or ds at [] ≡ d
digest-there ds rest d at is =
    let here : at ≡ at + 0 = omega arith
    in ap (λ (i : ℕ). get_or ds i []) here ∙ sym (get_or-drop at ds 0 []) ∙ ap (λ (xs : List (List ℕ)). get_or xs 0 []) is

-- of a tree whose digests stand from a place on
elided-there : (H : List ℕ → List ℕ) (t : Tree (Option (List ℕ))) (u : Tree (List ℕ)) (ds after : List (List ℕ)) (at : ℕ) → SameShape t u
    → drop at ds ≡ digests_of H u ++ after → digests_at ds (elided_places at t) ≡ elided_of H t u
elided-there H empty u ds after at shape is = refl
elided-there H (leaf None) empty ds after at shape is = absurd shape
elided-there H (leaf None) (leaf y) ds after at shape is = ap (λ (d : List ℕ). d ∷ []) (digest-there ds after _ at is)
elided-there H (leaf None) (node l' r') ds after at shape is = absurd shape
elided-there H (leaf (Some x)) u ds after at shape is = refl
elided-there H (node l r) empty ds after at shape is = absurd shape
elided-there H (node l r) (leaf y) ds after at shape is = absurd shape
elided-there H (node l r) (node l' r') ds after at shape is =
    let left : List (List ℕ) = digests_of H l'
    in let right : List (List ℕ) = digests_of H r'
    in elim (cases_Bool (is_bare l && is_bare r)) [
      | inl bare ↦
          ap (digests_at ds) (cond-true _ _ _ bare)
          ∙ ap (λ (d : List ℕ). d ∷ []) (digest-there ds ((left ++ right) ++ after) _ at is)
          ∙ sym (cond-true _ _ _ bare)
      | inr shows ↦
          let parts : drop (at + 1) ds ≡ left ++ (right ++ after) =
          sym (drop-drop 1 at ds) ∙ ap (drop 1) is ∙ append_assoc left right after
          in let size : at + 1 + nodes_in l ≡ at + 1 + length left = omega (arith, length-shape H l l' shape.0)
          in let others : drop (at + 1 + nodes_in l) ds ≡ right ++ after =
          ap (λ (i : ℕ). drop i ds) size ∙ sym (drop-drop (length left) (at + 1) ds) ∙ ap (drop (length left)) parts
          ∙ drop-append_seam left (right ++ after)
          in ap (digests_at ds) (cond-false _ _ _ shows)
          ∙ map-append _ (elided_places (at + 1) l) (elided_places (at + 1 + nodes_in l) r)
          ∙ ap₂ ◌++◌ (elided-there H l l' ds (right ++ after) (at + 1) shape.0 parts)
          (elided-there H r r' ds after (at + 1 + nodes_in l) shape.1 others)
          ∙ sym (cond-false _ _ _ shows)
    ]

-- those of a list's nodes are the digests that the positions need
pub kept-elided : (H : List ℕ → List ℕ) (leaves : List (List ℕ)) (ps : List ℕ) → 1 ≤ length leaves
    → elided_kept (kept_digests H leaves) ps ≡ elided_digests H leaves ps
kept-elided H leaves ps some =
    let ds : List (List ℕ) = kept_digests H leaves
    in let number : length ds / 2 + 1 ≡ length leaves = omega (arith, length-kept H leaves some)
    in let blanks : List Shown = shown_with [] ps
    in let same : shown_with [] (positions_of (shown_with leaves ps)) ≡ blanks = ap (shown_with []) (place-of leaves ps)
    in ap (λ (n : ℕ). elided_part ds 0 n blanks) number
    ∙ ap (elided_part ds 0 (length leaves)) (sym same)
    ∙ part-blank ds 0 (length leaves) (shown_with leaves ps)
    ∙ elided-there H _ (tree_of leaves) ds [] 0 (shown-shape leaves ps) (sym (append-nil ds))
