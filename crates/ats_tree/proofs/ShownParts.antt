-- A part of a tree on its own: what a digest that is rebuilt for it says, and what it needs if its first leaves are
-- shown.
use Rattle.std.proofs.Common.{◌≡◌, ℕ, zero, suc, ◌+◌, ◌-◌, ◌^◌, ◌<◌, ◌≤◌, List, [], ◌∷◌, length, take, drop, true, false, ◌&&◌, refl, sym, ◌∙◌, ap, arith, inl, inr, Option, Some, None, subst, MatchOption, All, IsSome, IfSome, get_or}
use Rattle.std.specs.List.{slice_get, list_all}
use Rattle.std.specs.Option.{is_none}
use Rattle.std.proofs.Math.Nat.{two-pow-succ}
use Rattle.std.proofs.lemmas.Nat.{pow_pos}
use Rattle.std.proofs.lemmas.Bool.{cond-true, cond-false, cases_Bool, cases_lt, and_left, and_parts, and_from}
use Rattle.std.proofs.lemmas.List.{length-take, length-drop}
use Rattle.std.proofs.lemmas.List.Elements.{All-append, All-cons, All-head, All-nil, All-tail, recursion_from_All}
use Rattle.ats_tree.specs.Tree.{Tree, empty, leaf, node, tree_within, tree_of, digest_of, mth}
use Rattle.ats_tree.specs.Shown.{Shown, shown_at, places}
use Rattle.ats_tree.specs.Rebuild.{is_bare, need, digest_with}
use Rattle.ats_tree.specs.Elided.{shown_with, elided_of, left_of, right_of}
use Rattle.ats_tree.specs.Paths.{Path}
use Rattle.ats_tree.specs.Differences.{Hashed, first_difference, IsOurs}
use Rattle.ats_tree.specs.Strings.{strings, string_at}
use Rattle.ats_tree.proofs.Trees.{below_power, within-cut, within-suc, of-within, bare-within}
use Rattle.ats_tree.proofs.ShownPlaces.{length-places}
use Rattle.ats_tree.proofs.Parts.{digest_with-take}
use Rattle.ats_tree.proofs.Differences.{Collides}
use Rattle.ats_tree.proofs.Bound.{SameShape, shape-within, Agrees, fits-within, fits-at, on_none, Bound, bound-tree, length-digest_of, length-digest_with, there-tree}
use Rattle.ats_tree.proofs.NodeLemmas.{theirs-within}
use Rattle.ats_tree.proofs.LawLemmas.{length-elided, elided-digest, agrees-within, fits-shown}
use Rattle.ats_tree.proofs.OwnStrings.{elided-strings}
use Rattle.ats_tree.proofs.Clashes.{strings-take}

-- ---- the digest of a part

-- two sources of own strings that have the same string at each place give the same first difference
pub difference-alike : {P : Type 0} (ours others : P → Option (List ℕ)) (ss : List (Hashed P))
    → All (λ s. ours s.place ≡ others s.place) ss → first_difference ours ss ≡ first_difference others ss
difference-alike ours others [] same = refl
difference-alike {P} ours others (s ∷ rest) same =
    let Same : Hashed P → Type 0 = λ s. ours s.place ≡ others s.place
    in rw (All-head Same s rest same, difference-alike ours others rest (All-tail Same s rest same)) refl

-- the tree of a part has the shape of the tree of a list of as many leaves
pub part-shape : (from n : ℕ) (shown : List Shown) (leaves : List (List ℕ)) → length leaves ≡ n
    → SameShape (tree_of (places from n shown)) (tree_of leaves)
part-shape from n shown leaves len =
    let os : List (Option (List ℕ)) = places from n shown
    in let by_n : length os ≤ 2 ^ n = omega (arith, below_power n, length-places from n shown)
    in let by_n' : length leaves ≤ 2 ^ n = omega (arith, below_power n)
    in let same : length os ≡ length leaves = omega (arith, length-places from n shown)
    in rw (of-within n os by_n, of-within n leaves by_n') (shape-within n os leaves same)

-- the leaf that is shown at a place of the part is that of the list
abbrev pub ShowsOwn : ℕ → ℕ → List Shown → List (List ℕ) → Type 0
ShowsOwn from n shown leaves = (i : ℕ) (x : List ℕ) → i < n → shown_at shown (from + i) ≡ Some x → slice_get leaves i ≡ Some x

part-agrees : (from n : ℕ) (shown : List Shown) (leaves : List (List ℕ)) → length leaves ≡ n
    → Agrees (tree_of (places from n shown)) (tree_of leaves) → ShowsOwn from n shown leaves
part-agrees from n shown leaves len agrees i x less here =
    let os : List (Option (List ℕ)) = places from n shown
    in let by_n : length os ≤ 2 ^ n = omega (arith, below_power n, length-places from n shown)
    in let by_n' : length leaves ≤ 2 ^ n = omega (arith, below_power n)
    in let same : length os ≡ length leaves = omega (arith, length-places from n shown)
    in let within : Agrees (tree_within n os) (tree_within n leaves) = rw (of-within n os by_n, of-within n leaves by_n') at agrees
    in fits-at from n i (from + i) shown leaves x (fits-within n os leaves same by_n within) len less refl here

-- the rebuilt digest of a part binds the leaves that are shown there to each list with that digest, unless the first
-- difference collides
pub part-bound : (H : List ℕ → List ℕ) → ((m : List ℕ) → length (H m) ≡ 32) → (from n : ℕ) (shown : List Shown) (ds leaves : List (List ℕ))
    → All (λ d. length d ≡ 32) ds → length leaves ≡ n → need (tree_of (places from n shown)) ≤ length ds
    → digest_with H (tree_of (places from n shown)) ds ≡ mth H leaves
    → MatchOption (first_difference (string_at H (tree_of leaves)) (strings H (tree_of (places from n shown)) ds))
    (ShowsOwn from n shown leaves) (Collides H)
unfolding Bound
part-bound H sized from n shown ds leaves all len enough same =
    let t : Tree (Option (List ℕ)) = tree_of (places from n shown)
    in on_none (Agrees t (tree_of leaves)) (ShowsOwn from n shown leaves) (Collides H)
    (first_difference (string_at H (tree_of leaves)) (strings H t ds))
    (part-agrees from n shown leaves len)
    (bound-tree H sized t (tree_of leaves) ds (part-shape from n shown leaves len) (recursion_from_All (λ d. length d ≡ 32) ds all) enough same)

-- a rebuilt digest has 32 bytes
pub length-rebuilt : (H : List ℕ → List ℕ) → ((m : List ℕ) → length (H m) ≡ 32) → (t : Tree (Option (List ℕ))) (ds : List (List ℕ))
    → All (λ d. length d ≡ 32) ds → need t ≤ length ds → length (digest_with H t ds) ≡ 32
length-rebuilt H sized t ds all enough = length-digest_with H sized t ds (recursion_from_All (λ d. length d ≡ 32) ds all) enough

-- the digest of a list has 32 bytes
pub length-mth : (H : List ℕ → List ℕ) → ((m : List ℕ) → length (H m) ≡ 32) → (leaves : List (List ℕ)) → length (mth H leaves) ≡ 32
length-mth H sized leaves = length-digest_of H sized (tree_of leaves)

-- elided digests have 32 bytes
pub elided-sized : (H : List ℕ → List ℕ) → ((m : List ℕ) → length (H m) ≡ 32) → (t : Tree (Option (List ℕ))) (u : Tree (List ℕ))
    → All (λ d. length d ≡ 32) (elided_of H t u)
elided-sized H sized empty u = All-nil _
elided-sized H sized (leaf None) u = All-cons (λ d. length d ≡ 32) (digest_of H u) [] (length-digest_of H sized u) (All-nil _)
elided-sized H sized (leaf (Some x)) u = All-nil _
elided-sized H sized (node l r) u =
    let Sized : List (List ℕ) → Type 0 = All (λ d. length d ≡ 32)
    in elim (cases_Bool (is_bare l && is_bare r)) [
      | inl bare ↦
          subst Sized (sym (cond-true _ _ _ bare)) (All-cons (λ d. length d ≡ 32) (digest_of H u) [] (length-digest_of H sized u) (All-nil _))
      | inr shows ↦
          subst Sized (sym (cond-false _ _ _ shows))
          (All-append (λ d. length d ≡ 32) (elided_of H l (left_of u)) (elided_of H r (right_of u)) (elided-sized H sized l (left_of u)) (elided-sized H sized r (right_of u)))
    ]

-- the nodes of a part of at most 2^h places are at most h deep
pub part-shallow : (H : List ℕ → List ℕ) (h from n : ℕ) (shown : List Shown) (ds : List (List ℕ)) → n ≤ 2 ^ h
    → All (λ s. length s.place ≤ h) (strings H (tree_of (places from n shown)) ds)
part-shallow H h from n shown ds few =
    let short : length (places from n shown) ≤ 2 ^ h = omega (arith, length-places from n shown)
    in let Listed : Tree (Option (List ℕ)) → Type 0 = λ t. All (λ s. length s.place ≤ h) (strings H t ds)
    in subst Listed (sym (of-within h (places from n shown) short)) (theirs-within H h (places from n shown) ds)

-- ---- parts whose first leaves are shown

-- the first `count` places, or all if they are fewer, hold leaves; the others hold none
abbrev pub IsFront : ℕ → List (Option (List ℕ)) → Type 0
IsFront zero os = list_all is_none os ≡ true
IsFront (suc count) [] = Unit {0}
IsFront (suc count) (o ∷ os) = (is_none o ≡ false) × IsFront count os

pub front-nil : (count : ℕ) → IsFront count []
front-nil zero = refl
front-nil (suc count) = tt

none-take : (m : ℕ) (os : List (Option (List ℕ))) → list_all is_none os ≡ true → list_all is_none (take m os) ≡ true
none-take zero os none = refl
none-take (suc m) [] none = refl
none-take (suc m) (o ∷ os) none =
    let both : (is_none o ≡ true) × (list_all is_none os ≡ true) = and_parts _ _ none
    in and_from _ _ both.0 (none-take m os both.1)

none-drop : (m : ℕ) (os : List (Option (List ℕ))) → list_all is_none os ≡ true → list_all is_none (drop m os) ≡ true
none-drop zero os none = none
none-drop (suc m) [] none = refl
none-drop (suc m) (o ∷ os) none =
    let both : (is_none o ≡ true) × (list_all is_none os ≡ true) = and_parts _ _ none
    in none-drop m os both.1

front-take : (count m : ℕ) (os : List (Option (List ℕ))) → IsFront count os → IsFront count (take m os)
front-take zero m os front = none-take m os front
front-take (suc count) zero os front = tt
front-take (suc count) (suc m) [] front = tt
front-take (suc count) (suc m) (o ∷ os) front = (front.0, front-take count m os front.1)

front-drop : (count m left : ℕ) (os : List (Option (List ℕ))) → left ≡ count - m → IsFront count os → IsFront left (drop m os)
front-drop zero m left os is front = let none : left ≡ 0 = omega arith in subst (λ k. IsFront k (drop m os)) (sym none) (none-drop m os front)
front-drop (suc count) zero left os is front = let all : left ≡ suc count = omega arith in subst (λ k. IsFront k os) (sym all) front
front-drop (suc count) (suc m) left [] is front = front-nil left
front-drop (suc count) (suc m) left (o ∷ os) is front =
    let is' : left ≡ count - m = omega arith in front-drop count m left os is' front.1

front-shows : (count : ℕ) (os : List (Option (List ℕ))) → 1 ≤ count → 1 ≤ length os → IsFront count os → list_all is_none os ≡ false
front-shows zero os some many front = absurd (omega arith)
front-shows (suc count) [] some many front = absurd (omega arith)
front-shows (suc count) (o ∷ os) some many front = and_left _ _ front.0

left-shows : (h count : ℕ) (os : List (Option (List ℕ))) → 1 ≤ count → 2 ^ h < length os → IsFront count os
    → (is_bare (tree_within h (take (2 ^ h) os)) && is_bare (tree_within h (drop (2 ^ h) os))) ≡ false
left-shows h count os some long front =
    let short : length (take (2 ^ h) os) ≤ 2 ^ h = omega (arith, length-take (2 ^ h) os)
    in let many : 1 ≤ length (take (2 ^ h) os) = omega (arith, length-take (2 ^ h) os, pow_pos h)
    in and_left _ _ (bare-within h (take (2 ^ h) os) short ∙ front-shows count _ some many (front-take count (2 ^ h) os front))

full-within : (h count : ℕ) (os : List (Option (List ℕ))) → length os ≤ count → IsFront count os → need (tree_within h os) ≡ 0
unfolding tree_within
full-within zero count [] full front = refl
full-within zero zero (o ∷ os) full front = absurd (omega arith)
full-within zero (suc count) (o ∷ os) full front = cond-false _ _ _ front.0
full-within (suc h) count os full front =
    elim (cases_lt (2 ^ h) (length os)) [
      | inl long ↦
          let some : 1 ≤ count = omega arith
          in let left : length (take (2 ^ h) os) ≤ count = omega (arith, length-take (2 ^ h) os)
          in let right : length (drop (2 ^ h) os) ≤ count - 2 ^ h = omega (arith, length-drop (2 ^ h) os)
          in ap need (within-cut h os long)
          ∙ cond-false _ _ _ (left-shows h count os some long front)
          ∙ rw (
            full-within h count (take (2 ^ h) os) left (front-take count (2 ^ h) os front),
            full-within h (count - 2 ^ h) (drop (2 ^ h) os) right (front-drop count (2 ^ h) (count - 2 ^ h) os refl front),
          ) refl
      | inr few ↦ ap need (within-suc h os few) ∙ full-within h count os full front
    ]

-- a part that is all shown needs no digest
pub full-need : (count : ℕ) (os : List (Option (List ℕ))) → length os ≤ count → IsFront count os → need (tree_of os) ≡ 0
full-need count os full front =
    let by_length : length os ≤ 2 ^ length os = omega (arith, below_power (length os))
    in ap need (of-within (length os) os by_length) ∙ full-within (length os) count os full front

bare-need : (t : Tree (Option (List ℕ))) → is_bare t ≡ true → need t ≤ 1
bare-need empty bare = omega arith
bare-need (leaf None) bare = omega arith
bare-need (leaf (Some x)) bare = omega arith
bare-need (node l r) bare = let one : need (node l r) ≡ 1 = cond-true _ _ _ bare in omega arith

front-within : (h count : ℕ) (os : List (Option (List ℕ))) → 1 ≤ count → length os ≤ 2 ^ h → IsFront count os → need (tree_within h os) ≤ h
unfolding tree_within
front-within zero count [] some short front = omega arith
front-within zero zero (o ∷ os) some short front = absurd (omega arith)
front-within zero (suc count) (o ∷ os) some short front =
    let none : need (leaf o) ≡ 0 = cond-false _ _ _ front.0 in omega arith
front-within (suc h) count os some short front =
    elim (cases_lt (2 ^ h) (length os)) [
      | inl long ↦
          let l : Tree (Option (List ℕ)) = tree_within h (take (2 ^ h) os)
          in let r : Tree (Option (List ℕ)) = tree_within h (drop (2 ^ h) os)
          in let left : length (take (2 ^ h) os) ≤ 2 ^ h = omega (arith, length-take (2 ^ h) os)
          in let right : length (drop (2 ^ h) os) ≤ 2 ^ h = omega (arith, short, two-pow-succ h, length-drop (2 ^ h) os)
          in let both : need (tree_within (suc h) os) ≡ need l + need r =
          ap need (within-cut h os long) ∙ cond-false _ _ _ (left-shows h count os some long front)
          in elim (cases_lt (2 ^ h) count) [
            | inl more ↦
                let full : length (take (2 ^ h) os) ≤ count = omega arith
                in let none : need l ≡ 0 = full-within h count (take (2 ^ h) os) full (front-take count (2 ^ h) os front)
                in let some' : 1 ≤ count - 2 ^ h = omega arith
                in let few : need r ≤ h =
                front-within h (count - 2 ^ h) (drop (2 ^ h) os) some' right (front-drop count (2 ^ h) (count - 2 ^ h) os refl front)
                in omega arith
            | inr less ↦
                let few : need l ≤ h = front-within h count (take (2 ^ h) os) some left (front-take count (2 ^ h) os front)
                in let past : 0 ≡ count - 2 ^ h = omega arith
                in let none : list_all is_none (drop (2 ^ h) os) ≡ true = front-drop count (2 ^ h) 0 os past front
                in let one : need r ≤ 1 = bare-need r (bare-within h (drop (2 ^ h) os) right ∙ none)
                in omega arith
          ]
      | inr few ↦
          let same : need (tree_within (suc h) os) ≡ need (tree_within h os) = ap need (within-suc h os few)
          in omega (arith, front-within h count os some few front)
    ]

-- a part of at most 2^h places, of which the first ones are shown, needs at most h digests
pub front-need : (h count : ℕ) (os : List (Option (List ℕ))) → 1 ≤ count → length os ≤ 2 ^ h → IsFront count os → need (tree_of os) ≤ h
front-need h count os some short front =
    let same : need (tree_of os) ≡ need (tree_within h os) = ap need (of-within h os short)
    in omega (arith, front-within h count os some short front)

-- ---- parts with the digests that they need, and others after these

-- with its elided digests first, a tree has the digest of the tree whose leaves it shows
pub elided-first : (H : List ℕ → List ℕ) (t : Tree (Option (List ℕ))) (u : Tree (List ℕ)) (es : List (List ℕ)) → SameShape t u → Agrees t u
    → take (need t) es ≡ elided_of H t u → digest_with H t es ≡ digest_of H u
elided-first H t u es shape agrees is =
    let le : need t ≤ need t = omega arith
    in sym (digest_with-take H t (need t) es le) ∙ ap (digest_with H t) is ∙ elided-digest H t u shape agrees

own-there : (o : Option (List ℕ)) (text : List ℕ) → IfSome o (λ own. own ≡ text) → IsSome o → o ≡ Some text
own-there None text own there = absurd (cc)
own-there (Some own) text same there = ap Some same

-- and its strings are those of that tree
pub elided-first-own : (H : List ℕ → List ℕ) (t : Tree (Option (List ℕ))) (u : Tree (List ℕ)) (es : List (List ℕ)) → SameShape t u → Agrees t u
    → take (need t) es ≡ elided_of H t u → All (λ s. string_at H u s.place ≡ Some s.text) (strings H t es)
elided-first-own H t u es shape agrees is =
    let le : need t ≤ need t = omega arith
    in let Own : List (Hashed Path) → Type 0 = All (λ s. string_at H u s.place ≡ Some s.text)
    in let ss : List (Hashed Path) = strings H t (elided_of H t u)
    in let own : All (IsOurs (string_at H u)) ss = elided-strings H t u shape agrees
    in let there : All (λ s. IsSome (string_at H u s.place)) ss = there-tree H t u (elided_of H t u) shape
    in subst Own (ap (strings H t) (sym is) ∙ strings-take H t (need t) es le)
    (λ k d less. own-there (string_at H u (get_or ss k d).place) (get_or ss k d).text (own k d less) (there k d less))

-- leaves of a list that are shown in a part agree with the leaves there
pub part-own : (leaves ys : List (List ℕ)) (ps : List ℕ) (from n : ℕ) → length ys ≡ n
    → ((i : ℕ) → i < length ys → get_or ys i [] ≡ get_or leaves (from + i) [])
    → Agrees (tree_of (places from n (shown_with leaves ps))) (tree_of ys)
part-own leaves ys ps from n len same =
    let os : List (Option (List ℕ)) = places from n (shown_with leaves ps)
    in let size : length os ≡ length ys = omega (arith, length-places from n (shown_with leaves ps))
    in let by_n : length os ≤ 2 ^ n = omega (arith, below_power n)
    in let by_n' : length ys ≤ 2 ^ n = omega (arith, below_power n)
    in rw (of-within n os by_n, of-within n ys by_n') (agrees-within n os ys size (fits-shown leaves ps from n ys same))

-- the elided digests of a part are as many as it needs
pub part-elided : (H : List ℕ → List ℕ) (from n : ℕ) (shown : List Shown) (ys : List (List ℕ)) → length ys ≡ n
    → length (elided_of H (tree_of (places from n shown)) (tree_of ys)) ≡ need (tree_of (places from n shown))
part-elided H from n shown ys len = length-elided H (tree_of (places from n shown)) (tree_of ys) (part-shape from n shown ys len)
