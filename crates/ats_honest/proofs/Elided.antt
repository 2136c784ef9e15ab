-- How many digests some shown leaves need at most.
use Rattle.std.proofs.Common.{◌≡◌, ◌⊎◌, ◌+◌, ◌*◌, ◌^◌, ◌<◌, ◌≤◌, ℕ, zero, suc, true, false, ◌&&◌, List, [], ◌∷◌, length, take, drop, get_or, Option, Some, None, nat_eq, refl, sym, ap, subst, ◌∙◌, arith, inl, inr, length-append}
use Rattle.std.proofs.Math.Nat.{two-pow-succ}
use Rattle.std.proofs.lemmas.Bool.{cond-true, cond-false, cases_Bool, cases_lt, eqb-true}
use Rattle.std.proofs.lemmas.List.{length-take, length-drop, length-map}
use Rattle.ats_tree.specs.Tree.{Tree, empty, leaf, node, tree_within, tree_of}
use Rattle.ats_tree.specs.Shown.{Shown, shown_at, places}
use Rattle.ats_tree.specs.Rebuild.{is_bare, need}
use Rattle.ats_tree.specs.Elided.{shown_with, elided_of, elided_digests, left_of, right_of}
use Rattle.ats_tree.proofs.Public.{within-cut, within-suc, of-within, length-places}

-- as many as the tree needs, whatever the leaves are
elided_need : (H : List ℕ → List ℕ) (t : Tree (Option (List ℕ))) (u : Tree (List ℕ)) → length (elided_of H t u) ≡ need t
elided_need H empty u = refl
elided_need H (leaf None) u = refl
elided_need H (leaf (Some x)) u = refl
elided_need H (node l r) u = elim (cases_Bool (is_bare l && is_bare r)) [
  | inl bare ↦ ap length (cond-true _ _ _ bare) ∙ sym (cond-true _ _ _ bare)
  | inr shows ↦
      ap length (cond-false _ _ _ shows) ∙ length-append (elided_of H l (left_of u)) (elided_of H r (right_of u))
      ∙ rw (elided_need H l (left_of u), elided_need H r (right_of u)) (sym (cond-false _ _ _ shows))
]

-- ---- places with and without a leaf

abbrev filled : List (Option (List ℕ)) → ℕ
filled [] = 0
filled (None ∷ os) = filled os
filled (Some x ∷ os) = 1 + filled os

filled-cut : (k : ℕ) (os : List (Option (List ℕ))) → filled os ≡ filled (take k os) + filled (drop k os)
filled-cut zero os = omega arith
filled-cut (suc k) [] = omega arith
filled-cut (suc k) (None ∷ os) = filled-cut k os
filled-cut (suc k) (Some x ∷ os) = omega (arith, filled-cut k os)

filled-cons : (o : Option (List ℕ)) (os : List (Option (List ℕ))) → filled (o ∷ os) ≡ filled (o ∷ []) + filled os
filled-cons None os = omega arith
filled-cons (Some x) os = omega arith

-- ---- at most one digest for each level and each shown leaf, plus one

abbrev pub IsFew : ℕ → List (Option (List ℕ)) → Tree (Option (List ℕ)) → Type 0
IsFew h os t = ((is_bare t ≡ true) × (need t ≤ 1) × (filled os ≡ 0)) ⊎ ((is_bare t ≡ false) × (1 ≤ filled os) × (need t ≤ h * filled os))

one_more : (h a b x y : ℕ) → x ≤ 1 → 1 ≤ b → y ≤ h * b → x + y ≤ suc h * (a + b)
one_more h a b x y one some few = omega (arith, one, some, few)

few_more : (h a b x y : ℕ) → x ≤ h * a → y ≤ h * b → x + y ≤ suc h * (a + b)
few_more h a b x y first second = omega (arith, first, second)

higher : (h : ℕ) (os : List (Option (List ℕ))) (t : Tree (Option (List ℕ))) → IsFew h os t → IsFew (suc h) os t
higher h os t (inl bare) = inl bare
higher h os t (inr shows) = inr (shows.0, shows.1, omega (arith, shows.2))

both_show : (h : ℕ) (os left right : List (Option (List ℕ))) (l r : Tree (Option (List ℕ))) → filled os ≡ filled left + filled right
    → is_bare l && is_bare r ≡ false → 1 ≤ filled os → need l + need r ≤ suc h * (filled left + filled right) → IsFew (suc h) os (node l r)
both_show h os left right l r cut shows some few =
    let all : need (node l r) ≡ need l + need r = cond-false _ _ _ shows in
    inr (shows, some, subst (λ m. need (node l r) ≤ suc h * m) (sym cut) (omega (arith, all, few)))

both : (h : ℕ) (os left right : List (Option (List ℕ))) (l r : Tree (Option (List ℕ))) → filled os ≡ filled left + filled right
    → IsFew h left l → IsFew h right r → IsFew (suc h) os (node l r)
both h os left right l r cut (inl a) (inl b) =
    let bare : is_bare l && is_bare r ≡ true = rw (a.0, b.0) refl in
    let one : need (node l r) ≡ 1 = cond-true _ _ _ bare in
    inl (bare, omega (arith, one), omega (arith, cut, a.2, b.2))
both h os left right l r cut (inl a) (inr b) =
    both_show h os left right l r cut (rw (a.0, b.0) refl) (omega (arith, cut, b.1)) (one_more h (filled left) (filled right) (need l) (need r) a.1 b.1 b.2)
both h os left right l r cut (inr a) (inl b) =
    both_show h os left right l r cut (rw a.0 refl) (omega (arith, cut, a.1)) (omega (arith, one_more h (filled right) (filled left) (need r) (need l) b.1 a.1 a.2))
both h os left right l r cut (inr a) (inr b) =
    both_show h os left right l r cut (rw a.0 refl) (omega (arith, cut, a.1)) (few_more h (filled left) (filled right) (need l) (need r) a.2 b.2)

need_filled : (h : ℕ) (os : List (Option (List ℕ))) → length os ≤ 2 ^ h → IsFew h os (tree_within h os)
unfolding tree_within
need_filled zero [] short = inl (refl, omega arith, refl)
need_filled zero (None ∷ []) short = inl (refl, omega arith, refl)
need_filled zero (None ∷ o ∷ os) short = absurd (omega (arith, short))
need_filled zero (Some x ∷ os) short = inr (refl, omega arith, omega arith)
need_filled (suc h) os short = elim (cases_lt (2 ^ h) (length os)) [
  | inl long ↦
      let left = take (2 ^ h) os in
      let right = drop (2 ^ h) os in
      let first = need_filled h left (omega (arith, length-take (2 ^ h) os)) in
      let second = need_filled h right (omega (arith, short, two-pow-succ h, length-drop (2 ^ h) os)) in
      subst (IsFew (suc h) os) (sym (within-cut h os long)) (both h os left right (tree_within h left) (tree_within h right) (filled-cut (2 ^ h) os) first second)
  | inr few ↦ subst (IsFew (suc h) os) (sym (within-suc h os few)) (higher h os (tree_within h os) (need_filled h os few))
]

-- ---- no more digests than places without a leaf

need_unfilled : (h : ℕ) (os : List (Option (List ℕ))) → length os ≤ 2 ^ h → need (tree_within h os) + filled os ≤ length os
unfolding tree_within
need_unfilled zero [] short = omega arith
need_unfilled zero (None ∷ []) short = omega arith
need_unfilled zero (Some x ∷ []) short = omega arith
need_unfilled zero (o ∷ p ∷ os) short = absurd (omega (arith, short))
need_unfilled (suc h) os short = elim (cases_lt (2 ^ h) (length os)) [
  | inl long ↦ elim (need_filled (suc h) os short) [
    | inl bare ↦ omega (arith, bare.1, bare.2, long)
    | inr shows ↦
        let left = take (2 ^ h) os in
        let right = drop (2 ^ h) os in
        let size = length-take (2 ^ h) os in
        let rest = length-drop (2 ^ h) os in
        let first = need_unfilled h left (omega (arith, size)) in
        let second = need_unfilled h right (omega (arith, short, two-pow-succ h, rest)) in
        let both : need (tree_within (suc h) os) ≡ need (tree_within h left) + need (tree_within h right) =
        ap need (within-cut h os long) ∙ cond-false _ _ _ (subst (λ t. is_bare t ≡ false) (within-cut h os long) shows.0) in
        omega (arith, both, first, second, filled-cut (2 ^ h) os, size, rest, long)
  ]
  | inr few ↦ subst (λ t. need t + filled os ≤ length os) (sym (within-suc h os few)) (need_unfilled h os few)
]

-- ---- shown leaves fill no more places than they are

filled_none : (from n : ℕ) → filled (places from n []) ≡ 0
filled_none from zero = refl
filled_none from (suc n) = filled_none (from + 1) n

filled_one : (s : Shown) (rest : List Shown) (from n : ℕ)
    → (s.0 < from → filled (places from n (s ∷ rest)) ≤ filled (places from n rest)) × (filled (places from n (s ∷ rest)) ≤ 1 + filled (places from n rest))
filled_one s rest from zero = ((λ less. omega arith), omega arith)
filled_one s rest from (suc n) =
    let later = filled_one s rest (from + 1) n in
    let whole = filled-cons (shown_at (s ∷ rest) from) (places (from + 1) n (s ∷ rest)) in
    let other = filled-cons (shown_at rest from) (places (from + 1) n rest) in
    elim (cases_Bool (nat_eq s.0 from)) [
      | inl here ↦
          let is : s.0 ≡ from = eqb-true s.0 from here in
          let at : shown_at (s ∷ rest) from ≡ Some s.1 = cond-true _ _ _ here in
          let one : filled (shown_at (s ∷ rest) from ∷ []) ≡ 1 = ap (λ o. filled (o ∷ [])) at in
          ((λ less. absurd (omega (arith, less, is))), omega (arith, whole, other, one, later.0 (omega (arith, is))))
      | inr not ↦
          let at : shown_at (s ∷ rest) from ≡ shown_at rest from = cond-false _ _ _ not in
          let same : filled (shown_at (s ∷ rest) from ∷ []) ≡ filled (shown_at rest from ∷ []) = ap (λ o. filled (o ∷ [])) at in
          ((λ less. omega (arith, whole, other, same, later.0 (omega (arith, less)))), omega (arith, whole, other, same, later.1))
    ]

filled_few : (shown : List Shown) (from n : ℕ) → filled (places from n shown) ≤ length shown
filled_few [] from n = omega (arith, filled_none from n)
filled_few (s ∷ rest) from n = omega (arith, (filled_one s rest from n).1, filled_few rest from n)

-- ---- the bounds of a proof

abbrev shown_of : List (List ℕ) → ℕ → Shown
shown_of leaves p = (p, get_or leaves p [])

-- at most 64 leaves of a dictionary need few digests
pub dictionary_few : (H : List ℕ → List ℕ) (leaves : List (List ℕ)) (positions : List ℕ) → length leaves ≤ 2 ^ 25 → length positions ≤ 64
    → length (elided_digests H leaves positions) ≤ 1601
dictionary_few H leaves positions short few =
    let shown = shown_with leaves positions in
    let os = places 0 (length leaves) shown in
    let size = length-places 0 (length leaves) shown in
    let low : length os ≤ 2 ^ 25 = omega (arith, short, size) in
    let count : filled os ≤ 64 = omega (arith, filled_few shown 0 (length leaves), length-map positions (shown_of leaves), few) in
    let all = elided_need H (tree_of os) (tree_of leaves) ∙ ap need (of-within 25 os low) in
    elim (need_filled 25 os low) [
      | inl bare ↦ omega (arith, all, bare.1)
      | inr shows ↦ omega (arith, all, shows.2, count)
    ]

-- no leaves of a list need more digests than the list has leaves
pub documents_few : (H : List ℕ → List ℕ) (leaves : List (List ℕ)) (positions : List ℕ) → length leaves ≤ 65536
    → length (elided_digests H leaves positions) ≤ 65536
documents_few H leaves positions few =
    let os = places 0 (length leaves) (shown_with leaves positions) in
    let size = length-places 0 (length leaves) (shown_with leaves positions) in
    let low : length os ≤ 2 ^ 16 = omega (arith, few, size) in
    let all = elided_need H (tree_of os) (tree_of leaves) ∙ ap need (of-within 16 os low) in
    omega (arith, all, need_unfilled 16 os low, size, few)
