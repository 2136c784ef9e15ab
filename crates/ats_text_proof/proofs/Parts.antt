-- The texts tree with one text shown, cut in two: the part with the text, and the other one, which needs one digest.
use Rattle.std.proofs.Common.{◌≡◌, ◌∙◌, ℕ, zero, suc, ◌+◌, ◌-◌, ◌*◌, ◌^◌, ◌<◌, ◌≤◌, List, Bool, true, false, ◌&&◌, Option, Some, None, refl, ap, ap₂, arith}
use Rattle.std.specs.List.{list_all}
use Rattle.std.specs.Option.{is_none}
use Rattle.std.proofs.Math.Nat.{two-pow-succ}
use Rattle.std.proofs.lemmas.Bool.{cond-true, cond-false, ne_eqb, and_from}
use Rattle.ats_tree.specs.Rebuild.{is_bare, need}
use Rattle.ats_tree.specs.Shown.{places}
use Rattle.ats_tree.specs.Tree.{Tree, empty, leaf, node, tree_of, IsPowerOfTwo}
use Rattle.ats_tree.proofs.Public.{length-places, HasLeaf, has_leaf-of, bare-of, whole-shows, leaf-tree, places-cut}
use Rattle.ats_text_check.specs.Accepts.{shown_text}

-- the n places from position `from` on, of which the document's has the text
abbrev pub text_tree : (from n doc : ℕ) → List ℕ → Tree (Option (List ℕ))
text_tree from n doc text = tree_of (places from n (shown_text doc text))

-- ---- trees of lists

pub power_some : (n : ℕ) → 1 ≤ 2 ^ n
power_some zero = omega arith
power_some (suc n) = let some = power_some n in let two = two-pow-succ n in omega (arith, some, two)

-- ---- trees with no leaf shown

-- what a part needs and hashes that shows no text
pub record IsBarePart (t : Tree (Option (List ℕ))) : Type 0 where
  pub bare : is_bare t ≡ true
  pub needs_one : need t ≡ 1

bare_part : (t : Tree (Option (List ℕ))) → HasLeaf t → is_bare t ≡ true → IsBarePart t
bare_part empty has bare = absurd has
bare_part (leaf None) has bare = record { bare = refl; needs_one = refl }
bare_part (leaf (Some x)) has bare = absurd (cc)
bare_part (node l r) has bare = record {
  bare = bare;
  needs_one = cond-true _ _ _ bare;
}

-- places before the document's, or after it, are free
free-places : (from n doc : ℕ) (text : List ℕ) → ((i : ℕ) → from ≤ i → i < from + n → doc ≡ i → ⊥) → list_all is_none (places from n (shown_text doc text)) ≡ true
free-places from zero doc text out = refl
free-places from (suc n) doc text out =
    let other : doc ≡ from → ⊥ = out from (omega arith) (omega arith) in
    and_from _ _ (ap is_none (cond-false _ _ _ (ne_eqb doc from other)))
    (free-places (from + 1) n doc text (λ i low high same. out i (omega (arith, low)) (omega (arith, high)) same))

pub bare-place : (from n doc : ℕ) (text : List ℕ) → 1 ≤ n → ((i : ℕ) → from ≤ i → i < from + n → doc ≡ i → ⊥) → IsBarePart (text_tree from n doc text)
bare-place from n doc text some out =
    let os : List (Option (List ℕ)) = places from n (shown_text doc text) in
    bare_part (tree_of os) (has_leaf-of os (omega (arith, length-places from n (shown_text doc text), some))) (bare-of os ∙ free-places from n doc text out)

-- ---- trees with the text

pub shows : (from n doc : ℕ) (text : List ℕ) → from ≤ doc → doc < from + n → is_bare (text_tree from n doc text) ≡ false
shows from n doc text low high = whole-shows from n doc (shown_text doc text) (low, tt) refl high

pub text-cut : (from k n doc : ℕ) (text : List ℕ) → IsPowerOfTwo k → k < n → n ≤ 2 * k
    → text_tree from n doc text ≡ node (text_tree from k doc text) (text_tree (from + k) (n - k) doc text)
text-cut from k n doc text power less most = places-cut from k n (shown_text doc text) power less most

-- ---- one leaf

pub text-one : (from doc : ℕ) (text : List ℕ) → from ≤ doc → doc < from + 1 → text_tree from 1 doc text ≡ leaf (Some text)
text-one from doc text low high = leaf-tree from 1 doc (shown_text doc text) refl (low, tt) refl high

-- ---- the text in the left part, or in the right one

module _ (t l r : Tree (Option (List ℕ))) (cut : t ≡ node l r) where
  module _ (shown : is_bare l ≡ false) (bare : IsBarePart r) where
    left-shows : (is_bare l && is_bare r) ≡ false
    left-shows = ap (λ (b : Bool). b && is_bare r) shown

    pub need-left : need t ≡ need l + 1
    need-left = ap need cut ∙ cond-false _ _ _ left-shows ∙ ap (λ (m : ℕ). need l + m) bare.needs_one

  module _ (bare : IsBarePart l) (shown : is_bare r ≡ false) where
    right-shows : (is_bare l && is_bare r) ≡ false
    right-shows = ap₂ (λ (a b : Bool). a && b) bare.bare shown

    pub need-right : need t ≡ 1 + need r
    need-right = ap need cut ∙ cond-false _ _ _ right-shows ∙ ap (λ (m : ℕ). m + need r) bare.needs_one
