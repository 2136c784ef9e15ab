-- All roots of a list, shown as leaves of their tree: no digest is needed.
use Rattle.std.proofs.Common.{◌≡◌, ◌∙◌, ◌<◌, ◌+◌, ◌≤◌, ℕ, zero, suc, List, [], ◌∷◌, length, get_or, false, Option, Some, is_none, refl, sym, ap, subst, arith}
use Rattle.std.specs.List.{All, range_with_len}
use Rattle.std.specs.List.Sorted.{IsStrictlyIncreasing}
use Rattle.std.proofs.lemmas.List.{get_or-map, length-map}
use Rattle.std.proofs.lemmas.List.FromFn.{length-range_with_len, get_or-range_with_len}
use Rattle.ats_tree.specs.Elided.{shown_with, elided_digests}
use Rattle.ats_tree.specs.Rebuild.{need, rebuilt}
use Rattle.ats_tree.specs.Shown.{Shown, positions_of, shown_at, places}
use Rattle.ats_tree.specs.Tree.{mth, tree_of}
use Rattle.ats_tree.proofs.Public.{elided-rebuilds, full-need, IsFront, length-places, own_place, part-elided, place-of, rises-increasing, within-increasing}

-- ---- all leaves of a tree, shown

-- the positions of all roots
abbrev pub all_of : List (List ℕ) → List ℕ
all_of roots = range_with_len 0 (length roots)

abbrev pub all_shown : List (List ℕ) → List Shown
all_shown roots = shown_with roots (all_of roots)

range_rises : (n : ℕ) → IsStrictlyIncreasing (range_with_len 0 n)
range_rises n k inside =
    let within : k + 1 < n = omega (arith, inside, length-range_with_len 0 n) in
    omega (arith, get_or-range_with_len 0 n k 0 (omega arith), get_or-range_with_len 0 n (k + 1) 0 within)

range_below : (n : ℕ) → All (λ p. p < n) (range_with_len 0 n)
range_below n k d inside =
    let within : k < n = omega (arith, inside, length-range_with_len 0 n) in
    omega (arith, get_or-range_with_len 0 n k d within)

pub positions_rise : (roots : List (List ℕ)) → IsStrictlyIncreasing (positions_of (all_shown roots))
positions_rise roots = subst (λ (ps : List ℕ). IsStrictlyIncreasing ps) (sym (place-of roots (all_of roots))) (range_rises (length roots))

-- the leaf that is shown first of those from k on is root k
pub leaf_is : (roots : List (List ℕ)) (k : ℕ) → k < length roots → get_or (all_shown roots) k (0, []) ≡ (k, get_or roots k [])
leaf_is roots k low =
    let show : ℕ → Shown = λ p. (p, get_or roots p []) in
    let inside : k < length (all_of roots) = omega (arith, low, length-range_with_len 0 (length roots)) in
    let place : get_or (all_of roots) k 0 ≡ k = omega (arith, get_or-range_with_len 0 (length roots) k 0 low) in
    get_or-map show (all_of roots) k 0 (0, []) inside ∙ ap show place

pub shown_many : (roots : List (List ℕ)) → length (all_shown roots) ≡ length roots
shown_many roots =
    let show : ℕ → Shown = λ p. (p, get_or roots p []) in
    length-map (all_of roots) show ∙ length-range_with_len 0 (length roots)

is_shown : (roots : List (List ℕ)) (k : ℕ) → k < length roots → is_none (shown_at (all_shown roots) k) ≡ false
is_shown roots k low =
    let there = own_place 0 (all_shown roots) k (0, []) (rises-increasing (all_shown roots) (positions_rise roots))
    (omega (arith, low, shown_many roots)) in
    let Found : Shown → Type 0 = λ s. shown_at (all_shown roots) s.0 ≡ Some s.1 in
    ap is_none (subst Found (leaf_is roots k low) there.0)

all_front : (shown : List Shown) (n from : ℕ) → ((k : ℕ) → k < from + n → is_none (shown_at shown k) ≡ false) → IsFront n (places from n shown)
all_front shown zero from each = refl
all_front shown (suc n) from each = (
  each from (omega arith),
  all_front shown n (from + 1) (λ k below. each k (omega (arith, below))),
)

-- no digest is needed
pub nothing_elided : (H : List ℕ → List ℕ) (roots : List (List ℕ)) → elided_digests H roots (all_of roots) ≡ []
nothing_elided H roots =
    let n : ℕ = length roots in
    let os : List (Option (List ℕ)) = places 0 n (all_shown roots) in
    let none : need (tree_of os) ≡ 0 =
    full-need n os (omega (arith, length-places 0 n (all_shown roots)))
    (all_front (all_shown roots) n 0 (λ k below. is_shown roots k (omega (arith, below)))) in
    empty_list (elided_digests H roots (all_of roots)) (part-elided H 0 n (all_shown roots) roots refl ∙ none)
  where
    empty_list : (ds : List (List ℕ)) → length ds ≡ 0 → ds ≡ []
    empty_list [] none = refl
    empty_list (d ∷ ds) none = absurd (omega (arith, none))

-- all roots, shown, rebuild the root of their tree
pub all_rebuild : (H : List ℕ → List ℕ) (roots : List (List ℕ)) → 1 ≤ length roots → rebuilt H (length roots) (all_shown roots) [] ≡ Some (mth H roots)
all_rebuild H roots some =
    let n : ℕ = length roots in
    subst (λ (ds : List (List ℕ)). rebuilt H n (all_shown roots) ds ≡ Some (mth H roots)) (nothing_elided H roots)
    (elided-rebuilds H roots (all_of roots) some (within-increasing n (all_of roots) (range_rises n) (range_below n)))
