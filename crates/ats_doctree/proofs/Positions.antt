-- The terms of all leaves, by their positions.
use Rattle.std.proofs.Common.{◌≡◌, ◌<◌, ◌+◌, ℕ, suc, List, [], ◌∷◌, ◌++◌, length, get_or, refl, sym, ◌∙◌, arith}
use Rattle.std.proofs.lemmas.List.{length-map, get_or-map}
use Rattle.std.specs.Int.{to_be_bytes, w16}
use Rattle.ats_terms.specs.Order.{IsBelow}
use Rattle.ats_terms.specs.Found.{RiseBetweenSentinels}
use Rattle.ats_terms.proofs.Public.{rises_less, inner_at, last_at, length-between, rise_between}
use Rattle.ats_doctree.specs.Impacts.{AreImpacts}
use Rattle.ats_doctree.specs.Sentinels.{low, high, with_sentinels, item_at, term_at, impact_at, leaf_bytes, terms_leaves}

-- the leaf of a term is one position past it, after the low sentinel
pub item_at-suc : (items : List (List ℕ × ℕ)) (i : ℕ) (d : List ℕ × ℕ) → i < length items → item_at items (suc i) ≡ get_or items i d
item_at-suc items = inner_at low high items

pub item_at-last : (items : List (List ℕ × ℕ)) (p : ℕ) → p ≡ length items + 1 → item_at items p ≡ high
item_at-last items = last_at low high items

pub length-with_sentinels : (items : List (List ℕ × ℕ)) → length (with_sentinels items) ≡ length items + 2
length-with_sentinels items = length-between low high items

pub length-terms_leaves : (items : List (List ℕ × ℕ)) → length (terms_leaves items) ≡ length items + 2
length-terms_leaves items = length-map (with_sentinels items) leaf_bytes ∙ length-with_sentinels items

-- the leaf at a position
pub get_or-terms_leaves : (items : List (List ℕ × ℕ)) (p : ℕ) → p < length items + 2 → get_or (terms_leaves items) p [] ≡ leaf_bytes (item_at items p)
get_or-terms_leaves items p inside = get_or-map leaf_bytes (with_sentinels items) p low [] (omega (arith, length-with_sentinels items))

-- the same, in the parts of a leaf
pub leaf_of_parts : (items : List (List ℕ × ℕ)) (p : ℕ) (term back : List ℕ) (impact : ℕ) → p < length items + 2 → term ≡ term_at items p
    → impact ≡ impact_at items p → back ≡ to_be_bytes w16 impact → length term ∷ term ++ back ≡ get_or (terms_leaves items) p []
unfolding leaf_bytes
leaf_of_parts items p term back impact inside name number bytes =
    rw (bytes, name, number) (sym (get_or-terms_leaves items p inside))

-- the terms of all leaves rise strictly, the sentinels included
pub rise : (items : List (List ℕ × ℕ)) → AreImpacts items → RiseBetweenSentinels (term_at items) (length items)
rise items is =
    rise_between low high items (λ (item : List ℕ × ℕ). item.0) refl refl is.terms (λ i j up inside. rises_less items i j low is.rises up inside)

pub terms_rise : (items : List (List ℕ × ℕ)) → AreImpacts items → (i j : ℕ) → i < j → j < length items + 2
    → IsBelow (term_at items i) (term_at items j)
terms_rise items is = (rise items is).rises
