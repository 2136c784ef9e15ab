-- The leaves of a document's terms.
use Rattle.std.proofs.Common.{◌≡◌, ◌⊎◌, ◌+◌, ◌<◌, ◌≤◌, ℕ, zero, suc, List, [], ◌∷◌, length, map, refl, sym, subst, ◌∙◌, arith, inl, inr}
use Rattle.std.specs.List.{All}
use Rattle.std.specs.List.Sorted.{IsStrictlyIncreasing}
use Rattle.std.proofs.lemmas.Bool.{cases_lt}
use Rattle.std.proofs.lemmas.List.{length-map}
use Rattle.std.proofs.lemmas.List.Elements.{All-tail}
use Rattle.ats_terms.specs.Query.{Rises}
use Rattle.ats_tree.specs.Tree.{tree_of}
use Rattle.ats_tree.specs.Rebuild.{tree_of_places}
use Rattle.ats_tree.specs.Elided.{elided_digests, shown_with}
use Rattle.ats_tree.proofs.Public.{elided-sized}
use Rattle.ats_dict.specs.declared.spot.Spot.{Spot}
use Rattle.ats_dict.specs.declared.spot.Spot.TheVariants.{At, Between}
use Rattle.ats_doctree.specs.Impacts.{AreImpacts}
use Rattle.ats_doctree.specs.Sentinels.{IsBelow, item_at, low, term_at, terms_leaves}
use Rattle.ats_doctree.proofs.Public.{item_at-last, item_at-suc, length-terms_leaves, terms_rise}
use Rattle.ats_proof.specs.Value.{TermsSection}
use Rattle.ats_proof.proofs.Public.{increasing-tail}
use Rattle.ats_honest.specs.Documents.{IsHonestSection, IsTermSpot, shown_term}
use Rattle.ats_honest.specs.Terms.{AreNeeded, HaveSpots, slot_of}
use Rattle.ats_honest.specs.Inner.Terms.{lower}
use Rattle.ats_honest.specs.Inner.Order.{ComesIn}
use Rattle.ats_honest.proofs.ComingDocuments.{AreGoodTerms, IsGoodSection, come_section}
use Rattle.ats_honest.proofs.Elided.{dictionary_few}
use Rattle.ats_honest.proofs.Ranges.{above_first, all_below, rising_slots, some_needed}
use Rattle.ats_honest.proofs.Spots.{spots_each}

-- what holds for a leaf, sentinels included
pub record IsItem (item : List ℕ × ℕ) : Type 0 where
  pub short : length item.0 ≤ 64
  pub small : item.1 ≤ 2200

pub item_leaf : (items : List (List ℕ × ℕ)) (p : ℕ) → AreImpacts items → p < length items + 2 → IsItem (item_at items p)
item_leaf items zero are inside = record { short = omega arith; small = omega arith }
item_leaf items (suc p) are inside = elim (cases_lt p (length items)) [
  | inl within ↦ subst IsItem (sym (item_at-suc items p low within)) (record { short = (are.terms p low within).few; small = (are.impacts p low within).few })
  | inr past ↦ subst IsItem (sym (item_at-last items (suc p) (omega (arith, past, inside)))) (record { short = omega arith; small = omega arith })
]

-- they are in the grammar's order, each in its range
pub good_terms : (items : List (List ℕ × ℕ)) (ps : List ℕ) (least : ℕ) → AreImpacts items → IsStrictlyIncreasing ps → All (λ p. least ≤ p) ps → All (λ p. p < length items + 2) ps
    → AreGoodTerms least (map (shown_term items) ps)
good_terms items [] least are rises above below = tt
good_terms items (p ∷ ps) least are rises above below =
    let first = below 0 0 (omega arith) in
    let leaf = item_leaf items p are first in (
      above 0 0 (omega arith),
      omega (arith, first, are.few),
      leaf.short,
      omega (arith, leaf.small),
      good_terms items ps (p + 1) are (increasing-tail p ps rises) (above_first p ps rises) (All-tail (λ q. q < length items + 2) p ps below),
    )

-- ---- the places of terms

pub lower_item : (items : List (List ℕ × ℕ)) (term : List ℕ) (spot : Spot) → IsTermSpot items term spot → lower spot ≤ length items
lower_item items term (At p) is = is.within
lower_item items term (Between p) is = is.within

lower_at : (items : List (List ℕ × ℕ)) (term : List ℕ) (spot : Spot) → IsTermSpot items term spot → (term_at items (lower spot) ≡ term) ⊎ IsBelow (term_at items (lower spot)) term
lower_at items term (At p) is = inl is.same
lower_at items term (Between p) is = inr is.above

upper_at : (items : List (List ℕ × ℕ)) → AreImpacts items → (term : List ℕ) (spot : Spot) → IsTermSpot items term spot → IsBelow term (term_at items (lower spot + 1))
upper_at items are term (At p) is = subst (λ (t : List ℕ). IsBelow t (term_at items (p + 1))) is.same (terms_rise items are p (p + 1) (omega arith) (omega (arith, is.within)))
upper_at items are term (Between p) is = is.below

-- ---- a section

-- the honest section that shows these spots by these positions
abbrev pub section_of : (List ℕ → List ℕ) → List (List ℕ × ℕ) → List Spot → List ℕ → TermsSection
section_of H items spots positions = record {
  leaves = map (shown_term items) positions;
  digests = elided_digests H (terms_leaves items) positions;
  slots = map (slot_of positions) spots;
}

pub is_section : (H : List ℕ → List ℕ) (items terms : List (List ℕ × ℕ)) (spots : List Spot) (positions : List ℕ) → HaveSpots (IsTermSpot items) terms spots → AreNeeded spots positions
    → IsHonestSection H items terms (section_of H items spots positions)
is_section H items terms spots positions found needed = record {
  spots = spots;
  found = found;
  positions = positions;
  needed = needed;
  leaves = refl;
  digests = refl;
  slots = refl;
}

module _ (H : List ℕ → List ℕ) (sized : (bytes : List ℕ) → length (H bytes) ≡ 32) (items terms : List (List ℕ × ℕ)) (spots : List Spot) (positions : List ℕ) where
  good_section : AreImpacts items → 1 ≤ length terms → Rises terms → HaveSpots (IsTermSpot items) terms spots → AreNeeded spots positions → length positions ≤ 64
      → IsGoodSection (section_of H items spots positions)
  good_section are some rises found needed few =
      let size = length-map positions (shown_term items) in
      let leaves = terms_leaves items in
      let below = all_below (IsTermSpot items) (length items) (lower_item items) terms spots positions found needed in record {
        some = omega (arith, size, some_needed (IsTermSpot items) terms spots positions some found needed);
        few = omega (arith, size, few);
        leaves = good_terms items positions 0 are needed.rise (λ k d less. omega arith) below;
        others = record {
          few = omega (arith, dictionary_few H leaves positions (omega (arith, length-terms_leaves items, are.few)) few);
          each = elided-sized H sized (tree_of_places (length leaves) (shown_with leaves positions)) (tree_of leaves);
        };
        places = rising_slots (term_at items) (length items) (IsTermSpot items) (terms_rise items are) (lower_item items) (lower_at items) (upper_at items are) positions terms spots few rises found;
      }

  -- its fields are in the grammar's order
  pub section_comes : AreImpacts items → 1 ≤ length terms → Rises terms → HaveSpots (IsTermSpot items) terms spots → AreNeeded spots positions → length positions ≤ 64
      → ComesIn (length terms) (section_of H items spots positions)
  section_comes are some rises found needed few =
      let section = section_of H items spots positions in
      subst (λ (n : ℕ). ComesIn n section) (length-map spots (slot_of positions) ∙ spots_each (IsTermSpot items) terms spots found)
      (come_section section (good_section are some rises found needed few))
