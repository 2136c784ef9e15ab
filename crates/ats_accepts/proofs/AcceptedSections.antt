-- The check accepts what an honest proof shows of the terms of a document.
use Rattle.std.proofs.Common.{◌≡◌, ◌+◌, ◌<◌, ℕ, List, [], ◌∷◌, length, map, get_or, Some, refl, sym, ap, ap₂, subst, ◌∙◌, arith}
use Rattle.std.specs.List.{All}
use Rattle.std.proofs.lemmas.List.{length-map, get_or-map}
use Rattle.std.proofs.lemmas.Simd.{map-map}
use Rattle.ats_tree.specs.Tree.{mth}
use Rattle.ats_tree.specs.Shown.{Shown}
use Rattle.ats_tree.specs.Rebuild.{rebuilt}
use Rattle.ats_tree.specs.Elided.{shown_with}
use Rattle.ats_dict.specs.declared.spot.Spot.{Spot}
use Rattle.ats_dict.specs.declared.spot.Spot.TheVariants.{At, Between}
use Rattle.ats_doctree.specs.Sentinels.{term_at, terms_leaves}
use Rattle.ats_doctree.proofs.Public.{get_or-terms_leaves, length-terms_leaves}
use Rattle.ats_commit.specs.Ours.{asked_term}
use Rattle.ats_proof.specs.declared.record.Slot.{Slot}
use Rattle.ats_proof.specs.Value.{ShownTerm, TermsSection}
use Rattle.ats_proof.specs.Runs as runs
use Rattle.ats_client.specs.Documents.{AreTermSlotsRight, present_from, term_shown}
use Rattle.ats_client.specs.Groups.{slot_at}
use Rattle.ats_client.specs.Slots as slots
use Rattle.ats_client.specs.Slots.{ShowsTerm}
use Rattle.ats_honest.specs.Terms.{slot_of}
use Rattle.ats_honest.specs.Inner.Present.{standing}
use Rattle.ats_honest.specs.Documents.{IsHonestSection, IsTermSpot, shown_term}
use Rattle.ats_honest.proofs.Public.{lower_item, all_below}
use Rattle.ats_accepts.proofs.Asking.{Asks, asks_first, asks_later}
use Rattle.ats_accepts.proofs.PartialTrees.{leaves_shown, positions_rebuild}
use Rattle.ats_accepts.proofs.AcceptedSlots.{LiesBy, leaf_at, slots_show}

-- ---- the numbers of the terms that have a leaf

-- the numbers that slots give, from a number on, are those of the terms that have a leaf
pub numbers_ask : (ask : ℕ → List ℕ) (positions : List ℕ) (n : ℕ) (query : List (List ℕ × ℕ)) (spots : List Spot) → length spots ≡ length query → Asks ask n query
    → map ask (present_from n (map (slot_of positions) spots)) ≡ map (λ (pair : List ℕ × ℕ). pair.0) (standing query spots)
numbers_ask ask positions n [] [] same asks = refl
numbers_ask ask positions n [] (spot ∷ spots) same asks = absurd (omega (arith, same))
numbers_ask ask positions n (pair ∷ query) [] same asks = absurd (omega (arith, same))
numbers_ask ask positions n (pair ∷ query) (At p ∷ spots) same asks =
    ap₂ (λ (x : List ℕ) (xs : List (List ℕ)). x ∷ xs) (asks_first ask n pair query asks)
    (numbers_ask ask positions (n + 1) query spots (omega (arith, same)) (asks_later ask n pair query asks))
numbers_ask ask positions n (pair ∷ query) (Between p ∷ spots) same asks =
    numbers_ask ask positions (n + 1) query spots (omega (arith, same)) (asks_later ask n pair query asks)

-- ---- a section

item_lies : (items : List (List ℕ × ℕ)) (term : List ℕ) (spot : Spot) → IsTermSpot items term spot → LiesBy (term_at items) term spot
item_lies items term (At p) is = is.same
item_lies items term (Between p) is = (is.above, is.below)

module _ (H : List ℕ → List ℕ) (items terms : List (List ℕ × ℕ)) (section : TermsSection) (honest : IsHonestSection H items terms section) where
  abbrev leaves : List (List ℕ)
  leaves = terms_leaves items

  positions_low : All (λ p. p < length leaves) honest.positions
  positions_low k d inside =
      omega (arith, all_below (IsTermSpot items) (length items) (lower_item items) terms honest.spots honest.positions honest.found honest.needed k d inside, length-terms_leaves items)

  -- its leaves are those at the needed positions
  pub section_shown : map runs.shown_term section.leaves ≡ shown_with leaves honest.positions
  section_shown =
      let size = length-terms_leaves items in
      let positions = honest.positions in
      let made : ℕ → Shown = λ p. runs.shown_term (shown_term items p) in
      ap (λ (shown : List ShownTerm). map runs.shown_term shown) honest.leaves ∙ map-map runs.shown_term (shown_term items) positions
      ∙ leaves_shown leaves made positions
      (λ p inside. ap (λ (bytes : List ℕ). let leaf : Shown = (p, bytes) in leaf) (sym (get_or-terms_leaves items p (omega (arith, inside, size)))))
      positions_low

  -- it rebuilds to the root of the document's terms
  pub section_rebuilds : rebuilt H (length leaves) (map runs.shown_term section.leaves) section.digests ≡ Some (mth H leaves)
  section_rebuilds =
      ap₂ (λ (shown : List Shown) (digests : List (List ℕ)). rebuilt H (length leaves) shown digests) section_shown honest.digests
      ∙ positions_rebuild H leaves honest.positions (omega (arith, length-terms_leaves items)) honest.needed.rise positions_low

  -- its slots show the terms with these numbers
  pub section_shows : (query : List (List ℕ × ℕ)) (numbers : List ℕ) → map (asked_term query) numbers ≡ map (λ (pair : List ℕ × ℕ). pair.0) terms → AreTermSlotsRight query numbers section
  section_shows query numbers named i inside =
      let name : List ℕ × ℕ → List ℕ = λ pair. pair.0 in
      let size : length numbers ≡ length terms = sym (length-map numbers (asked_term query)) ∙ ap (λ (xs : List (List ℕ)). length xs) named ∙ length-map terms name in
      let within : i < length terms = omega (arith, inside, size) in
      let term : List ℕ = (get_or terms i ([], 0)).0 in
      let asked : asked_term query (get_or numbers i 0) ≡ term =
      sym (get_or-map (asked_term query) numbers i 0 [] inside) ∙ ap (λ (xs : List (List ℕ)). get_or xs i []) named ∙ get_or-map name terms i ([], 0) [] within in
      let made : ℕ → slots.Shown = leaf_at (term_at items) in
      let shown : map term_shown section.leaves ≡ map made honest.positions = ap (map term_shown) honest.leaves ∙ map-map term_shown (shown_term items) honest.positions in
      subst (λ (t : List ℕ). ShowsTerm (map term_shown section.leaves) t (slot_at section.slots i)) (sym asked)
      (subst (λ (all : List slots.Shown). ShowsTerm all term (slot_at section.slots i)) (sym shown)
      (subst (λ (all : List Slot). ShowsTerm (map made honest.positions) term (slot_at all i)) (sym honest.slots)
      (slots_show (term_at items) (IsTermSpot items) (item_lies items) terms honest.spots honest.positions honest.found honest.needed i within)))
