-- Leaves of the documents section, and the positions of a terms section.
use Rattle.std.proofs.Common.{◌≡◌, ◌∙◌, ℕ, zero, suc, ◌-◌, ◌<◌, ◌≤◌, List, ◌∷◌, ◌++◌, length, map, take, drop, refl, sym, ap, ap₂, subst, arith}
use Rattle.std.specs.List.{All}
use Rattle.std.specs.List.Sorted.{IsStrictlyIncreasing}
use Rattle.std.proofs.lemmas.List.{drop-drop}
use Rattle.std.proofs.lemmas.List.Elements.{All-tail}
use Rattle.ats_tree.specs.Shown.{positions_of, first_leaf}
use Rattle.ats_proof.specs.Parts.{number_in, parts_in, counted_size, AreBytes}
use Rattle.ats_proof.specs.Reading.{digest_size, id_size, id_in, doc_size, doc_in, leaf_size, term_in, section_size, section_in, section_leaves_size, section_slots_place}
use Rattle.ats_proof.specs.Runs.{shown_docs, leaves_in, section_rises, sections_rise}
use Rattle.ats_proof.proofs.Taking.{parts_more, increasing-tail}
use Rattle.ats_proof.proofs.Encoding.{be_4}

pub docs_positions : (n : ℕ) (ids leaves : List ℕ) → positions_of (shown_docs (parts_in id_size id_in n ids) (parts_in doc_size doc_in n leaves)) ≡ parts_in id_size id_in n ids
docs_positions zero ids leaves = refl
docs_positions (suc n) ids leaves = ap (λ (xs : List ℕ). number_in 4 ids ∷ xs) (docs_positions n (drop 4 ids) (drop 36 leaves))

pub docs_left : (n : ℕ) (ids leaves : List ℕ) → 0 < length (shown_docs (parts_in id_size id_in n ids) (parts_in doc_size doc_in n leaves)) → 0 < n
docs_left zero ids leaves some = absurd (omega (arith, some))
docs_left (suc n) ids leaves some = omega arith

pub docs_first : (n : ℕ) (ids leaves : List ℕ) → 0 < n → 36 ≤ length leaves → AreBytes leaves
    → take 4 leaves ++ take 32 (drop 4 leaves) ≡ first_leaf (shown_docs (parts_in id_size id_in n ids) (parts_in doc_size doc_in n leaves))
docs_first zero ids leaves some space small = absurd (omega (arith, some))
docs_first (suc n) ids leaves some space small = ap (λ (xs : List ℕ). xs ++ take 32 (drop 4 leaves)) (sym (be_4 leaves (omega (arith, space)) small))

pub rest_ids_rise : (n : ℕ) (ids : List ℕ) → 0 < n → IsStrictlyIncreasing (parts_in id_size id_in n ids) → IsStrictlyIncreasing (parts_in id_size id_in (n - 1) (drop 4 ids))
rest_ids_rise n ids some rises = increasing-tail (number_in 4 ids) (parts_in id_size id_in (n - 1) (drop 4 ids)) (subst IsStrictlyIncreasing (parts_more id_size id_in n ids some) rises)

-- parts that begin with their positions, as leaves
module _ {X : Type 0} (after_term : ℕ) (read : List ℕ → X) (position : X → ℕ) (begins : (bytes : List ℕ) → position (read bytes) ≡ number_in 4 bytes) where
  pub leaf_positions : (n : ℕ) (bytes : List ℕ) → map position (parts_in (leaf_size after_term) read n bytes) ≡ positions_of (leaves_in after_term n bytes)
  leaf_positions zero bytes = refl
  leaf_positions (suc n) bytes = ap₂ (λ (x : ℕ) (xs : List ℕ). x ∷ xs) (begins bytes) (leaf_positions n (drop (leaf_size after_term bytes) bytes))

-- the bytes after the digests of a terms section
pub slots_start : (bytes digests slots : List ℕ) → digests ≡ drop (section_leaves_size bytes) bytes → slots ≡ drop (counted_size 2 digest_size digests) digests
    → slots ≡ drop (section_slots_place bytes) bytes
slots_start bytes digests slots digests_are slots_are =
    slots_are ∙ ap (λ xs. drop (counted_size 2 digest_size xs) xs) digests_are
    ∙ drop-drop (counted_size 2 digest_size (drop (section_leaves_size bytes) bytes)) (section_leaves_size bytes) bytes

module _ (present n : ℕ) (bytes : List ℕ) (some : 0 < n) (rise : sections_rise present n bytes) where
  all_rise : All section_rises (section_in present bytes ∷ parts_in (section_size present) (section_in present) (n - 1) (drop (section_size present bytes) bytes))
  all_rise = subst (λ xs. All section_rises xs) (parts_more (section_size present) (section_in present) n bytes some) rise

  pub first_section_rises : IsStrictlyIncreasing (positions_of (leaves_in 2 (number_in 2 bytes) (drop 2 bytes)))
  first_section_rises = subst IsStrictlyIncreasing (leaf_positions 2 term_in (λ t. t.position) (λ _. refl) (number_in 2 bytes) (drop 2 bytes)) (all_rise 0 (section_in present bytes) (omega arith))

  pub rest_sections_rise : sections_rise present (n - 1) (drop (section_size present bytes) bytes)
  rest_sections_rise = All-tail section_rises (section_in present bytes) (parts_in (section_size present) (section_in present) (n - 1) (drop (section_size present bytes) bytes)) all_rise
