-- The first shown leaf of a document's terms.
use Rattle.std.proofs.Common.{◌≡◌, ℕ, List, [], ◌∷◌, map, Option, Some, option_map, slice_get, ap₂}
use Rattle.ats_tree.specs.Shown.{first_position}
use Rattle.ats_proof.specs.Value.{ShownTerm}
use Rattle.ats_proof.specs.Runs.{shown_term}

-- its position and its term determine it
pub first_told : (terms : List ShownTerm) (position : ℕ) (term : List ℕ × ℕ) → Some position ≡ first_position (map shown_term terms)
    → Some term ≡ option_map (λ (t : ShownTerm). t.term) (slice_get terms 0)
    → ◌≡◌ {A = Option ShownTerm} (Some (record { position = position; term = term })) (slice_get terms 0)
first_told [] position term at is = absurd (cc)
first_told (t ∷ terms) position term at is =
    let same_position : position ≡ t.position = cc in
    let same_term : term ≡ t.term = cc in
    let told : ℕ → List ℕ × ℕ → Option ShownTerm = λ p v. Some (record { position = p; term = v }) in
    ap₂ told same_position same_term
