-- For each archive with the root of an accepted proof, the documents that it shows are all that have every term of the
-- query, or there is a collision.
use Rattle.std.proofs.Common.{◌≡◌, ℕ, List, length, sym, inl, inr}
use Rattle.ats_terms.specs.Query.{IsQuery}
use Rattle.ats_proof.specs.Ranges.{IsInRange}
use Rattle.ats_proof.specs.Value.{Proof, IsProof}
use Rattle.ats_proof.proofs.Public.{in_range}
use Rattle.ats_client.proofs.Public.{own_or_collides}
use Rattle.ats_all_check.specs.Headline.{AreBothOrCollide}
use Rattle.ats_all_check.specs.Rules.{AcceptsBoth}
use Rattle.ats_all_check.proofs.Showing.{shown_are_both}

pub both_or_collide : (H : List ℕ → List ℕ) → ((m : List ℕ) → length (H m) ≡ 32) → (root : List ℕ) (query : List (List ℕ × ℕ)) (bytes : List ℕ) (proof : Proof)
    → IsQuery query → IsProof bytes proof → AcceptsBoth H root query proof → AreBothOrCollide H root query proof
both_or_collide H sized root query bytes proof asked says accepts archive are same =
    let range : IsInRange proof = in_range bytes proof says in
    elim (own_or_collides H sized root query proof asked range says.prefix_each accepts.holds.1.1.0 archive are same) [
      | inl own ↦ inl (shown_are_both H archive root query proof
          (record { are = are; asked = asked; range = range; enough = sym says.prefix_each; parts = says.documents; holds = accepts.holds.1.1.0; own = own })
          accepts.holds.0 accepts.holds.1.1.1.0)
      | inr some ↦ inr some
    ]
