-- What the bytes of an honest proof spell is accepted.
use Rattle.std.proofs.Common.{◌≡◌, ◌≤◌, ℕ, List, length, subst, ap, arith}
use Rattle.ats_dict.specs.declared.header.Header.{Header}
use Rattle.ats_commit.specs.Archive.{Archive}
use Rattle.ats_commit.specs.Root.{root_of}
use Rattle.ats_proof.specs.declared.record.Algorithm.{Algorithm}
use Rattle.ats_proof.specs.Value.{Proof, IsProof}
use Rattle.ats_proof.proofs.Public.{in_range, one_value}
use Rattle.ats_client.specs.Accepts.{Accepts}
use Rattle.ats_honest.specs.Honest.{IsProved}
use Rattle.ats_accepts.proofs.AcceptedRows.{honest_accepted}

-- a header in bytes has at least one document
pub has_documents : (H : List ℕ → List ℕ) (archive : Archive) (query : List (List ℕ × ℕ)) (r : ℕ) (algorithm : Algorithm) (bytes : List ℕ)
    → IsProved H archive query r algorithm bytes → 1 ≤ length archive.texts
has_documents H archive query r algorithm bytes is =
    let documents : is.proof.header.documents ≡ length archive.texts = ap (λ (h : Header). h.documents) is.honest.shows.header in
    let range = in_range bytes is.proof is.spells in
    omega (arith, documents, range.front.numbers.some)

-- the check accepts what the bytes of an honest proof spell
pub proved_accepted : (H : List ℕ → List ℕ) (archive : Archive) (query : List (List ℕ × ℕ)) (r : ℕ) (algorithm : Algorithm) (bytes : List ℕ)
    → IsProved H archive query r algorithm bytes → (proof : Proof) → IsProof bytes proof → Accepts H (root_of H archive) query r proof
proved_accepted H archive query r algorithm bytes is proof says =
    subst (Accepts H (root_of H archive) query r) (one_value bytes is.proof proof is.spells says)
    (honest_accepted H archive query r algorithm is.proof (λ tra. has_documents H archive query r algorithm bytes is) is.honest)
