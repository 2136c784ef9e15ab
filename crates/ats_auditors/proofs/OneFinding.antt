-- What an audit finds for a proof is one finding.
use Rattle.std.proofs.Common.{◌≡◌, ◌∙◌, ℕ, List, sym, ap, subst}
use Rattle.std.specs.List.{zip}
use Rattle.ats_terms.specs.Query.{IsQueryOf}
use Rattle.ats_commit.specs.Archive.{Archive}
use Rattle.ats_commit.specs.Root.{root_of}
use Rattle.ats_proof.specs.Value.{Proof}
use Rattle.ats_console.proofs.Public.{one_accepted, same_zip}
use Rattle.ats_client.specs.Bytes.{IsRejectedBytes, IsAcceptedBytes}
use Rattle.ats_client.specs.Rows.{rows_of}
use Rattle.ats_client.specs.Strings.{proof_collision}
use Rattle.ats_client.proofs.Public.{accepted_not_refused, one_rejection}
use Rattle.ats_audit.specs.Verdicts.{IsFoundRight, IsFoundCollision}
use Rattle.ats_auditors.specs.Listed.{Listed}
use Rattle.ats_auditors.specs.Findings.{Finding, FoundRight, FoundRefused, FoundCollision, IsFinding, AreFindings}
use Rattle.ats_auditors.specs.declared.gathering.Gathered.{Gathered}
use Rattle.ats_auditors.specs.declared.gathering.Gathered.TheVariants.{Whole, Long}
use Rattle.ats_auditors.proofs.OneCollision.{none_found, one_found}

module _ (H : List ℕ → List ℕ) (archive : Archive) (query : List (List ℕ × ℕ)) (r : ℕ) (bytes : List ℕ) where
  -- what is found for the bytes, as an answer to the query
  abbrev IsFound : Finding → Type 0
  IsFound (FoundRight rows) = IsFoundRight H archive query r bytes rows
  IsFound (FoundRefused rejection) = IsRejectedBytes H (root_of H archive) query r bytes rejection
  IsFound (FoundCollision collision) = IsFoundCollision H archive query r bytes collision

  same_collision : (a b : Proof) → IsAcceptedBytes H (root_of H archive) query r bytes a → IsAcceptedBytes H (root_of H archive) query r bytes b
      → proof_collision H archive query a ≡ proof_collision H archive query b
  same_collision a b is also = ap (proof_collision H archive query) (one_accepted H (root_of H archive) query r bytes a b is also)

  one_of_bytes : (a b : Finding) → IsFound a → IsFound b → a ≡ b
  one_of_bytes (FoundRight rows) (FoundRight others) is also =
      let proofs = one_accepted H (root_of H archive) query r bytes is.proof also.proof is.accepted also.accepted in
      ap FoundRight (is.answer ∙ ap (rows_of query) proofs ∙ sym also.answer)
  one_of_bytes (FoundRight rows) (FoundRefused rejection) is also =
      absurd (accepted_not_refused H (root_of H archive) query r bytes is.proof rejection is.accepted also)
  one_of_bytes (FoundRight rows) (FoundCollision collision) is also =
      absurd (none_found collision (sym is.none ∙ same_collision is.proof also.proof is.accepted also.accepted ∙ also.found))
  one_of_bytes (FoundRefused rejection) (FoundRight rows) is also =
      absurd (accepted_not_refused H (root_of H archive) query r bytes also.proof rejection also.accepted is)
  one_of_bytes (FoundRefused rejection) (FoundRefused other) is also =
      ap FoundRefused (one_rejection H (root_of H archive) query r bytes rejection other is also)
  one_of_bytes (FoundRefused rejection) (FoundCollision collision) is also =
      absurd (accepted_not_refused H (root_of H archive) query r bytes also.proof rejection also.accepted is)
  one_of_bytes (FoundCollision collision) (FoundRight rows) is also =
      absurd (none_found collision (sym also.none ∙ same_collision also.proof is.proof also.accepted is.accepted ∙ is.found))
  one_of_bytes (FoundCollision collision) (FoundRefused rejection) is also =
      absurd (accepted_not_refused H (root_of H archive) query r bytes is.proof rejection is.accepted also)
  one_of_bytes (FoundCollision collision) (FoundCollision other) is also =
      ap FoundCollision (one_found collision other (sym is.found ∙ same_collision is.proof also.proof is.accepted also.accepted ∙ also.found))

module _ (H : List ℕ → List ℕ) (archive : Archive) (line : Listed) where
  -- a finding is for the query of its line
  found_for : (bytes : List ℕ) (finding : Finding) → IsFinding H archive line (Whole bytes) finding
      → (query : List (List ℕ × ℕ)) × IsQueryOf line.query query × IsFound H archive query line.r bytes finding
  found_for bytes (FoundRight rows) is = is
  found_for bytes (FoundRefused rejection) is = is
  found_for bytes (FoundCollision collision) (query, asked, found, differ, equal) = (query, asked, found)

  pub one_finding : (proof : Gathered) (a b : Finding) → IsFinding H archive line proof a → IsFinding H archive line proof b → a ≡ b
  one_finding (Whole bytes) a b is also =
      let first = found_for bytes a is in
      let second = found_for bytes b also in
      let same : first.0 ≡ second.0 = first.1.same ∙ sym second.1.same in
      one_of_bytes H archive second.0 line.r bytes a b (subst (λ (query : List (List ℕ × ℕ)). IsFound H archive query line.r bytes a) same first.2) second.2
  one_finding Long (FoundRefused rejection) (FoundRefused other) is also = ap FoundRefused (is ∙ sym also)
  one_finding Long (FoundRefused rejection) (FoundRight rows) is also = absurd also
  one_finding Long (FoundRefused rejection) (FoundCollision collision) is also = absurd also
  one_finding Long (FoundRight rows) b is also = absurd is
  one_finding Long (FoundCollision collision) b is also = absurd is

-- the findings for some proofs are one list
pub one_findings : (H : List ℕ → List ℕ) (archive : Archive) (listed : List Listed) (proofs : List Gathered) (a b : List Finding)
    → AreFindings H archive listed proofs a → AreFindings H archive listed proofs b → a ≡ b
one_findings H archive listed proofs a b is also =
    same_zip (λ (pair : Listed × Gathered) (finding : Finding). IsFinding H archive pair.0 pair.1 finding)
    (λ pair x y. one_finding H archive pair.0 pair.1 x y) (zip listed proofs) a b is also
