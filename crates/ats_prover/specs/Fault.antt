-- Why a server returns no proof.
use Rattle.std.specs.Prelude.{◌≡◌, ◌<◌, ◌≤◌, ℕ, List, length, Option, Some, None, Result, Ok, Err}
use Rattle.ats_commit.specs.Archive.{Archive}
use Rattle.ats_proof.specs.declared.record.Algorithm.{Algorithm}
use Rattle.ats_proof.specs.Value.{Proof}
use Rattle.ats_bound.specs.declared.share.Share.{Share}
use Rattle.ats_honest.specs.Honest.{IsCutTooLong, IsHonest, IsHonestShare, IsTooLongBy}
use Rattle.ats_prover.specs.declared.fault.ProveFault.{ProveFault}
use Rattle.ats_prover.specs.declared.fault.ProveFault.TheVariants.{ProofTooLong, OutOfMemory}

-- why there is no proof that is honest in this sense: it is too long, or memory ran out
abbrev pub IsFaultBy : (Proof → Type 0) → ℕ → ProveFault → Type 0
IsFaultBy Honest limit (ProofTooLong bytes) = IsTooLongBy Honest limit bytes
IsFaultBy Honest limit OutOfMemory = Unit {0}

abbrev pub IsFault : (List ℕ → List ℕ) → Archive → List (List ℕ × ℕ) → ℕ → Algorithm → ℕ → ProveFault → Type 0
IsFault H archive query r algorithm limit fault = IsFaultBy (IsHonest H archive query r algorithm) limit fault

abbrev pub IsShareFault : (List ℕ → List ℕ) → Archive → List (List ℕ × ℕ) → Share → ℕ → ProveFault → Type 0
IsShareFault H archive query share limit fault = IsFaultBy (IsHonestShare H archive query share) limit fault

-- the same for the proof of a cut
abbrev pub IsCutFault : (List ℕ → List ℕ) → Archive → List (List ℕ × ℕ) → Algorithm → List ℕ → ℕ → ProveFault → Type 0
IsCutFault H archive query algorithm cut limit (ProofTooLong bytes) = IsCutTooLong H archive query algorithm cut limit bytes
IsCutFault H archive query algorithm cut limit OutOfMemory = Unit {0}

-- what is returned if the proof has `size` bytes: that many bytes if they are within the limit, and otherwise
-- that they are too many. Out of memory may be returned in both cases.
abbrev pub IsAnswerWithin : (limit size : ℕ) → Result (List ℕ) ProveFault → Type 0
IsAnswerWithin limit size (Ok bytes) = (length bytes ≡ size) × (size ≤ limit)
IsAnswerWithin limit size (Err (ProofTooLong bytes)) = (bytes ≡ size) × (limit < size)
IsAnswerWithin limit size (Err OutOfMemory) = Unit {0}

-- the same if there may be no proof: as there is one, it is not reported missing
abbrev pub IsFoundWithin : (limit size : ℕ) → Result (Option (List ℕ)) ProveFault → Type 0
IsFoundWithin limit size (Ok None) = ⊥
IsFoundWithin limit size (Ok (Some bytes)) = IsAnswerWithin limit size (Ok bytes)
IsFoundWithin limit size (Err fault) = IsAnswerWithin limit size (Err fault)
