use Rattle.std.proofs.Common.{◌≡◌, ℕ, List, length, Bool, true, false, Some, None, nat_lt, if◌then◌else◌, subst}
use Rattle.ats_proof.specs.Value.{IsProof}
use Rattle.ats_proof.proofs.Unique.{one_value}
use Rattle.ats_proof.proofs.laws.what_is_written_is_read.Goals as goal

-- what is kept is all of it
kept_is : (over : Bool) (bytes kept : List ℕ) → (if over then None else Some bytes) ≡ Some kept → bytes ≡ kept
kept_is true bytes kept none = cc
kept_is false bytes kept some = cc

pub returns-clause-read : goal.returns-clause-read
returns-clause-read c limit bytes kept proof other is keeps =
    let same = kept_is (nat_lt limit (length bytes)) bytes kept keeps in
    let says : IsProof kept proof = subst (λ b. IsProof b proof) same is in
    (says, (λ also. one_value kept other proof also says))
