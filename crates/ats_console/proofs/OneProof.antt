-- There is one honest proof, so it is made or it is too long, in one way.
use Rattle.std.proofs.Common.{◌≡◌, ◌∙◌, ◌≤◌, ◌^◌, ℕ, List, length, sym, ap, arith, append-nil}
use Rattle.std.specs.List.{concat}
use Rattle.ats_commit.specs.Archive.{Archive}
use Rattle.ats_proof.specs.declared.record.Algorithm.{Algorithm}
use Rattle.ats_proof.specs.Value.{Proof, IsProof, fields_of}
use Rattle.ats_honest.specs.Honest.{IsHonest, IsTooLong, length_of}
use Rattle.ats_honest.proofs.Public.{one_proof}
use Rattle.ats_console.specs.Making.{IsMade, IsNotTooLong, IsUnmade}
use Rattle.ats_plan.specs.Inner.Sound.{IsExact}
use Rattle.ats_console.specs.Stops.{line_of_long_proof}
use Rattle.ats_console.specs.declared.stops.Stop.{Stop}
use Rattle.ats_console.specs.declared.stops.Stop.TheVariants.{Input}

-- bytes that spell a proof are its fields
pub spelled_fields : (bytes : List ℕ) (proof : Proof) → IsProof bytes proof → bytes ≡ concat (fields_of proof)
spelled_fields bytes proof is = is.spells.whole.parts ∙ append-nil (concat (fields_of proof))

module _ (H : List ℕ → List ℕ) (archive : Archive) (query : List (List ℕ × ℕ)) (r : ℕ) (algorithm : Algorithm) where
  -- an honest proof within the limit is not too long
  pub honest_short : (proof : Proof) (limit bytes : ℕ) → IsHonest H archive query r algorithm proof → length_of proof ≤ limit
      → IsTooLong H archive query r algorithm limit bytes → ⊥
  honest_short proof limit bytes honest short long =
      let same = one_proof H archive query r algorithm proof long.proof honest long.honest in
      omega (arith, short, ap length_of same, long.bytes_are, long.beyond)

  -- the length of one that is too long is one
  pub one_length : (limit a b : ℕ) → IsTooLong H archive query r algorithm limit a → IsTooLong H archive query r algorithm limit b → a ≡ b
  one_length limit a b is also =
      is.bytes_are ∙ ap length_of (one_proof H archive query r algorithm is.proof also.proof is.honest also.honest) ∙ sym also.bytes_are

  -- the bytes that are made are one
  pub one_made : (a b : List ℕ) → IsMade H archive query r algorithm a → IsMade H archive query r algorithm b → a ≡ b
  one_made a b is also =
      let first = is.proved in
      let second = also.proved in
      let same = one_proof H archive query r algorithm first.proof second.proof first.honest second.honest in
      spelled_fields a first.proof first.spells ∙ ap (λ (p : Proof). concat (fields_of p)) same ∙ sym (spelled_fields b second.proof second.spells)

  -- a proof that is made is not too long
  pub made_short : (bytes : List ℕ) → IsMade H archive query r algorithm bytes → IsNotTooLong H archive query r algorithm
  made_short bytes made size long =
      let fields = ap length (spelled_fields bytes made.proved.proof made.proved.spells) in
      honest_short made.proved.proof (2 ^ 26) size made.proved.honest (omega (arith, fields, made.short)) long

  one_unmade : (a b : Stop) → IsUnmade H archive query r algorithm a → IsUnmade H archive query r algorithm b → a ≡ b
  one_unmade a b (size, is, same) (other, also, like) =
      same ∙ ap (λ (bytes : ℕ). Input (line_of_long_proof bytes)) (one_length (2 ^ 26) size other is also) ∙ sym like

  pub length_exact : IsExact (IsNotTooLong H archive query r algorithm) (IsUnmade H archive query r algorithm)
  length_exact = record {
    breaks = λ stop out none. none out.0 out.1;
    one = one_unmade;
  }
