-- The proof of all documents with every term is made or too long in one way.
use Rattle.std.proofs.Common.{◌≡◌, ◌∙◌, ◌≤◌, ◌^◌, ℕ, List, length, sym, ap, arith}
use Rattle.std.specs.List.{concat}
use Rattle.ats_commit.specs.Archive.{Archive}
use Rattle.ats_proof.specs.declared.record.Algorithm.TheVariants.{Tra}
use Rattle.ats_proof.specs.Value.{Proof, fields_of}
use Rattle.ats_honest.specs.Honest.{length_of}
use Rattle.ats_honest.proofs.Public.{one_cut_shown}
use Rattle.ats_all_proof.specs.Made.{both_cut, IsBothMade, IsBothProof, IsBothFault}
use Rattle.ats_all_proof.specs.declared.making.BothFault.TheVariants.{TooLong}
use Rattle.ats_plan.specs.Inner.Sound.{IsExact}
use Rattle.ats_console.specs.Stops.{line_of_long_proof}
use Rattle.ats_console.specs.declared.stops.Stop.{Stop}
use Rattle.ats_console.specs.declared.stops.Stop.TheVariants.{Input}
use Rattle.ats_makers.specs.Commands.{AreBothBytes, IsBothShort, IsBothUnmade}
use Rattle.ats_console.proofs.Public.{spelled_fields}

module _ (H : List ℕ → List ℕ) (archive : Archive) (query : List (List ℕ × ℕ)) where
  one_made : (a b : Proof) → IsBothMade H archive query a → IsBothMade H archive query b → a ≡ b
  one_made a b is also = one_cut_shown H archive query Tra (both_cut archive.texts query) a b is also

  -- the bytes that are made are one
  pub one_both_bytes : (a b : List ℕ) → AreBothBytes H archive query a → AreBothBytes H archive query b → a ≡ b
  one_both_bytes a b is also =
      let first = is.proved in
      let second = also.proved in
      let same = one_made first.proof second.proof first.shows second.shows in
      spelled_fields a first.proof first.spells ∙ ap (λ (p : Proof). concat (fields_of p)) same ∙ sym (spelled_fields b second.proof second.spells)

  -- a proof that is made is not too long
  pub both_short : (bytes : List ℕ) → IsBothProof H archive query bytes → length bytes ≤ 2 ^ 26 → IsBothShort H archive query
  both_short bytes proved short size long =
      let same = one_made long.proof proved.proof long.shows proved.shows in
      let fields = ap length (spelled_fields bytes proved.proof proved.spells) in
      omega (arith, fields, short, ap length_of same, long.bytes_are, long.beyond)

  -- the length of one that is too long is one
  one_length : (a b : ℕ) → IsBothFault H archive query (TooLong a) → IsBothFault H archive query (TooLong b) → a ≡ b
  one_length a b is also = is.bytes_are ∙ ap length_of (one_made is.proof also.proof is.shows also.shows) ∙ sym also.bytes_are

  one_unmade : (a b : Stop) → IsBothUnmade H archive query a → IsBothUnmade H archive query b → a ≡ b
  one_unmade a b (size, is, same) (other, also, like) = same ∙ ap (λ (bytes : ℕ). Input (line_of_long_proof bytes)) (one_length size other is also) ∙ sym like

  pub both_length_exact : IsExact (IsBothShort H archive query) (IsBothUnmade H archive query)
  both_length_exact = record {
    breaks = λ stop out none. none out.0 out.1;
    one = one_unmade;
  }
