-- The file of a catalog is made, or it is not, in one way.
use Rattle.std.proofs.Common.{◌≡◌, ◌∙◌, ◌++◌, ◌∷◌, ◌^◌, ℕ, List, [], length, sym, ap, inl, inr, arith}
use Rattle.std.specs.List.{concat}
use Rattle.ats_commit.specs.Archive.{Archive}
use Rattle.ats_proof.specs.Value.{Proof, fields_of}
use Rattle.ats_proof.specs.declared.record.Algorithm.{Algorithm}
use Rattle.ats_honest.specs.Honest.{length_of, IsTooLongBy}
use Rattle.ats_honest.proofs.Public.{one_honest}
use Rattle.ats_catalog_honest.specs.Ranking.{Ranked}
use Rattle.ats_catalog_proof.specs.Proving.{HasRootOf}
use Rattle.ats_plan.specs.Plan.{Plan}
use Rattle.ats_plan.specs.Inner.Sound.{IsExact, IsOne}
use Rattle.ats_console.specs.declared.stops.Stop.{Stop}
use Rattle.ats_console.specs.declared.stops.Stop.TheVariants.{Usage, Input}
use Rattle.ats_console.proofs.Public.{Sound, tries, gets, not_input, index_sound, spelled_fields}
use Rattle.ats_makers.specs.Commands.{HasOtherRoot, IsShardMade, IsShardUnmade, IsFileShort, IsFileLong, asked_by, proves_shards}
use Rattle.ats_makers.specs.Lines.{line_of_long_shard}

-- what a shard is asked for has one proof over an archive
pub one_asked : (H : List ℕ → List ℕ) (query : List (List ℕ × ℕ)) (algorithm : Algorithm) (r : ℕ) (ranking : List Ranked) (archive : Archive) (shard : ℕ) (a b : Proof)
    → asked_by H query algorithm r ranking archive shard a → asked_by H query algorithm r ranking archive shard b → a ≡ b
one_asked H query algorithm r ranking archive shard a b is also = one_honest _ _ H archive query algorithm a b is also

module _ (Asked : Proof → Type 0) (one : (a b : Proof) → Asked a → Asked b → a ≡ b) (shard : ℕ) where
  one_shard_bytes : (a b : List ℕ) → IsShardMade Asked a → IsShardMade Asked b → a ≡ b
  one_shard_bytes a b is also =
      let first = is.proved in
      let second = also.proved in
      let same = one first.proof second.proof first.honest second.honest in
      spelled_fields a first.proof first.spells ∙ ap (λ (p : Proof). concat (fields_of p)) same ∙ sym (spelled_fields b second.proof second.spells)

  made_short : (bytes : List ℕ) → IsShardMade Asked bytes → (n : ℕ) → IsTooLongBy Asked (2 ^ 26) n → ⊥
  made_short bytes made n long =
      let proved = made.proved in
      let same = one long.proof proved.proof long.honest proved.honest in
      let fields = ap length (spelled_fields bytes proved.proof proved.spells) in
      omega (arith, fields, made.short, ap length_of same, long.bytes_are, long.beyond)

  one_long : (a b : ℕ) → IsTooLongBy Asked (2 ^ 26) a → IsTooLongBy Asked (2 ^ 26) b → a ≡ b
  one_long a b is also = is.bytes_are ∙ ap length_of (one is.proof also.proof is.honest also.honest) ∙ sym also.bytes_are

  shard_breaks : (bytes : List ℕ) (stop : Stop) → IsShardUnmade Asked shard stop → IsShardMade Asked bytes → ⊥
  shard_breaks bytes stop (inl (none, is)) made = none made.proved.proof made.proved.honest
  shard_breaks bytes stop (inr (n, long, is)) made = made_short bytes made n long

  one_unmade : (a b : Stop) → IsShardUnmade Asked shard a → IsShardUnmade Asked shard b → a ≡ b
  one_unmade a b (inl (none, is)) (inl (also, like)) = is ∙ sym like
  one_unmade a b (inl (none, is)) (inr (n, long, like)) = absurd (none long.proof long.honest)
  one_unmade a b (inr (n, long, is)) (inl (none, like)) = absurd (none long.proof long.honest)
  one_unmade a b (inr (n, long, is)) (inr (m, also, like)) = is ∙ ap (λ (size : ℕ). Input (line_of_long_shard shard size)) (one_long n m long also) ∙ sym like

  shard_one : IsOne (IsShardMade Asked) (IsShardUnmade Asked shard)
  shard_one = record { single = one_shard_bytes; breaks = shard_breaks; one = one_unmade }

  shard_free : IsShardUnmade Asked shard Usage → ⊥
  shard_free (inl (none, is)) = not_input is
  shard_free (inr (n, long, is)) = not_input is

root_exact : (H : List ℕ → List ℕ) (catalog : List Archive) (shard : ℕ) (archive : Archive) → IsExact (HasRootOf H catalog shard archive) (HasOtherRoot H catalog shard archive)
root_exact H catalog shard archive = record { breaks = λ stop other is. other.0 is; one = λ a b is also. is.1 ∙ sym also.1 }

pub file_exact : (bytes : List ℕ) → IsExact (IsFileShort bytes) (IsFileLong bytes)
file_exact bytes = record { breaks = λ stop long short. omega (arith, long.0, short); one = λ a b is also. is.1 ∙ sym also.1 }

pub shards_sound : {rest : List (List ℕ) → Plan Stop} (H : List ℕ → List ℕ) (catalog : List Archive) (asked : Archive → ℕ → Proof → Type 0)
    → ((archive : Archive) (shard : ℕ) (a b : Proof) → asked archive shard a → asked archive shard b → a ≡ b) → (got : List (List ℕ)) (names : List (List ℕ))
    → ((proofs : List (List ℕ)) → Sound (rest proofs)) → Sound (proves_shards H catalog asked got names rest)
shards_sound H catalog asked one got [] later = later got
shards_sound {rest = rest} H catalog asked one got (name ∷ names) later = index_sound (λ archive.
    tries (root_exact H catalog (length got) archive) (λ stops. not_input stops.1)
    (gets (shard_one (asked archive (length got)) (one archive (length got)) (length got)) (shard_free (asked archive (length got)) (one archive (length got)) (length got))
    (λ proof. shards_sound {rest = rest} H catalog asked one (got ++ proof ∷ []) names later)))
