-- The first collision of the proofs of shards, one archive more at a time, and what acceptance says of each proof.
use Rattle.std.proofs.Common.{◌≡◌, ◌∙◌, ◌+◌, ◌++◌, ◌∷◌, ℕ, List, [], length, slice_get, Option, Some, None, refl, sym, ap, arith}
use Rattle.std.specs.List.{All}
use Rattle.std.specs.Option.{option_or, option_map}
use Rattle.std.proofs.lemmas.List.Elements.{All-nil, All-cons}
use Rattle.ats_base.specs.Rules.{Group, AllHold}
use Rattle.ats_tree.specs.Differences.{Difference}
use Rattle.ats_commit.specs.Archive.{Archive}
use Rattle.ats_proof.specs.Value.{Proof}
use Rattle.ats_refusal.specs.declared.catalog.CatalogRefusal.{CatalogRefusal}
use Rattle.ats_client.specs.Strings.{proof_collision}
use Rattle.ats_catalog_bytes.specs.Value.{Framed}
use Rattle.ats_catalog_check.specs.Accepts.{IsShardRight, shard_rules, AcceptsCatalog}
use Rattle.ats_catalog_check.specs.Strings.{CatalogPlace, in_proof, difference_at, proofs_collision}

-- each shard's proof keeps its rules
pub all_right : (H : List ℕ → List ℕ) (root : List ℕ) (query : List (List ℕ × ℕ)) (r : ℕ) (shards : List Framed) → AcceptsCatalog H root query r shards → All (IsShardRight H query) shards
all_right H root query r shards accepts = right_from 0 shards _ accepts.holds.1
  where
    right_from : (number : ℕ) (shards : List Framed) (later : List (Group CatalogRefusal)) → AllHold (shard_rules H query number shards ++ later) → All (IsShardRight H query) shards
    right_from number [] later hold = All-nil (IsShardRight H query)
    right_from number (one ∷ shards) later hold = All-cons (IsShardRight H query) one shards hold.0 (right_from (number + 1) shards later hold.1)

-- ---- one archive more

-- the first of three
or_or : {A : Type 0} (a b c : Option A) → option_or (option_or a b) c ≡ option_or a (option_or b c)
or_or None b c = refl
or_or (Some x) b c = refl

none_after : {A : Type 0} (a : Option A) → a ≡ option_or a None
none_after None = refl
none_after (Some x) = refl

module _ (H : List ℕ → List ℕ) (query : List (List ℕ × ℕ)) (archive : Archive) where
  -- the proof of the next shard
  pub collision_more : (shard : ℕ) (archives : List Archive) (proofs : List Proof) (proof : Proof) → slice_get proofs (length archives) ≡ Some proof
      → option_or (proofs_collision H query shard archives proofs) (option_map (difference_at (in_proof (shard + length archives))) (proof_collision H archive query proof))
      ≡ proofs_collision H query shard (archives ++ archive ∷ []) proofs
  collision_more shard [] [] proof there = absurd (cc)
  collision_more shard [] (p ∷ proofs) proof there =
      let same : proof ≡ p = sym (cc) in
      let here : Option (Difference CatalogPlace) = option_map (difference_at (in_proof shard)) (proof_collision H archive query p) in
      ap (λ (q : Proof). option_map (difference_at (in_proof (shard + 0))) (proof_collision H archive query q)) same
      ∙ ap (λ (n : ℕ). option_map (difference_at (in_proof n)) (proof_collision H archive query p)) (omega arith)
      ∙ none_after here
  collision_more shard (first ∷ archives) [] proof there = absurd (cc)
  collision_more shard (first ∷ archives) (p ∷ proofs) proof there =
      let here : Option (Difference CatalogPlace) = option_map (difference_at (in_proof shard)) (proof_collision H first query p) in
      let later : slice_get proofs (length archives) ≡ Some proof = there in
      or_or here (proofs_collision H query (shard + 1) archives proofs) _
      ∙ ap (λ (n : ℕ). option_or here (option_or (proofs_collision H query (shard + 1) archives proofs) (option_map (difference_at (in_proof n)) (proof_collision H archive query proof)))) (omega arith)
      ∙ ap (option_or here) (collision_more (shard + 1) archives proofs proof later)

  -- there is none
  pub collision_past : (shard : ℕ) (archives : List Archive) (proofs : List Proof) → slice_get proofs (length archives) ≡ None
      → proofs_collision H query shard archives proofs ≡ proofs_collision H query shard (archives ++ archive ∷ []) proofs
  collision_past shard [] [] past = refl
  collision_past shard [] (p ∷ proofs) past = absurd (cc)
  collision_past shard (first ∷ archives) [] past = refl
  collision_past shard (first ∷ archives) (p ∷ proofs) past =
      ap (option_or (option_map (difference_at (in_proof shard)) (proof_collision H first query p))) (collision_past (shard + 1) archives proofs past)
