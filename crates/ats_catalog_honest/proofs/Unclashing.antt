-- The strings of the honest file are the catalog's own, so none of them collides.
use Rattle.std.proofs.Common.{◌≡◌, ◌+◌, ℕ, List, [], ◌∷◌, Option, None, ap, refl, ◌∙◌, sym}
use Rattle.std.specs.List.{AllZip}
use Rattle.std.specs.Option.{option_map, option_or}
use Rattle.ats_tree.specs.Differences.{Difference}
use Rattle.ats_commit.specs.Archive.{Archive}
use Rattle.ats_bound.specs.Ranked.{docs_of}
use Rattle.ats_proof.specs.declared.record.Algorithm.{Algorithm}
use Rattle.ats_proof.specs.Value.{Proof}
use Rattle.ats_client.specs.Strings.{proof_collision}
use Rattle.ats_honest.proofs.Public.{honest_cut, honest_met}
use Rattle.ats_accepts.proofs.Public.{shown_unclashing}
use Rattle.ats_catalog_bytes.specs.Catalog.{roots_of}
use Rattle.ats_catalog_bytes.specs.Strings.{roots_collision}
use Rattle.ats_catalog_bytes.specs.Value.{Framed, shown_roots}
use Rattle.ats_catalog_bytes.proofs.Public.{roots_unclashing}
use Rattle.ats_catalog_check.specs.Accepts.{AreProofs}
use Rattle.ats_catalog_check.specs.Strings.{CatalogPlace, catalog_collision, difference_at, in_proof, over_roots, proofs_collision}
use Rattle.ats_catalog_check.proofs.Public.{one_proofs}
use Rattle.ats_catalog_honest.specs.Honest.{AreFramesOf, AreProofsOfShares, IsHonestFile}
use Rattle.ats_catalog_honest.specs.Ranking.{shares_of}
use Rattle.ats_catalog_honest.specs.Shares.{Shares}
use Rattle.ats_catalog_honest.proofs.Accepted.{IsOfShare, all_of_shares}

module _ (H : List ℕ → List ℕ) (query : List (List ℕ × ℕ)) where
  share_unclashing : (archive : Archive) (proof : Proof) → IsOfShare H query archive proof → proof_collision H archive query proof ≡ None
  share_unclashing archive proof is =
      shown_unclashing H archive query is.algorithm is.honest.cut (docs_of is.honest.brackets) proof (honest_cut _ _ H archive query is.algorithm proof is.honest)
      (honest_met _ _ H archive query is.algorithm proof is.honest) is.honest.shows

  proofs_unclashing : (shard : ℕ) (catalog : List Archive) (proofs : List Proof) → AllZip (IsOfShare H query) catalog proofs → proofs_collision H query shard catalog proofs ≡ None
  proofs_unclashing shard [] proofs each = refl
  proofs_unclashing shard (archive ∷ catalog) [] each = refl
  proofs_unclashing shard (archive ∷ catalog) (p ∷ proofs) each =
      ap (λ (found : Option (Difference CatalogPlace)). option_or found (proofs_collision H query (shard + 1) catalog proofs))
      (ap (option_map (difference_at (in_proof shard))) (share_unclashing archive p each.0))
      ∙ proofs_unclashing (shard + 1) catalog proofs each.1

  pub shares_unclashing : (by : ℕ → Algorithm) (shares : Shares) (catalog : List Archive) (proofs : List Proof) → AreProofsOfShares H catalog query by shares proofs
      → (shards : List Framed) → AreFramesOf H catalog proofs shards → (others : List Proof) → AreProofs shards others
      → catalog_collision H catalog query shards others ≡ None
  shares_unclashing by shares catalog proofs honest shards frames others say =
      let same : proofs ≡ others = one_proofs shards proofs others frames.say say in
      let roots : roots_collision H (roots_of H catalog) (shown_roots shards) ≡ None =
      ap (roots_collision H (roots_of H catalog)) frames.roots ∙ roots_unclashing H (roots_of H catalog) in
      ap (λ (found : Option (Difference CatalogPlace)). option_or found (proofs_collision H query 0 catalog others)) (ap (option_map (difference_at over_roots)) roots)
      ∙ ap (proofs_collision H query 0 catalog) (sym same) ∙ proofs_unclashing 0 catalog proofs (all_of_shares H query by shares catalog proofs honest)

  pub file_unclashing : (catalog : List Archive) (r : ℕ) (by : ℕ → Algorithm) (shards : List Framed) → IsHonestFile H catalog query r by shards
      → (proofs : List Proof) → AreProofs shards proofs → catalog_collision H catalog query shards proofs ≡ None
  file_unclashing catalog r by shards is proofs say =
      shares_unclashing by (shares_of by r is.honest.ranking) catalog is.proofs is.honest.honest shards is.frames proofs say
