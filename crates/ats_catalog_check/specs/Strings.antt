-- The byte strings that the check of a catalog's proof hashes, compared with those of a catalog.
use Rattle.std.specs.Prelude.{◌+◌, ℕ, List, [], ◌∷◌, Option, None, option_map}
use Rattle.std.specs.Option.{option_or}
use Rattle.ats_tree.specs.Differences.{Difference}
use Rattle.ats_tree.specs.declared.places.Place.{Place}
use Rattle.ats_commit.specs.Archive.{Archive}
use Rattle.ats_proof.specs.Value.{Proof}
use Rattle.ats_client.specs.Strings.{proof_collision}
use Rattle.ats_catalog_bytes.specs.Catalog.{roots_of}
use Rattle.ats_catalog_bytes.specs.Strings.{RootsPlace, roots_collision}
use Rattle.ats_catalog_bytes.specs.Value.{Framed, shown_roots}

-- where a string is hashed: over the roots of the shards, or in the proof of the shard with this number
pub data CatalogPlace : Type 0 where
  over_roots : RootsPlace → CatalogPlace
  in_proof : ℕ → Place → CatalogPlace

-- the same difference, with its place mapped by f
abbrev pub difference_at : {P : Type 0} → (P → CatalogPlace) → Difference P → Difference CatalogPlace
difference_at f c = record { place = f c.place; ours = c.ours; theirs = c.theirs }

-- the first collision of the proofs of the shards from this number on with their archives
abbrev pub proofs_collision : (List ℕ → List ℕ) → List (List ℕ × ℕ) → ℕ → List Archive → List Proof → Option (Difference CatalogPlace)
proofs_collision H query shard [] proofs = None
proofs_collision H query shard (archive ∷ catalog) [] = None
proofs_collision H query shard (archive ∷ catalog) (proof ∷ proofs) =
    option_or (option_map (difference_at (in_proof shard)) (proof_collision H archive query proof))
    (proofs_collision H query (shard + 1) catalog proofs)

-- the first string that differs from the catalog's own at its place and has an equal digest: over the roots, then in the
-- proof of each shard
abbrev pub catalog_collision : (List ℕ → List ℕ) → List Archive → List (List ℕ × ℕ) → List Framed → List Proof → Option (Difference CatalogPlace)
catalog_collision H catalog query shards proofs =
    option_or (option_map (difference_at over_roots) (roots_collision H (roots_of H catalog) (shown_roots shards)))
    (proofs_collision H query 0 catalog proofs)
