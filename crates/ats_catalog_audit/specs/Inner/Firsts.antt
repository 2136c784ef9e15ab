-- The first collision of some shards and of the next one.
use Rattle.std.specs.Prelude.{◌≡◌, ℕ, List, length, Option, Some, None, option_map}
use Rattle.std.specs.Option.{option_or}
use Rattle.ats_tree.specs.Differences.{Difference}
use Rattle.ats_commit.specs.Archive.{Archive}
use Rattle.ats_proof.specs.Value.{Proof, IsProof}
use Rattle.ats_client.specs.Strings.{proof_collision}
use Rattle.ats_catalog_bytes.specs.Value.{Framed}
use Rattle.ats_catalog_check.specs.Strings.{CatalogPlace, in_proof, difference_at}
use Rattle.ats_catalog_audit.specs.AuditState.{AuditState}

-- that of the shards before it, if there is one, else that of its proof with its archive, if the proof has such a shard
abbrev pub IsFirstWith : (List ℕ → List ℕ) → Archive → AuditState → Option Framed → Option (Difference CatalogPlace) → Type 0
IsFirstWith H archive audit None first = first ≡ audit.first
IsFirstWith H archive audit (Some next) first = (proof : Proof) → IsProof next.bytes proof → first
    ≡ option_or audit.first (option_map (difference_at (in_proof (length audit.roots))) (proof_collision H archive audit.query proof))
