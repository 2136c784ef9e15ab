-- The audits of the files of each kind. That a file is read, checked under the roots of archives and searched for a collision
-- with them is stated once.
use Rattle.std.specs.Prelude.{◌^◌, ℕ, List, Option}
use Rattle.ats_tree.specs.Differences.{Difference}
use Rattle.ats_tree.specs.declared.places.Place.{Place}
use Rattle.ats_commit.specs.Archive.{Archive}
use Rattle.ats_commit.specs.Root.{root_of}
use Rattle.ats_proof.specs.Value.{Proof}
use Rattle.ats_client.specs.Strings.{proof_collision}
use Rattle.ats_text_check.specs.Strings.{TextPlace, text_collision}
use Rattle.ats_text_check.specs.Value.{TextProof}
use Rattle.ats_growth_check.specs.Strings.{Beside}
use Rattle.ats_growth_check.specs.Strings as growth
use Rattle.ats_growth_check.specs.Value.{Growth}
use Rattle.ats_catalog_bytes.specs.Catalog.{catalog_root}
use Rattle.ats_catalog_check.specs.Strings.{CatalogPlace}
use Rattle.ats_catalog_audit.specs.Verdicts.{Shards, AreAcceptedShards, shards_collision}
use Rattle.ats_plan.specs.Plan.{Plan, Gets}
use Rattle.ats_console.specs.Kinds.{Kind, proof_kind, both_kind, text_kind, growth_kind, catalog_kind, checks_named}
use Rattle.ats_console.specs.declared.stops.Stop.{Stop}
use Rattle.ats_auditors.specs.Collided.{finds_none, lines_of_proof_collision, lines_of_text_collision, lines_of_growth_collision, lines_of_catalog_collision}

-- an audit against some archives: the kind of the file under their roots, the first collision of what it says with them, and
-- the lines of a collision
pub record Audit (V P : Type 0) : Type 1 where
  pub kind : Kind V
  pub first : V → Option (Difference P)
  pub lines_of : Difference P → List ℕ

-- of the proof of a query's best documents
abbrev pub proof_audit : (List ℕ → List ℕ) → Archive → List (List ℕ × ℕ) → (r : ℕ) → Audit Proof Place
proof_audit H archive query r = record {
  kind = proof_kind H (root_of H archive) query r;
  first = proof_collision H archive query;
  lines_of = lines_of_proof_collision;
}

-- of the proof of all documents with every term of a query
abbrev pub both_audit : (List ℕ → List ℕ) → Archive → List (List ℕ × ℕ) → Audit Proof Place
both_audit H archive query = record {
  kind = both_kind H (root_of H archive) query;
  first = proof_collision H archive query;
  lines_of = lines_of_proof_collision;
}

-- of what gives the text of a document
abbrev pub text_audit : (List ℕ → List ℕ) → Archive → (doc : ℕ) → Audit TextProof TextPlace
text_audit H archive doc = record {
  kind = text_kind H (root_of H archive) doc;
  first = text_collision H archive doc;
  lines_of = lines_of_text_collision;
}

-- of what shows that nothing was withdrawn between two archives
abbrev pub growth_audit : (List ℕ → List ℕ) → (older newer : Archive) → Audit Growth Beside
growth_audit H older newer = record {
  kind = growth_kind H (root_of H older) (root_of H newer);
  first = growth.growth_collision H older newer;
  lines_of = lines_of_growth_collision;
}

-- of the proof of a catalog's answer, with the proof of each shard
abbrev pub catalog_audit : (List ℕ → List ℕ) → List Archive → List (List ℕ × ℕ) → (r : ℕ) → Audit Shards CatalogPlace
catalog_audit H catalog query r = record {
  kind = record {
    limit = 2 ^ 28;
    accepted = AreAcceptedShards H (catalog_root H catalog) query r;
    rejects = (catalog_kind H (catalog_root H catalog) query r).rejects;
  };
  first = shards_collision H catalog query;
  lines_of = lines_of_catalog_collision;
}

-- bytes are accepted as a value that has no collision
abbrev pub audits_bytes : {V P : Type 0} → (List ℕ → List ℕ) → Audit V P → (bytes : List ℕ) → (V → Plan Stop) → Plan Stop
audits_bytes {V} H audit bytes rest =
    Gets V (audit.kind.accepted bytes) (audit.kind.rejects bytes) (λ v. finds_none H (audit.first v) audit.lines_of (rest v))

-- the named file is read, what its bytes say is accepted, and it has no collision
abbrev pub audits_named : {V P : Type 0} → (List ℕ → List ℕ) → Audit V P → (name : List ℕ) → (V → Plan Stop) → Plan Stop
audits_named H audit name rest = checks_named audit.kind name (λ v. finds_none H (audit.first v) audit.lines_of (rest v))
