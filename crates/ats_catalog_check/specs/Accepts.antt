-- When what a catalog's proof shows is accepted, and by which rule it is refused otherwise.
use Rattle.std.specs.Prelude.{◌≡◌, ◌≢◌, ◌<◌, ◌≤◌, ◌+◌, ℕ, List, [], ◌∷◌, ◌++◌, length, map}
use Rattle.std.specs.List.{AllZip}
use Rattle.ats_base.specs.Rules.{Group, AllHold, IsFirstFault}
use Rattle.ats_grammar.specs.Front.{IsBad}
use Rattle.ats_grammar.specs.Grammar.{proof_schema}
use Rattle.ats_proof.specs.Value.{Proof, IsProof, items_of}
use Rattle.ats_refusal.specs.declared.proof.Rejection.{Rejection}
use Rattle.ats_refusal.specs.declared.proof.Rejection.TheVariants.{Shape, Check}
use Rattle.ats_refusal.specs.declared.catalog.CatalogRefusal.{CatalogRefusal}
use Rattle.ats_refusal.specs.declared.catalog.CatalogRefusal.TheVariants.{OtherRoot, Shard, NotSettled}
use Rattle.ats_client.specs.Accepts.{AcceptsShown, IsFirstShownRefusal}
use Rattle.ats_client.specs.Bounded.{rest_of}
use Rattle.ats_client.specs.Rows.{rows_of}
use Rattle.ats_catalog_bytes.specs.Catalog.{root_over}
use Rattle.ats_catalog_bytes.specs.Value.{Framed, frame_at, shown_roots}
use Rattle.ats_catalog_check.specs.declared.row.CatalogRow.{CatalogRow}
use Rattle.ats_catalog_check.specs.Merge.{Shown, merged, IsSettled}

-- ---- the root

abbrev pub IsRootFault : (List ℕ → List ℕ) → List ℕ → List Framed → CatalogRefusal → Type 0
IsRootFault H root shards OtherRoot = root_over H (shown_roots shards) ≢ root
IsRootFault H root shards _ = ⊥

-- ---- the proof of one shard

-- the bytes spell a proof that keeps all rules before the settling under the shard's root
pub record IsShardRight (H : List ℕ → List ℕ) (query : List (List ℕ × ℕ)) (one : Framed) : Type 0 where
  pub proof : Proof
  pub says : IsProof one.bytes proof
  pub accepts : AcceptsShown H one.root query proof

-- they do not: their shape first, then those rules
abbrev pub IsShardRejection : (List ℕ → List ℕ) → List (List ℕ × ℕ) → Framed → Rejection → Type 0
IsShardRejection H query one (Shape fault) = IsBad proof_schema one.bytes fault
IsShardRejection H query one (Check refusal) = (proof : Proof) × IsProof one.bytes proof × IsFirstShownRefusal H one.root query proof refusal

abbrev pub IsShardFault : (List ℕ → List ℕ) → List (List ℕ × ℕ) → ℕ → Framed → CatalogRefusal → Type 0
IsShardFault H query number one (Shard shard rejection) = (shard ≡ number) × IsShardRejection H query one rejection
IsShardFault H query number one _ = ⊥

-- ---- the rows of all shards

-- each shard's bytes spell the proof in its place
abbrev pub AreProofs : List Framed → List Proof → Type 0
AreProofs shards proofs = AllZip (λ (one : Framed) (proof : Proof). IsProof one.bytes proof) shards proofs

-- what a proof shows of its shard
abbrev pub shown_of : List (List ℕ × ℕ) → Proof → Shown
shown_of query proof = record { rows = rows_of query proof; rest = rest_of query proof }

-- the rows of the proofs of all shards, merged
abbrev pub merged_rows : List (List ℕ × ℕ) → List Proof → List CatalogRow
merged_rows query proofs = merged (map (shown_of query) proofs)

-- these rows are those of the proofs that the bytes spell
pub record AreRowsOf (query : List (List ℕ × ℕ)) (shards : List Framed) (rows : List CatalogRow) : Type 0 where
  pub proofs : List Proof
  pub say : AreProofs shards proofs
  pub are : rows ≡ merged_rows query proofs

-- they are settled
pub record AreRowsSettled (query : List (List ℕ × ℕ)) (r : ℕ) (shards : List Framed) : Type 0 where
  pub proofs : List Proof
  pub say : AreProofs shards proofs
  pub settled : IsSettled r (map (shown_of query) proofs)

abbrev pub IsSettledFault : List (List ℕ × ℕ) → ℕ → List Framed → CatalogRefusal → Type 0
IsSettledFault query r shards NotSettled = (proofs : List Proof) × AreProofs shards proofs × ¬ IsSettled r (map (shown_of query) proofs)
IsSettledFault query r shards _ = ⊥

-- ---- all rules

-- the rules of the shards from this number on, in their order
abbrev pub shard_rules : (List ℕ → List ℕ) → List (List ℕ × ℕ) → ℕ → List Framed → List (Group CatalogRefusal)
shard_rules H query number [] = []
shard_rules H query number (one ∷ more) =
    record { holds = IsShardRight H query one; fault = IsShardFault H query number one } ∷ shard_rules H query (number + 1) more

-- the rules of what a catalog's proof shows: the roots, each shard, and the rows of all
abbrev pub catalog_rules : (List ℕ → List ℕ) → List ℕ → List (List ℕ × ℕ) → ℕ → List Framed → List (Group CatalogRefusal)
catalog_rules H root query r shards =
    record { holds = root_over H (shown_roots shards) ≡ root; fault = IsRootFault H root shards }
    ∷ (shard_rules H query 0 shards
    ++ record { holds = AreRowsSettled query r shards; fault = IsSettledFault query r shards } ∷ [])

-- all rules hold
pub record AcceptsCatalog (H : List ℕ → List ℕ) (root : List ℕ) (query : List (List ℕ × ℕ)) (r : ℕ) (shards : List Framed) : Type 0 where
  pub holds : AllHold (catalog_rules H root query r shards)

-- the first rule that is broken
pub record IsFirstCatalogRefusal (H : List ℕ → List ℕ) (root : List ℕ) (query : List (List ℕ × ℕ)) (r : ℕ) (shards : List Framed) (refusal : CatalogRefusal) : Type 0 where
  pub first : IsFirstFault (catalog_rules H root query r shards) refusal

-- ---- what a check needs

-- no shard's proof has more met documents
abbrev pub MeetAtMost : List Framed → ℕ → Type 0
MeetAtMost shards met = (i : ℕ) (proof : Proof) → i < length shards → IsProof (frame_at shards i).bytes proof → length proof.met ≤ met

-- each shard's proof, if its bytes spell one, has at most so many items
abbrev pub HaveItems : List Framed → List ℕ → Type 0
HaveItems shards items = AllZip (λ (one : Framed) (most : ℕ). (proof : Proof) → IsProof one.bytes proof → items_of proof ≤ most) shards items
