-- An accepted answer of a catalog has at most as many rows as are asked for.
use Rattle.std.proofs.Common.{◌≡◌, ◌≤◌, ◌+◌, ℕ, List, ◌∷◌, [], ◌++◌, length, sym, subst}
use Rattle.ats_base.specs.Rules.{Group, AllHold}
use Rattle.ats_refusal.specs.declared.catalog.CatalogRefusal.{CatalogRefusal}
use Rattle.ats_proof.specs.Value.{Proof}
use Rattle.ats_catalog_bytes.specs.Value.{Framed}
use Rattle.ats_catalog_check.specs.Accepts.{AreRowsSettled, merged_rows, shard_rules}
use Rattle.ats_catalog_check.specs.Bytes.{AreVerifiedRows}
use Rattle.ats_catalog_check.proofs.Public.{one_proofs}
use Rattle.ats_catalog_check.specs.declared.row.CatalogRow.{CatalogRow}

-- of the rules of shards and one more, that one
last_holds : (H : List ℕ → List ℕ) (query : List (List ℕ × ℕ)) (number : ℕ) (shards : List Framed) (last : Group CatalogRefusal)
    → AllHold (shard_rules H query number shards ++ last ∷ []) → last.holds
last_holds H query number [] last all = all.0
last_holds H query number (one ∷ more) last all = last_holds H query (number + 1) more last all.1

pub few_rows : (H : List ℕ → List ℕ) (root : List ℕ) (query : List (List ℕ × ℕ)) (r : ℕ) (bytes : List ℕ) (rows : List CatalogRow)
    → AreVerifiedRows H root query r bytes rows → length rows ≤ r
few_rows H root query r bytes rows are =
    let settled : AreRowsSettled query r are.shards = last_holds H query 0 are.shards _ are.accepted.accepts.holds.1 in
    let same : settled.proofs ≡ are.answer.proofs =
    one_proofs are.shards settled.proofs are.answer.proofs settled.say are.answer.say in
    subst (λ (all : List CatalogRow). length all ≤ r) (sym are.answer.are)
    (subst (λ (proofs : List Proof). length (merged_rows query proofs) ≤ r) same settled.settled.falling.most)
