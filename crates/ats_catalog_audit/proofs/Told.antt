-- What an audit reports of an accepted proof.
use Rattle.std.proofs.Common.{◌≡◌, ◌+◌, ◌∷◌, ℕ, List, [], length, Option, Some, None, IsSome, refl, sym, subst, inl, inr}
use Rattle.std.specs.Option.{option_or, option_map}
use Rattle.ats_tree.specs.Differences.{Difference}
use Rattle.ats_tree.proofs.Public.{AreColliding, found-collides, none_some}
use Rattle.ats_commit.specs.Archive.{Archive}
use Rattle.ats_proof.specs.Value.{Proof}
use Rattle.ats_client.specs.Strings.{proof_collision}
use Rattle.ats_client.proofs.Public as client
use Rattle.ats_catalog_bytes.specs.Catalog.{catalog_root, roots_of}
use Rattle.ats_catalog_bytes.specs.Strings.{roots_collision, roots_string, roots_strings}
use Rattle.ats_catalog_bytes.specs.Value.{Framed, shown_roots}
use Rattle.ats_catalog_bytes.proofs.Public.{one_catalog}
use Rattle.ats_catalog_check.specs.Accepts.{AreProofs, AcceptsCatalog}
use Rattle.ats_catalog_check.specs.Bytes.{IsAcceptedCatalog}
use Rattle.ats_catalog_check.specs.Headline.{IsCatalogTopOrCollides}
use Rattle.ats_catalog_check.specs.Strings.{CatalogPlace, over_roots, in_proof, difference_at, proofs_collision}
use Rattle.ats_catalog_check.proofs.Public.{not_refused, one_proofs}
use Rattle.ats_catalog_audit.specs.Verdicts.{Shards, AreAcceptedShards, shards_collision, IsCatalogVerdict, TellsCatalogCollision, IsCatalogTopOrTold}
use Rattle.ats_catalog_audit.specs.declared.verdict.CatalogVerdict.{CatalogVerdict}
use Rattle.ats_catalog_audit.specs.declared.verdict.CatalogVerdict.TheVariants.{Refused, Right, Collision}

-- ---- a collision

-- a difference with its place mapped has the strings of one without
placed : {P : Type 0} (H : List ℕ → List ℕ) (f : P → CatalogPlace) (o : Option (Difference P)) (c : Difference CatalogPlace)
    → ((d : Difference P) → o ≡ Some d → AreColliding H d) → option_map (difference_at f) o ≡ Some c → AreColliding H c
placed H f None c colliding is = absurd (cc)
placed H f (Some d) c colliding is =
    let same : difference_at f d ≡ c = cc in
    subst (AreColliding H) same (colliding d refl)

either : (H : List ℕ → List ℕ) (a b : Option (Difference CatalogPlace)) (c : Difference CatalogPlace) → ((d : Difference CatalogPlace) → a ≡ Some d → AreColliding H d)
    → ((d : Difference CatalogPlace) → b ≡ Some d → AreColliding H d) → option_or a b ≡ Some c → AreColliding H c
either H None b c first later is = later c is
either H (Some d) b c first later is = first c is

proofs-collide : (H : List ℕ → List ℕ) (query : List (List ℕ × ℕ)) (shard : ℕ) (catalog : List Archive) (proofs : List Proof) (c : Difference CatalogPlace)
    → proofs_collision H query shard catalog proofs ≡ Some c → AreColliding H c
proofs-collide H query shard [] proofs c is = absurd (cc)
proofs-collide H query shard (archive ∷ catalog) [] c is = absurd (cc)
proofs-collide H query shard (archive ∷ catalog) (proof ∷ proofs) c is =
    either H (option_map (difference_at (in_proof shard)) (proof_collision H archive query proof)) (proofs_collision H query (shard + 1) catalog proofs) c
    (λ d. placed H (in_proof shard) (proof_collision H archive query proof) d (client.collision-collides H archive query proof))
    (λ d. proofs-collide H query (shard + 1) catalog proofs d) is

-- the first collision of a catalog's proof is two different strings with equal digests
pub collision-collides : (H : List ℕ → List ℕ) (catalog : List Archive) (query : List (List ℕ × ℕ)) (shards : Shards) (c : Difference CatalogPlace)
    → shards_collision H catalog query shards ≡ Some c → AreColliding H c
collision-collides H catalog query shards c is =
    let ours : List (List ℕ) = roots_of H catalog in
    let theirs : List (List ℕ) = shown_roots shards.frames in
    either H (option_map (difference_at over_roots) (roots_collision H ours theirs)) (proofs_collision H query 0 catalog shards.proofs) c
    (λ d. placed H over_roots (roots_collision H ours theirs) d (found-collides H (roots_string H ours) (roots_strings H theirs)))
    (λ d. proofs-collide H query 0 catalog shards.proofs d) is

-- ---- the verdict on an accepted proof

-- what bytes spell is one list of shards, with one list of proofs
pub one_shards : (H : List ℕ → List ℕ) (root : List ℕ) (query : List (List ℕ × ℕ)) (r : ℕ) (bytes : List ℕ) (a b : Shards)
    → AreAcceptedShards H root query r bytes a → AreAcceptedShards H root query r bytes b → a ≡ b
one_shards H root query r bytes a b is also =
    let frames : a.frames ≡ b.frames = one_catalog bytes a.frames b.frames is.accepted.says also.accepted.says in
    let proofs : a.proofs ≡ b.proofs = one_proofs b.frames a.proofs b.proofs (subst (λ (l : List Framed). AreProofs l a.proofs) frames is.say) also.say in
    λ i. record { frames = frames i; proofs = proofs i }

module _ (H : List ℕ → List ℕ) (catalog : List Archive) (query : List (List ℕ × ℕ)) (r : ℕ) (bytes : List ℕ) (shards : Shards)
    (accepted : AreAcceptedShards H (catalog_root H catalog) query r bytes shards) (some : IsSome (shards_collision H catalog query shards)) where
  tells : (verdict : CatalogVerdict) → IsCatalogVerdict H catalog query r bytes verdict → TellsCatalogCollision H verdict
  tells (Refused refusal) found =
      let same : shards.frames ≡ found.shards = one_catalog bytes shards.frames found.shards accepted.accepted.says found.says in
      not_refused H (catalog_root H catalog) query r found.shards refusal (subst (AcceptsCatalog H (catalog_root H catalog) query r) same accepted.accepted.accepts) found.refused
  tells (Right rows) found =
      none_some (shards_collision H catalog query found.shards) found.none
      (subst (λ (other : Shards). IsSome (shards_collision H catalog query other)) (one_shards H (catalog_root H catalog) query r bytes shards found.shards accepted found.accepted) some)
  tells (Collision clash) found = collision-collides H catalog query found.shards _ found.found

pub told : (H : List ℕ → List ℕ) → ((m : List ℕ) → length (H m) ≡ 32) → (root : List ℕ) (query : List (List ℕ × ℕ)) (r : ℕ) (bytes : List ℕ) (shards : List Framed)
    → IsCatalogTopOrCollides H root query r shards → IsAcceptedCatalog H root query r bytes shards → IsCatalogTopOrTold H root query r bytes shards
told H sized root query r bytes shards headline accepted catalog are is proofs say =
    elim (headline catalog are is proofs say) [
      | inl right ↦ inl right
      | inr some ↦
          let own : IsAcceptedCatalog H (catalog_root H catalog) query r bytes shards = subst (λ (other : List ℕ). IsAcceptedCatalog H other query r bytes shards) (sym is) accepted in
          inr (tells H catalog query r bytes (record { frames = shards; proofs = proofs }) (record { accepted = own; say = say }) some)
    ]
