-- What a catalog's proof shows breaks at most one rule first, and none if it is accepted.
use Rattle.std.proofs.Common.{◌≡◌, ◌<◌, ◌+◌, ◌++◌, ◌∙◌, ℕ, zero, suc, List, [], ◌∷◌, length, map, take, refl, sym, ap, ap₂, subst, inl, inr, arith}
use Rattle.std.specs.List.{AllZip}
use Rattle.ats_base.specs.Rules.{Group, AllHold, IsFirstFault}
use Rattle.ats_base.proofs.Public.{AreExact, not_all_hold, one_first}
use Rattle.ats_grammar.specs.Grammar.{proof_schema}
use Rattle.ats_grammar.proofs.Public.{no_fault, one_fault}
use Rattle.ats_proof.specs.Value.{Proof, fields_of}
use Rattle.ats_proof.proofs.Public.{one_value}
use Rattle.ats_refusal.specs.declared.proof.Rejection.{Rejection}
use Rattle.ats_refusal.specs.declared.proof.Rejection.TheVariants.{Shape, Check}
use Rattle.ats_refusal.specs.declared.catalog.CatalogRefusal.{CatalogRefusal}
use Rattle.ats_refusal.specs.declared.catalog.CatalogRefusal.TheVariants.{OtherRoot, Shard, NotSettled}
use Rattle.ats_client.specs.Accepts.{shown_rules, AcceptsShown, IsFirstShownRefusal}
use Rattle.ats_client.proofs.Public.{exact_shown}
use Rattle.ats_catalog_bytes.specs.Catalog.{root_over}
use Rattle.ats_catalog_bytes.specs.Value.{Framed, frame_at, shown_roots}
use Rattle.ats_catalog_check.specs.Accepts.{IsRootFault, IsShardRight, IsShardRejection, IsShardFault, shown_of, AreRowsSettled, IsSettledFault, shard_rules, catalog_rules, AcceptsCatalog, IsFirstCatalogRefusal}
use Rattle.ats_catalog_check.specs.Merge.{IsSettled}
use Rattle.ats_catalog_check.specs.Inner.Checked.{IsChecked}
use Rattle.ats_catalog_check.proofs.Soundness.{one_proofs}

-- ---- each rule fails in one way, and does then not hold

module _ (H : List ℕ → List ℕ) (query : List (List ℕ × ℕ)) (one : Framed) where
  one_rejection : (a b : Rejection) → IsShardRejection H query one a → IsShardRejection H query one b → a ≡ b
  one_rejection (Shape a) (Shape b) is also = ap Shape (one_fault proof_schema one.bytes a b is also)
  one_rejection (Shape a) (Check b) is also = absurd (no_fault proof_schema one.bytes a (fields_of also.0) is also.1.spells)
  one_rejection (Check a) (Shape b) is also = absurd (no_fault proof_schema one.bytes b (fields_of is.0) also is.1.spells)
  one_rejection (Check a) (Check b) is also =
      let same : also.0 ≡ is.0 = one_value one.bytes also.0 is.0 also.1 is.1 in
      let again : IsFirstShownRefusal H one.root query is.0 b = subst (λ (p : Proof). IsFirstShownRefusal H one.root query p b) same also.2 in
      ap Check (one_first (shown_rules H one.root query is.0) a b (exact_shown H one.root query is.0) is.2.first again.first)

  not_right : (rejection : Rejection) → IsShardRejection H query one rejection → IsShardRight H query one → ⊥
  not_right (Shape fault) is right = no_fault proof_schema one.bytes fault (fields_of right.proof) is right.says.spells
  not_right (Check refusal) is right =
      let same : right.proof ≡ is.0 = one_value one.bytes right.proof is.0 right.says is.1 in
      let accepts : AcceptsShown H one.root query is.0 = subst (AcceptsShown H one.root query) same right.accepts in
      not_all_hold (shown_rules H one.root query is.0) refusal (exact_shown H one.root query is.0) is.2.first accepts.holds

  one_shard : (number : ℕ) (a b : CatalogRefusal) → IsShardFault H query number one a → IsShardFault H query number one b → a ≡ b
  one_shard number (Shard s a) (Shard t b) is also = ap₂ (λ (n : ℕ) (r : Rejection). Shard n r) (is.0 ∙ sym also.0) (one_rejection a b is.1 also.1)
  one_shard number (Shard s a) _ is also = absurd also
  one_shard number _ b is also = absurd is

  not_shard : (number : ℕ) (a : CatalogRefusal) → IsShardFault H query number one a → IsShardRight H query one → ⊥
  not_shard number (Shard s a) is right = not_right a is.1 right
  not_shard number _ is right = is

module _ (H : List ℕ → List ℕ) (root : List ℕ) (query : List (List ℕ × ℕ)) (r : ℕ) (shards : List Framed) where
  one_root : (a b : CatalogRefusal) → IsRootFault H root shards a → IsRootFault H root shards b → a ≡ b
  one_root OtherRoot OtherRoot is also = refl
  one_root OtherRoot _ is also = absurd also
  one_root _ b is also = absurd is

  not_root : (a : CatalogRefusal) → IsRootFault H root shards a → root_over H (shown_roots shards) ≡ root → ⊥
  not_root OtherRoot is same = is same
  not_root _ is same = is

  one_settled : (a b : CatalogRefusal) → IsSettledFault query r shards a → IsSettledFault query r shards b → a ≡ b
  one_settled NotSettled NotSettled is also = refl
  one_settled NotSettled _ is also = absurd also
  one_settled _ b is also = absurd is

  not_settled : (a : CatalogRefusal) → IsSettledFault query r shards a → AreRowsSettled query r shards → ⊥
  not_settled NotSettled is settled =
      let same : settled.proofs ≡ is.0 = one_proofs shards settled.proofs is.0 settled.say is.1 in
      is.2 (subst (λ (ps : List Proof). IsSettled r (map (shown_of query) ps)) same settled.settled)
  not_settled _ is settled = is

  exact_shards : (number : ℕ) (more : List Framed) (after : List (Group CatalogRefusal)) → AreExact after → AreExact (shard_rules H query number more ++ after)
  exact_shards number [] after are = are
  exact_shards number (one ∷ more) after are =
      (record { breaks = not_shard H query one number; one = one_shard H query one number }, exact_shards (number + 1) more after are)

  exact : AreExact (catalog_rules H root query r shards)
  exact = (
    record { breaks = not_root; one = one_root },
    exact_shards 0 shards (record { holds = AreRowsSettled query r shards; fault = IsSettledFault query r shards } ∷ [])
        (record { breaks = not_settled; one = one_settled }, tt),
  )

  pub one_refusal : (a b : CatalogRefusal) → IsFirstCatalogRefusal H root query r shards a → IsFirstCatalogRefusal H root query r shards b → a ≡ b
  one_refusal a b is also = one_first (catalog_rules H root query r shards) a b exact is.first also.first

  pub not_refused : (refusal : CatalogRefusal) → AcceptsCatalog H root query r shards → IsFirstCatalogRefusal H root query r shards refusal → ⊥
  not_refused refusal accepts is = not_all_hold (catalog_rules H root query r shards) refusal exact is.first accepts.holds

-- ---- the rules of the shards, one after another

module _ (H : List ℕ → List ℕ) (query : List (List ℕ × ℕ)) where
  pub shards_hold : (number : ℕ) (shards : List Framed) (proofs : List Proof) (after : List (Group CatalogRefusal)) → AllZip (IsChecked H query) shards proofs
      → AllHold after → AllHold (shard_rules H query number shards ++ after)
  shards_hold number [] [] after checked hold = hold
  shards_hold number [] (p ∷ proofs) after checked hold = absurd checked
  shards_hold number (one ∷ shards) [] after checked hold = absurd checked
  shards_hold number (one ∷ shards) (p ∷ proofs) after checked hold =
      (record { proof = p; says = checked.0.says; accepts = checked.0.accepts }, shards_hold (number + 1) shards proofs after checked.1 hold)

  -- a rule after those of the shards fails first
  pub after_shards : (number : ℕ) (shards : List Framed) (proofs : List Proof) (after : List (Group CatalogRefusal)) (refusal : CatalogRefusal) → AllZip (IsChecked H query) shards proofs
      → IsFirstFault after refusal → IsFirstFault (shard_rules H query number shards ++ after) refusal
  after_shards number [] [] after refusal checked fault = fault
  after_shards number [] (p ∷ proofs) after refusal checked fault = absurd checked
  after_shards number (one ∷ shards) [] after refusal checked fault = absurd checked
  after_shards number (one ∷ shards) (p ∷ proofs) after refusal checked fault =
      inr (record { proof = p; says = checked.0.says; accepts = checked.0.accepts }, after_shards (number + 1) shards proofs after refusal checked.1 fault)

  -- the shard after those that were checked fails first
  pub shard_fails : (number i : ℕ) (shards : List Framed) (proofs : List Proof) (after : List (Group CatalogRefusal)) (rejection : Rejection) → i < length shards
      → AllZip (IsChecked H query) (take i shards) proofs → IsShardRejection H query (frame_at shards i) rejection
      → IsFirstFault (shard_rules H query number shards ++ after) (Shard (number + i) rejection)
  shard_fails number i [] proofs after rejection low checked fault = absurd (omega (arith, low))
  shard_fails number zero (one ∷ shards) proofs after rejection low checked fault = inl (omega arith, fault)
  shard_fails number (suc i) (one ∷ shards) [] after rejection low checked fault = absurd checked
  shard_fails number (suc i) (one ∷ shards) (p ∷ proofs) after rejection low checked fault =
      let on : (number + 1) + i ≡ number + suc i = omega arith in
      inr (
        record { proof = p; says = checked.0.says; accepts = checked.0.accepts },
        subst (λ (n : ℕ). IsFirstFault (shard_rules H query (number + 1) shards ++ after) (Shard n rejection)) on
            (shard_fails (number + 1) i shards proofs after rejection (omega (arith, low)) checked.1 fault),
      )

  -- one shard more
  pub checked_more : (shards : List Framed) (proofs : List Proof) (one : Framed) (proof : Proof) → AllZip (IsChecked H query) shards proofs → IsChecked H query one proof
      → AllZip (IsChecked H query) (shards ++ one ∷ []) (proofs ++ proof ∷ [])
  checked_more [] [] one proof checked is = (is, tt)
  checked_more [] (p ∷ proofs) one proof checked is = absurd checked
  checked_more (f ∷ shards) [] one proof checked is = absurd checked
  checked_more (f ∷ shards) (p ∷ proofs) one proof checked is = (checked.0, checked_more shards proofs one proof checked.1 is)
