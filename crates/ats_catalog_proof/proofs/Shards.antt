-- The proofs of shards, one after another.
use Rattle.std.proofs.Common.{◌≡◌, ◌∙◌, ◌+◌, ◌-◌, ◌<◌, ◌≤◌, ◌^◌, ◌++◌, ◌∷◌, ℕ, Bool, true, false, not, nat_eq, Decides, List, [], length, get_or, refl, sym, ap, ap₂, subst, inl, inr, arith, append-nil, append_assoc}
use Rattle.std.specs.Cmp.Lexicographic.{pointwise}
use Rattle.std.specs.List.{concat, flat_map}
use Rattle.std.proofs.lemmas.Bool.{cases_lt}
use Rattle.std.proofs.lemmas.Bool.Decides.{Decides-eqb}
use Rattle.std.proofs.lemmas.List.{get_or-append_right, get_or-map, get_or_append_left, get_or_default, length-append, length-map}
use Rattle.std.proofs.lemmas.List.Concat.{flat_map-append}
use Rattle.std.proofs.lemmas.List.Folds.{concat-append}
use Rattle.std.proofs.lemmas.Slice.Eq.{slice_eq-Decides}
use Rattle.ats_commit.specs.Archive.{Archive, archive_of}
use Rattle.ats_commit.specs.Root.{root_of}
use Rattle.ats_bound.specs.Floors.{Floors}
use Rattle.ats_proof.specs.Written.{Written, writing}
use Rattle.ats_proof.specs.declared.record.Algorithm.{Algorithm}
use Rattle.ats_honest.specs.Honest.{IsHonestWithin, IsProvedBy}
use Rattle.ats_catalog_bytes.specs.Catalog.{IsCatalog, archive_at, roots_of}
use Rattle.ats_catalog_bytes.specs.Value.{proof_fields}
use Rattle.ats_catalog_honest.specs.Ranking.{Ranked}
use Rattle.ats_catalog_proof.specs.Inner.ShardFault.{IsShardFault}
use Rattle.ats_catalog_proof.specs.Proving.{HasRootOf, IsAskedProof, IsProveFault, IsProving, asked_of}
use Rattle.ats_catalog_proof.specs.ProvingState.{ProvingState}
use Rattle.ats_catalog_proof.specs.Ranking.{IsRankingOf}
use Rattle.ats_catalog_proof.specs.RankingState.{RankingState}
use Rattle.ats_catalog_proof.specs.Written.{bytes_of, front_bytes}
use Rattle.ats_catalog_proof.proofs.Asked.{asked_kept}
use Rattle.ats_catalog_proof.specs.declared.fault.CatalogProveFault.{CatalogProveFault}
use Rattle.ats_catalog_proof.specs.declared.fault.CatalogProveFault.TheVariants.{OtherIndex, ProofTooLong, OutOfMemory}

-- whether two roots are equal, as a test tells
pub roots_tell : (a b : List ℕ) → Decides (pointwise nat_eq a b) (a ≡ b)
roots_tell a b = slice_eq-Decides Decides-eqb a b (pointwise nat_eq a b) refl

pub not_other : (b : Bool) → false ≡ not b → b ≡ true
not_other true is = refl
not_other false is = absurd (cc)

-- the bytes after one proof more
pub bytes_more : (roots proofs : List (List ℕ)) (bytes : List ℕ) → bytes_of roots (proofs ++ bytes ∷ []) ≡ bytes_of roots proofs ++ concat (proof_fields bytes)
bytes_more roots proofs bytes =
    let front : List ℕ = front_bytes roots in
    let done : List (List ℕ) = flat_map proof_fields proofs in
    let fields : flat_map proof_fields (proofs ++ bytes ∷ []) ≡ done ++ proof_fields bytes =
    flat_map-append proof_fields proofs (bytes ∷ []) ∙ ap (λ (fs : List (List ℕ)). done ++ fs) (append-nil (proof_fields bytes)) in
    ap (λ (fs : List (List ℕ)). front ++ concat fs) fields ∙ ap (λ (xs : List ℕ). front ++ xs) (concat-append done (proof_fields bytes))
    ∙ sym (append_assoc front (concat done) (concat (proof_fields bytes)))

module _ (H : List ℕ → List ℕ) (catalog : List Archive) (query : List (List ℕ × ℕ)) (r : ℕ) where
  module _ (state : RankingState) (is : IsRankingOf H catalog query r state) where
    pub as_many : length state.roots ≡ length catalog
    as_many = ap length is.roots ∙ length-map catalog (root_of H)

    pub is_catalog : 1 ≤ length state.roots → length state.roots ≤ 4096 → IsCatalog catalog
    is_catalog some few = record { some = omega (arith, some, as_many); few = omega (arith, few, as_many); texts = is.texts }

    -- what the rows that are kept ask of a shard is what the ranking asks of it
    pub asked_is : (algorithm : Algorithm) (shard : ℕ) → asked_of algorithm state.r state.rows shard ≡ asked_of algorithm r is.ranking shard
    asked_is algorithm shard =
        ap₂ (λ (n : ℕ) (rows : List Ranked). asked_of algorithm n rows shard) is.most is.rows ∙ asked_kept algorithm r is.ranking shard

    -- so is the proof of that
    pub asked_over : (archive : Archive) (algorithm : Algorithm) (shard : ℕ) (bytes : List ℕ)
        → IsProvedBy (IsAskedProof H archive state.query algorithm state.r state.rows shard) bytes
        → IsProvedBy (IsAskedProof H archive query algorithm r is.ranking shard) bytes
    asked_over archive algorithm shard bytes proved =
        let By : List (List ℕ × ℕ) → Floors → Type 0 = λ asked floors. IsProvedBy (IsHonestWithin H archive asked floors algorithm) bytes in
        subst (By query) (asked_is algorithm shard)
        (subst (λ (asked : List (List ℕ × ℕ)). By asked (asked_of algorithm state.r state.rows shard)) is.asked proved)

    -- the root that is kept for a shard is that of the catalog's archive
    root_at : (shard : ℕ) → shard < length state.roots → get_or state.roots shard [] ≡ root_of H (archive_at catalog shard)
    root_at shard low =
        ap (λ (rs : List (List ℕ)). get_or rs shard []) is.roots ∙ get_or-map (root_of H) catalog shard (archive_of []) [] (omega (arith, low, as_many))

    pub has_root : (shard : ℕ) (archive : Archive) → shard < length state.roots → root_of H archive ≡ get_or state.roots shard [] → HasRootOf H catalog shard archive
    has_root shard archive low same = same ∙ root_at shard low

    pub other_root : (shard : ℕ) (archive : Archive) (root : List ℕ) → shard < length state.roots → root ≡ root_of H archive
        → (get_or state.roots shard root ≡ root → ⊥) → HasRootOf H catalog shard archive → ⊥
    other_root shard archive root low is_root not same = not (get_or_default state.roots shard root [] low ∙ root_at shard low ∙ sym same ∙ sym is_root)

    fault_for : (archive : Archive) (proving : ProvingState) → HasRootOf H catalog proving.proved archive → (fault : CatalogProveFault)
        → IsShardFault (IsAskedProof H archive query proving.algorithm r is.ranking proving.proved) proving.proved fault
        → IsProveFault H catalog query is.ranking r archive proving fault
    fault_for archive proving root (OtherIndex other) (same, none) = (same, inr (root, none))
    fault_for archive proving root (ProofTooLong other length) (same, is_long) = (same, root, is_long)
    fault_for archive proving root OutOfMemory is_out = tt

    pub fault_of : (archive : Archive) (proving : ProvingState) → HasRootOf H catalog proving.proved archive → (fault : CatalogProveFault)
        → IsShardFault (IsAskedProof H archive state.query proving.algorithm state.r state.rows proving.proved) proving.proved fault
        → IsProveFault H catalog query is.ranking r archive proving fault
    fault_of archive proving root fault why =
        let By : List (List ℕ × ℕ) → Floors → Type 0 = λ asked floors. IsShardFault (IsHonestWithin H archive asked floors proving.algorithm) proving.proved fault in
        fault_for archive proving root fault
        (subst (By query) (asked_is proving.algorithm proving.proved)
        (subst (λ (asked : List (List ℕ × ℕ)). By asked (asked_of proving.algorithm state.r state.rows proving.proved)) is.asked why))

  pub none_proved : (state : RankingState) (algorithm : Algorithm) (written : Written) → written ≡ writing (2 ^ 28) (front_bytes state.roots)
      → IsRankingOf H catalog query r state → IsProving H catalog query r (record { ranking = state; algorithm = algorithm; written = written; proved = 0 })
  none_proved state algorithm written is ranked = record {
    ranked = ranked;
    proofs = [];
    many = refl;
    each = λ i d low. absurd (omega (arith, low));
    written = is ∙ ap (writing (2 ^ 28)) (ap front_bytes ranked.roots ∙ sym (append-nil (front_bytes (roots_of H catalog))));
  }

  module _ (state : ProvingState) (is : IsProving H catalog query r state) where
    abbrev Asked : ℕ → List ℕ → Type 0
    Asked i bytes = IsProvedBy (IsAskedProof H (archive_at catalog i) query state.algorithm r is.ranked.ranking i) bytes

    -- one proof more
    pub one_proved : (archive : Archive) (bytes : List ℕ) (written : Written) → archive ≡ archive_at catalog state.proved
        → IsProvedBy (IsAskedProof H archive state.ranking.query state.algorithm state.ranking.r state.ranking.rows state.proved) bytes
        → ((before : List ℕ) → state.written ≡ writing (2 ^ 28) before → written ≡ writing (2 ^ 28) (before ++ concat (proof_fields bytes)))
        → IsProving H catalog query r (record { ranking = state.ranking; algorithm = state.algorithm; written = written; proved = state.proved + 1 })
    one_proved archive bytes written own proved put =
        let here : Asked state.proved bytes =
        subst (λ (a : Archive). IsProvedBy (IsAskedProof H a query state.algorithm r is.ranked.ranking state.proved) bytes) own
        (asked_over state.ranking is.ranked archive state.algorithm state.proved bytes proved) in record {
          ranked = is.ranked;
          proofs = is.proofs ++ bytes ∷ [];
          many = omega (arith, is.many, length-append is.proofs (bytes ∷ []));
          each = λ i d low. elim (cases_lt i (length is.proofs)) [
            | inl before ↦ subst (Asked i) (sym (get_or_append_left is.proofs (bytes ∷ []) d i before)) (is.each i d before)
            | inr past ↦
                let last : i ≡ state.proved = omega (arith, low, past, is.many, length-append is.proofs (bytes ∷ [])) in
                let none : i - length is.proofs ≡ 0 = omega (arith, last, is.many) in
                let at : get_or (is.proofs ++ bytes ∷ []) i d ≡ bytes =
                get_or-append_right is.proofs (bytes ∷ []) (length is.proofs) i d refl past ∙ ap (λ (k : ℕ). get_or (bytes ∷ []) k d) none in
                subst (λ (k : ℕ). Asked k (get_or (is.proofs ++ bytes ∷ []) i d)) (sym last) (subst (Asked state.proved) (sym at) here)
          ];
          written = put (bytes_of (roots_of H catalog) is.proofs) is.written ∙ ap (writing (2 ^ 28)) (sym (bytes_more (roots_of H catalog) is.proofs bytes));
        }
