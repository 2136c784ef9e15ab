-- What a shard is asked for follows from the first rows of a ranking, one more than are shown.
use Rattle.std.proofs.Common.{◌≡◌, ◌∙◌, ◌↔◌, ◌+◌, ◌-◌, ◌<◌, ◌≤◌, ◌^◌, ℕ, zero, suc, false, nat_eq, nat_lt, List, [], ◌∷◌, length, map, take, refl, sym, ap, ap₂, subst, inl, inr, arith, get_or-take, length-take}
use Rattle.std.proofs.lemmas.Bool.{cases_Bool, cases_lt}
use Rattle.std.proofs.lemmas.Bool.Decides.{nat_tests}
use Rattle.std.proofs.lemmas.List.{length-map, take-take, take_all}
use Rattle.ats_terms.specs.Query.{IsQuery}
use Rattle.ats_commit.specs.Archive.{Archive}
use Rattle.ats_bound.specs.declared.share.Share.{Share}
use Rattle.ats_bound.specs.declared.span.Span.{Span}
use Rattle.ats_bound.specs.Floors.{Floors, floors_of_share}
use Rattle.ats_proof.specs.declared.record.Algorithm.{Algorithm}
use Rattle.ats_proof.specs.declared.record.Algorithm.TheVariants.{Tra, Tnra}
use Rattle.ats_proof.specs.Value.{Proof}
use Rattle.ats_honest.specs.Honest.{IsHonestShare, IsHonestWithin}
use Rattle.ats_catalog_bytes.specs.Catalog.{IsCatalog, archive_at}
use Rattle.ats_catalog_check.specs.Headline.{score_in, size_in}
use Rattle.ats_catalog_honest.specs.Ranking.{IsRankedBy, Ranked, below, between, edge, ranked_at, shares_of}
use Rattle.ats_catalog_honest.specs.Shares.{floors_of, rows_from, share_of, span_of}
use Rattle.ats_catalog_proof.specs.Proving.{IsAskedProof, asked_of}
use Rattle.ats_catalog_proof.proofs.Sharing.{owners_of}

module _ (by : ℕ → Algorithm) (r : ℕ) where
  -- a ranking that has r rows ends nowhere too early
  edge_full : (all : List Ranked) (j : ℕ) → r ≤ length all → edge by r all (suc j) ≡ below by all j
  edge_full all j full =
      let test : nat_lt (length all) r ≡ false = grind (arith, nat_tests) in
      rw test refl

  edge_first : (all : List Ranked) → 1 ≤ length all → edge by r all 0 ≡ 2 ^ 64 - 1
  edge_first all some =
      let test : nat_eq (length all) 0 ≡ false = grind (arith, nat_tests) in
      rw test refl

  module _ (all : List Ranked) where
    abbrev kept : List Ranked
    kept = take (r + 1) all

    at_kept : (j : ℕ) → j ≤ r → ranked_at kept j ≡ ranked_at all j
    at_kept j low = get_or-take (r + 1) all j (record { shard = 0; doc = 0; score = 0 }) (omega (arith, low))

    below_kept : (j : ℕ) → suc j ≤ r → below by kept j ≡ below by all j
    below_kept j low =
        ap₂ (λ (one next : Ranked). between (by one.shard) one.score next.score) (at_kept j (omega (arith, low))) (at_kept (j + 1) (omega (arith, low)))

    edge_long : (j : ℕ) → j ≤ r → r + 1 ≤ length all → edge by r kept j ≡ edge by r all j
    edge_long zero low long = edge_first kept (omega (arith, length-take (r + 1) all, long)) ∙ sym (edge_first all (omega (arith, long)))
    edge_long (suc j) low long =
        edge_full kept j (omega (arith, length-take (r + 1) all, long)) ∙ below_kept j low ∙ sym (edge_full all j (omega (arith, long)))

    edge_kept : (j : ℕ) → j ≤ r → edge by r kept j ≡ edge by r all j
    edge_kept j low = elim (cases_lt r (length all)) [
      | inl long ↦ edge_long j low (omega (arith, long))
      | inr short ↦ ap (λ (rows : List Ranked). edge by r rows j) (take_all (r + 1) all (omega (arith, short)))
    ]

    owners_kept : owners_of (take r kept) ≡ owners_of (take r all)
    owners_kept = ap owners_of (take-take r (r + 1) all (omega arith))

    few_owners : length (owners_of (take r all)) ≤ r
    few_owners = omega (arith, length-map (take r all) (λ (one : Ranked). one.shard), length-take r all)

    spans_same : (shard j : ℕ) (owners : List ℕ) → j + length owners ≤ r
        → map (span_of (edge by r kept)) (rows_from shard j owners) ≡ map (span_of (edge by r all)) (rows_from shard j owners)
    spans_same shard j [] low = refl
    spans_same shard j (owner ∷ owners) low =
        let here : span_of (edge by r kept) j ≡ span_of (edge by r all) j =
        ap₂ (λ (a b : ℕ). let one : Span = record { lower = a; upper = b } in one) (edge_kept (j + 1) (omega (arith, low))) (edge_kept j (omega (arith, low))) in
        let later = spans_same shard (j + 1) owners (omega (arith, low)) in
        elim (cases_Bool (nat_eq owner shard)) [
          | inl is ↦ rw is (ap₂ (λ (one : Span) (more : List Span). one ∷ more) here later)
          | inr not ↦ rw not later
        ]

    floor_kept : edge by r kept (length (owners_of (take r kept))) ≡ edge by r all (length (owners_of (take r all)))
    floor_kept = ap (λ (owners : List ℕ). edge by r kept (length owners)) owners_kept ∙ edge_kept (length (owners_of (take r all))) few_owners

    floors_kept : (shard : ℕ) → floors_of (shares_of by r kept) shard ≡ floors_of (shares_of by r all) shard
    floors_kept shard =
        ap₂ (λ (spans : List Span) (floor : ℕ). let floors : Floors = record { spans = spans; floor = floor } in floors)
        (ap (λ (owners : List ℕ). map (span_of (edge by r kept)) (rows_from shard 0 owners)) owners_kept ∙ spans_same shard 0 (owners_of (take r all)) (omega (arith, few_owners)))
        floor_kept

    share_kept : (shard : ℕ) → floors_of_share (share_of (shares_of by r kept) shard) ≡ floors_of_share (share_of (shares_of by r all) shard)
    share_kept shard =
        ap₂ (λ (owners : List ℕ) (floor : ℕ). floors_of_share (record { rows = length (rows_from shard 0 owners); floor = floor })) owners_kept floor_kept

pub asked_kept : (algorithm : Algorithm) (r : ℕ) (all : List Ranked) (shard : ℕ) → asked_of algorithm r (take (r + 1) all) shard ≡ asked_of algorithm r all shard
asked_kept Tra r all shard = share_kept (λ _. Tra) r all shard
asked_kept Tnra r all shard = floors_kept (λ _. Tnra) r all shard

-- ---- what holds of what a prover was given holds of what is asked

module _ (P : Algorithm → List (List ℕ × ℕ) → Floors → Type 0) (r : ℕ) (rows : List Ranked) (shard : ℕ) (asked query : List (List ℕ × ℕ)) (same : asked ≡ query) where
  pub by_tra : (algorithm : Algorithm) → algorithm ≡ Tra → (share : Share) → share ≡ share_of (shares_of (λ _. Tra) r rows) shard
      → P Tra asked (floors_of_share share) → P algorithm query (asked_of algorithm r rows shard)
  by_tra algorithm is share is_share holds =
      subst (λ (a : Algorithm). P a query (asked_of a r rows shard)) (sym is)
      (subst (λ (s : Share). P Tra query (floors_of_share s)) is_share (subst (λ (q : List (List ℕ × ℕ)). P Tra q (floors_of_share share)) same holds))

  pub by_tnra : (algorithm : Algorithm) → algorithm ≡ Tnra → (spans : List Span) (floor : ℕ)
      → spans ≡ (floors_of (shares_of (λ _. algorithm) r rows) shard).spans → floor ≡ (floors_of (shares_of (λ _. algorithm) r rows) shard).floor
      → P Tnra asked (record { spans = spans; floor = floor }) → P algorithm query (asked_of algorithm r rows shard)
  by_tnra algorithm is spans floor are_spans is_floor holds =
      let floors : record { spans = spans; floor = floor } ≡ floors_of (shares_of (λ _. Tnra) r rows) shard =
      ap₂ (λ (ss : List Span) (n : ℕ). let one : Floors = record { spans = ss; floor = n } in one) are_spans is_floor
      ∙ ap (λ (a : Algorithm). floors_of (shares_of (λ _. a) r rows) shard) is in
      subst (λ (a : Algorithm). P a query (asked_of a r rows shard)) (sym is)
      (subst (P Tnra query) floors (subst (λ (q : List (List ℕ × ℕ)). P Tnra q (record { spans = spans; floor = floor })) same holds))

-- ---- by either algorithm a shard of a catalog is asked for the proof of its share

-- what a law of ats_catalog_honest says
abbrev pub NeedNoEdges : (List ℕ → List ℕ) → Type 0
NeedNoEdges H = (catalog : List Archive) (query : List (List ℕ × ℕ)) (r : ℕ) (by : ℕ → Algorithm) (ranking : List Ranked) (shard : ℕ) (proof : Proof)
    → IsCatalog catalog → IsQuery query → IsRankedBy (size_in catalog) (score_in catalog query) ranking → shard < length catalog
    → (IsHonestWithin H (archive_at catalog shard) query (floors_of (shares_of by r ranking) shard) Tra proof
    ↔ IsHonestShare H (archive_at catalog shard) query (share_of (shares_of by r ranking) shard) proof)

pub asked_is_share : (H : List ℕ → List ℕ) → NeedNoEdges H → (catalog : List Archive) (query : List (List ℕ × ℕ)) (r : ℕ) (algorithm : Algorithm) (ranking : List Ranked) (shard : ℕ) (proof : Proof)
    → IsCatalog catalog → IsQuery query → IsRankedBy (size_in catalog) (score_in catalog query) ranking → shard < length catalog
    → (IsHonestWithin H (archive_at catalog shard) query (floors_of (shares_of (λ _. algorithm) r ranking) shard) algorithm proof
    ↔ IsAskedProof H (archive_at catalog shard) query algorithm r ranking shard proof)
asked_is_share H edges catalog query r Tra ranking shard proof whole valid ranked low = edges catalog query r (λ _. Tra) ranking shard proof whole valid ranked low
asked_is_share H edges catalog query r Tnra ranking shard proof whole valid ranked low = (λ honest. honest, λ asked. asked)
