-- The proof of a catalog of one shard is checked as that of its shard.
use Rattle.std.proofs.Common.{◌≡◌, ◌⊎◌, ◌≤◌, ◌+◌, ◌-◌, ◌↔◌, ◌∙◌, ℕ, zero, suc, List, [], ◌∷◌, length, map, refl, sym, ap, subst, inl, inr, arith}
use Rattle.std.proofs.Math.Nat.{eq-or-lt_of_le, le-max_left, max-le}
use Rattle.std.proofs.lemmas.List.{length-map}
use Rattle.ats_impact.specs.declared.rank.Row.{Row}
use Rattle.ats_proof.specs.Value.{Proof, IsProof}
use Rattle.ats_proof.proofs.Public.{one_value}
use Rattle.ats_client.specs.Accepts.{AcceptsShown}
use Rattle.ats_client.specs.Bounded.{rest_of, AreSettledRows}
use Rattle.ats_client.specs.Bounded as client
use Rattle.ats_client.specs.Bracketing.{bounds_of}
use Rattle.ats_client.specs.Bytes.{IsAcceptedBytes}
use Rattle.ats_client.specs.Groups.{AreRowsRight, IsAnswerSettled}
use Rattle.ats_client.specs.Presented.{lanes_of}
use Rattle.ats_client.specs.Rows.{rows_of}
use Rattle.ats_client.proofs.Public.{accepts_each}
use Rattle.ats_catalog_bytes.specs.Catalog.{root_over}
use Rattle.ats_catalog_bytes.specs.Value.{Framed}
use Rattle.ats_catalog_check.specs.declared.row.CatalogRow.{CatalogRow}
use Rattle.ats_catalog_check.specs.Accepts.{AreProofs, AreRowsOf, AcceptsCatalog, shown_of}
use Rattle.ats_catalog_check.specs.Merge.{Shown, in_shard, row_at, last_of, merged, floor, IsSettled}
use Rattle.ats_catalog_check.proofs.RestsAreTop.{floor_full, floor_short}
use Rattle.ats_catalog_check.proofs.Soundness.{one_proofs}

-- ---- when its rows and its rest settle

row_in_shard : (rows : List Row) (k : ℕ) → row_at (map (in_shard 0) rows) k ≡ in_shard 0 (client.row_at rows k)
row_in_shard [] k = refl
row_in_shard (row ∷ rows) zero = refl
row_in_shard (row ∷ rows) (suc k) = row_in_shard rows k

module _ (r : ℕ) (rows : List Row) (rest : ℕ) where
  abbrev shard : List Shown
  shard = record { rows = rows; rest = rest } ∷ []

  abbrev merged_rows : List CatalogRow
  merged_rows = map (in_shard 0) rows

  long : length merged_rows ≡ length rows
  long = length-map rows (in_shard 0)

  lower : (k : ℕ) → (row_at merged_rows k).lower ≡ (client.row_at rows k).lower
  lower k = ap (λ (row : CatalogRow). row.lower) (row_in_shard rows k)

  upper : (k : ℕ) → (row_at merged_rows k).upper ≡ (client.row_at rows k).upper
  upper k = ap (λ (row : CatalogRow). row.upper) (row_in_shard rows k)

  last : (last_of merged_rows).lower ≡ (client.row_at rows (length rows - 1)).lower
  last = subst (λ (n : ℕ). (row_at merged_rows (n - 1)).lower ≡ (client.row_at rows (length rows - 1)).lower) (sym long) (lower (length rows - 1))

  pub settled_rows : IsSettled r shard → AreSettledRows r rows rest
  settled_rows settled = record {
    most = omega (arith, settled.falling.most, long);
    falling = λ k low. omega (arith, settled.falling.fall k (omega (arith, low, long)), upper (k + 1), lower k);
    full = λ all. omega (arith, settled.rests, le-max_left rest 0, floor_full r merged_rows (omega (arith, all, long)), last);
    fewer = λ less. omega (arith, settled.rests, le-max_left rest 0, floor_short r merged_rows (inl (omega (arith, less, long))));
  }

  within_floor : AreSettledRows r rows rest → rest ≤ floor r merged_rows
  within_floor settled = elim (eq-or-lt_of_le settled.most) [
    | inl full ↦ omega (arith, settled.full full, floor_full r merged_rows (omega (arith, full, long)), last)
    | inr less ↦ omega (arith, settled.fewer less)
  ]

  pub settled_one : AreSettledRows r rows rest → IsSettled r shard
  settled_one settled = record {
    falling = record {
      most = omega (arith, settled.most, long);
      fall = λ k low. omega (arith, settled.falling k (omega (arith, low, long)), upper (k + 1), lower k);
    };
    rests = max-le (within_floor settled) (omega arith);
  }

-- ---- when it is accepted

module _ (H : List ℕ → List ℕ) (root : List ℕ) (query : List (List ℕ × ℕ)) (r : ℕ) (one : Framed) (proof : Proof) where
  module _ (says : IsProof one.bytes proof) where
    only : (proofs : List Proof) → AreProofs (one ∷ []) proofs → proofs ≡ proof ∷ []
    only proofs say = one_proofs (one ∷ []) proofs (proof ∷ []) say (says, tt)

    pub shard_of_catalog : AcceptsCatalog H root query r (one ∷ []) → AcceptsShown H one.root query proof × AreSettledRows r (rows_of query proof) (rest_of query proof)
    shard_of_catalog accepts =
        let right = accepts.holds.1.0 in
        let settled = accepts.holds.1.1.0 in (
          subst (AcceptsShown H one.root query) (one_value one.bytes right.proof proof right.says says) right.accepts,
          settled_rows r (rows_of query proof) (rest_of query proof)
              (subst (λ (ps : List Proof). IsSettled r (map (shown_of query) ps)) (only settled.proofs settled.say) settled.settled),
        )

    pub catalog_of_shard : root_over H (one.root ∷ []) ≡ root → AcceptsShown H one.root query proof → AreSettledRows r (rows_of query proof) (rest_of query proof)
        → AcceptsCatalog H root query r (one ∷ [])
    catalog_of_shard same shown settled = record {
      holds = (
        same,
        (
          record { proof = proof; says = says; accepts = shown },
          (record { proofs = proof ∷ []; say = (says, tt); settled = settled_one r (rows_of query proof) (rest_of query proof) settled }, tt),
        ),
      );
    }

    pub rows_of_shard : (rows : List CatalogRow) → AreRowsOf query (one ∷ []) rows ↔ (rows ≡ map (in_shard 0) (rows_of query proof))
    rows_of_shard rows = (
      λ found. found.are ∙ ap (λ (ps : List Proof). merged (map (shown_of query) ps)) (only found.proofs found.say),
      λ is. record { proofs = proof ∷ []; say = (says, tt); are = is },
    )

  -- r rows, or one for each met document
  abbrev HasRows : Type 0
  HasRows = (length proof.answer ≡ r) ⊎ (length proof.met ≤ length proof.answer)

  pub as_checked : (AreRowsRight proof.met proof.answer → (IsAnswerSettled (bounds_of proof) (lanes_of query proof) proof.met proof.answer r
      ↔ (AreSettledRows r (rows_of query proof) (rest_of query proof) × HasRows)))
      → (AcceptsCatalog H root query r (one ∷ []) × IsProof one.bytes proof × HasRows)
      ↔ ((root_over H (one.root ∷ []) ≡ root) × IsAcceptedBytes H one.root query r one.bytes proof)
  as_checked settles = (
    λ is.
        let shown = shard_of_catalog is.1 is.0 in
        let hold = shown.0.holds in (
          is.0.holds.0,
          record {
            says = is.1;
            accepts = accepts_each H one.root query r proof hold.0 hold.1.0 hold.1.1.0 hold.1.1.1.0 hold.1.1.1.1.0 hold.1.1.1.1.1.0 hold.1.1.1.1.1.1.0 hold.1.1.1.1.1.1.1.0
                ((settles hold.1.1.1.1.1.1.1.0).1 (shown.1, is.2));
          },
        ),
    λ is.
        let hold = is.1.accepts.holds in
        let settled = (settles hold.1.1.1.1.1.1.1.0).0 hold.1.1.1.1.1.1.1.1.0 in (
          catalog_of_shard is.1.says is.0
              (record {
                holds = (hold.0, (hold.1.0, (hold.1.1.0, (hold.1.1.1.0, (hold.1.1.1.1.0, (hold.1.1.1.1.1.0, (hold.1.1.1.1.1.1.0, (hold.1.1.1.1.1.1.1.0, tt))))))));
              })
              settled.0,
          is.1.says,
          settled.1,
        ),
  )
