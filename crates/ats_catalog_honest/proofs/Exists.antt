-- Each query over each catalog has the honest proofs of all shards.
use Rattle.std.proofs.Common.{◌≡◌, ◌<◌, ◌≤◌, ◌^◌, ℕ, zero, suc, List, [], ◌∷◌, length, get_or, ap, sym, refl, subst, inl, inr, arith}
use Rattle.std.proofs.lemmas.Bool.{cases_lt}
use Rattle.std.proofs.lemmas.List.{get_or_past}
use Rattle.ats_terms.specs.Query.{IsQuery}
use Rattle.ats_commit.specs.Archive.{Archive, archive_of}
use Rattle.ats_commit.specs.Own.{AreTexts}
use Rattle.ats_bound.specs.Cut.{threshold}
use Rattle.ats_bound.specs.Floors.{AreWithin, Floors, IsWithinBy}
use Rattle.ats_bound.specs.Schedule.{Bounding, IsCut, WholeLane, shown}
use Rattle.ats_bound.proofs.Public.{brackets_exist, chosen_exists}
use Rattle.ats_proof.specs.declared.record.Algorithm.{Algorithm}
use Rattle.ats_proof.specs.Value.{Proof}
use Rattle.ats_honest.specs.Honest.{IsHonestWithin}
use Rattle.ats_honest.specs.Lanes.{bounding, lanes_of}
use Rattle.ats_honest.proofs.Public.{narrow, within_exists}
use Rattle.ats_catalog_bytes.specs.Catalog.{IsCatalog, archive_at}
use Rattle.ats_catalog_check.specs.Headline.{score_in, size_in}
use Rattle.ats_catalog_honest.specs.Honest.{AreHonestProofs}
use Rattle.ats_catalog_honest.specs.Ranking.{IsRankedBy, IsScored, Ranked, ranked_at, shares_of}
use Rattle.ats_catalog_honest.specs.Shares.{floors_of}
use Rattle.ats_catalog_honest.proofs.Edges.{is_there}
use Rattle.ats_catalog_honest.proofs.Exact.{exact_whole, scores_fit}
use Rattle.ats_catalog_honest.proofs.Rankings.{ranking_exists}
use Rattle.ats_catalog_honest.proofs.Reached.{reached}

-- a list of which each element is made for its place
record AreMade (P : ℕ → Proof → Type 0) (proofs : List Proof) : Type 0 where
  each : (i : ℕ) (d : Proof) → i < length proofs → P i (get_or proofs i d)

made_first : (P : ℕ → Proof → Type 0) (p : Proof) (proofs : List Proof) → P 0 p → AreMade (λ i. P (suc i)) proofs → (i : ℕ) (d : Proof) → i < length (p ∷ proofs) → P i (get_or (p ∷ proofs) i d)
made_first P p proofs here later zero d low = here
made_first P p proofs here later (suc i) d low = later.each i d (omega (arith, low))

all_made : (P : ℕ → Proof → Type 0) (n : ℕ) → ((i : ℕ) → i < n → (p : Proof) × P i p) → (proofs : List Proof) × (length proofs ≡ n) × AreMade P proofs
all_made P zero make = ([], refl, record { each = λ i d low. absurd (omega (arith, low)) })
all_made P (suc n) make =
    let here = make 0 (omega arith) in
    let later = all_made (λ i. P (suc i)) n (λ i low. make (suc i) (omega (arith, low))) in
    (here.0 ∷ later.0, omega (arith, later.1), record { each = made_first P here.0 later.0 here.1 later.2 })

-- the scores of a ranking fit into 64 bits
pub ranking_fits : (catalog : List Archive) (query : List (List ℕ × ℕ)) → IsCatalog catalog → IsQuery query → (all : List Ranked) → IsRankedBy (size_in catalog) (score_in catalog query) all
    → (j : ℕ) → (ranked_at all j).score < 2 ^ 64
ranking_fits catalog query is asked all ranked j = elim (cases_lt j (length all)) [
  | inr past ↦ omega (arith, ap (λ (one : Ranked). one.score) (get_or_past all j (record { shard = 0; doc = 0; score = 0 }) past))
  | inl low ↦
      let one : Ranked = ranked_at all j in
      let scored : IsScored (size_in catalog) (score_in catalog query) one = ranked.each j (record { shard = 0; doc = 0; score = 0 }) low in
      let texts = is.texts one.shard (archive_of []) (is_there catalog one.shard one.doc scored.inside) in
      omega (arith, scored.score, scores_fit (archive_at catalog one.shard).texts query texts.within.few asked one.doc scored.inside)
]

module _ (H : List ℕ → List ℕ) (catalog : List Archive) (query : List (List ℕ × ℕ)) (r : ℕ) (by : ℕ → Algorithm) (is : IsCatalog catalog) (asked : IsQuery query) where
  ranking : (all : List Ranked) × IsRankedBy (size_in catalog) (score_in catalog query) all
  ranking = ranking_exists (size_in catalog) (score_in catalog query) (length catalog) (is_there catalog)

  abbrev all : List Ranked
  all = ranking.0

  fit : (j : ℕ) → (ranked_at all j).score < 2 ^ 64
  fit = ranking_fits catalog query is asked all ranking.1

  texts_at : (shard : ℕ) → shard < length catalog → AreTexts (archive_at catalog shard).texts
  texts_at shard low = is.texts shard (archive_of []) low

  module _ (shard : ℕ) (low : shard < length catalog) where
    abbrev texts : List (List ℕ)
    texts = (archive_at catalog shard).texts

    abbrev lanes : List WholeLane
    lanes = lanes_of texts query

    abbrev bounds : Bounding
    bounds = bounding (by shard) lanes

    abbrev floors : Floors
    floors = floors_of (shares_of by r all) shard

    whole_within : (cut : List ℕ) → IsCut lanes cut → threshold (shown lanes cut) ≡ 0 → IsWithinBy bounds lanes floors cut
    whole_within cut is_cut none =
        let few : length texts ≤ 65536 = (texts_at shard low).within.few in
        let made = brackets_exist bounds (shown lanes cut) (λ doc. (narrow (by shard) lanes (shown lanes cut) doc).of) in
        let chosen = chosen_exists made.0 (length floors.spans) in
        let exact = exact_whole texts query few asked (by shard) cut is_cut none made.0 made.1 in
        let within : AreWithin made.0 chosen.0 0 floors =
        reached (size_in catalog) (score_in catalog query) all ranking.1 shard 0 made.0 exact (length floors.spans) chosen.0 chosen.1 by r fit refl refl in
        record {
          brackets = made.0;
          bounded = made.1;
          answer = chosen.0;
          chosen = chosen.1;
          within = subst (λ (t : ℕ). AreWithin made.0 chosen.0 t floors) (sym none) within;
        }

    one_exists : (proof : Proof) × IsHonestWithin H (archive_at catalog shard) query floors (by shard) proof
    one_exists = within_exists H (archive_at catalog shard) query floors (by shard) (texts_at shard low) asked whole_within

  pub honest_exist : (proofs : List Proof) × AreHonestProofs H catalog query r by proofs
  honest_exist =
      let made = all_made (λ i proof. IsHonestWithin H (archive_at catalog i) query (floors_of (shares_of by r all) i) (by i) proof) (length catalog) one_exists in
      (made.0, record { ranking = all; ranked = ranking.1; honest = record { many = made.1; each = made.2.each } })
