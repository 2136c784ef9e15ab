-- The second pass over the indexes of a catalog: a prover that takes one after another.
use Rattle.std.proofs.Common.{◌≡◌, ◌∙◌, ◌++◌, ◌∷◌, ◌<◌, ◌≤◌, ◌+◌, ◌^◌, ℕ, List, [], length, get_or, refl, sym, ap, subst, arith}
use Rattle.std.proofs.lemmas.List.{length-append}
use Rattle.ats_base.specs.Outside.{ShelfTold}
use Rattle.ats_commit.specs.Archive.{Archive}
use Rattle.ats_proof.specs.Written.{writing}
use Rattle.ats_proof.specs.declared.record.Algorithm.{Algorithm}
use Rattle.ats_honest.specs.Honest.{IsProvedBy}
use Rattle.ats_catalog_bytes.specs.Catalog.{archive_at, roots_of}
use Rattle.ats_catalog_honest.specs.Ranking.{Ranked}
use Rattle.ats_catalog_proof.specs.Proving.{HasBegun, HasProved, IsAskedProof, IsProving}
use Rattle.ats_catalog_proof.specs.ProvingState.{ProvingState}
use Rattle.ats_catalog_proof.specs.Ranking.{IsRankingOf}
use Rattle.ats_catalog_proof.specs.RankingState.{RankingState}
use Rattle.ats_catalog_proof.specs.Written.{bytes_of}
use Rattle.ats_plan.specs.Runs.{IsDone, IsStopped}
use Rattle.ats_console.specs.Steps.{no_more, comes_to}
use Rattle.ats_console.specs.declared.stops.Stop.{Stop}
use Rattle.ats_console.specs.declared.stops.Stop.TheVariants.{Shelf, Memory}
use Rattle.ats_makers.specs.Commands.{asked_by, proves_shard, proves_shards}
use Rattle.ats_makers.specs.Inner.Catalogs.{HasWritten}
use Rattle.ats_makers.proofs.ShardSteps.{ArePast, AreProofsOver, none_past, past_more, stops_past, all_past}

-- what is said over the state of a prover holds over the ranking and the algorithm that it began with
moved : (H : List ℕ → List ℕ) (catalog : List Archive) (query : List (List ℕ × ℕ)) (r : ℕ) (ranking : RankingState) (algorithm : Algorithm) (proofs : List (List ℕ)) (state : ProvingState)
    → HasWritten ranking algorithm proofs state → (P : Algorithm → List Ranked → ℕ → Type 0)
    → ((is : IsRankingOf H catalog query r state.ranking) → P state.algorithm is.ranking state.proved)
    → (is : IsRankingOf H catalog query r ranking) → P algorithm is.ranking (length proofs)
moved H catalog query r ranking algorithm proofs state written P says is =
    let kept : (is : IsRankingOf H catalog query r ranking) → P state.algorithm is.ranking state.proved =
    subst (λ (s : RankingState). (own : IsRankingOf H catalog query r s) → P state.algorithm own.ranking state.proved) written.kept says in
    subst (P algorithm is.ranking) written.many (subst (λ (a : Algorithm). P a is.ranking state.proved) written.by (kept is))

module _ (H : List ℕ → List ℕ) (ranking : RankingState) (algorithm : Algorithm) (names : List (List ℕ)) where
  -- the shards of the first names have their proofs
  pub record AreProvedSo (before now : ShelfTold) (state : ProvingState) (i : ℕ) : Type 0 where
    pub proofs : List (List ℕ)
    pub written : HasWritten ranking algorithm proofs state
    pub many : length proofs ≡ i
    pub past : (catalog : List Archive) (query : List (List ℕ × ℕ)) (r : ℕ) → (is : IsRankingOf H catalog query r ranking)
        → ArePast H catalog (asked_by H query algorithm r is.ranking) before now names i proofs

  pub none_proved : (before : ShelfTold) (state : ProvingState) → HasBegun H ranking algorithm state → AreProvedSo before before state 0
  none_proved before state begun = record {
    proofs = [];
    written = record { kept = begun.kept; by = begun.by; many = begun.none; written = begun.written };
    many = refl;
    past = λ catalog query r is. none_past H catalog (asked_by H query algorithm r is.ranking) before names;
  }

  module _ (before mid : ShelfTold) (state : ProvingState) (i : ℕ) (name : List ℕ) (less : i < length names) (named : name ≡ get_or names i name)
      (are : AreProvedSo before mid state i) where
    -- the next is proved, too
    pub more_proved : (next : ShelfTold) (new : ProvingState) (archive : Archive) (proved : HasProved H archive state new)
        → ((catalog : List Archive) (query : List (List ℕ × ℕ)) (r : ℕ) → (is : IsRankingOf H catalog query r state.ranking)
        → IsDone (proves_shard H catalog (asked_by H query state.algorithm r is.ranking) state.proved name (comes_to proved.proof)) mid next [])
        → AreProvedSo before next new (i + 1)
    more_proved next new archive proved done =
        let roots : state.ranking.roots ≡ ranking.roots = ap (λ (s : RankingState). s.roots) are.written.kept in
        let more : List (List ℕ) = are.proofs ++ proved.proof ∷ [] in
        record {
          proofs = more;
          written = record {
            kept = proved.kept ∙ are.written.kept;
            by = proved.by ∙ are.written.by;
            many = omega (arith, proved.one, are.written.many, length-append are.proofs (proved.proof ∷ []));
            written = proved.written are.proofs (are.written.written ∙ ap (λ (rs : List (List ℕ)). writing (2 ^ 28) (bytes_of rs are.proofs)) (sym roots))
                ∙ ap (λ (rs : List (List ℕ)). writing (2 ^ 28) (bytes_of rs more)) roots;
          };
          many = omega (arith, are.many, length-append are.proofs (proved.proof ∷ []));
          past = λ catalog query r is.
              past_more H catalog (asked_by H query algorithm r is.ranking) before mid names i name less named are.proofs (are.past catalog query r is) next proved.proof
              (moved H catalog query r ranking algorithm are.proofs state are.written
              (λ by all shard. IsDone (proves_shard H catalog (asked_by H query by r all) shard name (comes_to proved.proof)) mid next []) (done catalog query r) is);
        }

    -- it is not
    pub not_proved : (next : ShelfTold) (stop : Stop) (catalog : List Archive) (query : List (List ℕ × ℕ)) (r : ℕ)
        → ((is : IsRankingOf H catalog query r state.ranking)
        → IsStopped Shelf Memory (proves_shard H catalog (asked_by H query state.algorithm r is.ranking) state.proved name (λ proof. no_more)) mid next stop)
        → (is : IsRankingOf H catalog query r ranking)
        → IsStopped Shelf Memory (proves_shards H catalog (asked_by H query algorithm r is.ranking) [] names (λ proofs. no_more)) before next stop
    not_proved next stop catalog query r stops is =
        stops_past H catalog (asked_by H query algorithm r is.ranking) before mid names i name less named are.proofs (are.past catalog query r is) next stop
        (moved H catalog query r ranking algorithm are.proofs state are.written
        (λ by all shard. IsStopped Shelf Memory (proves_shard H catalog (asked_by H query by r all) shard name (λ proof. no_more)) mid next stop) stops is)

  -- all are
  pub all_proved : (before now : ShelfTold) (state : ProvingState) (i : ℕ) → length names ≤ i → (are : AreProvedSo before now state i)
      → (proofs : List (List ℕ)) × HasWritten ranking algorithm proofs state
      × ((catalog : List Archive) (query : List (List ℕ × ℕ)) (r : ℕ) → (is : IsRankingOf H catalog query r ranking)
      → IsDone (proves_shards H catalog (asked_by H query algorithm r is.ranking) [] names (comes_to proofs)) before now [])
  all_proved before now state i beyond are = (
    are.proofs,
    are.written,
    λ catalog query r is. all_past H catalog (asked_by H query algorithm r is.ranking) before now names i beyond are.proofs (are.past catalog query r is),
  )

-- ---- the file

module _ (H : List ℕ → List ℕ) (catalog : List Archive) (query : List (List ℕ × ℕ)) (r : ℕ) (ranking : RankingState) (algorithm : Algorithm) (proofs : List (List ℕ)) (state : ProvingState)
    (is : IsRankingOf H catalog query r ranking) (written : HasWritten ranking algorithm proofs state) where
  -- the bytes that are written
  pub bytes_written : state.written ≡ writing (2 ^ 28) (bytes_of (roots_of H catalog) proofs)
  bytes_written = written.written ∙ ap (λ (rs : List (List ℕ)). writing (2 ^ 28) (bytes_of rs proofs)) is.roots

  -- the ranking that the prover keeps
  still_ranked : IsRankingOf H catalog query r state.ranking
  still_ranked = record {
    asked = ap (λ (s : RankingState). s.query) written.kept ∙ is.asked;
    valid = is.valid;
    most = ap (λ (s : RankingState). s.r) written.kept ∙ is.most;
    texts = is.texts;
    roots = ap (λ (s : RankingState). s.roots) written.kept ∙ is.roots;
    ranking = is.ranking;
    ranked = is.ranked;
    rows = ap (λ (s : RankingState). s.rows) written.kept ∙ is.rows;
  }

  -- if the archives that were read again are the first ones, each proof is that of its shard
  pub is_proving : (again : List Archive) → AreProofsOver H catalog (asked_by H query algorithm r is.ranking) 0 again proofs → again ≡ catalog → IsProving H catalog query r state
  unfolding still_ranked
  is_proving again over same = record {
    ranked = still_ranked;
    proofs = proofs;
    many = sym written.many;
    each = λ i d low.
        subst (λ (a : Algorithm). IsProvedBy (IsAskedProof H (archive_at catalog i) query a r is.ranking i) (get_or proofs i d)) (sym written.by)
        (subst (λ (all : List Archive). IsProvedBy (IsAskedProof H (archive_at all i) query algorithm r is.ranking i) (get_or proofs i d)) same
        (subst (λ (n : ℕ). IsProvedBy (IsAskedProof H (archive_at again i) query algorithm r is.ranking n) (get_or proofs i d)) (omega arith) (over.each i d low)));
    written = bytes_written;
  }
