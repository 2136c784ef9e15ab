-- The plain ranking of all documents of a catalog, and the shares that follow from it.
use Rattle.std.specs.Prelude.{◌≡◌, ◌<◌, ◌+◌, ◌-◌, ◌/◌, ◌^◌, ◌&&◌, ◌==◌, ℕ, zero, suc, List, length, map, take, nat_lt, leb, slice_index_or, if◌then◌else◌}
use Rattle.std.specs.List.{All, Contains}
use Rattle.std.specs.List.Sorted.{IsStrictlySortedBy}
use Rattle.std.specs.Ordering.{nat_cmp, ordering_then}
use Rattle.std.specs.declared.cmp.Ordering.{Ordering}
use Rattle.ats_proof.specs.declared.record.Algorithm.{Algorithm}
use Rattle.ats_proof.specs.declared.record.Algorithm.TheVariants.{Tra, Tnra}
use Rattle.ats_catalog_honest.specs.Shares.{Shares}

-- a document of a shard with its score
pub record Ranked : Type 0 where
  pub shard : ℕ
  pub doc : ℕ
  pub score : ℕ

-- by score descending, then shard, then document
abbrev pub ranked_cmp : Ranked → Ranked → Ordering
ranked_cmp a b = ordering_then (ordering_then (nat_cmp b.score a.score) (nat_cmp a.shard b.shard)) (nat_cmp a.doc b.doc)

-- a document with its score, which is above 0
pub record IsScored (size : ℕ → ℕ) (score_of : ℕ → ℕ → ℕ) (one : Ranked) : Type 0 where
  pub inside : one.doc < size one.shard
  pub some : 0 < one.score
  pub score : one.score ≡ score_of one.shard one.doc

-- all documents of all shards that score above 0, in that order
pub record IsRankedBy (size : ℕ → ℕ) (score_of : ℕ → ℕ → ℕ) (all : List Ranked) : Type 0 where
  pub ordered : IsStrictlySortedBy ranked_cmp all
  pub each : All (IsScored size score_of) all
  pub whole : (one : Ranked) → IsScored size score_of one → Contains all one

-- the row at a place; past the last it scores 0
abbrev pub ranked_at : List Ranked → ℕ → Ranked
ranked_at all j = slice_index_or all j (record { shard = 0; doc = 0; score = 0 })

-- the edge between a row's score and the next one's: by TRA, which shows scores, the first, and by TNRA the middle of both
abbrev pub between : Algorithm → ℕ → ℕ → ℕ
between Tra score next = score
between Tnra score next = (score + next) / 2

-- the edge below row j, by the algorithm of its shard
abbrev pub below : (ℕ → Algorithm) → List Ranked → ℕ → ℕ
below by all j = between (by (ranked_at all j).shard) (ranked_at all j).score (ranked_at all (j + 1)).score

-- The edge above the first row, and those below each of the first r rows. If there are fewer than r, there is nothing below
-- the last.
abbrev pub edge : (ℕ → Algorithm) → ℕ → List Ranked → ℕ → ℕ
edge by r all zero = if length all == 0 then 0 else 2 ^ 64 - 1
edge by r all (suc j) = if nat_lt (length all) r && leb (length all) (suc j) then 0 else below by all j

-- the first r rows
abbrev pub shares_of : (ℕ → Algorithm) → ℕ → List Ranked → Shares
shares_of by r all = record {
  owners = map (λ (one : Ranked). one.shard) (take r all);
  edges = edge by r all;
}
