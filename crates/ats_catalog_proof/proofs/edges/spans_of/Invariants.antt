use Rattle.std.proofs.Common.{◌≡◌, take}
use Rattle.ats_catalog_honest.specs.Ranking.{edge}
use Rattle.ats_catalog_proof.proofs.Sharing.{spans_from}
use Rattle.ats_catalog_proof.proofs.edges.spans_of.Given as goal

-- those of the rows so far
abbrev pub invariant-loop-place : goal.invariant-loop-place
invariant-loop-place l = l.spans.items ≡ spans_from (edge (λ _. l.algorithm) l.top l.rows) l.shard (take l.place l.rows)
