use Rattle.std.proofs.Common.{◌∙◌, ◌^◌, ℕ, List, Option, Result, IfErr, IfOk, MatchOption}
use Rattle.ats_commit.specs.Archive.{Archive}
use Rattle.ats_bound.specs.Floors.{Floors}
use Rattle.ats_proof.specs.Value.{Proof}
use Rattle.ats_proof.specs.declared.record.Algorithm.{Algorithm}
use Rattle.ats_honest.specs.Honest.{IsHonestWithin, IsProvedBy}
use Rattle.ats_prover.specs.Fault.{IsFaultBy}
use Rattle.ats_prover.specs.declared.fault.ProveFault.{ProveFault}
use Rattle.ats_catalog_proof.proofs.Asked.{by_tnra, by_tra}
use Rattle.ats_catalog_proof.proofs.proving.prove_asked.Goals as goal

module _ (H : List ℕ → List ℕ) (archive : Archive) (result : Result (Option (List ℕ)) ProveFault) where
  abbrev Found : Algorithm → List (List ℕ × ℕ) → Floors → Type 0
  Found algorithm query floors =
      IfOk result (λ found. MatchOption found ((proof : Proof) → ¬ IsHonestWithin H archive query floors algorithm proof)
      (IsProvedBy (IsHonestWithin H archive query floors algorithm)))

  abbrev Failed : Algorithm → List (List ℕ × ℕ) → Floors → Type 0
  Failed algorithm query floors = IfErr result (IsFaultBy (IsHonestWithin H archive query floors algorithm) (2 ^ 26))

pub returns-in-Tra-clause-ok : goal.returns-in-Tra-clause-ok
returns-in-Tra-clause-ok g c =
    let kept = c.args.ranking.now in
    by_tra (Found g.H.HashKind.hash c.args.index.now c.prove_share_within.result) kept.r kept.rows c.args.shard c.query.result.now kept.query c.query.ensures
    c.args.algorithm c.in-Tra.is c.share-share.result c.share-share.ensures.value c.prove_share_within.ensures.ok

pub returns-in-Tra-clause-err : goal.returns-in-Tra-clause-err
returns-in-Tra-clause-err g c =
    let kept = c.args.ranking.now in
    by_tra (Failed g.H.HashKind.hash c.args.index.now c.prove_share_within.result) kept.r kept.rows c.args.shard c.query.result.now kept.query c.query.ensures
    c.args.algorithm c.in-Tra.is c.share-share.result c.share-share.ensures.value c.prove_share_within.ensures.err

pub returns-in-Ok-clause-ok : goal.returns-in-Ok-clause-ok
returns-in-Ok-clause-ok g c =
    let kept = c.args.ranking.now in
    by_tnra (Found g.H.HashKind.hash c.args.index.now c.prove_spans_within.result) kept.r kept.rows c.args.shard c.query-in-Tnra.result.now kept.query c.query-in-Tnra.ensures
    c.args.algorithm c.in-Tnra.is c.deref.result.now c.floor-floor.result (c.deref.ensures.value ∙ c.in-Ok.ensures.value) (c.floor-floor.ensures c.args.shard)
    c.prove_spans_within.ensures.ok

pub returns-in-Ok-clause-err : goal.returns-in-Ok-clause-err
returns-in-Ok-clause-err g c =
    let kept = c.args.ranking.now in
    by_tnra (Failed g.H.HashKind.hash c.args.index.now c.prove_spans_within.result) kept.r kept.rows c.args.shard c.query-in-Tnra.result.now kept.query c.query-in-Tnra.ensures
    c.args.algorithm c.in-Tnra.is c.deref.result.now c.floor-floor.result (c.deref.ensures.value ∙ c.in-Ok.ensures.value) (c.floor-floor.ensures c.args.shard)
    c.prove_spans_within.ensures.err
